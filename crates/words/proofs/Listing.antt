-- A list read one element after the other, against the form of a whole piece: each of its own pieces is of the elements' form.
use Rattle.std.specs.Prelude.{Option, None, Some}
use mathlib.Core.Bool.{true, false}
use mathlib.Core.List.{List, [], ◌∷◌, ◌++◌}
use mathlib.Core.Path.{◌≡◌, refl, sym, ap, ap₂, ◌∙◌}
use Prim.Native.Nat.{ℕ, zero, suc, ◌+◌, ◌-◌, ◌<◌, ◌≤◌}
use native.Mathlib.Omega.{arith}
use borrow.Author.Tests.{eq-eqb}
use lib.Dec.{eqb}
use lib.ListN.{length, get_or, drop, length-append, length-drop, get_or-append}
use lib.Seq.{get_or-drop, drop-drop}
use Rattle.zone.proofs.Good.{by_order}
use Rattle.sheet.specs.Words.{pieces, cons_of, each_of}
use Rattle.words.specs.Answers.{made_read}
use Rattle.words.specs.Lists.{before, list_at}
use Rattle.words.proofs.Pieces.{After, ended, more, cut_here, Whole, Cut, cut_of}
use Rattle.words.proofs.Tied.{whole_none, whole_all, whole_part, made, Tied, tied_made, tied_by, tied_none}

-- ---- a line that from a place on is a piece and more
pub first_byte : (s : List ℕ) (at : ℕ) (p : List ℕ) → drop at s ≡ p → get_or s at 0 ≡ get_or p 0 0
first_byte s at p here =
    let e : at + 0 ≡ at = omega arith in
    ap (λ (n : ℕ). get_or s n 0) (sym e) ∙ sym (get_or-drop at s 0 0) ∙ ap (λ (l : List ℕ). get_or l 0 0) here

module _ (s : List ℕ) (at : ℕ) (piece : List ℕ) where
  -- the bytes of the piece
  pub piece_byte : (tail : List ℕ) (e : ℕ) → drop at s ≡ piece ++ tail → at ≤ e → e < at + length piece → (P : ℕ → Type 0)
      → ((k : ℕ) → k < length piece → P (get_or piece k 0)) → P (get_or s e 0)
  piece_byte tail e t a b P all =
      let k : ℕ = e - at in
      let f : at + k ≡ e = omega arith in
      let g : get_or piece k 0 ≡ get_or s e 0 =
      sym (get_or-append piece tail 0 k (omega (arith, f)))
      ∙ ap (λ (x : List ℕ). get_or x k 0) (sym t)
      ∙ get_or-drop at s k 0
      ∙ ap (λ (n : ℕ). get_or s n 0) f in
      rw g at (all k (omega (arith, f)))

  module _ (tail : List ℕ) (e : ℕ) (t : drop at s ≡ piece ++ tail) (f : e ≡ at + length piece) where
    -- the byte after the piece
    pub after_byte : get_or s e 0 ≡ get_or tail 0 0
    after_byte =
        let z : length piece + 0 ≡ length piece = omega arith in
        ap (λ (n : ℕ). get_or s n 0) f
        ∙ sym (get_or-drop at s (length piece) 0)
        ∙ ap (λ (x : List ℕ). get_or x (length piece) 0) t
        ∙ first piece tail
      where
        first : (p t : List ℕ) → get_or (p ++ t) (length p) 0 ≡ get_or t 0 0
        first [] t = refl
        first (x ∷ p) t = first p t

    -- what stands after the byte after it
    pub after_rest : drop (e + 1) s ≡ drop 1 tail
    after_rest =
        let g : at + suc (length piece) ≡ e + 1 = omega arith in
        sym (drop-drop (suc (length piece)) at s ∙ ap (λ (n : ℕ). drop n s) g) ∙ ap (drop (suc (length piece))) t ∙ past piece
      where
        past : (p : List ℕ) → drop (suc (length p)) (p ++ tail) ≡ drop 1 tail
        past [] = refl
        past (x ∷ p) = past p

-- ---- the elements' form, one after the other
module _ {A : Type 0} (form : List ℕ → Option A) where
  pub each_cons : (p : List ℕ) (ps : List (List ℕ)) (o : Option A) (r : Option (List A)) → form p ≡ o → each_of form ps ≡ r
      → each_of form (p ∷ ps) ≡ cons_of o r
  unfolding each_of
  each_cons p ps o r e f = ap₂ cons_of e f

  pub each_none : each_of form [] ≡ Some []
  unfolding each_of
  each_none = refl

-- an element before a list that is tied
cons_tied : {A : Type 0} (x : A) (o : Option (List A)) (r : Option (List A × ℕ)) (at from end : ℕ) → at ≤ from → Tied o r from end
    → Tied (cons_of (Some x) o) (before x r) at end
unfolding cons_of
cons_tied {A} x o r at from end h t = by_cases o r (tied_made (λ (xs : List A). x ∷ xs) o r at from end h t)
  where
    by_cases : (o : Option (List A)) (r : Option (List A × ℕ))
        → Tied (made (λ (xs : List A). x ∷ xs) o) (made_read (λ (xs : List A). x ∷ xs) r) at end
        → Tied (cons_of (Some x) o) (before x r) at end
    by_cases None None t = t
    by_cases None (Some r) t = t
    by_cases (Some xs) None t = t
    by_cases (Some xs) (Some r) t = t

-- ---- the list reader
module _ {A : Type 0} (read : ℕ → Option (A × ℕ)) (separator : ℕ) (s : List ℕ) where
  list_none : (left at : ℕ) → read at ≡ None → list_at read separator s (suc left) at ≡ None
  unfolding list_at
  list_none left at e = rw (list_at, e) refl

  list_last_lem : (left at : ℕ) (r : A × ℕ) → read at ≡ Some r → eqb (get_or s r.1 0) separator ≡ false
      → list_at read separator s (suc left) at ≡ Some (r.0 ∷ [], r.1)
  unfolding list_at
  list_last_lem left at r e f = rw (list_at, e, f) refl

  list_more : (left at : ℕ) (r : A × ℕ) → read at ≡ Some r → get_or s r.1 0 ≡ separator
      → list_at read separator s (suc left) at ≡ before r.0 (list_at read separator s left (r.1 + 1))
  unfolding list_at
  list_more left at r e f = rw (list_at, e, eq-eqb _ _ f) refl

  -- a single element that was read, tied to a form
  single : (o : Option (List A)) (r : A × ℕ) (at end : ℕ) → at ≤ r.1 → r.1 ≤ end → (r.1 ≡ end → o ≡ Some (r.0 ∷ []))
      → ((r.1 ≡ end → ⊥) → o ≡ None) → Tied o (Some (r.0 ∷ [], r.1)) at end
  single o r at end a b all part =
      tied_by o (r.0 ∷ []) r.1 at end a true (λ e. b) (λ e. all) (λ e. part) (λ e. let z : ◌≡◌ {A = ℕ} 0 1 = cc in absurd (omega arith))

  -- `Stop`: what may stand after an element; no list stops before its separator
  module _ (form : List ℕ → Option A) (Stop : List ℕ → Type 0) (stop : (rest : List ℕ) → Stop (separator ∷ rest))
      (tie : (at : ℕ) (p tail : List ℕ) → drop at s ≡ p ++ tail → Stop tail
      → Tied (form p) (read at) at (at + length p)) (tail : List ℕ) (stops : Stop tail)
      (other : eqb (get_or tail 0 0) separator ≡ false) where
    -- the form of the whole list where its first element is not read whole
    not_whole : (at : ℕ) (q : List ℕ) (others : List (List ℕ)) (r : A × ℕ) → Tied (form q) (Some r) at (at + length q)
        → (r.1 ≡ at + length q → ⊥) → each_of form (q ∷ others) ≡ None
    unfolding cons_of
    not_whole at q others r t n = each_cons form q others None _ (t.whole ∙ whole_part r _ n) refl

    -- an element that ends inside its piece: no separator stands there
    inside : (left at : ℕ) (q rest : List ℕ) (others : List (List ℕ)) (end : ℕ) (r : A × ℕ) → drop at s ≡ q ++ rest → Whole separator q
        → read at ≡ Some r → Tied (form q) (Some r) at (at + length q) → r.1 < at + length q → at + length q ≤ end
        → Tied (each_of form (q ∷ others)) (list_at read separator s (suc left) at) at end
    inside left at q rest others end r here whole e t l g =
        let i = t.inside r refl in
        rw (list_last_lem left at r e (piece_byte s at q rest r.1 here i.0 l (λ (x : ℕ). eqb x separator ≡ false) whole))
        (single _ r at end i.0 (omega arith) (λ (q : r.1 ≡ end). absurd (omega arith)) (λ n. not_whole at q others r t (λ (m : r.1 ≡ at + length q). omega arith)))

    no_first : (left at : ℕ) (q : List ℕ) (others : List (List ℕ)) (end : ℕ) → read at ≡ None → Tied (form q) None at (at + length q)
        → Tied (each_of form (q ∷ others)) (list_at read separator s (suc left) at) at end
    unfolding cons_of
    no_first left at q others end e t =
        rw (list_none left at e, each_cons form q others None _ (t.whole ∙ whole_none _) refl) (tied_none _ _)

    -- the last element
    last_tied : (left at : ℕ) (q : List ℕ) → drop at s ≡ q ++ tail → Whole separator q
        → (o : Option (A × ℕ)) → read at ≡ o → Tied (form q) o at (at + length q) → Tied (each_of form (q ∷ [])) (list_at read separator s (suc left) at) at (at + length q)
    unfolding cons_of
    last_tied left at q here whole None e t = no_first left at q [] _ e t
    last_tied left at q here whole (Some r) e t =
        by_order r.1 (at + length q) (λ l. inside left at q tail [] _ r here whole e t l (omega arith))
        (λ g.
        let i = t.inside r refl in
        let m : r.1 ≡ at + length q = omega (arith, i) in
        rw (list_last_lem left at r e (ap (λ (x : ℕ). eqb x separator) (after_byte s at q tail r.1 here m) ∙ other))
        (single _ r at _ i.0 i.1 (λ n. each_cons form q [] (Some r.0) (Some []) (t.whole ∙ whole_all r _ m) (each_none form)) (λ n. absurd (n m))))

    -- an element before a separator and a list that is tied
    next_tied : (left at : ℕ) (q rest : List ℕ) → drop at s ≡ q ++ (separator ∷ (rest ++ tail)) → Whole separator q
        → ((from : ℕ) → drop from s ≡ rest ++ tail → Tied (each_of form (pieces separator rest)) (list_at read separator s left from) from (from + length rest))
        → (o : Option (A × ℕ)) → read at ≡ o → Tied (form q) o at (at + length q)
        → Tied (each_of form (q ∷ pieces separator rest)) (list_at read separator s (suc left) at) at (at + length q + 1 + length rest)
    next_tied left at q rest here whole again None e t = no_first left at q (pieces separator rest) _ e t
    next_tied left at q rest here whole again (Some r) e t =
        by_order r.1 (at + length q)
        (λ l. inside left at q (separator ∷ (rest ++ tail)) (pieces separator rest) _ r here whole e t l (omega arith))
        (λ g.
        let i = t.inside r refl in
        let m : r.1 ≡ at + length q = omega (arith, i) in
        let n : r.1 + 1 + length rest ≡ at + length q + 1 + length rest = omega arith in
        let a = again (r.1 + 1) (after_rest s at q (separator ∷ (rest ++ tail)) r.1 here m) in
        rw (
          list_more left at r e (after_byte s at q (separator ∷ (rest ++ tail)) r.1 here m),
          each_cons form q (pieces separator rest) (Some r.0) _ (t.whole ∙ whole_all r _ m) refl,
        )
        (cons_tied r.0 _ _ at (r.1 + 1) _ (omega (arith, i)) (rw n at a)))

    list_tied : (left at : ℕ) (p : List ℕ) → drop at s ≡ p ++ tail → length p < left
        → Tied (each_of form (pieces separator p)) (list_at read separator s left at) at (at + length p)
    list_tied zero at p here h = absurd (omega arith)
    list_tied (suc left) at p here h = by_cut (cut_of separator p) (list_tied left)
      where
        by_cut : (c : Cut separator p)
            → ((at : ℕ) (p : List ℕ) → drop at s ≡ p ++ tail → length p < left → Tied (each_of form (pieces separator p)) (list_at read separator s left at) at (at + length p))
            → Tied (each_of form (pieces separator p)) (list_at read separator s (suc left) at) at (at + length p)
        by_cut c again = rw c.cut (by_after c.piece c.tail c.others c.text c.whole c.after)
          where
            by_after : (q t : List ℕ) (others : List (List ℕ)) → p ≡ q ++ t → Whole separator q → After separator t others
                → Tied (each_of form (q ∷ others)) (list_at read separator s (suc left) at) at (at + length p)
            by_after q t others e whole ended =
                let n : length p ≡ length q = omega (arith, ap length e, length-append q []) in
                let f : drop at s ≡ q ++ tail = cut_here q [] tail here e in
                rw n (last_tied left at q f whole (read at) refl (tie at q tail f stops))
            by_after q t others e whole (more rest) =
                let n : at + length p ≡ at + length q + 1 + length rest = omega (arith, ap length e, length-append q (separator ∷ rest)) in
                let f : drop at s ≡ q ++ (separator ∷ (rest ++ tail)) = cut_here q (separator ∷ rest) tail here e in
                rw n
                (next_tied left at q rest f whole (λ from g. again from rest g (omega (arith, ap length e, length-append q (separator ∷ rest)))) (read at) refl
                (tie at q (separator ∷ (rest ++ tail)) f (stop (rest ++ tail))))

-- ---- lists with as many steps as a line has bytes
module _ {A : Type 0} (s : List ℕ) (read : ℕ → Option (A × ℕ)) (separator : ℕ) (form : List ℕ → Option A) (Stop : List ℕ → Type 0) (stop : (rest : List ℕ) → Stop (separator ∷ rest))
    (tie : (at : ℕ) (p tail : List ℕ) → drop at s ≡ p ++ tail → Stop tail → Tied (form p) (read at) at (at + length p)) where
  pub all_tied : (at : ℕ) (p tail : List ℕ) → drop at s ≡ p ++ tail → Stop tail → eqb (get_or tail 0 0) separator ≡ false
      → Tied (each_of form (pieces separator p)) (list_at read separator s (length s + 1) at) at (at + length p)
  all_tied at p tail here stops other =
      list_tied read separator s form Stop stop tie tail stops other (length s + 1) at p here (omega (arith, ap length here, length-append p tail, length-drop at s))
