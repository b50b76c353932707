-- Elements of a cron field: the reader against the form of a whole piece.
use Rattle.std.specs.Prelude.{Option, None, Some}
use mathlib.Core.Bool.{true, false, and-false, true≢false}
use mathlib.Core.List.{List, [], ◌∷◌, ◌++◌, append-nil}
use mathlib.Core.Path.{◌≡◌, refl, sym, ap, ◌∙◌}
use Prim.Native.Nat.{ℕ, ◌+◌}
use native.Mathlib.Omega.{arith}
use borrow.Author.Tests.{eq-eqb}
use lib.Dec.{eqb}
use lib.ListN.{length, get_or, drop, length-append}
use Rattle.calendar.specs.Below.{all_of}
use Rattle.zone.proofs.Good.{by_order}
use Rattle.sheet.specs.Form.{one, range, element_of}
use Rattle.sheet.specs.Words.{is_digit, number_of, pieces, cons_of, each_of}
use Rattle.words.proofs.Listing.{each_cons, each_none, piece_byte, after_byte, after_rest}
use Rattle.words.proofs.Pieces.{After, ended, more, cut_here, Whole, Cut, cut_of}
use Rattle.words.proofs.Tied.{whole_none, whole_all, whole_part, made, Tied, tied_made, tied_by, tied_none, number_tied}
use Rattle.words.specs.Answers.{made_read, number_read}
use Rattle.words.specs.Reads.{digits_in, cursor, number_at}
use Rattle.words.specs.declared.cursor.Cursor.{Cursor}
use Rattle.fields.specs.Elements.{range_from, element_from, element_at, element_read}

-- ---- the form of a piece by its first number and what stands after it
-- no number has a `-` in it
dash_no_number : (p rest : List ℕ) → number_of (p ++ (45 ∷ rest)) ≡ None
unfolding number_of
dash_no_number p rest = rw (not_all p, and-false) refl
  where
    not_all : (p : List ℕ) → all_of is_digit (p ++ (45 ∷ rest)) ≡ false
    not_all [] = refl
    not_all (c ∷ p) = rw (not_all p) (and-false (is_digit c))

-- the numbers between `-` as an element
module _ (p : List ℕ) where
  element_none : each_of number_of (pieces 45 p) ≡ None → element_of p ≡ None
  unfolding element_of
  element_none e = rw e refl

  element_one : (a : ℕ) → each_of number_of (pieces 45 p) ≡ Some (a ∷ []) → element_of p ≡ Some (one a)
  unfolding element_of
  element_one a e = rw e refl

  element_two : (a b : ℕ) → each_of number_of (pieces 45 p) ≡ Some (a ∷ b ∷ []) → element_of p ≡ Some (range a b)
  unfolding element_of
  element_two a b e = rw e refl

  element_more : (a b c : ℕ) (ds : List ℕ) → each_of number_of (pieces 45 p) ≡ Some (a ∷ b ∷ c ∷ ds) → element_of p ≡ None
  unfolding element_of
  element_more a b c ds e = rw e refl

-- after a number and a `-`: the rest is one number, or the piece is no element
element_range : (p q rest : List ℕ) (a : ℕ) → pieces 45 p ≡ q ∷ pieces 45 rest → number_of q ≡ Some a
    → element_of p ≡ made (range a) (number_of rest)
unfolding cons_of
element_range p q rest a c e = by_cut (cut_of 45 rest)
  where
    numbers : (o : Option (List ℕ)) → each_of number_of (pieces 45 rest) ≡ o → each_of number_of (pieces 45 p) ≡ cons_of (Some a) o
    numbers o f = rw c (each_cons number_of q (pieces 45 rest) (Some a) o e f)

    by_last : (q : List ℕ) (o : Option ℕ) → number_of q ≡ o → pieces 45 rest ≡ q ∷ [] → element_of p ≡ made (range a) o
    by_last q None f d = element_none p (numbers None (rw d (each_cons number_of q [] None _ f refl)))
    by_last q (Some b) f d =
        element_two p a b (numbers (Some (b ∷ [])) (rw d (each_cons number_of q [] (Some b) (Some []) f (each_none number_of))))

    by_more : (q r : List ℕ) (rs : List (List ℕ)) (o : Option ℕ) (x : Option (List ℕ)) → number_of q ≡ o → each_of number_of (r ∷ rs) ≡ x
        → pieces 45 rest ≡ q ∷ r ∷ rs → element_of p ≡ None
    by_more q r rs None x f g d = element_none p (numbers None (rw d (each_cons number_of q (r ∷ rs) None x f g)))
    by_more q r rs (Some b) None f g d = element_none p (numbers None (rw d (each_cons number_of q (r ∷ rs) (Some b) None f g)))
    by_more q r rs (Some b) (Some []) f g d = absurd (never (number_of r) (each_of number_of rs) refl refl g)
      where
        never : (o : Option ℕ) (x : Option (List ℕ)) → number_of r ≡ o → each_of number_of rs ≡ x → each_of number_of (r ∷ rs) ≡ Some [] → ⊥
        never None x h k g = let w = sym (each_cons number_of r rs None x h k) ∙ g in let z : ◌≡◌ {A = ℕ} 0 1 = cc in omega arith
        never (Some v) None h k g =
            let w = sym (each_cons number_of r rs (Some v) None h k) ∙ g in let z : ◌≡◌ {A = ℕ} 0 1 = cc in omega arith
        never (Some v) (Some vs) h k g =
            let w = sym (each_cons number_of r rs (Some v) (Some vs) h k) ∙ g in let z : ◌≡◌ {A = ℕ} 0 1 = cc in omega arith
    by_more q r rs (Some b) (Some (v ∷ vs)) f g d =
        element_more p a b v vs (numbers (Some (b ∷ v ∷ vs)) (rw d (each_cons number_of q (r ∷ rs) (Some b) (Some (v ∷ vs)) f g)))

    by_after : (q t : List ℕ) (others : List (List ℕ)) → rest ≡ q ++ t → pieces 45 rest ≡ q ∷ others → After 45 t others
        → element_of p ≡ made (range a) (number_of rest)
    by_after q t others f d ended =
        let g : number_of q ≡ number_of rest = ap number_of (sym (f ∙ append-nil q)) in by_last q (number_of rest) g d
    by_after q t others f d (more r) =
        let k = cut_of 45 r in
        let n : number_of rest ≡ None = ap number_of f ∙ dash_no_number q r in
        rw n
        (by_more q k.piece k.others (number_of q) (each_of number_of (k.piece ∷ k.others)) refl refl (d ∙ ap (λ (l : List (List ℕ)). q ∷ l) k.cut))

    by_cut : Cut 45 rest → element_of p ≡ made (range a) (number_of rest)
    by_cut k = by_after k.piece k.tail k.others k.text k.cut k.after

-- ---- the reader
read_range : (n : ℕ) (x : Option (ℕ × Cursor)) → element_read (range_from n x) ≡ made_read (range n) (number_read x)
read_range n (Some r) = refl
read_range n None = refl

-- no digit and no `-` stands after the piece
module _ (s : List ℕ) (at : ℕ) (p tail : List ℕ) (here : drop at s ≡ p ++ tail) (stops : digits_in tail ≡ 0) (other : eqb (get_or tail 0 0) 45 ≡ false) where
  -- a number that ends where its piece does: the element's end, or a `-` and a second number
  by_after : (q t : List ℕ) (others : List (List ℕ)) (v e : ℕ) → After 45 t others → p ≡ q ++ t → pieces 45 p ≡ q ∷ others
      → drop at s ≡ q ++ (t ++ tail) → number_of q ≡ Some v → e ≡ at + length q
      → Tied (element_of p) (element_read (element_from s (Some (v, cursor e)))) at (at + length p)
  unfolding cons_of
  by_after q t others v e ended l d f m g =
      let n : length p ≡ length q = omega (arith, ap length l, length-append q []) in
      rw (
        ap (λ (x : ℕ). eqb x 45) (after_byte s at q tail e f g) ∙ other,
        element_one p v (rw d (each_cons number_of q [] (Some v) (Some []) m (each_none number_of))),
      )
      (tied_by (Some (one v)) (one v) e at (at + length p) (omega arith) true (λ h. omega arith) (λ h k. refl) (λ h k. absurd (k (omega arith))) (λ h. absurd (true≢false h)))
  by_after q t others v e (more r) l d f m g =
      let n : e + 1 + length r ≡ at + length p = omega (arith, ap length l, length-append q (45 ∷ r)) in
      let h = number_tied s (e + 1) r tail (after_rest s at q (45 ∷ (r ++ tail)) e f g) stops in
      rw (eq-eqb _ _ (after_byte s at q (45 ∷ (r ++ tail)) e f g), element_range p q r v d m, read_range v (number_at s (e + 1)))
      (tied_made (range v) _ _ at (e + 1) _ (omega arith) (rw n at h))

  -- the first number ends where its piece does, or inside it
  by_number : (q t : List ℕ) (others : List (List ℕ)) → p ≡ q ++ t → pieces 45 p ≡ q ∷ others → Whole 45 q → After 45 t others
      → drop at s ≡ q ++ (t ++ tail) → (x : Option (ℕ × Cursor)) → Tied (number_of q) (number_read x) at (at + length q) → Tied (element_of p) (element_read (element_from s x)) at (at + length p)
  unfolding cons_of
  by_number q t others e d whole a f None n =
      rw (element_none p (rw d (each_cons number_of q others None _ (n.whole ∙ whole_none _) refl))) (tied_none _ _)
  by_number q t others e d whole a f (Some (v, c)) n =
      let i = n.inside (v, c.at) refl in
      let l : length p ≡ length q + length t = omega (arith, ap length e, length-append q t) in
      by_order c.at (at + length q)
      (λ b.
      let m : number_of q ≡ None = n.whole ∙ whole_part (v, c.at) (at + length q) (λ (g : c.at ≡ at + length q). omega arith) in
      rw (
        piece_byte s at q (t ++ tail) c.at f i.0 b (λ (x : ℕ). eqb x 45 ≡ false) whole,
        element_none p (rw d (each_cons number_of q others None _ m refl)),
      )
      (tied_by None (one v) c.at at (at + length p) i.0 true (λ g. omega arith) (λ g (h : c.at ≡ at + length p). absurd (omega arith)) (λ g h. refl) (λ g. refl)))
      (λ b. let g : c.at ≡ at + length q = omega (arith, i) in by_after q t others v c.at a e d f (n.whole ∙ whole_all (v, c.at) (at + length q) g) g)

  digits_after : (t : List ℕ) (others : List (List ℕ)) → After 45 t others → digits_in (t ++ tail) ≡ 0
  unfolding digits_in
  digits_after t others ended = stops
  digits_after t others (more r) = refl

  pub element_tied : Tied (element_of p) (element_read (element_at s at)) at (at + length p)
  unfolding element_at
  element_tied = by_cut (cut_of 45 p)
    where
      by_cut : Cut 45 p → Tied (element_of p) (element_read (element_from s (number_at s at))) at (at + length p)
      by_cut c =
          let f : drop at s ≡ c.piece ++ (c.tail ++ tail) = cut_here c.piece c.tail tail here c.text in
          by_number c.piece c.tail c.others c.text c.cut c.whole c.after f (number_at s at)
          (number_tied s at c.piece (c.tail ++ tail) f (digits_after c.tail c.others c.after))
