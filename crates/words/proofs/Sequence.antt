-- Values one after the other between separators, against the form of a whole text that is cut at them.
use Rattle.std.specs.Prelude.{Option, None, Some}
use mathlib.Core.Bool.{false}
use mathlib.Core.List.{List, [], ◌∷◌, ◌++◌}
use mathlib.Core.Path.{◌≡◌, refl, ap, ◌∙◌}
use Prim.Native.Nat.{ℕ, ◌+◌, ◌<◌}
use native.Mathlib.Omega.{arith}
use borrow.Author.Tests.{eq-eqb}
use lib.Dec.{eqb}
use lib.ListN.{length, get_or, drop, length-append}
use Rattle.zone.proofs.Good.{by_order}
use Rattle.sheet.specs.Words.{pieces}
use Rattle.words.specs.Answers.{then_at}
use Rattle.words.proofs.Listing.{piece_byte, after_byte, after_rest}
use Rattle.words.proofs.Pieces.{After, ended, more, cut_here, Whole, Cut, cut_of}
use Rattle.words.proofs.Tied.{whole_none, whole_all, whole_part, Tied, tied_none, tied_short, tied_from}

-- one piece, of the form
abbrev pub only : {A : Type 0} → (List ℕ → Option A) → List (List ℕ) → Option A
only form [] = None
only form (p ∷ []) = form p
only form (p ∷ q ∷ others) = None

-- `Stop`: what may stand after a value; its separator may
module _ {A : Type 0} (separator : ℕ) (s : List ℕ) (form : List ℕ → Option A) (read : ℕ → Option (A × ℕ)) (Stop : List ℕ → Type 0) (stop : (rest : List ℕ) → Stop (separator ∷ rest))
    (tie : (at : ℕ) (p tail : List ℕ) → drop at s ≡ p ++ tail → Stop tail
    → Tied (form p) (read at) at (at + length p)) (tail : List ℕ) (stops : Stop tail) where
  pub only_tied : (at : ℕ) (p : List ℕ) → drop at s ≡ p ++ tail → Tied (only form (pieces separator p)) (read at) at (at + length p)
  only_tied at p here = by_cut (cut_of separator p)
    where
      by_cut : Cut separator p → Tied (only form (pieces separator p)) (read at) at (at + length p)
      by_cut c = rw c.cut (by_after c.piece c.tail c.others c.text c.after)
        where
          by_after : (q t : List ℕ) (others : List (List ℕ)) → p ≡ q ++ t → After separator t others
              → Tied (only form (q ∷ others)) (read at) at (at + length p)
          by_after q t others e ended =
              let n : length p ≡ length q = omega (arith, ap length e, length-append q []) in
              rw n (tie at q tail (cut_here q [] tail here e) stops)
          by_after q t others e (more rest) =
              let k = cut_of separator rest in
              rw k.cut
              (tied_short _ _ at (at + length q) (at + length p) (tie at q (separator ∷ (rest ++ tail)) (cut_here q (separator ∷ rest) tail here e) (stop (rest ++ tail)))
              (omega (arith, ap length e, length-append q (separator ∷ rest))))

  -- a value, its separator, and what follows: `next` is the form of the pieces after it
  module _ {B : Type 0} (whole : List (List ℕ) → Option B) (next : A → List (List ℕ) → Option B) (then : A → ℕ → Option (B × ℕ))
      (no_first : (q : List ℕ) (ps : List (List ℕ)) → form q ≡ None → whole (q ∷ ps) ≡ None)
      (first : (q : List ℕ) (ps : List (List ℕ)) (a : A) → form q ≡ Some a → whole (q ∷ ps) ≡ next a ps)
      (alone : (a : A) → next a [] ≡ None)
      (again : (a : A) (from : ℕ) (rest : List ℕ) → drop from s ≡ rest ++ tail
      → Tied (next a (pieces separator rest)) (then a from) from (from + length rest))
      (other : eqb (get_or tail 0 0) separator ≡ false) where
    -- the value ends inside its piece, where no separator stands
    inside : (at : ℕ) (q rest : List ℕ) (others : List (List ℕ)) (end : ℕ) (r : A × ℕ) → drop at s ≡ q ++ rest → Whole separator q
        → Tied (form q) (Some r) at (at + length q) → r.1 < at + length q → Tied (whole (q ∷ others)) (then_at separator s then (Some r)) at end
    inside at q rest others end r here whole-piece t l =
        let i = t.inside r refl in
        rw (
          piece_byte s at q rest r.1 here i.0 l (λ (x : ℕ). eqb x separator ≡ false) whole-piece,
          no_first q others (t.whole ∙ whole_part r _ (λ (m : r.1 ≡ at + length q). omega arith)),
        )
        (tied_none at end)

    by_read : (at : ℕ) (q t : List ℕ) (others : List (List ℕ)) (p : List ℕ) → drop at s ≡ p ++ tail → p ≡ q ++ t → After separator t others
        → Whole separator q
        → (o : Option (A × ℕ)) → Tied (form q) o at (at + length q) → Tied (whole (q ∷ others)) (then_at separator s then o) at (at + length p)
    by_read at q t others p here e a whole-piece None k = rw (no_first q others (k.whole ∙ whole_none _)) (tied_none at _)
    by_read at q t others p here e ended whole-piece (Some r) k =
        let f = cut_here q [] tail here e in
        let i = k.inside r refl in
        by_order r.1 (at + length q) (λ l. inside at q tail [] _ r f whole-piece k l)
        (λ l.
        let m : r.1 ≡ at + length q = omega (arith, i) in
        rw (
          ap (λ (x : ℕ). eqb x separator) (after_byte s at q tail r.1 f m) ∙ other,
          first q [] r.0 (k.whole ∙ whole_all r _ m),
          alone r.0,
        ) (tied_none at _))
    by_read at q t others p here e (more rest) whole-piece (Some r) k =
        let f = cut_here q (separator ∷ rest) tail here e in
        let i = k.inside r refl in
        by_order r.1 (at + length q) (λ l. inside at q _ (pieces separator rest) _ r f whole-piece k l)
        (λ l.
        let m : r.1 ≡ at + length q = omega (arith, i) in
        let n : r.1 + 1 + length rest ≡ at + length p = omega (arith, ap length e, length-append q (separator ∷ rest)) in
        let z = again r.0 (r.1 + 1) rest (after_rest s at q (separator ∷ (rest ++ tail)) r.1 f m) in
        rw (
          eq-eqb _ _ (after_byte s at q (separator ∷ (rest ++ tail)) r.1 f m),
          first q (pieces separator rest) r.0 (k.whole ∙ whole_all r _ m),
        )
        (tied_from _ _ at (r.1 + 1) _ (omega (arith, i)) (rw n at z)))

    pub then_tied : (at : ℕ) (p : List ℕ) → drop at s ≡ p ++ tail
        → Tied (whole (pieces separator p)) (then_at separator s then (read at)) at (at + length p)
    then_tied at p here = by_cut (cut_of separator p)
      where
        by_cut : Cut separator p → Tied (whole (pieces separator p)) (then_at separator s then (read at)) at (at + length p)
        by_cut c = rw c.cut (by_piece c.piece c.tail c.others c.text c.after c.whole)
          where
            by_piece : (q t : List ℕ) (others : List (List ℕ)) → p ≡ q ++ t → After separator t others → Whole separator q
                → Tied (whole (q ∷ others)) (then_at separator s then (read at)) at (at + length p)
            by_piece q t others e ended w =
                by_read at q t others p here e ended w (read at) (tie at q tail (cut_here q [] tail here e) stops)
            by_piece q t others e (more rest) w =
                by_read at q t others p here e (more rest) w (read at) (tie at q (separator ∷ (rest ++ tail)) (cut_here q (separator ∷ rest) tail here e) (stop (rest ++ tail)))
