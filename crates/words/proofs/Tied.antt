-- A reader at a place and the form of a whole piece: the piece is of the form exactly if the reader takes all of it.
use Rattle.std.specs.Prelude.{Option, None, Some}
use mathlib.Core.Bool.{Bool, true, false, cond, ◌&&◌, and-true, and-false}
use mathlib.Core.List.{List, [], ◌∷◌, ◌++◌}
use mathlib.Core.Path.{◌≡◌, refl, sym, ap, ◌∙◌}
use Prim.Native.Nat.{ℕ, suc, ◌+◌, ◌<◌, ◌≤◌}
use native.Mathlib.Omega.{arith}
use borrow.Author.Tests.{eq-eqb, ne_eqb}
use lib.Dec.{eqb}
use lib.ListN.{length, take, drop}
use lib.Seq.{take-append_seam}
use Rattle.calendar.specs.Below.{within, all_of}
use Rattle.zone.proofs.Good.{by_order}
use Rattle.sheet.specs.Words.{is_digit, decimal, number_of}
use Rattle.words.specs.Answers.{made_read, number_read}
use Rattle.words.specs.Reads.{cursor, digits_in, decimal_at, number_at}

-- ---- digits of a piece
pub all_digits : (p tail : List ℕ) → all_of is_digit p ≡ true → digits_in tail ≡ 0 → digits_in (p ++ tail) ≡ length p
unfolding digits_in
all_digits [] tail a e = e
all_digits (c ∷ p) tail a e = by_digit (is_digit c) refl a (all_digits p tail)
  where
    by_digit : (b : Bool) → is_digit c ≡ b → (is_digit c && all_of is_digit p) ≡ true
        → (all_of is_digit p ≡ true → digits_in tail ≡ 0 → digits_in (p ++ tail) ≡ length p)
        → digits_in (c ∷ (p ++ tail)) ≡ suc (length p)
    by_digit true f h r = rw (digits_in, f) (ap suc (r (rw f at h) e))
    by_digit false f h r = let z : ◌≡◌ {A = Bool} false true = rw f at h in let y : ◌≡◌ {A = ℕ} 0 1 = cc in absurd (omega arith)

pub some_digits : (p tail : List ℕ) → all_of is_digit p ≡ false → digits_in (p ++ tail) < length p
unfolding digits_in
some_digits [] tail a = let y : ◌≡◌ {A = ℕ} 0 1 = cc in absurd (omega arith)
some_digits (c ∷ p) tail a = by_digit (is_digit c) refl a (some_digits p tail)
  where
    by_digit : (b : Bool) → is_digit c ≡ b → (is_digit c && all_of is_digit p) ≡ false
        → (all_of is_digit p ≡ false → digits_in (p ++ tail) < length p)
        → digits_in (c ∷ (p ++ tail)) < suc (length p)
    by_digit true f h r = rw (digits_in, f) (omega (arith, r (rw f at h)))
    by_digit false f h r = rw (digits_in, f) (omega arith)

-- ---- what a reader took, with the place after it, as the form of a whole piece that ends at a place
unfoldable pub whole_read : {A : Type 0} → Option (A × ℕ) → ℕ → Option A
whole_read None end = None
whole_read (Some r) end = cond (eqb r.1 end) (Some r.0) None

read_whole : {A : Type 0} (b : Bool) (v : A) (end : ℕ) → whole_read (cond b (Some (v, end)) None) end ≡ cond b (Some v) None
unfolding whole_read
read_whole true v end = rw (eq-eqb end end refl) refl
read_whole false v end = refl

read_part : {A : Type 0} (b : Bool) (v : A) (e end : ℕ) → (e ≡ end → ⊥) → whole_read (cond b (Some (v, e)) None) end ≡ None
unfolding whole_read
read_part true v e end q = rw (ne_eqb e end q) refl
read_part false v e end q = refl

pub whole_none : {A : Type 0} (end : ℕ) → whole_read {A = A} None end ≡ None
unfolding whole_read
whole_none end = refl

pub whole_all : {A : Type 0} (r : A × ℕ) (end : ℕ) → r.1 ≡ end → whole_read (Some r) end ≡ Some r.0
unfolding whole_read
whole_all r end e = rw (eq-eqb _ _ e) refl

pub whole_part : {A : Type 0} (r : A × ℕ) (end : ℕ) → (r.1 ≡ end → ⊥) → whole_read (Some r) end ≡ None
unfolding whole_read
whole_part r end e = rw (ne_eqb _ _ e) refl

-- a reader and the form of a whole piece, which stands from `at` to `end`
pub record Tied {A : Type 0} (form : Option A) (read : Option (A × ℕ)) (at end : ℕ) : Type 0 where
  pub whole : form ≡ whole_read read end
  pub inside : (r : A × ℕ) → read ≡ Some r → (at ≤ r.1) × (r.1 ≤ end)

-- ---- a number
number_read_lem : (b : Bool) (v e : ℕ) → number_read (cond b (Some (v, cursor e)) None) ≡ cond b (Some (v, e)) None
number_read_lem true v e = refl
number_read_lem false v e = refl

pub read_place : {A : Type 0} (b : Bool) (v : A) (r : A × ℕ) (e at end : ℕ) → at ≤ e → e ≤ end
    → cond {A = Option (A × ℕ)} b (Some (v, e)) None ≡ Some r → (at ≤ r.1) × (r.1 ≤ end)
read_place {A} true v r e at end g h q = (omega (arith, ap place_of q), omega (arith, ap place_of q))
  where
    place_of : Option (A × ℕ) → ℕ
    place_of None = 0
    place_of (Some r) = r.1
read_place false v r e at end g h q = let z : ◌≡◌ {A = ℕ} 0 1 = cc in absurd (omega arith)

-- nothing is of the form, and nothing is read
pub tied_none : {A : Type 0} (at end : ℕ) → Tied {A = A} None None at end
tied_none at end = record { whole = sym (whole_none end); inside = λ r q. let z : ◌≡◌ {A = ℕ} 0 1 = cc in absurd (omega arith) }

-- what is read ends inside: the whole is not of the form
pub tied_short : {A : Type 0} (o : Option A) (r : Option (A × ℕ)) (at mid end : ℕ) → Tied o r at mid → mid < end → Tied None r at end
tied_short o None at mid end t h = tied_none at end
tied_short o (Some r) at mid end t h =
    let i = t.inside r refl in
    record {
      whole = sym (whole_part r end (λ (q : r.1 ≡ end). omega (arith, i)));
      inside = λ x q. let j = t.inside x q in (j.0, omega (arith, j));
    }

-- what is tied from a later place on
pub tied_from : {A : Type 0} (o : Option A) (r : Option (A × ℕ)) (at from end : ℕ) → at ≤ from → Tied o r from end → Tied o r at end
tied_from o r at from end h t = record { whole = t.whole; inside = λ x q. let j = t.inside x q in (omega (arith, j), j.1) }

-- a value made of what was read, and of the form
abbrev pub made : {A B : Type 0} → (A → B) → Option A → Option B
made f None = None
made f (Some a) = Some (f a)

pub tied_made : {A B : Type 0} (f : A → B) (o : Option A) (r : Option (A × ℕ)) (at from end : ℕ) → at ≤ from → Tied o r from end
    → Tied (made f o) (made_read f r) at end
tied_made f o None at from end h t = rw (t.whole ∙ whole_none end) (tied_none at end)
tied_made {A} {B} f o (Some r) at from end h t =
    let i = t.inside r refl in
    by_order r.1 end (λ l. rw (t.whole ∙ whole_part r end (λ (q : r.1 ≡ end). omega arith)) (record { whole = sym (whole_part (f r.0, r.1) end (λ (q : r.1 ≡ end). omega arith)); inside = place (omega (arith, i)) i.1 }))
    (λ l. let q : r.1 ≡ end = omega (arith, i) in rw (t.whole ∙ whole_all r end q) (record { whole = sym (whole_all (f r.0, r.1) end q); inside = place (omega (arith, i)) i.1 }))
  where
    place_of : Option (B × ℕ) → ℕ
    place_of None = 0
    place_of (Some z) = z.1

    place : at ≤ r.1 → r.1 ≤ end → (y : B × ℕ) → Some (f r.0, r.1) ≡ Some y → (at ≤ y.1) × (y.1 ≤ end)
    place a b y e = let q = ap place_of e in (omega (arith, q), omega (arith, q))

-- a reader that takes v up to e where a test holds
module _ {A : Type 0} (form : Option A) (v : A) (e at end : ℕ) (low : at ≤ e) where
  pub tied_by : (b : Bool) → (b ≡ true → e ≤ end) → (b ≡ true → e ≡ end → form ≡ Some v) → (b ≡ true → (e ≡ end → ⊥) → form ≡ None)
      → (b ≡ false → form ≡ None)
      → Tied form (cond b (Some (v, e)) None) at end
  tied_by true high all part not =
      record {
        whole = by_order e end (λ l. part refl (λ q. omega arith) ∙ sym (whole_part (v, e) end (λ (q : e ≡ end). omega arith)))
            (λ l. let q : e ≡ end = omega (arith, high refl) in all refl q ∙ sym (whole_all (v, e) end q));
        inside = λ r q. read_place true v r e at end low (high refl) q;
      }
  tied_by false high all part not =
      record { whole = not refl ∙ sym (whole_none end); inside = λ r q. let z : ◌≡◌ {A = ℕ} 0 1 = cc in absurd (omega arith) }

-- `drop at s` is a piece and what stands after it, which begins with no digit
module _ (s : List ℕ) (at : ℕ) (p tail : List ℕ) (here : drop at s ≡ p ++ tail) (stops : digits_in tail ≡ 0) where
  pub digits_inside : digits_in (drop at s) ≤ length p
  digits_inside = by_digits (all_of is_digit p) refl
    where
      by_digits : (b : Bool) → all_of is_digit p ≡ b → digits_in (drop at s) ≤ length p
      by_digits true a = omega (arith, ap digits_in here ∙ all_digits p tail a stops)
      by_digits false a = let n : digits_in (drop at s) < length p = rw here (some_digits p tail a) in omega arith

  pub number_tied : Tied (number_of p) (number_read (number_at s at)) at (at + length p)
  unfolding number_of number_at decimal_at
  number_tied =
      record {
        whole = by_digits (all_of is_digit p) refl;
        inside = λ r q. read_place (within 1 4 (digits_in (drop at s))) _ r (at + digits_in (drop at s)) at (at + length p) (omega arith) (omega (arith, digits_inside)) (sym (number_read_lem (within 1 4 (digits_in (drop at s))) _ _) ∙ q);
      }
    where
      by_digits : (b : Bool) → all_of is_digit p ≡ b → number_of p ≡ whole_read (number_read (number_at s at)) (at + length p)
      by_digits true a =
          let n : digits_in (drop at s) ≡ length p = ap digits_in here ∙ all_digits p tail a stops in
          let d : take (length p) (drop at s) ≡ p = ap (take (length p)) here ∙ take-append_seam p tail in
          rw (a, and-true, n, d, number_read_lem (within 1 4 (length p)) (decimal 0 p) (at + length p))
          (sym (read_whole (within 1 4 (length p)) (decimal 0 p) (at + length p)))
      by_digits false a =
          let n : digits_in (drop at s) < length p = rw here (some_digits p tail a) in
          rw (a, and-false, number_read_lem (within 1 4 (digits_in (drop at s))) _ (at + digits_in (drop at s)))
          (sym (read_part (within 1 4 (digits_in (drop at s))) _ (at + digits_in (drop at s)) (at + length p) (λ e. omega arith)))
