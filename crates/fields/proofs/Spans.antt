-- The numbers of a list of elements as a mask.
use mathlib.Core.Bool.{Bool, true, false, cond, ◌&&◌, ◌||◌, and-true, and-false, and_assoc, or-false, or_assoc}
use mathlib.Core.List.{List, [], ◌∷◌}
use mathlib.Core.Path.{◌≡◌, refl, sym, ap, ◌∙◌}
use Prim.Native.Nat.{ℕ, zero, suc, ◌+◌, ◌-◌, ◌^◌, ◌<◌, ◌≤◌}
use native.Mathlib.Nat.{pow-succ', pow-le-pow_right}
use native.Mathlib.Omega.{arith}
use borrow.Author.Tests.{eq-eqb, ne_eqb, leb-true, le-leb, lt-leb, lt-ltb, le-ltb}
use lib.Bits.{bit_or, or_lt}
use lib.Dec.{leb, ltb}
use lib.Pow.{pow_pos}
use Rattle.calendar.proofs.Every.{both_true}
use Rattle.calendar.specs.Below.{within, all_of, any_of}
use Rattle.zone.proofs.Good.{by_order}
use Rattle.masks.proofs.MaskFroms.{bit_mask_from, mask_from_below, mask_ext}
use Rattle.masks.proofs.Bits.{bit_of_zero}
use Rattle.masks.proofs.WithBits.{bit_of_both}
use Rattle.masks.specs.Masks.{bit, mask_from}
use Rattle.sheet.specs.Form.{Element as Form, one, range}
use Rattle.sheet.specs.Meaning.{element_has}
use Rattle.sheet.specs.Range.{element_in_range}
use Rattle.words.specs.Lists.{over_all}
use Rattle.fields.specs.Marked.{marks_with, marks_of, marks_over}
use Rattle.fields.specs.declared.marks.Marks.{Marks}

-- ---- the numbers from a on, k of them
pub full_mask_lem : (k a : ℕ) → mask_from (λ (n : ℕ). true) k a + 2 ^ a ≡ 2 ^ (a + k)
unfolding mask_from
full_mask_lem zero a = let e : a + 0 ≡ a = omega arith in rw e (omega arith)
full_mask_lem (suc k) a =
    let e : a + suc k ≡ suc a + k = omega arith in
    rw e (omega (arith, full_mask_lem k (suc a), pow-succ' 2 a))

pub span_mask : (a b : ℕ) → a ≤ b + 1 → 2 ^ (b + 1) - 2 ^ a ≡ mask_from (λ (n : ℕ). true) (b + 1 - a) a
span_mask a b h =
    let e : a + (b + 1 - a) ≡ b + 1 = omega arith in
    let f : mask_from (λ (n : ℕ). true) (b + 1 - a) a + 2 ^ a ≡ 2 ^ (b + 1) = full_mask_lem (b + 1 - a) a ∙ ap (λ (n : ℕ). 2 ^ n) e in
    omega (arith, f)

pub span_bit : (a b n : ℕ) → a ≤ b → bit (2 ^ (b + 1) - 2 ^ a) n ≡ within a b n
span_bit a b n h =
    rw (span_mask a b (omega arith))
    (bit_mask_from (λ (n : ℕ). true) (b + 1 - a) a n ∙ by_order n a (λ l. simp (lt-leb a n l)) (λ l. rw (le-leb a n l) (upper l)))
  where
    upper : a ≤ n → (ltb n (a + (b + 1 - a)) && true) ≡ leb n b
    upper l =
        by_order b n (λ m. rw (le-ltb n (a + (b + 1 - a)) (omega arith), lt-leb n b m) refl)
        (λ m. rw (lt-ltb n (a + (b + 1 - a)) (omega arith), le-leb n b m) refl)

-- ---- one element
-- the ends of an element
first_of : Form → ℕ
first_of (one n) = n
first_of (range a b) = a

last_of : Form → ℕ
last_of (one n) = n
last_of (range a b) = b

abbrev in_order : ℕ → ℕ → ℕ → ℕ → Bool
in_order low high a b = leb low a && (leb b high && leb a b)

marks_ends : (low high : ℕ) (m : Marks) (x : Form) → marks_of low high m x ≡ marks_with low high m (first_of x) (last_of x)
unfolding marks_of first_of last_of
marks_ends low high m (one n) = refl
marks_ends low high m (range a b) = refl

has_ends : (n : ℕ) (x : Form) → element_has n x ≡ within (first_of x) (last_of x) n
unfolding element_has first_of last_of
has_ends n (one a) = by_order n a (λ l. rw (lt-leb a n l) (ne_eqb n a (λ (e : n ≡ a). omega arith)))
    (λ l. by_order a n (λ k. rw (le-leb a n l, lt-leb n a k) (ne_eqb n a (λ (e : n ≡ a). omega arith))) (λ k. rw (le-leb a n l, le-leb n a k) (eq-eqb n a (omega arith))))
has_ends n (range a b) = refl

range_ends : (low high : ℕ) (x : Form) → element_in_range low high x ≡ in_order low high (first_of x) (last_of x)
unfolding element_in_range first_of last_of
range_ends low high (one n) = rw (le-leb n n (omega arith)) (ap (λ (b : Bool). leb low n && b) (sym (and-true (leb n high))))
range_ends low high (range a b) = by_order b a (λ l. rw (lt-leb a b l) (simp and-false)) (λ l. rw (le-leb a b l) (by_low l))
  where
    by_high : a ≤ b → low ≤ a → within low high a && (within low high b && true) ≡ leb low a && (leb b high && true)
    by_high l k = by_order high b
        (λ h. rw (lt-leb b high h) (simp and-false))
        (λ h. rw (le-leb b high h, le-leb a high (omega arith), le-leb low a k, le-leb low b (omega arith)) refl)

    by_low : a ≤ b → within low high a && (within low high b && true) ≡ leb low a && (leb b high && true)
    by_low l = by_order a low (λ k. simp (lt-leb low a k)) (λ k. by_high l k)

-- what one element does to the marks
module _ (low high : ℕ) (m : Marks) (x : Form) where
  one_good : (marks_of low high m x).good ≡ (m.good && element_in_range low high x)
  unfolding marks_with
  one_good = rw (marks_ends low high m x, range_ends low high x) (by_order_test (in_order low high (first_of x) (last_of x)))
    where
      by_order_test : (b : Bool)
          → (cond {A = Marks} b (record { mask = bit_or m.mask (2 ^ (last_of x + 1) - 2 ^ first_of x); good = m.good }) (record { mask = m.mask; good = false })).good ≡ (m.good && b)
      by_order_test true = sym (and-true m.good)
      by_order_test false = sym (and-false m.good)

  module _ (inside : element_in_range low high x ≡ true) where
    ordered : in_order low high (first_of x) (last_of x) ≡ true
    ordered = sym (range_ends low high x) ∙ inside

    one_mask : (marks_of low high m x).mask ≡ bit_or m.mask (2 ^ (last_of x + 1) - 2 ^ first_of x)
    unfolding marks_with
    one_mask = rw (marks_ends low high m x, ordered) refl

    from_low : low ≤ first_of x
    from_low = leb-true low (first_of x) (both_true _ _ ordered).0

    to_high : last_of x ≤ high
    to_high = leb-true (last_of x) high (both_true _ _ (both_true (leb low (first_of x)) _ ordered).1).0

    rising : first_of x ≤ last_of x
    rising = leb-true (first_of x) (last_of x) (both_true (leb (last_of x) high) _ (both_true (leb low (first_of x)) _ ordered).1).1

    one_bit : (n : ℕ) → bit (marks_of low high m x).mask n ≡ (bit m.mask n || element_has n x)
    one_bit n =
        rw (one_mask)
        (bit_of_both m.mask _ n ∙ ap (λ (b : Bool). bit m.mask n || b) (span_bit (first_of x) (last_of x) n rising ∙ sym (has_ends n x)))

    one_below : m.mask < 2 ^ (high + 1) → (marks_of low high m x).mask < 2 ^ (high + 1)
    one_below h =
        let p : 2 ^ (last_of x + 1) ≤ 2 ^ (high + 1) =
        pow-le-pow_right {n = 2} (omega arith) {i = last_of x + 1} {j = high + 1} (omega (arith, to_high)) in
        rw one_mask (or_lt (high + 1) m.mask _ h (omega (arith, p, pow_pos (first_of x))))

    -- no number below the lowest
    not_low : (n : ℕ) → n < low → element_has n x ≡ false
    not_low n h = has_ends n x ∙ simp (lt-leb (first_of x) n (omega (arith, from_low)))

-- ---- a list of elements
module _ (low high : ℕ) where
  pub over_good : (m : Marks) (xs : List Form) → (marks_over low high m xs).good ≡ (m.good && all_of (element_in_range low high) xs)
  unfolding over_all
  over_good m [] = sym (and-true m.good)
  over_good m (x ∷ xs) =
      over_good (marks_of low high m x) xs ∙ ap (λ (b : Bool). b && all_of (element_in_range low high) xs) (one_good low high m x)
      ∙ and_assoc m.good (element_in_range low high x) (all_of (element_in_range low high) xs)

  over_bit : (m : Marks) (xs : List Form) (n : ℕ) → all_of (element_in_range low high) xs ≡ true
      → bit (marks_over low high m xs).mask n ≡ (bit m.mask n || any_of (element_has n) xs)
  unfolding over_all
  over_bit m [] n a = sym (or-false (bit m.mask n))
  over_bit m (x ∷ xs) n a =
      over_bit (marks_of low high m x) xs n (both_true (element_in_range low high x) _ a).1
      ∙ ap (λ (b : Bool). b || any_of (element_has n) xs) (one_bit low high m x (both_true (element_in_range low high x) _ a).0 n)
      ∙ or_assoc (bit m.mask n) (element_has n x) (any_of (element_has n) xs)

  over_below : (m : Marks) (xs : List Form) → all_of (element_in_range low high) xs ≡ true → m.mask < 2 ^ (high + 1)
      → (marks_over low high m xs).mask < 2 ^ (high + 1)
  unfolding over_all
  over_below m [] a h = h
  over_below m (x ∷ xs) a h =
      over_below (marks_of low high m x) xs (both_true (element_in_range low high x) _ a).1
      (one_below low high m x (both_true (element_in_range low high x) _ a).0 h)

  none_low : (xs : List Form) (n : ℕ) → all_of (element_in_range low high) xs ≡ true → n < low → any_of (element_has n) xs ≡ false
  none_low [] n a h = refl
  none_low (x ∷ xs) n a h =
      rw (not_low low high (record { mask = 0; good = true }) x (both_true (element_in_range low high x) _ a).0 n h)
      (none_low xs n (both_true (element_in_range low high x) _ a).1 h)

  -- "The mask is .." the numbers that some element has
  pub over_mask : (xs : List Form) → low ≤ high → all_of (element_in_range low high) xs ≡ true
      → (marks_over low high (record { mask = 0; good = true }) xs).mask ≡ mask_from (λ (n : ℕ). any_of (element_has n) xs) (high + 1 - low) low
  over_mask xs h a =
      let e : low + (high + 1 - low) ≡ high + 1 = omega arith in
      mask_ext (high + 1) _ _ (over_below (record { mask = 0; good = true }) xs a (pow_pos (high + 1))) (rw e at (mask_from_below (λ (n : ℕ). any_of (element_has n) xs) (high + 1 - low) low))
      (λ i l. over_bit (record { mask = 0; good = true }) xs i a ∙ ap (λ (b : Bool). b || any_of (element_has i) xs) (bit_of_zero i) ∙ sym (bit_mask_from (λ (n : ℕ). any_of (element_has n) xs) (high + 1 - low) low i ∙ same i l))
    where
      same : (i : ℕ) → i < high + 1 → (leb low i && ltb i (low + (high + 1 - low)) && any_of (element_has i) xs) ≡ any_of (element_has i) xs
      same i l =
          by_order i low (λ k. rw (lt-leb low i k, none_low xs i a k) refl)
          (λ k. rw (le-leb low i k, lt-ltb i (low + (high + 1 - low)) (omega arith)) refl)
