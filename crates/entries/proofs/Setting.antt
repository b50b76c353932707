-- Bits set one after the other, as the mask of the numbers that were set.
use Rattle.std.specs.Prelude.{Option, None, Some}
use mathlib.Core.Bool.{Bool, false, ◌&&◌, ◌||◌, or_assoc, or-false}
use mathlib.Core.List.{List, [], ◌∷◌}
use mathlib.Core.Path.{◌≡◌, refl, sym, ap, ◌∙◌}
use Prim.Native.Nat.{ℕ, ◌+◌, ◌^◌, ◌<◌, ◌≤◌}
use native.Mathlib.Omega.{arith}
use borrow.Author.Tests.{ne_eqb, lt-ltb, le-leb, lt-leb}
use lib.Dec.{leb, ltb, eqb}
use lib.Pow.{pow_pos}
use Rattle.calendar.specs.Below.{any_of}
use Rattle.masks.proofs.Bits.{bit_of_zero}
use Rattle.masks.proofs.MaskFroms.{mask_ext, mask_from_below, bit_mask_from}
use Rattle.masks.proofs.WithBits.{with_bit_below, bit_of_with_bit}
use Rattle.masks.specs.Masks.{bit, mask_from, with_bit}
use Rattle.words.specs.Lists.{over_all}
use Rattle.zone.proofs.Good.{by_order}

-- the bit that an element sets, if it sets one
abbrev pub set_one : ℕ → Option ℕ → ℕ
set_one m None = m
set_one m (Some n) = with_bit m n

abbrev pub is_at : ℕ → Option ℕ → Bool
is_at i None = false
is_at i (Some n) = eqb i n

-- all bits that are set lie in a range
pub record Between (low high : ℕ) (o : Option ℕ) : Type 0 where
  pub between : (n : ℕ) → o ≡ Some n → (low ≤ n) × (n < high)

module _ {A : Type 0} (place : A → Option ℕ) where
  abbrev pub set_all : ℕ → List A → ℕ
  set_all = over_all (λ (m : ℕ) (x : A). set_one m (place x))

  module _ (low high : ℕ) (word : high ≤ 64) (inside : (x : A) → Between low high (place x)) where
    one_bit : (m i : ℕ) (o : Option ℕ) → Between low high o → bit (set_one m o) i ≡ (bit m i || is_at i o)
    one_bit m i None b = sym (or-false (bit m i))
    one_bit m i (Some n) b = bit_of_with_bit m n i (omega (arith, b.between n refl))

    one_below : (m : ℕ) (o : Option ℕ) → Between low high o → m < 2 ^ high → set_one m o < 2 ^ high
    one_below m None b h = h
    one_below m (Some n) b h =
        let r = b.between n refl in
        with_bit_below m n high h r.1

    set_bit : (m : ℕ) (xs : List A) (i : ℕ) → bit (set_all m xs) i ≡ (bit m i || any_of (λ x. is_at i (place x)) xs)
    unfolding over_all
    set_bit m [] i = sym (or-false (bit m i))
    set_bit m (x ∷ xs) i =
        set_bit (set_one m (place x)) xs i
        ∙ ap (λ (b : Bool). b || any_of (λ y. is_at i (place y)) xs) (one_bit m i (place x) (inside x))
        ∙ or_assoc (bit m i) (is_at i (place x)) (any_of (λ y. is_at i (place y)) xs)

    set_below : (m : ℕ) (xs : List A) → m < 2 ^ high → set_all m xs < 2 ^ high
    unfolding over_all
    set_below m [] h = h
    set_below m (x ∷ xs) h = set_below (set_one m (place x)) xs (one_below m (place x) (inside x) h)

    not_low : (i : ℕ) (o : Option ℕ) → Between low high o → i < low → is_at i o ≡ false
    not_low i None b l = refl
    not_low i (Some n) b l = ne_eqb i n (λ (e : i ≡ n). omega (arith, b.between n refl))

    none_low : (xs : List A) (i : ℕ) → i < low → any_of (λ x. is_at i (place x)) xs ≡ false
    none_low [] i l = refl
    none_low (x ∷ xs) i l = rw (not_low i (place x) (inside x) l) (none_low xs i l)

    -- what was set from nothing on
    pub set_mask : (k : ℕ) → low + k ≡ high → (xs : List A) → set_all 0 xs ≡ mask_from (λ i. any_of (λ x. is_at i (place x)) xs) k low
    set_mask k e xs =
        mask_ext high _ _ (set_below 0 xs (pow_pos high)) (rw e at (mask_from_below (λ i. any_of (λ x. is_at i (place x)) xs) k low))
        (λ i l.
        set_bit 0 xs i ∙ ap (λ (b : Bool). b || any_of (λ x. is_at i (place x)) xs) (bit_of_zero i)
        ∙ sym (bit_mask_from (λ i. any_of (λ x. is_at i (place x)) xs) k low i ∙ same i l))
      where
        same : (i : ℕ) → i < high → (leb low i && ltb i (low + k) && any_of (λ x. is_at i (place x)) xs) ≡ any_of (λ x. is_at i (place x)) xs
        same i l =
            by_order i low (λ h. rw (lt-leb low i h, none_low xs i h) refl)
            (λ h. rw (le-leb low i h, lt-ltb i (low + k) (omega arith)) refl)
