-- Masks pass the load check: those of a test on the numbers low to high, and a power of two among them.
use mathlib.Core.Bool.{Bool, true, false}
use mathlib.Core.Path.{◌≡◌, refl, sym, ap, subst, ◌∙◌}
use Prim.Native.Nat.{ℕ, ◌+◌, ◌-◌, ◌%◌, ◌^◌, ◌<◌, ◌≤◌, ◌∣◌}
use native.Mathlib.Nat.{dvd-mul_left, mod-eq-zero_of_dvd}
use native.Mathlib.Omega.{arith}
use borrow.Author.Tests.{lt-ltb, eq-eqb, eqb-false}
use lib.Dec.{ltb, eqb}
use lib.Pow.{pow-add, pow-lt}
use Rattle.calendar.proofs.Every.{both}
use Rattle.framed.proofs.Ends.{bit_not_zero}
use Rattle.masks.proofs.MaskFroms.{bit_in_mask, mask_from_below, mask_from_divided}
use Rattle.masks.specs.Masks.{mask_from}
use Rattle.plan.specs.Taken.{only_bits, mask_good}

pub not_zero : (m : ℕ) → eqb m 0 ≡ false → ltb 0 m ≡ true
not_zero m f = let n : m ≡ 0 → ⊥ = eqb-false m 0 f in lt-ltb 0 m (omega arith)

module _ (low high : ℕ) where
  only : (m : ℕ) → 2 ^ low ∣ m → m < 2 ^ (high + 1) → only_bits low high m ≡ true
  only m d b = both (eq-eqb (m % 2 ^ low) 0 (mod-eq-zero_of_dvd (2 ^ low) d)) (lt-ltb m (2 ^ (high + 1)) b)

  pub power_only : (n : ℕ) → low ≤ n → n ≤ high → only_bits low high (2 ^ n) ≡ true
  power_only n l h =
      let e : n - low + low ≡ n = omega arith in
      only (2 ^ n)
      (subst (λ (x : ℕ). 2 ^ low ∣ x) (sym (pow-add 2 (n - low) low) ∙ ap (λ (x : ℕ). 2 ^ x) e) (dvd-mul_left (2 ^ low) (2 ^ (n - low))))
      (pow-lt (omega arith))

  -- the k numbers from low on end with high
  module _ (test : ℕ → Bool) (k : ℕ) (e : low + k ≡ high + 1) where
    pub mask_only : only_bits low high (mask_from test k low) ≡ true
    mask_only = only (mask_from test k low) (mask_from_divided test k low) (rw e at (mask_from_below test k low))

    pub mask_good_lem : (n : ℕ) → low ≤ n → n ≤ high → test n ≡ true → mask_good low high (mask_from test k low) ≡ true
    mask_good_lem n l h t =
        let m : ℕ = mask_from test k low in
        both (not_zero m (bit_not_zero (λ x. x) refl m n (bit_in_mask test k low n l (omega arith) ∙ t))) mask_only
