-- Bits of a part of a mask, of a shifted one, of a power of two, and of a high and a low part put together.
use mathlib.Core.Bool.{false, ◌&&◌}
use mathlib.Core.Logic.{dite}
use mathlib.Core.Path.{◌≡◌, refl, sym, ap, ◌∙◌}
use Prim.Native.Nat.{ℕ, suc, ◌+◌, ◌-◌, ◌*◌, ◌/◌, ◌%◌, ◌^◌, ◌<◌, ◌≤◌}
use native.Mathlib.Decide.{dec_lt}
use native.Mathlib.Nat.{div-eq_of_lt, one-mul, lt_of_lt_of_le, zero-div}
use native.Mathlib.Omega.{arith}
use borrow.Author.Tests.{le-leb, lt-leb, eq-eqb, ne_eqb}
use lib.Dec.{leb, eqb}
use lib.Pow.{pow_mono, pow_pos, shl_exact, shr-shr, high, low, field, mod-mod-pow}
use Rattle.masks.specs.Masks.{bit}

-- what a shift by n < 64 makes of 1
pub one_shifted : (n : ℕ) → n < 64 → 1 * 2 ^ n % 2 ^ 64 ≡ 2 ^ n
one_shifted n h = shl_exact {a = 1} 1 n 64 (omega arith) (omega arith) ∙ one-mul (2 ^ n)

pub bit_of_zero : (n : ℕ) → bit 0 n ≡ false
bit_of_zero n = rw (zero-div (2 ^ n)) refl

-- a number below 2 ^ n has no bit from n on
pub bit_above : (m n i : ℕ) → m < 2 ^ n → n ≤ i → bit m i ≡ false
bit_above m n i h l = rw (div-eq_of_lt (lt_of_lt_of_le h (pow_mono l))) refl

-- shifted down
pub bit_of_quotient : (m k i : ℕ) → bit (m / 2 ^ k) i ≡ bit m (k + i)
bit_of_quotient m k i = ap (λ (x : ℕ). eqb (x % 2) 1) (shr-shr m k i)

same_digit : (m i d : ℕ) → bit (m % 2 ^ (suc d + i)) i ≡ bit m i
same_digit m i d =
    let e : suc d ≡ d + 1 = omega arith in
    ap (λ (x : ℕ). eqb (x % 2) 1) (field m (suc d) i ∙ ap (λ (x : ℕ). m / 2 ^ i % 2 ^ x) e)
    ∙ ap (λ (x : ℕ). eqb x 1) (mod-mod-pow (m / 2 ^ i) d 1)

-- the low part: its bits below k
pub bit_of_rest : (m k i : ℕ) → i < k → bit (m % 2 ^ k) i ≡ bit m i
bit_of_rest m k i h = let e : k ≡ suc (k - i - 1) + i = omega arith in ap (λ (x : ℕ). bit (m % 2 ^ x) i) e ∙ same_digit m i (k - i - 1)

-- a high part above k low digits
pub bit_high : (a k r i : ℕ) → r < 2 ^ k → k ≤ i → bit (a * 2 ^ k + r) i ≡ bit a (i - k)
bit_high a k r i h l =
    let e : i ≡ k + (i - k) = omega arith in
    ap (bit (a * 2 ^ k + r)) e ∙ sym (bit_of_quotient (a * 2 ^ k + r) k (i - k)) ∙ ap (λ (x : ℕ). bit x (i - k)) (high a k h)

pub bit_low : (a k r i : ℕ) → r < 2 ^ k → i < k → bit (a * 2 ^ k + r) i ≡ bit r i
bit_low a k r i h l = sym (bit_of_rest (a * 2 ^ k + r) k i l) ∙ ap (λ (x : ℕ). bit x i) (low a k h)

-- shifted up
pub bit_of_multiple : (m k i : ℕ) → bit (m * 2 ^ k) i ≡ (leb k i && bit m (i - k))
bit_of_multiple m k i =
    let e : m * 2 ^ k ≡ m * 2 ^ k + 0 = omega arith in
    dite (dec_lt i k)
    (λ (l : i < k). ap (λ (x : ℕ). bit x i) e ∙ bit_low m k 0 i (pow_pos k) l ∙ bit_of_zero i ∙ (rw (lt-leb k i l) refl))
    (λ (g : i < k → ⊥).
    let l : k ≤ i = omega arith in
    ap (λ (x : ℕ). bit x i) e ∙ bit_high m k 0 i (pow_pos k) l ∙ (rw (le-leb k i l) refl))

-- a power of two has one bit
pub bit_of_power : (n i : ℕ) → bit (2 ^ n) i ≡ eqb i n
bit_of_power n i =
    dite (dec_lt i n)
    (λ (l : i < n). start ∙ (rw (lt-leb n i l, ne_eqb i n (omega arith)) refl))
    (λ (g : i < n → ⊥).
    dite (dec_lt n i)
    (λ (l : n < i). start ∙ (rw (le-leb n i (omega arith), ne_eqb i n (omega arith)) (bit_above 1 1 (i - n) (omega arith) (omega arith))))
    (λ (f : n < i → ⊥).
    let e : i ≡ n = omega arith in
    let z : i - n ≡ 0 = omega arith in
    start ∙ (rw (le-leb n i (omega arith), eq-eqb i n e, z) refl)))
  where
    start : bit (2 ^ n) i ≡ (leb n i && bit 1 (i - n))
    start = ap (λ (x : ℕ). bit x i) (sym (one-mul (2 ^ n))) ∙ bit_of_multiple 1 n i
