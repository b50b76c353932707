-- The fewest digits that hold a number are its decimal digits.
use mathlib.Core.Path.{◌≡◌, refl, sym, ap, subst, ◌∙◌}
use Prim.Native.Nat.{ℕ, zero, suc, ◌+◌, ◌-◌, ◌/◌, ◌%◌, ◌^◌, ◌≤◌, ◌<◌}
use native.Mathlib.Nat.{pow-suc, mod-eq_of_lt, le-div_iff_mul-le, div-lt_iff_lt-mul, mod-lt, pow-le-pow_right, lt_of_not-le, not-le_of_lt, le_trans}
use native.Mathlib.Omega.{arith}
use borrow.Author.Tests.{lt-ltb, le-ltb}
use lib.Dec.{lit<, lit≤}
use Rattle.io.specs.Digits.{last_digits, hex_digit_ascii, IsDigitCount}
use Rattle.commission.specs.Answer.{decimal_within, decimal}
use Rattle.lines.specs.Bytes.{byte}

-- a decimal digit
figure : (d : ℕ) → d < 10 → hex_digit_ascii d ≡ byte "0" + d
figure d h = rw (lt-ltb d 10 h) refl

-- at least as much as the power of ten that the digits behind the first make
at_least : (k : ℕ) → suc k ≤ 10 ^ k
at_least zero = lit≤ tt
at_least (suc k) = omega (arith, at_least k, pow-suc 10 k)

one_less : (k : ℕ) → suc k - 1 ≡ k
one_less k = omega arith

-- more than one digit
low : (k n : ℕ) → IsDigitCount 10 1 n (suc (suc k)) → 10 ^ suc k ≤ n
low k n h = subst (λ (x : ℕ). 10 ^ x ≤ n) (one_less (suc k)) (h.2 (omega arith))

-- one digit less of a tenth
tenth : (k n : ℕ) → IsDigitCount 10 1 n (suc (suc k)) → IsDigitCount 10 1 (n / 10) (suc k)
tenth k n h = (
  omega arith,
  (div-lt_iff_lt-mul (lit< tt)).1 (subst (λ (x : ℕ). n < x) (pow-suc 10 (suc k)) h.1),
  λ _. (le-div_iff_mul-le (lit< tt)).1 (subst (λ (x : ℕ). x ≤ n) (ap (λ (x : ℕ). 10 ^ suc x) (sym (one_less k)) ∙ pow-suc 10 (suc k - 1)) (low k n h)),
)

pub spelled : (k f n : ℕ) → k ≤ f → IsDigitCount 10 1 n k → last_digits 10 k n ≡ decimal_within f n
unfolding decimal_within
spelled zero f n room h = absurd (omega (arith, h.0))
spelled (suc k) zero n room h = absurd (omega (arith, room))
spelled (suc zero) (suc f) n room h =
    let small : n < 10 = h.1 in
    rw (lt-ltb n 10 small, mod-eq_of_lt small, figure n small) refl
spelled (suc (suc k)) (suc f) n room h =
    let large : 10 ≤ n = omega (arith, low k n h, pow-suc 10 k, at_least k) in
    rw (le-ltb n 10 large, figure (n % 10) (mod-lt n (lit< tt)), spelled (suc k) f (n / 10) (omega (arith, room)) (tenth k n h)) refl

pub decimal_digits : (k n : ℕ) → IsDigitCount 10 1 n k → last_digits 10 k n ≡ decimal n
unfolding decimal
decimal_digits zero n h = absurd (omega (arith, h.0))
decimal_digits (suc zero) n h = spelled 1 (suc n) n (omega arith) h
decimal_digits (suc (suc k)) n h =
    spelled (suc (suc k)) (suc n) n (omega (arith, low k n h, at_least (suc k))) h

-- a number of 64 bits has at most 20 digits
pub twenty : (k n : ℕ) → n < 2 ^ 64 → IsDigitCount 10 1 n k → k ≤ 20
twenty k n h f =
    let small : k < 21 =
    lt_of_not-le
    (λ (g : 21 ≤ k).
    let many : 10 ^ 20 ≤ 10 ^ (k - 1) = pow-le-pow_right {n = 10} (lit< tt) {i = 20} {j = k - 1} (omega (arith, g)) in
    let most : 2 ^ 64 ≤ 10 ^ 20 = lit≤ tt in
    not-le_of_lt h (le_trans most (le_trans many (f.2 (omega (arith, g)))))) in
    omega (arith, small)
