-- Masks joined and cut with each other; a bit that is set, and the other bits as they were.
use mathlib.Core.Bool.{Bool, true, false, cond, ◌&&◌, ◌||◌}
use mathlib.Core.Logic.{dite}
use mathlib.Core.Path.{◌≡◌, refl, ap, ◌∙◌}
use Prim.Native.Nat.{ℕ, suc, ◌+◌, ◌-◌, ◌*◌, ◌/◌, ◌%◌, ◌^◌, ◌<◌, ◌≤◌, min, max}
use native.Mathlib.Decide.{dec_lt}
use native.Mathlib.Nat.{zero-mul, one-mul}
use native.Mathlib.Omega.{arith}
use borrow.Author.Tests.{lt-ltb, le-ltb, eqb-true, eqb-false}
use lib.Bits.{bit_and, bit_or, and_shr, and_step, or_shr, or_step, or_add_and, or_lt, and_high}
use lib.Dec.{eqb}
use lib.Pow.{pow-add, pow-lt}
use Rattle.calendar.proofs.Every.{decided}
use Rattle.masks.specs.Masks.{bit, mask_from, with_bit}
use Rattle.masks.proofs.Bits.{bit_of_power}
use Rattle.masks.proofs.MaskFroms.{mask_from_last, bit_above_mask}

either_digit : (p q : ℕ) → p < 2 → q < 2 → eqb (max p q) 1 ≡ (eqb p 1 || eqb q 1)
either_digit p q hp hq =
    decided (eqb p 1)
    (λ (t : eqb p 1 ≡ true). let e : max p q ≡ 1 = omega (arith, eqb-true p 1 t) in rw (t, e) refl)
    (λ (f : eqb p 1 ≡ false).
    let g : p ≡ 1 → ⊥ = eqb-false p 1 f in
    let e : max p q ≡ q = omega arith in
    rw (f, e) refl)

-- the bits of two masks together
pub bit_of_both : (a b i : ℕ) → bit (bit_or a b) i ≡ (bit a i || bit b i)
bit_of_both a b i =
    let x = a / 2 ^ i in
    let y = b / 2 ^ i in
    let e : bit_or x y % 2 ≡ max (x % 2) (y % 2) = omega (arith, or_step x y) in
    ap (λ (z : ℕ). eqb (z % 2) 1) (or_shr a b i)
    ∙ ap (λ (z : ℕ). eqb z 1) e
    ∙ either_digit (x % 2) (y % 2) (omega arith) (omega arith)

both_digits : (p q : ℕ) → p < 2 → q < 2 → eqb (min p q) 1 ≡ (eqb p 1 && eqb q 1)
both_digits p q hp hq =
    decided (eqb p 1)
    (λ (t : eqb p 1 ≡ true). let e : min p q ≡ q = omega (arith, eqb-true p 1 t) in rw (t, e) refl)
    (λ (f : eqb p 1 ≡ false).
    let g : p ≡ 1 → ⊥ = eqb-false p 1 f in
    let e : min p q ≡ 0 = omega arith in
    rw (f, e) refl)

-- the bits that two masks share
pub bit_of_shared : (a b i : ℕ) → bit (bit_and a b) i ≡ (bit a i && bit b i)
bit_of_shared a b i =
    let x = a / 2 ^ i in
    let y = b / 2 ^ i in
    let e : bit_and x y % 2 ≡ min (x % 2) (y % 2) = omega (arith, and_step x y) in
    ap (λ (z : ℕ). eqb (z % 2) 1) (and_shr a b i)
    ∙ ap (λ (z : ℕ). eqb z 1) e
    ∙ both_digits (x % 2) (y % 2) (omega arith) (omega arith)

and_power : (m n : ℕ) → bit_and m (2 ^ n) ≡ m / 2 ^ n % 2 * 2 ^ n
and_power m n = let p : 2 ^ n ≡ 2 ^ (1 + n) - 2 ^ n = rw (pow-add 2 1 n) (omega arith) in ap (bit_and m) p ∙ and_high m 1 n

-- the definition adds the power, the code sets it
pub with_bit_or : (m n : ℕ) → n < 64 → with_bit m n ≡ bit_or m (2 ^ n)
unfolding with_bit
with_bit_or m n h =
    decided (bit m n)
    (λ (t : bit m n ≡ true).
    let e : bit_and m (2 ^ n) ≡ 2 ^ n =
    and_power m n ∙ ap (λ (x : ℕ). x * 2 ^ n) (eqb-true (m / 2 ^ n % 2) 1 t) ∙ one-mul (2 ^ n) in
    rw (lt-ltb n 64 h, t) (omega (arith, or_add_and m (2 ^ n), e)))
    (λ (f : bit m n ≡ false).
    let g : m / 2 ^ n % 2 ≡ 1 → ⊥ = eqb-false (m / 2 ^ n % 2) 1 f in
    let z : m / 2 ^ n % 2 ≡ 0 = omega arith in
    let e : bit_and m (2 ^ n) ≡ 0 = and_power m n ∙ ap (λ (x : ℕ). x * 2 ^ n) z ∙ zero-mul (2 ^ n) in
    rw (lt-ltb n 64 h, f) (omega (arith, or_add_and m (2 ^ n), e)))

pub with_bit_past : (m n : ℕ) → 64 ≤ n → with_bit m n ≡ m
unfolding with_bit
with_bit_past m n h = rw (le-ltb n 64 h) refl

-- every bit after bit n was set
pub bit_of_with_bit : (m n i : ℕ) → n < 64 → bit (with_bit m n) i ≡ (bit m i || eqb i n)
bit_of_with_bit m n i h =
    ap (λ (x : ℕ). bit x i) (with_bit_or m n h) ∙ bit_of_both m (2 ^ n) i ∙ ap (λ (b : Bool). bit m i || b) (bit_of_power n i)

-- the mask stays within its width
pub with_bit_below : (m n k : ℕ) → m < 2 ^ k → n < k → with_bit m n < 2 ^ k
with_bit_below m n k h l =
    dite (dec_lt n 64)
    (λ (a : n < 64). rw (with_bit_or m n a) (or_lt k m (2 ^ n) h (pow-lt l)))
    (λ (g : n < 64 → ⊥). rw (with_bit_past m n (omega arith)) h)

-- a mask built upwards, bit after bit
pub mask_from_with_last : (test : ℕ → Bool) (k n : ℕ) → n + k < 64
    → mask_from test (suc k) n ≡ cond (test (n + k)) (with_bit (mask_from test k n) (n + k)) (mask_from test k n)
unfolding with_bit
mask_from_with_last test k n h =
    mask_from_last test k n
    ∙ decided (test (n + k))
    (λ (t : test (n + k) ≡ true).
    rw (t, bit_above_mask test k n (n + k) (omega arith), lt-ltb (n + k) 64 h) refl)
    (λ (f : test (n + k) ≡ false). rw f (omega arith))
