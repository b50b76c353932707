-- The mask of a test: its bits, its size, and that a mask is the mask of its own bits.
use mathlib.Core.Bool.{Bool, true, false, cond, ◌&&◌}
use mathlib.Core.Logic.{dite}
use mathlib.Core.Path.{◌≡◌, refl, sym, ap, ap₂, ◌∙◌}
use Prim.Native.Nat.{ℕ, zero, suc, ◌+◌, ◌-◌, ◌*◌, ◌/◌, ◌%◌, ◌^◌, ◌<◌, ◌≤◌, ◌∣◌}
use native.Mathlib.Decide.{dec_lt}
use native.Mathlib.Nat.{add-mul, mod-one, pow-succ', mul_assoc, mul-one, one-mul, zero-mul, mod-eq_of_lt, dvd-mul_left}
use native.Mathlib.Omega.{arith}
use borrow.Author.Tests.{lt-ltb, le-ltb, le-leb, lt-leb, eqb-true, eqb-false}
use lib.Dec.{leb, ltb, eqb}
use lib.Pow.{mod-pow-add, shr-shr, shl_lt}
use Rattle.calendar.proofs.Every.{decided}
use Rattle.masks.specs.Masks.{bit, mask_from}
use Rattle.masks.proofs.Bits.{bit_of_quotient, bit_of_multiple, bit_above}

-- tests that agree on the numbers have the same mask
pub mask_from_same : (test other : ℕ → Bool) (k n : ℕ) → ((i : ℕ) → n ≤ i → i < n + k → test i ≡ other i)
    → mask_from test k n ≡ mask_from other k n
unfolding mask_from
mask_from_same test other zero n e = refl
mask_from_same test other (suc k) n e =
    ap₂ (λ (b : Bool) (x : ℕ). cond b (2 ^ n) 0 + x) (e n (omega arith) (omega arith))
    (mask_from_same test other k (suc n) (λ i l h. e i (omega arith) (omega arith)))

-- the digits of a mask from 0 on
digits_from : (ℕ → Bool) → ℕ → ℕ → ℕ
digits_from test zero n = 0
digits_from test (suc k) n = cond (test n) 1 0 + 2 * digits_from test k (suc n)

digit_set : (b : Bool) (p x : ℕ) → cond b p 0 + x * (2 * p) ≡ (cond b 1 0 + 2 * x) * p
digit_set b p x =
    let e : x * (2 * p) ≡ 2 * x * p = sym (mul_assoc x 2 p) ∙ ap (λ (y : ℕ). y * p) (omega arith) in
    ap₂ ◌+◌ (set b) e ∙ sym (add-mul (cond b 1 0) (2 * x) p)
  where
    set : (c : Bool) → cond c p 0 ≡ cond c 1 0 * p
    set true = sym (one-mul p)
    set false = sym (zero-mul p)

mask_digits : (test : ℕ → Bool) (k n : ℕ) → mask_from test k n ≡ digits_from test k n * 2 ^ n
unfolding mask_from digits_from
mask_digits test zero n = sym (zero-mul (2 ^ n))
mask_digits test (suc k) n =
    ap (λ (x : ℕ). cond (test n) (2 ^ n) 0 + x) (mask_digits test k (suc n) ∙ ap (λ (x : ℕ). digits_from test k (suc n) * x) (pow-succ' 2 n))
    ∙ digit_set (test n) (2 ^ n) (digits_from test k (suc n))

pub digit_at_most : (b : Bool) → cond b 1 0 ≤ 1
digit_at_most true = omega arith
digit_at_most false = omega arith

digits_below : (test : ℕ → Bool) (k n : ℕ) → digits_from test k n < 2 ^ k
unfolding digits_from
digits_below test zero n = omega arith
digits_below test (suc k) n = omega (arith, digits_below test k (suc n), pow-succ' 2 k, digit_at_most (test n))

-- a mask of the k numbers from n on is below 2 ^ (n + k)
pub mask_from_below : (test : ℕ → Bool) (k n : ℕ) → mask_from test k n < 2 ^ (n + k)
mask_from_below test k n =
    let e : n + k ≡ k + n = omega arith in
    rw (e, mask_digits test k n) (shl_lt k n (digits_below test k n))

-- and a multiple of 2 ^ n
pub mask_from_divided : (test : ℕ → Bool) (k n : ℕ) → 2 ^ n ∣ mask_from test k n
mask_from_divided test k n = rw (mask_digits test k n) (dvd-mul_left (2 ^ n) (digits_from test k n))

first_digit : (b : Bool) (x : ℕ) → bit (cond b 1 0 + 2 * x) 0 ≡ b
first_digit true x = let e : (1 + 2 * x) / 2 ^ 0 % 2 ≡ 1 = omega arith in rw e refl
first_digit false x = let e : (0 + 2 * x) / 2 ^ 0 % 2 ≡ 0 = omega arith in rw e refl

next_digit : (b : Bool) (x j : ℕ) → bit (cond b 1 0 + 2 * x) (suc j) ≡ bit x j
next_digit b x j =
    let e : suc j ≡ 1 + j = omega arith in
    let h : (cond b 1 0 + 2 * x) / 2 ^ 1 ≡ x = omega (arith, digit_at_most b) in
    ap (bit (cond b 1 0 + 2 * x)) e ∙ sym (bit_of_quotient (cond b 1 0 + 2 * x) 1 j) ∙ ap (λ (y : ℕ). bit y j) h

bit_digits : (test : ℕ → Bool) (k n j : ℕ) → j < k → bit (digits_from test k n) j ≡ test (n + j)
unfolding digits_from
bit_digits test zero n j h = absurd (omega arith)
bit_digits test (suc k) n zero h =
    let e : n ≡ n + 0 = omega arith in first_digit (test n) (digits_from test k (suc n)) ∙ ap test e
bit_digits test (suc k) n (suc j) h =
    let e : suc n + j ≡ n + suc j = omega arith in
    next_digit (test n) (digits_from test k (suc n)) j ∙ bit_digits test k (suc n) j (omega arith) ∙ ap test e

-- bit i is the test's answer on the numbers
pub bit_in_mask : (test : ℕ → Bool) (k n i : ℕ) → n ≤ i → i < n + k → bit (mask_from test k n) i ≡ test i
bit_in_mask test k n i l h =
    let e : n + (i - n) ≡ i = omega arith in
    ap (λ (x : ℕ). bit x i) (mask_digits test k n)
    ∙ bit_of_multiple (digits_from test k n) n i
    ∙ (rw (le-leb n i l) (bit_digits test k n (i - n) (omega arith) ∙ ap test e))

pub bit_below_mask : (test : ℕ → Bool) (k n i : ℕ) → i < n → bit (mask_from test k n) i ≡ false
bit_below_mask test k n i h =
    ap (λ (x : ℕ). bit x i) (mask_digits test k n) ∙ bit_of_multiple (digits_from test k n) n i ∙ (rw (lt-leb n i h) refl)

pub bit_above_mask : (test : ℕ → Bool) (k n i : ℕ) → n + k ≤ i → bit (mask_from test k n) i ≡ false
bit_above_mask test k n i h = bit_above (mask_from test k n) (n + k) i (mask_from_below test k n) h

pub bit_mask_from : (test : ℕ → Bool) (k n i : ℕ) → bit (mask_from test k n) i ≡ (leb n i && ltb i (n + k) && test i)
bit_mask_from test k n i =
    dite (dec_lt i n)
    (λ (l : i < n). bit_below_mask test k n i l ∙ (rw (lt-leb n i l) refl))
    (λ (g : i < n → ⊥).
    let a : n ≤ i = omega arith in
    dite (dec_lt i (n + k))
    (λ (l : i < n + k). bit_in_mask test k n i a l ∙ (rw (le-leb n i a, lt-ltb i (n + k) l) refl))
    (λ (f : i < n + k → ⊥).
    let b : n + k ≤ i = omega arith in
    bit_above_mask test k n i b ∙ (rw (le-leb n i a, le-ltb i (n + k) b) refl)))

-- the digit of a bit
pub digit_number : (x : ℕ) → cond (eqb (x % 2) 1) 1 0 ≡ x % 2
digit_number x =
    decided (eqb (x % 2) 1)
    (λ (t : eqb (x % 2) 1 ≡ true). rw t (sym (eqb-true (x % 2) 1 t)))
    (λ (f : eqb (x % 2) 1 ≡ false). let g : x % 2 ≡ 1 → ⊥ = eqb-false (x % 2) 1 f in rw f (omega arith))

digits_own : (m k n : ℕ) → digits_from (bit m) k n ≡ m / 2 ^ n % 2 ^ k
unfolding digits_from
digits_own m zero n = sym (mod-one (m / 2 ^ n))
digits_own m (suc k) n =
    let e : n + 1 ≡ suc n = omega arith in
    let f : suc k ≡ k + 1 = omega arith in
    let a : m / 2 ^ n % 2 ^ suc k ≡ m / 2 ^ suc n % 2 ^ k * 2 + m / 2 ^ n % 2 =
    ap (λ (x : ℕ). m / 2 ^ n % 2 ^ x) f
    ∙ mod-pow-add (m / 2 ^ n) k 1
    ∙ ap (λ (x : ℕ). x % 2 ^ k * 2 + m / 2 ^ n % 2) (shr-shr m n 1 ∙ ap (λ (x : ℕ). m / 2 ^ x) e) in
    omega (arith, a, digits_own m k (suc n), digit_number (m / 2 ^ n))

-- the mask of the k bits of m from n on
pub mask_of_own_bits : (m k n : ℕ) → mask_from (bit m) k n ≡ m / 2 ^ n % 2 ^ k * 2 ^ n
mask_of_own_bits m k n = mask_digits (bit m) k n ∙ ap (λ (x : ℕ). x * 2 ^ n) (digits_own m k n)

-- a mask below 2 ^ k is the mask of its own bits
pub own_mask : (m k : ℕ) → m < 2 ^ k → mask_from (bit m) k 0 ≡ m
own_mask m k h =
    let e : m / 2 ^ 0 ≡ m = omega arith in
    mask_of_own_bits m k 0 ∙ mul-one (m / 2 ^ 0 % 2 ^ k) ∙ ap (λ (x : ℕ). x % 2 ^ k) e ∙ mod-eq_of_lt h

-- two masks with the same bits are equal
pub mask_ext : (k a b : ℕ) → a < 2 ^ k → b < 2 ^ k → ((i : ℕ) → i < k → bit a i ≡ bit b i) → a ≡ b
mask_ext k a b ha hb e = sym (own_mask a k ha) ∙ mask_from_same (bit a) (bit b) k 0 (λ i l h. e i (omega arith)) ∙ own_mask b k hb

-- the mask is 0 exactly if no number passes
pub mask_none : (test : ℕ → Bool) (k n : ℕ) → ((i : ℕ) → n ≤ i → i < n + k → test i ≡ false) → mask_from test k n ≡ 0
unfolding mask_from
mask_none test zero n none = refl
mask_none test (suc k) n none =
    rw (none n (omega arith) (omega arith))
    (omega (arith, mask_none test k (suc n) (λ i l h. none i (omega arith) (omega arith))))

-- a mask built upwards: one number more at its end
pub mask_from_last : (test : ℕ → Bool) (k n : ℕ) → mask_from test (suc k) n ≡ mask_from test k n + cond (test (n + k)) (2 ^ (n + k)) 0
unfolding mask_from
mask_from_last test zero n = let e : n ≡ n + 0 = omega arith in ap (λ (x : ℕ). cond (test x) (2 ^ x) 0 + 0) e ∙ (omega arith)
mask_from_last test (suc k) n =
    let e : suc n + k ≡ n + suc k = omega arith in
    let a : mask_from test (suc k) (suc n) ≡ mask_from test k (suc n) + cond (test (n + suc k)) (2 ^ (n + suc k)) 0 =
    mask_from_last test k (suc n) ∙ ap (λ (x : ℕ). mask_from test k (suc n) + cond (test x) (2 ^ x) 0) e in
    omega (arith, a)
