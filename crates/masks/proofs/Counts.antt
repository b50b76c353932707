-- How many bits are set: the count of the digits.
use mathlib.Core.Bool.{Bool, false, cond}
use mathlib.Core.Path.{◌≡◌, refl, sym, ap, ap₂, ◌∙◌, subst}
use Prim.Native.Nat.{ℕ, zero, suc, ◌+◌, ◌-◌, ◌/◌, ◌^◌, ◌<◌, ◌≤◌, min}
use native.Mathlib.Nat.{add-zero, pow-succ'}
use native.Mathlib.Omega.{arith}
use lib.Count.{ones, ones_step}
use lib.Pow.{shr_lt}
use Rattle.calendar.specs.Below.{count_from}
use Rattle.masks.specs.Masks.{bit, bits_from, bits_below}
use Rattle.masks.proofs.Bits.{bit_of_quotient}
use Rattle.masks.proofs.MaskFroms.{digit_at_most, digit_number}

-- tests that agree on the numbers count alike
pub count_same : (test other : ℕ → Bool) (k i : ℕ) → ((j : ℕ) → i ≤ j → j < i + k → test j ≡ other j)
    → count_from test k i ≡ count_from other k i
count_same test other zero i e = refl
count_same test other (suc k) i e =
    ap₂ (λ (b : Bool) (x : ℕ). cond b 1 0 + x) (e i (omega arith) (omega arith))
    (count_same test other k (suc i) (λ j l h. e j (omega arith) (omega arith)))

-- the numbers from n + i on, counted from i on
pub count_moved : (test : ℕ → Bool) (k n i : ℕ) → count_from test k (n + i) ≡ count_from (λ j. test (n + j)) k i
count_moved test zero n i = refl
count_moved test (suc k) n i =
    let e : suc (n + i) ≡ n + suc i = omega arith in
    ap (λ (x : ℕ). cond (test (n + i)) 1 0 + x) (ap (count_from test k) e ∙ count_moved test k n (suc i))

pub count_at_most : (test : ℕ → Bool) (k i : ℕ) → count_from test k i ≤ k
count_at_most test zero i = omega arith
count_at_most test (suc k) i = omega (arith, count_at_most test k (suc i), digit_at_most (test i))

-- counted in two parts
pub count_parts : (test : ℕ → Bool) (j k i : ℕ) → count_from test (j + k) i ≡ count_from test j i + count_from test k (i + j)
count_parts test zero k i =
    let e : 0 + k ≡ k = omega arith in
    let f : i ≡ i + 0 = omega arith in
    let g : count_from test k i ≡ 0 + count_from test k (i + 0) = ap (count_from test k) f ∙ omega arith in
    ap (λ (x : ℕ). count_from test x i) e ∙ g
count_parts test (suc j) k i =
    let e : suc j + k ≡ suc (j + k) = omega arith in
    let f : suc i + j ≡ i + suc j = omega arith in
    let g : count_from test (j + k) (suc i) ≡ count_from test j (suc i) + count_from test k (i + suc j) =
    count_parts test j k (suc i) ∙ ap (λ (x : ℕ). count_from test j (suc i) + count_from test k x) f in
    ap (λ (x : ℕ). count_from test x i) e ∙ omega (arith, g)

-- a number below 2 ^ k: the digits that are set
pub count_ones : (k m : ℕ) → m < 2 ^ k → count_from (bit m) k 0 ≡ ones m
unfolding ones
count_ones zero m h = let z : m ≡ 0 = omega arith in rw z refl
count_ones (suc k) m h =
    let a : count_from (bit m) k 1 ≡ count_from (bit (m / 2)) k 0 =
    count_moved (bit m) k 1 0 ∙ count_same (λ j. bit m (1 + j)) (bit (m / 2)) k 0 (λ j l g. sym (bit_of_quotient m 1 j)) in
    omega (arith, a, ones_step m, count_ones k (m / 2) (omega (arith, pow-succ' 2 k)), digit_number (m / 2 ^ 0))

-- what the code computes
pub bits_from_shifted : (m n : ℕ) → m < 2 ^ 64 → n < 64 → ones (m / 2 ^ n) ≡ bits_from m n
unfolding bits_from
bits_from_shifted m n h l =
    let e : 64 ≡ (64 - n) + n = omega arith in
    let f : n + 0 ≡ n = omega arith in
    sym (count_ones (64 - n) (m / 2 ^ n) (shr_lt (64 - n) n (subst (λ (x : ℕ). m < 2 ^ x) e h)))
    ∙ count_same (bit (m / 2 ^ n)) (λ j. bit m (n + j)) (64 - n) 0 (λ j a b. bit_of_quotient m n j)
    ∙ sym (count_moved (bit m) (64 - n) n 0)
    ∙ ap (count_from (bit m) (64 - n)) f

pub bits_from_past : (m n : ℕ) → 64 ≤ n → bits_from m n ≡ 0
unfolding bits_from
bits_from_past m n h = let e : 64 - n ≡ 0 = omega arith in rw e refl

-- one bit more
pub bits_below_next : (m n : ℕ) → n < 64 → bits_below m (n + 1) ≡ bits_below m n + cond (bit m n) 1 0
unfolding bits_below
bits_below_next m n h =
    let e : min (n + 1) 64 ≡ n + 1 = omega arith in
    let f : min n 64 ≡ n = omega arith in
    let z : 0 + n ≡ n = omega arith in
    let a : count_from (bit m) 1 (0 + n) ≡ cond (bit m n) 1 0 = ap (count_from (bit m) 1) z ∙ add-zero (cond (bit m n) 1 0) in
    rw (e, f) (count_parts (bit m) n 1 0 ∙ ap (λ (x : ℕ). count_from (bit m) n 0 + x) a)

-- the bits below n and those from n on
pub bits_in_two : (m n : ℕ) → n ≤ 64 → bits_from m 0 ≡ bits_below m n + bits_from m n
unfolding bits_below bits_from
bits_in_two m n h =
    let e : min n 64 ≡ n = omega arith in
    let f : 64 ≡ n + (64 - n) = omega arith in
    let z : 0 + n ≡ n = omega arith in
    rw e
    (ap (λ (x : ℕ). count_from (bit m) x 0) f ∙ count_parts (bit m) n (64 - n) 0 ∙ ap (λ (x : ℕ). count_from (bit m) n 0 + count_from (bit m) (64 - n) x) z)

-- none below 1 where bit 0 is not set
pub bits_below_one : (m : ℕ) → bit m 0 ≡ false → bits_below m 1 ≡ 0
unfolding bits_below
bits_below_one m z = rw z refl
