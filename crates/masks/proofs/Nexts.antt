-- The zeros at either end of a mask say its least and its greatest bit.
use mathlib.Core.Bool.{true, false, true≢false}
use mathlib.Core.Logic.{dite}
use mathlib.Core.Path.{◌≡◌, refl, sym, ap, ◌∙◌, subst}
use Prim.Native.Nat.{ℕ, zero, suc, ◌+◌, ◌-◌, ◌*◌, ◌/◌, ◌%◌, ◌^◌, ◌<◌, ◌≤◌}
use native.Mathlib.Decide.{dec_lt, ℕ_discrete}
use native.Mathlib.Nat.{pow-succ', div-eq_of_lt-le, div-mul-le_self, mod-eq_of_lt, mod-lt, le_of_lt, lt_of_le_of_lt, lt_of_lt_of_le, min-eq_left, min-eq_right}
use native.Mathlib.Omega.{arith}
use borrow.Author.Tests.{le-leb, lt-leb, eq-eqb}
use lib.Count.{count_trailing_zeros, count_leading_zeros, leading_length}
use lib.Pow.{pow_pos, pow_mono}
use Rattle.calendar.proofs.Leasts.{Least, Last, least_from_lem, last_from_lem, least_unique, last_unique}
use Rattle.calendar.specs.Below.{least_from, last_from}
use Rattle.masks.specs.Masks.{bit, next_bit, previous_bit}
use Rattle.masks.proofs.Bits.{bit_of_quotient, bit_of_multiple, bit_of_rest, bit_above}

half_bit : (m j : ℕ) → bit (m / 2) j ≡ bit m (suc j)
half_bit m j = let e : 1 + j ≡ suc j = omega arith in bit_of_quotient m 1 j ∙ ap (bit m) e

-- below the lowest set bit stand the trailing zeros
pub trailing_least : (k m : ℕ) → Least (bit m) 0 k (count_trailing_zeros k m)
unfolding count_trailing_zeros
trailing_least zero m =
    record { from = omega arith; to = omega arith; passes = λ h. absurd (omega arith); fails = λ j a b. absurd (omega arith) }
trailing_least (suc k) m =
    dite (ℕ_discrete (m % 2) 0)
    (λ (e : m % 2 ≡ 0).
    let r = trailing_least k (m / 2) in
    let t = count_trailing_zeros k (m / 2) in
    let low : (j : ℕ) → j < suc t → bit m j ≡ false =
    λ j h.
    dite (ℕ_discrete j 0)
    (λ (z : j ≡ 0). let d : m / 2 ^ 0 % 2 ≡ 0 = omega arith in rw (z, d) refl)
    (λ (z : j ≡ 0 → ⊥).
    let s : suc (j - 1) ≡ j = omega arith in
    ap (bit m) (sym s) ∙ sym (half_bit m (j - 1)) ∙ r.fails (j - 1) (omega arith) (omega arith)) in
    rw e
    (record {
      from = omega arith;
      to = omega (arith, r.to);
      passes = λ h. sym (half_bit m t) ∙ r.passes (omega arith);
      fails = λ j a b. low j b;
    }))
    (λ (e : m % 2 ≡ 0 → ⊥).
    let o : m % 2 ≡ 1 = omega arith in
    let d : m / 2 ^ 0 % 2 ≡ 1 = omega arith in
    rw o
    (record { from = omega arith; to = omega arith; passes = λ h. eq-eqb (m / 2 ^ 0 % 2) 1 d; fails = λ j a b. absurd (omega arith) }))

top_bit : (a l : ℕ) → 0 < l → a < 2 ^ l → 2 ^ l ≤ 2 * a + 1 → bit a (l - 1) ≡ true
top_bit a l p h g =
    let s : l ≡ suc (l - 1) = omega arith in
    let e : 2 ^ l ≡ 2 * 2 ^ (l - 1) = ap (λ (x : ℕ). 2 ^ x) s ∙ pow-succ' 2 (l - 1) in
    let q : a / 2 ^ (l - 1) ≡ 1 = div-eq_of_lt-le (2 ^ (l - 1)) (omega (arith, e)) (omega (arith, e)) in
    rw q refl

-- above the highest set bit stand the leading zeros
pub leading_last : (k a : ℕ) → a < 2 ^ k → Last (bit a) 0 k (k - count_leading_zeros k a)
leading_last k a h =
    let l = leading_length k a h in
    let e : k - count_leading_zeros k a ≡ l.0 = omega (arith, l.1) in
    rw e
    (record {
      from = omega arith;
      to = omega (arith, l.1);
      passes = λ p. top_bit a l.0 p l.2 l.3;
      fails = λ j b c. bit_above a l.0 j l.2 b;
    })

-- what the definitions say
pub next_bit_least : (m n : ℕ) → n ≤ 64 → Least (bit m) n 64 (next_bit m n)
unfolding next_bit
next_bit_least m n h =
    let e : n + (64 - n) ≡ 64 = omega arith in
    rw (le-leb n 64 h) (subst (λ (x : ℕ). Least (bit m) n x (least_from (bit m) (64 - n) n)) e (least_from_lem (bit m) (64 - n) n))

pub next_bit_past : (m n : ℕ) → 64 ≤ n → next_bit m n ≡ 64
unfolding next_bit
next_bit_past m n h =
    dite (dec_lt 64 n)
    (λ (l : 64 < n). rw (lt-leb n 64 l) refl)
    (λ (g : 64 < n → ⊥). let a = next_bit_least m n (omega arith) in omega (arith, a.from, a.to))

pub previous_bit_last : (m n : ℕ) → n ≤ 64 → Last (bit m) 0 n (previous_bit m n)
unfolding previous_bit
previous_bit_last m n h =
    let e : 0 + n ≡ n = omega arith in
    rw (min-eq_left h) (subst (λ (x : ℕ). Last (bit m) 0 x (last_from (bit m) n 0)) e (last_from_lem (bit m) n 0))

pub previous_bit_past : (m n : ℕ) → 64 ≤ n → previous_bit m n ≡ previous_bit m 64
unfolding previous_bit
previous_bit_past m n h = rw (min-eq_right h) refl

pub next_bit_at_most : (m n : ℕ) → next_bit m n ≤ 64
next_bit_at_most m n =
    dite (dec_lt n 64)
    (λ (l : n < 64). (next_bit_least m n (omega arith)).to)
    (λ (g : n < 64 → ⊥). omega (arith, next_bit_past m n (omega arith)))

pub previous_bit_at_most : (m n : ℕ) → previous_bit m n ≤ 64
previous_bit_at_most m n =
    dite (dec_lt n 64)
    (λ (l : n < 64). omega (arith, (previous_bit_last m n (omega arith)).to))
    (λ (g : n < 64 → ⊥). omega (arith, previous_bit_past m n (omega arith), (previous_bit_last m 64 (omega arith)).to))

-- a result that is least is the definition's
pub next_bit_is : (m n r : ℕ) → n ≤ 64 → Least (bit m) n 64 r → r ≡ next_bit m n
next_bit_is m n r h l = least_unique (bit m) n 64 r (next_bit m n) l (next_bit_least m n h)

pub previous_bit_is : (m n r : ℕ) → n ≤ 64 → Last (bit m) 0 n r → r ≡ previous_bit m n
previous_bit_is m n r h l = last_unique (bit m) 0 n r (previous_bit m n) l (previous_bit_last m n h)

-- the bits below n cleared
cleared : (m n j : ℕ) → n ≤ j → bit (m / 2 ^ n * 2 ^ n) j ≡ bit m j
cleared m n j h =
    let e : n + (j - n) ≡ j = omega arith in
    bit_of_multiple (m / 2 ^ n) n j ∙ (rw (le-leb n j h) (bit_of_quotient m n (j - n) ∙ ap (bit m) e))

cleared_low : (m n j : ℕ) → j < n → bit (m / 2 ^ n * 2 ^ n) j ≡ false
cleared_low m n j h = bit_of_multiple (m / 2 ^ n) n j ∙ (rw (lt-leb n j h) refl)

cleared_least : (m n r : ℕ) → n ≤ 64 → Least (bit (m / 2 ^ n * 2 ^ n)) 0 64 r → Least (bit m) n 64 r
cleared_least m n r h l =
    let from : n ≤ r =
    dite (dec_lt r n)
    (λ (a : r < n). absurd (true≢false (sym (l.passes (omega arith)) ∙ cleared_low m n r a)))
    (λ (a : r < n → ⊥). omega arith) in
    record {
      from = from;
      to = l.to;
      passes = λ p. sym (cleared m n r from) ∙ l.passes p;
      fails = λ j a b. sym (cleared m n j a) ∙ l.fails j (omega arith) b;
    }

-- what the code computes
pub next_bit_shifted : (m n : ℕ) → m < 2 ^ 64 → n < 64 → count_trailing_zeros 64 (m / 2 ^ n * 2 ^ n % 2 ^ 64) ≡ next_bit m n
next_bit_shifted m n h l =
    let x = m / 2 ^ n * 2 ^ n in
    let e : x % 2 ^ 64 ≡ x = mod-eq_of_lt (lt_of_le_of_lt (div-mul-le_self m (2 ^ n)) h) in
    ap (count_trailing_zeros 64) e
    ∙ next_bit_is m n (count_trailing_zeros 64 x) (omega arith) (cleared_least m n (count_trailing_zeros 64 x) (omega arith) (trailing_least 64 x))

cut_last : (m n r : ℕ) → n ≤ 64 → Last (bit (m % 2 ^ n)) 0 64 r → Last (bit m) 0 n r
cut_last m n r h l =
    let to : r ≤ n =
    dite (dec_lt n r)
    (λ (a : n < r).
    absurd
    (true≢false
    (sym (l.passes (omega arith)) ∙ bit_above (m % 2 ^ n) n (r - 1) (mod-lt m (pow_pos n)) (omega arith))))
    (λ (a : n < r → ⊥). omega arith) in
    record {
      from = l.from;
      to = to;
      passes = λ p. sym (bit_of_rest m n (r - 1) (omega arith)) ∙ l.passes p;
      fails = λ j a b. sym (bit_of_rest m n j b) ∙ l.fails j a (omega arith);
    }

pub previous_bit_cut : (m n : ℕ) → n < 64 → 64 - count_leading_zeros 64 (m % 2 ^ n) ≡ previous_bit m n
previous_bit_cut m n h =
    let x = m % 2 ^ n in
    let r = 64 - count_leading_zeros 64 x in
    let small : x < 2 ^ 64 = lt_of_lt_of_le (mod-lt m (pow_pos n)) (pow_mono (le_of_lt h)) in
    previous_bit_is m n r (omega arith) (cut_last m n r (omega arith) (leading_last 64 x small))

pub previous_bit_whole : (m n : ℕ) → m < 2 ^ 64 → 64 ≤ n → 64 - count_leading_zeros 64 m ≡ previous_bit m n
previous_bit_whole m n h l =
    previous_bit_is m 64 (64 - count_leading_zeros 64 m) (omega arith) (leading_last 64 m h) ∙ sym (previous_bit_past m n l)
