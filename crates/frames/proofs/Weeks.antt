-- The weekdays of a month as a mask: a week's mask turned to the first day, and repeated.
use mathlib.Core.Bool.{Bool}
use mathlib.Core.Path.{◌≡◌, sym, ap, ◌∙◌}
use Prim.Native.Nat.{ℕ, ◌+◌, ◌-◌, ◌*◌, ◌/◌, ◌%◌, ◌^◌, ◌<◌, ◌≤◌}
use native.Mathlib.Omega.{arith}
use lib.Dec.{T, eqb, eqb→eq}
use Rattle.calendar.proofs.Every.{every}
use Rattle.calendar.specs.Below.{every_below}
use Rattle.masks.proofs.Bits.{bit_of_quotient, bit_of_rest}
use Rattle.masks.specs.Masks.{bit}

-- seven bits of a number
digit_bit : (y t s j : ℕ) → y / 2 ^ s % 128 ≡ t → j < 7 → bit y (s + j) ≡ bit t j
digit_bit y t s j e h = sym (bit_of_quotient y s j) ∙ sym (bit_of_rest (y / 2 ^ s) 7 j h) ∙ ap (λ (x : ℕ). bit x j) e

-- a week written twice, and five times from bit 1 on
two_weeks : ℕ → ℕ → Bool
two_weeks s w = eqb (w * 129 / 2 ^ (7 * s) % 128) w

five_weeks : ℕ → ℕ → Bool
five_weeks s w = eqb (w * 541098242 / 2 ^ (7 * s + 1) % 128) w

all_two : T (every_below (λ s. every_below (two_weeks s) 128) 2)
unfolding two_weeks
all_two = tt

all_five : T (every_below (λ s. every_below (five_weeks s) 128) 5)
unfolding five_weeks
all_five = tt

twice : (w i : ℕ) → w < 128 → i < 14 → bit (w * 129) i ≡ bit w (i % 7)
unfolding two_weeks
twice w i h l =
    let e : w * 129 / 2 ^ (7 * (i / 7)) % 128 ≡ w =
    eqb→eq _ _ (every (two_weeks (i / 7)) 128 (every (λ s. every_below (two_weeks s) 128) 2 all_two (i / 7) (omega arith)) w h) in
    let f : 7 * (i / 7) + i % 7 ≡ i = omega arith in
    ap (bit (w * 129)) (sym f) ∙ digit_bit (w * 129) w (7 * (i / 7)) (i % 7) e (omega arith)

five : (t n : ℕ) → t < 128 → 1 ≤ n → n ≤ 31 → bit (t * 541098242) n ≡ bit t ((n - 1) % 7)
unfolding five_weeks
five t n h l u =
    let s : ℕ = (n - 1) / 7 in
    let e : t * 541098242 / 2 ^ (7 * ((n - 1) / 7) + 1) % 128 ≡ t =
    eqb→eq _ _ (every (five_weeks s) 128 (every (λ s. every_below (five_weeks s) 128) 5 all_five s (omega arith)) t h) in
    let f : 7 * ((n - 1) / 7) + 1 + (n - 1) % 7 ≡ n = omega arith in
    ap (bit (t * 541098242)) (sym f) ∙ digit_bit (t * 541098242) t (7 * ((n - 1) / 7) + 1) ((n - 1) % 7) e (omega arith)

-- the mask turned to its day number `first`, and written over a month
pub week_bit : (weekdays first n : ℕ) → first < 7 → 1 ≤ n → n ≤ 31
    → bit (weekdays % 128 * 129 / 2 ^ first % 128 * 541098242) n ≡ bit weekdays ((first + (n - 1)) % 7)
week_bit weekdays first n l a b =
    let w : ℕ = weekdays % 128 in
    let t : ℕ = w * 129 / 2 ^ first % 128 in
    let j : ℕ = (n - 1) % 7 in
    let e : (first + j) % 7 ≡ (first + (n - 1)) % 7 = omega arith in
    five t n (omega arith) a b
    ∙ bit_of_rest (w * 129 / 2 ^ first) 7 j (omega arith)
    ∙ bit_of_quotient (w * 129) first j
    ∙ twice w (first + j) (omega arith) (omega arith)
    ∙ ap (bit w) e
    ∙ bit_of_rest weekdays 7 ((first + (n - 1)) % 7) (omega arith)
