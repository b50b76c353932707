-- Digits one by one: where they end, and the number that they write.
use Rattle.std.specs.Prelude.{None, Some}
use mathlib.Core.Bool.{Bool, true, false, cond, ◌&&◌, ◌||◌}
use mathlib.Core.List.{List, [], ◌∷◌}
use mathlib.Core.Path.{◌≡◌, refl}
use Prim.Native.Nat.{ℕ, zero, suc, ◌+◌, ◌-◌, ◌*◌, ◌^◌, ◌<◌, ◌≤◌}
use native.Mathlib.Numerals.{add-one}
use native.Mathlib.Omega.{arith}
use borrow.Author.Tests.{eqb-true}
use lib.Dec.{eqb}
use lib.ListN.{length, get_or, drop, length-drop, drop_of_length-le, get_or-eq_default}
use lib.Seq.{drop-cons}
use Rattle.std.specs.Char.{is_ascii_digit}
use Rattle.std.specs.List.{prefix_len}
use Rattle.calendar.proofs.Every.{both_true}
use Rattle.zone.proofs.Good.{by_order}
use Rattle.sheet.specs.Form.{clock_digits}
use Rattle.sheet.specs.Words.{is_digit, decimal}
use Rattle.words.specs.Reads.{digits_in, time_bytes}

-- the digits that the library counts
pub digits_prefix : (t : List ℕ) → prefix_len is_ascii_digit t ≡ digits_in t
unfolding digits_in
digits_prefix [] = refl
digits_prefix (c ∷ cs) = by_digit (is_digit c) refl (digits_prefix cs)
  where
    by_digit : (b : Bool) → is_digit c ≡ b → prefix_len is_ascii_digit cs ≡ digits_in cs → prefix_len is_ascii_digit (c ∷ cs) ≡ digits_in (c ∷ cs)
    by_digit true e h = rw (digits_in, e, h) (omega arith)
    by_digit false e h = rw (digits_in, e) refl

digits_past : (s : List ℕ) (at : ℕ) → length s ≤ at → digits_in (drop at s) ≡ 0
unfolding digits_in
digits_past s at h = rw (drop_of_length-le s) refl

-- digits lie within the line
fit : (t : List ℕ) → digits_in t ≤ length t
unfolding digits_in
fit [] = omega arith
fit (c ∷ cs) = by_digit (is_digit c) refl (fit cs)
  where
    by_digit : (b : Bool) → is_digit c ≡ b → digits_in cs ≤ length cs → digits_in (c ∷ cs) ≤ length (c ∷ cs)
    by_digit true e h = rw (digits_in, e) (omega arith)
    by_digit false e h = rw (digits_in, e) (omega arith)

pub digits_fit : (s : List ℕ) (at : ℕ) → 0 < digits_in (drop at s) → at + digits_in (drop at s) ≤ length s
digits_fit s at h =
    by_order at (length s) (λ l. omega (arith, fit (drop at s), length-drop at s)) (λ l. absurd (omega (arith, digits_past s at l)))

-- ---- a time's bytes
pub clock_digits_lem : (n : ℕ) → clock_digits n ≡ true → (4 ≤ n) × (n ≤ 6) × (n ≡ 5 → ⊥)
unfolding clock_digits
clock_digits_lem n e = by_number (eqb n 4) (eqb n 6) refl refl e
  where
    by_number : (a b : Bool) → eqb n 4 ≡ a → eqb n 6 ≡ b → (a || b) ≡ true → (4 ≤ n) × (n ≤ 6) × (n ≡ 5 → ⊥)
    by_number true b f g h = let m = eqb-true n 4 f in (omega arith, omega arith, λ e. omega arith)
    by_number false true f g h = let m = eqb-true n 6 g in (omega arith, omega arith, λ e. omega arith)
    by_number false false f g h = let z : ◌≡◌ {A = ℕ} 0 1 = cc in absurd (omega arith)

-- what a time uses: 13 bytes or 15, within the line
pub record Used (s : List ℕ) (at used : ℕ) : Type 0 where
  pub low : 13 ≤ used
  pub high : used ≤ 15
  pub other : used ≡ 14 → ⊥
  pub inside : at + used ≤ length s

pub time_used : (s : List ℕ) (at used : ℕ) → Some used ≡ time_bytes s at → Used s at used
unfolding time_bytes
time_used s at used q = by_test (digits_in (drop (at + 9) s)) refl _ refl q
  where
    by_test : (n : ℕ) → digits_in (drop (at + 9) s) ≡ n → (b : Bool)
        → (eqb (digits_in (drop at s)) 8 && (eqb (get_or s (at + 8) 0) 84 && clock_digits n)) ≡ b → Some used ≡ cond b (Some (9 + n)) None
        → Used s at used
    by_test n g true e h =
        let u : used ≡ 9 + n = cc in
        let d = clock_digits_lem n (both_true (eqb (get_or s (at + 8) 0) 84) _ (both_true (eqb (digits_in (drop at s)) 8) _ e).1).1 in
        let f = digits_fit s (at + 9) (omega (arith, d)) in
        record { low = omega (arith, d); high = omega (arith, d); other = λ q. d.2 (omega arith); inside = omega (arith, f) }
    by_test n g false e h = let z : ◌≡◌ {A = ℕ} 0 1 = cc in absurd (omega arith)

-- a byte other than 0 stands in the line
pub byte_within : (s : List ℕ) (at b : ℕ) → 0 < b → get_or s at 0 ≡ b → at < length s
byte_within s at b h e = by_order at (length s) (λ l. l) (λ l. absurd (omega (arith, get_or-eq_default s 0 l, e)))

-- the number of some digits, of which i were passed
module _ (t : List ℕ) where
  pub next : (v i : ℕ) → i < length t → decimal v (drop i t) ≡ decimal (10 * v + (get_or t i 0 - 48)) (drop (i + 1) t)
  unfolding decimal
  next v i h = rw (drop-cons t i 0, add-one) refl

  pub last : (v i : ℕ) → length t ≤ i → decimal v (drop i t) ≡ v
  unfolding decimal
  last v i h = rw (drop_of_length-le t) refl

-- what four digits write is small, whatever the bytes
pub room : (i v x : ℕ) → i < 4 → v + 23 ≤ 23 * 10 ^ i → x ≤ 207 → 10 * v + x + 23 ≤ 23 * 10 ^ (i + 1)
room zero v x h a b = omega arith
room (suc zero) v x h a b = omega arith
room (suc (suc zero)) v x h a b = omega arith
room (suc (suc (suc zero))) v x h a b = omega arith
room (suc (suc (suc (suc i)))) v x h a b = absurd (omega arith)

pub top : (i v : ℕ) → i < 4 → v + 23 ≤ 23 * 10 ^ i → v ≤ 23000
top zero v h a = omega arith
top (suc zero) v h a = omega arith
top (suc (suc zero)) v h a = omega arith
top (suc (suc (suc zero))) v h a = omega arith
top (suc (suc (suc (suc i)))) v h a = absurd (omega arith)

-- what is known of a number as its digits are passed
pub ruleset passing = (room, top, next, last)

-- digits as the library counts them, and that they lie within the line
pub ruleset digits = (digits_prefix, digits_fit)
