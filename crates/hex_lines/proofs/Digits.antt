-- One digit: what a byte is to a reader, and that a digit's value and its byte belong to each other.
use mathlib.Core.Logic.{dite}
use mathlib.Core.Path.{◌≡◌}
use Prim.Native.Nat.{ℕ, ◌+◌, ◌-◌, ◌/◌, ◌%◌, ◌<◌, ◌≤◌}
use native.Mathlib.Decide.{dec_lt}
use native.Mathlib.Omega.{arith}
use borrow.Author.Tests.{lt-ltb, le-ltb, le-leb, lt-leb}
use lib.Dec.{eqb, eqb→eq}
use Rattle.calendar.proofs.Every.{every}
use Rattle.hex_lines.specs.Hex.{hex_digit, digit_value, digit_bits}

pub data Digit (c : ℕ) : Type 0 where
  figure : 48 ≤ c → c ≤ 57 → digit_value c ≡ c - 48 → Digit c
  letter : 65 ≤ c → c ≤ 70 → digit_value c ≡ c - 65 + 10 → Digit c
  other : digit_value c ≡ 16 → Digit c

below_figures : (c : ℕ) → c < 48 → digit_value c ≡ 16
unfolding digit_value
below_figures c h = simp (lt-leb 48 c h, lt-leb 65 c (omega arith))

pub a_figure : (c : ℕ) → 48 ≤ c → c ≤ 57 → digit_value c ≡ c - 48
unfolding digit_value
a_figure c l h = simp (le-leb 48 c l, le-leb c 57 h)

between : (c : ℕ) → 57 < c → c < 65 → digit_value c ≡ 16
unfolding digit_value
between c l h = simp (le-leb 48 c (omega arith), lt-leb c 57 l, lt-leb 65 c h)

pub a_letter : (c : ℕ) → 65 ≤ c → c ≤ 70 → digit_value c ≡ c - 65 + 10
unfolding digit_value
a_letter c l h = simp (le-leb 48 c (omega arith), lt-leb c 57 (omega arith), le-leb 65 c l, le-leb c 70 h)

above_letters : (c : ℕ) → 70 < c → digit_value c ≡ 16
unfolding digit_value
above_letters c h = simp (le-leb 48 c (omega arith), lt-leb c 57 (omega arith), le-leb 65 c (omega arith), lt-leb c 70 h)

pub digit : (c : ℕ) → Digit c
digit c =
    dite (dec_lt c 48) (λ (a : c < 48). other (below_figures c a))
    (λ (a : c < 48 → ⊥).
    dite (dec_lt c 58) (λ (b : c < 58). figure (omega arith) (omega arith) (a_figure c (omega arith) (omega arith)))
    (λ (b : c < 58 → ⊥).
    dite (dec_lt c 65) (λ (d : c < 65). other (between c (omega arith) d))
    (λ (d : c < 65 → ⊥).
    dite (dec_lt c 71) (λ (e : c < 71). letter (omega arith) (omega arith) (a_letter c (omega arith) (omega arith)))
    (λ (e : c < 71 → ⊥). other (above_letters c (omega arith))))))

-- what is neither a figure nor a letter is no digit
pub no_digit : (c : ℕ) → (48 ≤ c → 57 < c) → (65 ≤ c → 70 < c) → digit_value c ≡ 16
no_digit c a b = elim (digit c) [ figure l h e ↦ absurd (omega (arith, a l)) | letter l h e ↦ absurd (omega (arith, b l)) | other e ↦ e ]

-- a digit is no LF
pub no_line_end : (c : ℕ) → digit_value c < 16 → c ≡ 10 → ⊥
no_line_end c d n = elim (digit c) [ figure l h e ↦ omega arith | letter l h e ↦ omega arith | other e ↦ omega arith ]

pub bits_are_value : (c : ℕ) → digit_value c < 16 → digit_bits c ≡ digit_value c
unfolding digit_bits
bits_are_value c d =
    elim (digit c) [
      | figure l h e ↦
          let q : c / 64 ≡ 0 = omega arith in
          let m : c % 16 ≡ c - 48 = omega arith in
          rw (q, m, e) (omega arith)
      | letter l h e ↦
          let q : c / 64 ≡ 1 = omega arith in
          let m : c % 16 ≡ c - 64 = omega arith in
          rw (q, m, e) (omega arith)
      | other e ↦ absurd (omega arith)
    ]

pub bits_below_lem : (c : ℕ) → digit_bits c < 16
unfolding digit_bits
bits_below_lem c = omega arith

pub byte_of_value : (c : ℕ) → digit_value c < 16 → hex_digit (digit_value c) ≡ c
unfolding hex_digit
byte_of_value c d =
    elim (digit c) [
      | figure l h e ↦ rw (e, lt-ltb (c - 48) 10 (omega arith)) (omega arith)
      | letter l h e ↦ rw (e, le-ltb (c - 65 + 10) 10 (omega arith)) (omega arith)
      | other e ↦ absurd (omega arith)
    ]

pub value_of_byte : (n : ℕ) → n < 16 → digit_value (hex_digit n) ≡ n
unfolding hex_digit digit_value
value_of_byte n h = eqb→eq (digit_value (hex_digit n)) n (every (λ k. eqb (digit_value (hex_digit k)) k) 16 tt n h)
