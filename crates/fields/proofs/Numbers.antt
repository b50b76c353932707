-- The numbers first to last marked, case by case.
use mathlib.Core.Bool.{false, and-false}
use mathlib.Core.Path.{◌≡◌, refl}
use Prim.Native.Nat.{ℕ, ◌+◌, ◌-◌, ◌*◌, ◌^◌, ◌%◌, ◌<◌, ◌≤◌}
use native.Mathlib.Nat.{pow-le-pow_right}
use native.Mathlib.Omega.{arith}
use borrow.Author.Tests.{lt-leb, le-leb}
use lib.Bits.{bit_or}
use Rattle.masks.proofs.Bits.{one_shifted}
use Rattle.fields.specs.Marked.{marks_with}
use Rattle.fields.specs.declared.marks.Marks.{Marks}

-- a lower bit is a smaller number
pub lower_bit : (a b : ℕ) → a ≤ b → b ≤ 63 → 1 * 2 ^ a % 2 ^ 64 ≤ 1 * 2 ^ b % 2 ^ 64
lower_bit a b h k = rw (one_shifted a (omega arith), one_shifted b (omega arith)) (pow-le-pow_right (omega arith) h)

module _ (low high : ℕ) (m : Marks) (first last : ℕ) where
  abbrev not_good : Marks
  not_good = record { mask = m.mask; good = false }

  pub below_low : first < low → marks_with low high m first last ≡ not_good
  unfolding marks_with
  below_low h = simp (lt-leb low first h)

  pub above_high : high < last → marks_with low high m first last ≡ not_good
  unfolding marks_with
  above_high h = simp (lt-leb last high h, and-false)

  pub falling : last < first → marks_with low high m first last ≡ not_good
  unfolding marks_with
  falling h = simp (lt-leb first last h, and-false)

  pub marked : low ≤ first → last ≤ high → first ≤ last → high ≤ 62
      → marks_with low high m first last ≡ record { mask = bit_or m.mask (1 * 2 ^ (last + 1) % 2 ^ 64 - 1 * 2 ^ first % 2 ^ 64); good = m.good }
  unfolding marks_with
  marked l h o k =
      rw (one_shifted first (omega arith), one_shifted (last + 1) (omega arith), le-leb low first l, le-leb last high h, le-leb first last o) refl

-- by the steps of the code
pub ruleset marking = (lower_bit, below_low, above_high, falling, marked)
