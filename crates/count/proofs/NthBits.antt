-- The c-th set bit of a mask, by the next one again and again.
use mathlib.Core.Path.{◌≡◌, sym, ap, ◌∙◌}
use Prim.Native.Nat.{ℕ, ◌+◌, ◌-◌, ◌<◌, ◌≤◌}
use native.Mathlib.Omega.{arith}
use borrow.Author.Tests.{le-leb}
use Rattle.calendar.specs.Below.{least_from}
use Rattle.masks.proofs.Nexts.{next_bit_at_most}
use Rattle.masks.specs.Masks.{bit, next_bit}
use Rattle.days.specs.Search.{nth_from}
use Rattle.days.proofs.Nths.{nth_one, nth_none, nth_next}

module _ (m n : ℕ) (h : n ≤ 64) where
  least : next_bit m n ≡ least_from (bit m) (64 - n) n
  unfolding next_bit
  least = rw (le-leb n 64 h)

  pub nth_bit_one : next_bit m n ≡ nth_from (bit m) 1 (64 - n) n
  nth_bit_one = least ∙ sym (nth_one (bit m) (64 - n) n)

  pub nth_bit_none : (c : ℕ) → 64 ≤ next_bit m n → 64 ≡ nth_from (bit m) c (64 - n) n
  nth_bit_none c l =
      let e : n + (64 - n) ≡ 64 = omega arith in
      let a : least_from (bit m) (64 - n) n ≡ n + (64 - n) = omega (arith, least, next_bit_at_most m n) in
      sym (nth_none (bit m) c (64 - n) n a ∙ e)

  pub nth_bit_next : (c : ℕ) → 1 < c → next_bit m n < 64
      → nth_from (bit m) c (64 - n) n ≡ nth_from (bit m) (c - 1) (64 - (next_bit m n + 1)) (next_bit m n + 1)
  nth_bit_next c g l =
      let e : n + (64 - n) ≡ 64 = omega arith in
      rw least
      (nth_next (bit m) c (64 - n) n (omega arith) (omega (arith, least))
      ∙ ap (λ (x : ℕ). nth_from (bit m) (c - 1) (x - (least_from (bit m) (64 - n) n + 1)) (least_from (bit m) (64 - n) n + 1)) e)
