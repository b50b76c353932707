-- A range of which one single number may be wanted.
use mathlib.Core.Bool.{Bool}
use mathlib.Core.Path.{◌≡◌, refl}
use Prim.Native.Nat.{ℕ, ◌+◌, ◌-◌, ◌<◌, ◌≤◌}
use native.Mathlib.Omega.{arith}
use borrow.Author.Tests.{eq-eqb, ne_eqb}
use lib.Dec.{eqb}
use Rattle.calendar.proofs.Leasts.{Least, Last, least_none, last_none}

abbrev pub one : ℕ → ℕ → Bool
one n m = eqb m n

module _ (n low high : ℕ) where
  pub one_least : low ≤ n → n < high → Least (one n) low high n
  one_least l h =
      record { from = l; to = omega arith; passes = λ g. eq-eqb n n refl; fails = λ j a b. ne_eqb j n (omega arith) }

  pub one_last : low ≤ n → n < high → Last (one n) low high (n + 1)
  one_last l h =
      record {
        from = omega arith;
        to = omega arith;
        passes = λ g. eq-eqb (n + 1 - 1) n (omega arith);
        fails = λ j a b. ne_eqb j n (omega arith);
      }

  pub outside : low ≤ high → ((j : ℕ) → low ≤ j → j < high → j ≡ n → ⊥) → Least (one n) low high high
  outside l h = least_none (one n) low high l (λ j a b. ne_eqb j n (h j a b))

  pub outside_last : low ≤ high → ((j : ℕ) → low ≤ j → j < high → j ≡ n → ⊥) → Last (one n) low high low
  outside_last l h = last_none (one n) low high l (λ j a b. ne_eqb j n (h j a b))
