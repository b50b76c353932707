-- The number that a search answers as an instant or none, and that there is one answer.
use Rattle.std.specs.Prelude.{Option, Some, None}
use mathlib.Core.Bool.{Bool, true}
use mathlib.Core.Logic.{⊎_elim}
use mathlib.Core.Path.{◌≡◌, refl, ap}
use Prim.Native.Nat.{ℕ, ◌<◌}
use native.Mathlib.Omega.{arith}
use borrow.Author.Tests.{lt-ltb, le-ltb}
use lib.Dec.{ltb}
use Rattle.std.specs.Bool.{then_some}
use Rattle.zone.proofs.Good.{by_order}
use Rattle.zone.proofs.Stretches.{instants_range}
use Rattle.zone.specs.Zone.{Offsets, zone_good}
use Rattle.next.specs.Instants.{InstantOf, NextOf, PreviousOf}
use Rattle.next.specs.Nearest.{Later, Earlier, Earliest, Latest}

module _ (instants : ℕ → Type 0) (asked : ℕ) where
  -- two answers to next are equal
  pub next_unique : (r s : Option ℕ) → NextOf instants asked r → NextOf instants asked s → r ≡ s
  unfolding NextOf
  next_unique (Some i) (Some j) a b =
      ap Some
      (by_order i j (λ l. absurd (b.first i a.is a.later l))
      (λ l. by_order j i (λ m. absurd (a.first j b.is b.later m)) (λ m. omega arith)))
  next_unique (Some i) None a b = absurd (b i a.is a.later)
  next_unique None (Some j) a b = absurd (a j b.is b.later)
  next_unique None None a b = refl

  -- and two to previous
  pub previous_unique : (r s : Option ℕ) → PreviousOf instants asked r → PreviousOf instants asked s → r ≡ s
  unfolding PreviousOf
  previous_unique (Some i) (Some j) a b =
      ap Some
      (by_order i j (λ l. absurd (a.last j b.is b.earlier l))
      (λ l. by_order j i (λ m. absurd (b.last i a.is a.earlier m)) (λ m. omega arith)))
  previous_unique (Some i) None a b = absurd (b i a.is a.earlier)
  previous_unique None (Some j) a b = absurd (a j b.is b.earlier)
  previous_unique None None a b = refl

  -- an earliest instant below its bound is the next
  pub earliest_next : (bound r : ℕ) → r < bound → Earliest (Later asked instants) bound r → NextOf instants asked (Some r)
  unfolding NextOf
  earliest_next bound r l a =
      ⊎_elim (λ e. absurd (omega arith))
      (λ w. record { is = w.0.0; later = w.0.1; first = λ j s g n. a.none j (s, g) n }) a.found

  pub latest_previous : (bound r : ℕ) → bound < r → Latest (Earlier asked instants) bound r → PreviousOf instants asked (Some r)
  unfolding PreviousOf
  latest_previous bound r l a =
      ⊎_elim (λ e. absurd (omega arith))
      (λ w. record { is = w.0.0; earlier = w.0.1; last = λ j s g n. a.none j (s, g) n }) a.found

-- the same instants have the same next and the same previous
module _ (p q : ℕ → Type 0) (to : (j : ℕ) → p j → q j) (back : (j : ℕ) → q j → p j) (asked : ℕ) where
  pub next_same : (r : Option ℕ) → NextOf p asked r → NextOf q asked r
  unfolding NextOf
  next_same (Some i) a = record { is = to i a.is; later = a.later; first = λ j s. a.first j (back j s) }
  next_same None a = λ j s. a j (back j s)

  pub previous_same : (r : Option ℕ) → PreviousOf p asked r → PreviousOf q asked r
  unfolding PreviousOf
  previous_same (Some i) a = record { is = to i a.is; earlier = a.earlier; last = λ j s. a.last j (back j s) }
  previous_same None a = λ j s. a j (back j s)

-- every instant lies between the two bounds, so a bound says that there is none
module _ (held : ℕ → Bool) (z : Offsets) (good : zone_good z ≡ true) (asked r : ℕ) where
  pub earliest_never : 52598880 < r → Earliest (Later asked (InstantOf held z)) 52598881 r → NextOf (InstantOf held z) asked None
  unfolding NextOf
  earliest_never l a j s g =
      a.none j (s, g) (omega (arith, (instants_range z good s.minute s.window).upto, s.becomes))

  pub latest_never : r ≡ 0 → Latest (Earlier asked (InstantOf held z)) 0 r → PreviousOf (InstantOf held z) asked None
  unfolding PreviousOf
  latest_never l a j s g =
      a.none j (s, g) (omega (arith, (instants_range z good s.minute s.window).from, s.becomes))

  pub earliest_answer : Earliest (Later asked (InstantOf held z)) 52598881 r → NextOf (InstantOf held z) asked (then_some (ltb r 52598881) r)
  earliest_answer a = by_order r 52598881 (λ l. rw (lt-ltb r 52598881 l) (earliest_next (InstantOf held z) asked 52598881 r l a)) (λ l. rw (le-ltb r 52598881 l) (earliest_never (omega arith) a))

  pub latest_answer : Latest (Earlier asked (InstantOf held z)) 0 r → PreviousOf (InstantOf held z) asked (then_some (ltb 0 r) r)
  latest_answer a = by_order 0 r (λ l. rw (lt-ltb 0 r l) (latest_previous (InstantOf held z) asked 0 r l a)) (λ l. rw (le-ltb 0 r l) (latest_never (omega arith) a))
