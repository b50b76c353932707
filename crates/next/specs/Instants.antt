-- The instants of held local minutes, and the next and the previous of any instants.
use Rattle.std.specs.Prelude.{Bool, true, ◌≡◌, ℕ, ◌<◌, Option, Some, None}
use Rattle.zone.specs.Zone.{Offsets, instant_of}
use Rattle.calendar.specs.Window.{window_minutes}

-- "Then each local minute becomes one instant": i is an instant where a held local minute of the window becomes i
pub record InstantOf (held : ℕ → Bool) (z : Offsets) (i : ℕ) : Type 0 where
  pub minute : ℕ
  pub window : minute < window_minutes
  pub holds : held minute ≡ true
  pub becomes : instant_of z minute ≡ i

-- i is the first instant strictly later than the asked one
pub record Next (instants : ℕ → Type 0) (asked i : ℕ) : Type 0 where
  pub is : instants i
  pub later : asked < i
  pub first : (j : ℕ) → instants j → asked < j → j < i → ⊥

-- i is the last instant strictly earlier than the asked one
pub record Previous (instants : ℕ → Type 0) (asked i : ℕ) : Type 0 where
  pub is : instants i
  pub earlier : i < asked
  pub last : (j : ℕ) → instants j → j < asked → i < j → ⊥

-- the answer to next: that instant, or none where there is no later one
unfoldable pub NextOf : (ℕ → Type 0) → ℕ → Option ℕ → Type 0
NextOf instants asked (Some i) = Next instants asked i
NextOf instants asked None = (j : ℕ) → instants j → asked < j → ⊥

-- the answer to previous
unfoldable pub PreviousOf : (ℕ → Type 0) → ℕ → Option ℕ → Type 0
PreviousOf instants asked (Some i) = Previous instants asked i
PreviousOf instants asked None = (j : ℕ) → instants j → j < asked → ⊥
