-- What a search through the stretches has found so far, in either direction.
use Rattle.std.specs.Prelude.{Bool, true, ◌⊎◌, ◌≡◌, ℕ, ◌+◌, ◌-◌, ◌<◌, ◌≤◌, min, max}
use Rattle.zone.specs.Zone.{biases}

-- r is the nearest of some instants, or the bound where none is nearer than that
pub record Nearest (nearer : ℕ → ℕ → Type 0) (instants : ℕ → Type 0) (bound r : ℕ) : Type 0 where
  pub none : (j : ℕ) → instants j → nearer j r → ⊥
  pub found : (r ≡ bound) ⊎ (instants r × nearer r bound)

-- forwards the earlier is the nearer, backwards the later
abbrev pub Before : ℕ → ℕ → Type 0
Before i j = i < j

abbrev pub After : ℕ → ℕ → Type 0
After i j = j < i

abbrev pub Earliest : (ℕ → Type 0) → ℕ → ℕ → Type 0
Earliest instants bound r = Nearest Before instants bound r

abbrev pub Latest : (ℕ → Type 0) → ℕ → ℕ → Type 0
Latest instants bound r = Nearest After instants bound r

-- those of some instants that are later than the asked one, and earlier
abbrev pub Later : ℕ → (ℕ → Type 0) → ℕ → Type 0
Later asked instants i = instants i × (asked < i)

abbrev pub Earlier : ℕ → (ℕ → Type 0) → ℕ → Type 0
Earlier asked instants i = instants i × (i < asked)

-- a held local minute from low up to high becomes i by this offset
pub record Shifted (held : ℕ → Bool) (offset low high i : ℕ) : Type 0 where
  pub minute : ℕ
  pub from : low ≤ minute
  pub below : minute < high
  pub holds : held minute ≡ true
  pub becomes : i + offset ≡ minute + biases

-- by this offset: the first minute from low on that becomes an instant later than i, and where those before high that become an earlier one end
abbrev pub first_after : ℕ → ℕ → ℕ → ℕ
first_after offset low i = max low (i + 1 + offset - biases)

abbrev pub end_at : ℕ → ℕ → ℕ → ℕ
end_at offset high i = min high (i + offset - biases)
