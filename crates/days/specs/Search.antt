-- The least and the last of what a frame holds in a range; of an empty range both are its low end.
use Rattle.std.specs.Prelude.{Bool, true, false, List, ℕ, zero, suc, ◌-◌, min, eqb}
use Rattle.calendar.specs.Below.{least_from, last_from}
use Rattle.frames.specs.Numbers.{day_held}
use Rattle.calendar.specs.Window.{window_days}

-- the least held day from low up to high, or where that range ends, of an empty range low; days count to the end of 2099
unfoldable pub least_day : List ℕ → ℕ → ℕ → ℕ
least_day l low high = least_from (day_held l) (min high window_days - low) low

-- one more than the greatest held day from low up to high, or low
unfoldable pub last_day : List ℕ → ℕ → ℕ → ℕ
last_day l low high = last_from (day_held l) (min high window_days - low) low

-- the c-th of the k numbers from i on that pass a test; the first past them where there are fewer
unfoldable pub nth_from : (ℕ → Bool) → ℕ → ℕ → ℕ → ℕ
nth_from test c zero i = i
nth_from test c (suc k) i =
    elim (test i) [
      | true ↦ elim (eqb c 1) [ true ↦ i | false ↦ nth_from test (c - 1) k (suc i) ]
      | false ↦ nth_from test c k (suc i)
    ]

-- the COUNT-th held day from low on; the first day past 2099 where there are fewer
unfoldable pub nth_day : List ℕ → ℕ → ℕ → ℕ
nth_day l count low = nth_from (day_held l) count (window_days - low) low
