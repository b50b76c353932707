-- Runs of a mask's bits that come round again.
use Rattle.std.specs.Prelude.{Bool, false, ◌&&◌, ◌≡◌, ℕ, ◌+◌, ◌-◌, ◌%◌, ◌<◌, ◌≤◌, ltb}
use Rattle.masks.specs.Masks.{bit}

-- bit j stands in the first `width` places of a turn, where bit n has the place x
abbrev pub in_run : ℕ → ℕ → ℕ → ℕ → ℕ → Bool
in_run n x width turn j = ltb ((x + (j - n)) % turn) width

pub record Within (mask n x width turn len : ℕ) : Type 0 where
  pub low : 1 ≤ n
  pub high : n ≤ len
  pub short : len ≤ 31
  pub place : x < turn
  pub narrow : width ≤ 7
  pub room : width ≤ turn
  pub small : turn ≤ 300000
  pub none : (j : ℕ) → len < j → bit mask j ≡ false

pub record Runs (mask n x width turn len r : ℕ) : Type 0 where
  pub before : (j : ℕ) → j < n → bit r j ≡ false
  pub decides : (j : ℕ) → n ≤ j → j ≤ len → bit r j ≡ (bit mask j && in_run n x width turn j)
  pub after : (j : ℕ) → len < j → bit r j ≡ false
