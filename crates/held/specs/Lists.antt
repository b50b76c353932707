-- Several frames together: what some of them hold, less what an excepted minute names.
use Rattle.std.specs.Prelude.{Bool, not, ◌&&◌, List, ℕ, ◌-◌, min, eqb, take}
use Rattle.calendar.specs.Below.{any_of, least_from, last_from}
use Rattle.calendar.specs.Window.{window_minutes}
use Rattle.frames.specs.Kinds.{most_frames, excepted_kind, is_kind}
use Rattle.frames.specs.Numbers.{minute_in}
use Rattle.held.specs.Minutes.{frame_held}

-- an excepted minute
unfoldable pub frame_excepts : List ℕ → ℕ → Bool
frame_excepts l m = is_kind excepted_kind l && eqb m (minute_in l)

abbrev pub any_held : List (List ℕ) → ℕ → Bool
any_held fs m = any_of (λ (l : List ℕ). frame_held l m) fs

abbrev pub any_excepts : List (List ℕ) → ℕ → Bool
any_excepts fs m = any_of (λ (l : List ℕ). frame_excepts l m) fs

-- "All local minutes of C, R and D lines, less those of X lines (wherever they stand)."
unfoldable pub list_held : List (List ℕ) → ℕ → Bool
list_held fs m = any_held fs m && not (any_excepts fs m)

-- the first so many frames
abbrev pub first_of : ℕ → List (List ℕ) → List (List ℕ)
first_of count fs = take (min count most_frames) fs

-- the least held minute from low up to high, or where that range ends, of an empty range low; minutes count to the end of 2099
unfoldable pub list_least : List (List ℕ) → ℕ → ℕ → ℕ
list_least fs low high = least_from (list_held fs) (min high window_minutes - low) low

-- one more than the greatest held minute from low up to high, or low
unfoldable pub list_last : List (List ℕ) → ℕ → ℕ → ℕ
list_last fs low high = last_from (list_held fs) (min high window_minutes - low) low
