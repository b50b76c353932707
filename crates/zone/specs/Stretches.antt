-- The local minutes in stretches: stretch k has the offset after k transitions, and all its minutes become instants by it.
use Rattle.std.specs.Prelude.{Bool, true, false, cond, ◌&&◌, ◌||◌, List, [], ◌∷◌, ℕ, zero, suc, ◌+◌, ◌-◌, min, max, leb, ltb, take, Option, Some, None}
use Rattle.calendar.specs.Window.{window_minutes}
use Rattle.zone.specs.Zone.{Offsets, instant_of, in_window, biases}
use Rattle.zone.specs.declared.Transition.{Transition}

-- the offset after the transitions
unfoldable pub offset_after : ℕ → List Transition → ℕ
offset_after offset [] = offset
offset_after offset (t ∷ ts) = offset_after t.offset ts

-- where the stretch before a transition ends, as local minute + 2,880: the gap still belongs to it, and the doubled hour too
abbrev pub split : ℕ → Transition → ℕ
split offset t = t.at + max offset t.offset

-- the same as a local minute of the window, or the first past it
unfoldable pub boundary : ℕ → Transition → ℕ
boundary offset t = min (split offset t - biases) window_minutes

-- the offset of stretch k
unfoldable pub stretch_offset : Offsets → ℕ → ℕ
stretch_offset z k = offset_after z.first (take k z.changes)

-- where stretch k of these transitions ends
unfoldable pub end_in : ℕ → List Transition → ℕ → ℕ
end_in offset [] k = window_minutes
end_in offset (t ∷ ts) zero = boundary offset t
end_in offset (t ∷ ts) (suc k) = end_in t.offset ts k

-- the first local minute of stretch k, which is the first past the stretch before it; past the last stretch the first past the window
unfoldable pub stretch_from : Offsets → ℕ → ℕ
stretch_from z zero = 0
stretch_from z (suc k) = end_in z.first z.changes k

-- the stretch of a local minute
unfoldable pub stretch_in : ℕ → List Transition → ℕ → ℕ
stretch_in offset [] m = 0
stretch_in offset (t ∷ ts) m = elim (leb (split offset t) (m + biases)) [ true ↦ suc (stretch_in t.offset ts m) | false ↦ 0 ]

unfoldable pub stretch_of : Offsets → ℕ → ℕ
stretch_of z m = stretch_in z.first z.changes m

-- the instant of a local minute by its stretch
unfoldable pub stretch_instant : Offsets → ℕ → ℕ
stretch_instant z m = m + biases - stretch_offset z (stretch_of z m)

-- the same, or outside the window
unfoldable pub stretch_local : Offsets → ℕ → Option ℕ
stretch_local z m = cond (in_window m) (Some (stretch_instant z m)) None

-- the instant of a local minute as "Wall clock to instant" has it, or outside the window
unfoldable pub instant_of_local : Offsets → ℕ → Option ℕ
instant_of_local z m = cond (in_window m) (Some (instant_of z m)) None

-- an instant of the second pass of a doubled hour: with the offset before the transition its minute was shown before it
unfoldable pub second_pass_in : ℕ → List Transition → ℕ → Bool
second_pass_in offset [] i = false
second_pass_in offset (t ∷ ts) i = leb t.at i && ltb (i + t.offset) (t.at + offset) || second_pass_in t.offset ts i

unfoldable pub second_pass : Offsets → ℕ → Bool
second_pass z i = second_pass_in z.first z.changes i
