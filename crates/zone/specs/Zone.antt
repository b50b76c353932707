-- "Wall clock to instant" and the limits of transitions.
use Rattle.std.specs.Prelude.{Bool, true, false, cond, ◌&&◌, List, [], ◌∷◌, ℕ, ◌+◌, ◌-◌, leb, ltb, eqb, length}
use Rattle.calendar.specs.Below.{within, least_from}
use Rattle.calendar.specs.Window.{window_minutes, window_last}
use Rattle.zone.specs.declared.Transition.{Transition}

-- instants and offsets are moved up by a day, an instant and its offset together by two
abbrev pub bias : ℕ
bias = 1440

abbrev pub biases : ℕ
biases = 2880

-- the offset before the first transition, and the transitions, rising
pub record Offsets : Type 0 where
  pub first : ℕ
  pub changes : List Transition

-- "The offset at an instant is that of the last transition at or before it, else Z's."
unfoldable pub offset_from : ℕ → List Transition → ℕ → ℕ
offset_from offset [] i = offset
offset_from offset (t ∷ ts) i = offset_from (cond (leb t.at i) t.offset offset) ts i

unfoldable pub offset_at : Offsets → ℕ → ℕ
offset_at z i = offset_from z.first z.changes i

-- instant i shows local minute m: i + offset(i) = m
unfoldable pub shows : Offsets → ℕ → ℕ → Bool
shows z m i = eqb (i + offset_at z i) (m + biases)

-- "If none exists, m lies in the gap of one transition and becomes m minus the offset before it."
unfoldable pub gap_instant : ℕ → List Transition → ℕ → ℕ
gap_instant offset [] m = m + biases - offset
gap_instant offset (t ∷ ts) m =
    elim (leb (t.at + offset) (m + biases) && ltb (m + biases) (t.at + t.offset)) [
      | true ↦ m + biases - offset
      | false ↦ gap_instant t.offset ts m
    ]

-- "A local minute m becomes the least instant i with i + offset(i) = m." Offsets are 720 to 2,280 here, so such an instant is m + 600 to m + 2,160.
unfoldable pub instant_of : Offsets → ℕ → ℕ
instant_of z m =
    let i = least_from (shows z m) 1561 (m + 600) in
    elim (ltb i (m + 2161)) [ true ↦ i | false ↦ gap_instant z.first z.changes m ]

-- how far two offsets lie apart
abbrev pub apart : ℕ → ℕ → ℕ
apart a b = a - b + (b - a)

-- "An offset is from −720 minutes to +840 minutes."
abbrev pub least_offset : ℕ
least_offset = 720

abbrev pub greatest_offset : ℕ
greatest_offset = 2280

abbrev pub offset_in_range : ℕ → Bool
offset_in_range o = within least_offset greatest_offset o

-- "Instants 0 to 52,595,999, offsets in range."
abbrev pub in_range : Transition → Bool
in_range t = within bias (bias + window_last) t.at && offset_in_range t.offset

-- "at most 32, each at least 2,880 minutes after the one before"
abbrev pub most_changes : ℕ
most_changes = 32

abbrev pub distance : ℕ
distance = 2880

-- "the new offset differs from the old by 1 to 180 minutes"
abbrev pub most_change : ℕ
most_change = 180

-- "Each at least 2,880 minutes after the one before; the new offset differs from the old by 1 to 180 minutes": `low` is the least instant allowed
unfoldable pub under_limits : ℕ → ℕ → Transition → Bool
under_limits low offset t = leb low t.at && within 1 most_change (apart offset t.offset)

-- instants 0 to 52,595,999, offsets in range, and the limits, of transitions that follow each other
unfoldable pub transitions_good : ℕ → ℕ → List Transition → Bool
transitions_good low offset [] = true
transitions_good low offset (t ∷ ts) =
    within bias (bias + window_last) t.at && (offset_in_range t.offset && (under_limits low offset t && transitions_good (t.at + distance) t.offset ts))

-- "There may be transition lines, at most 32." The first is held to no distance.
unfoldable pub zone_good : Offsets → Bool
zone_good z = offset_in_range z.first && (leb (length z.changes) most_changes && transitions_good 0 z.first z.changes)

-- local minutes run from 0 to 52,595,999
abbrev pub in_window : ℕ → Bool
in_window m = ltb m window_minutes
