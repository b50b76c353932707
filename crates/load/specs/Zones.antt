-- The zone that the rows of a plan's frames hold: the first row's offset, and the rows of kind 2 right after it.
use Rattle.std.specs.Prelude.{true, false, List, [], ◌∷◌, ℕ, ◌+◌, ◌-◌, min, length, get_or, take, drop, replicate}
use Rattle.std.proofs.lemmas.List.Edits.{sets}
use Rattle.zone.specs.Zone.{most_changes}
use Rattle.zone.specs.declared.Transition.{Transition}
use Rattle.zone.specs.declared.Zone.{Zone}
use Rattle.frames.specs.Kinds.{change_kind, is_kind}

-- frame 01's offset, and frame 02's instant and offset, by their place in the row
abbrev pub offset_in : List ℕ → ℕ
offset_in row = get_or row 1 0

abbrev pub change_in : List ℕ → Transition
change_in row = record { at = get_or row 1 0; offset = get_or row 2 0 }

unfoldable pub changes_in : List (List ℕ) → List Transition
changes_in [] = []
changes_in (row ∷ rows) = elim (is_kind change_kind row) [ true ↦ change_in row ∷ changes_in rows | false ↦ [] ]

-- a zone with some transitions more
abbrev pub with_changes : Zone → List Transition → Zone
with_changes z ts = record { first = z.first; count = z.count + length ts; changes = sets z.changes z.count ts }

abbrev pub bare : ℕ → Zone
bare offset = record { first = offset; count = 0; changes = replicate most_changes (record { at = 0; offset = 0 }) }

-- a plan has its first offset and at most 32 transitions, so only so many rows are looked at
unfoldable pub zone_of : List (List ℕ) → ℕ → Zone
zone_of rows count = with_changes (bare (offset_in (get_or rows 0 []))) (changes_in (take (min count (most_changes + 1) - 1) (drop 1 rows)))
