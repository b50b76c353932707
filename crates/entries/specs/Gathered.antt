-- What a list with a separator comes to, step by step: a step reads an element and takes it up.
use Rattle.std.specs.Prelude.{◌≡◌, true, false, List, ℕ, zero, suc, ◌+◌, ◌≤◌, eqb, get_or, Option, None, Some}
use Rattle.words.specs.Answers.{made_read}
use Rattle.words.specs.Reads.{cursor}
use Rattle.words.specs.declared.cursor.Cursor.{Cursor}

-- from a place on, as long as a separator follows; `left` is above the bytes left
unfoldable pub gathered : {M : Type 0} → (M → ℕ → Option (M × ℕ)) → ℕ → List ℕ → ℕ → M → ℕ → Option (M × ℕ)
gathered step separator s zero m at = None
gathered step separator s (suc left) m at =
    elim (step m at) [
      | None ↦ None
      | Some r ↦ elim (eqb (get_or s r.1 0) separator) [ true ↦ gathered step separator s left r.0 (r.1 + 1) | false ↦ Some r ]
    ]

-- of a step that may answer this or that: answers of it, one after the other and none a way back, lead to the whole. Where `left` runs out nothing fits: above the
-- bytes left it does not, by a separator that is not 0
unfoldable pub Leads : {M : Type 0} → (M → Cursor → Option (M × Cursor) → Type 0) → ℕ → List ℕ → ℕ → M → ℕ → Option (M × Cursor) → Type 0
Leads step separator s zero m at whole = ⊥
Leads {M} step separator s (suc left) m at whole = (answer : Option (M × Cursor)) × step m (cursor at) answer × elim answer [
  | None ↦ whole ≡ None
  | Some r ↦ (at ≤ r.1.at) × elim (eqb (get_or s r.1.at 0) separator) [ true ↦ Leads step separator s left r.0 (r.1.at + 1) whole | false ↦ whole ≡ Some r ]
]

-- a step reads an element and takes it up
abbrev pub step_of : {A M : Type 0} → (M → A → M) → (ℕ → Option (A × ℕ)) → M → ℕ → Option (M × ℕ)
step_of take read m at = made_read (take m) (read at)

-- what came of it with the place after it
abbrev pub ended : {M : Type 0} → Option (M × ℕ) → Option (M × Cursor)
ended None = None
ended (Some r) = Some (r.0, cursor r.1)
