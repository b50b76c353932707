-- "An element list is an element, or an element, a comma and an element list", for any reader and separator.
use Rattle.std.specs.Prelude.{true, false, List, [], ◌∷◌, ℕ, zero, suc, ◌+◌, eqb, get_or, Option, None, Some}

-- an element before a list that was read
abbrev pub before : {A : Type 0} → A → Option (List A × ℕ) → Option (List A × ℕ)
before x None = None
before x (Some r) = Some (x ∷ r.0, r.1)

-- what comes of a list, each element taken up in what came of those before it
unfoldable pub over_all : {A M : Type 0} → (M → A → M) → M → List A → M
over_all take m [] = m
over_all take m (x ∷ xs) = over_all take (take m x) xs

-- the elements from a place on, each with the place after it by `read`, as long as a separator follows; `left` is above the bytes left
unfoldable pub list_at : {A : Type 0} → (ℕ → Option (A × ℕ)) → ℕ → List ℕ → ℕ → ℕ → Option (List A × ℕ)
list_at read separator s zero at = None
list_at read separator s (suc left) at =
    elim (read at) [
      | None ↦ None
      | Some r ↦ elim (eqb (get_or s r.1 0) separator) [ true ↦ before r.0 (list_at read separator s left (r.1 + 1)) | false ↦ Some (r.0 ∷ [], r.1) ]
    ]
