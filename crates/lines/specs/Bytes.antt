-- A quoted text as the list of its bytes, and a quoted character as its byte.
use Rattle.std.specs.Prelude.{List, [] as none, ◌∷◌ as ◌then◌, ℕ}
use Prim.Native.Char.{Char, code}
use Prim.Native.String.{String, [], ◌∷◌}

abbrev pub bytes : String → List ℕ
bytes [] = none
bytes (c ∷ s) = code c then bytes s

abbrev pub byte : Char → ℕ
byte c = code c
