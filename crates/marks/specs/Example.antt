-- "Whole example": what document 01's sheet compiles to, byte for byte.
use Rattle.std.specs.Prelude.{List, ℕ}
use Rattle.lines.specs.Bytes.{bytes}

unfoldable pub example_plan : List ℕ
example_plan = bytes "01003C\n0200D2963C0078\n0200D7337C003C\n03000000004000000000000004FFFFFFFE1FFE7F00\nFF04\n"
