-- The loop's invariant: what is left to do on the buffer as it is makes what was to do on the buffer as it was.
use mathlib.Core.Path.{◌≡◌}
use Rattle.hex_lines.specs.Hex.{hex_of}
use Rattle.hex_lines.proofs.Puts.{replaced}
use Rattle.hex_lines.proofs.put.Given as goal

abbrev pub invariant-loop-i : goal.invariant-loop-i
invariant-loop-i l = replaced l.buf l.at (hex_of l.i l.left) ≡ replaced l.initial.buf l.at (hex_of l.k l.v)
