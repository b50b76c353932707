-- The loop's invariant: the number so far, with the digits that are left, makes the number of all; it fits the digits passed.
use mathlib.Core.Path.{◌≡◌}
use Prim.Native.Nat.{◌^◌, ◌<◌}
use lib.ListN.{drop}
use Rattle.hex_lines.specs.Hex.{digits_number}
use Rattle.hex_lines.proofs.number.Given as goal

abbrev pub invariant-loop-c : goal.invariant-loop-c
invariant-loop-c l = (l.v < 16 ^ l.c-index) × (digits_number l.v (drop l.c-index l.digits) ≡ digits_number 0 l.digits)
