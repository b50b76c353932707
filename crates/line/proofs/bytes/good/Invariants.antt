-- The bytes so far are good, or not.
use mathlib.Core.Path.{◌≡◌}
use lib.ListN.{take}
use Rattle.calendar.specs.Below.{within, all_of}
use Rattle.line.proofs.bytes.good.Given as goal

abbrev pub invariant-loop-byte : goal.invariant-loop-byte
invariant-loop-byte l = l.good ≡ all_of (within 32 126) (take l.byte-index l.line)
