-- The digits so far.
use Rattle.std.proofs.Common.{◌≡◌, take}
use Rattle.std.specs.List.{list_all}
use Rattle.hex_lines.specs.Hex.{is_digit}
use Rattle.hex_lines.proofs.digits_at_once.Given as goal

abbrev pub invariant-loop-c : goal.invariant-loop-c
invariant-loop-c l = l.all ≡ list_all is_digit (take l.c-index l.part)
