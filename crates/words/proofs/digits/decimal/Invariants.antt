-- The loop's invariant: what the digits passed write, with those that are left, is the number.
use Rattle.std.proofs.Common.{◌≡◌, ◌+◌, ◌*◌, ◌^◌, ◌≤◌, drop}
use Rattle.sheet.specs.Words.{decimal}
use Rattle.words.proofs.digits.decimal.Given as goal

abbrev pub invariant-loop-c : goal.invariant-loop-c
invariant-loop-c l = (l.v + 23 ≤ 23 * 10 ^ l.c-index) × (decimal 0 l.c-items ≡ decimal l.v (drop l.c-index l.c-items))
