-- The LFs so far.
use Rattle.std.proofs.Common.{◌≡◌, take}
use Rattle.std.specs.List.{count_by}
use lib.Dec.{eqb}
use Rattle.lines.proofs.line_count.Given as goal

abbrev pub invariant-loop-byte : goal.invariant-loop-byte
invariant-loop-byte l = l.whole ≡ count_by (λ c. eqb c 10) (take l.byte-index l.text)
