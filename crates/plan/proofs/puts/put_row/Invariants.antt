-- The numbers that are left, put into the buffer as it is, make all of them put into the buffer as it was; there is room for them.
use mathlib.Core.Path.{◌≡◌}
use Prim.Native.Nat.{◌+◌, ◌*◌, ◌≤◌}
use lib.ListN.{length}
use Rattle.hex_lines.proofs.Fields.{widths, total, put_all}
use Rattle.plan.specs.Fits.{pairs_at}
use Rattle.plan.proofs.puts.put_row.Given as goal

abbrev pub invariant-loop-size : goal.invariant-loop-size
invariant-loop-size l =
    (goal.iterator-loop-size).can_next l.size-iterator
    × (goal.iterator-loop-size).is_finite l.size-iterator
    × (l.place + 2 * total (widths (pairs_at l.sizes l.row (length l.yielded))) ≤ length l.initial.buf)
    × (put_all l.buf l.place (pairs_at l.sizes l.row (length l.yielded)) ≡ put_all l.initial.buf l.at (pairs_at l.sizes l.row 0))
