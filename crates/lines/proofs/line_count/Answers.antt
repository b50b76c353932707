-- The LFs, and a tail that ends without one.
use Rattle.std.proofs.Common.{◌≡◌, ◌-◌, length, cond, rules, arith}
use Rattle.std.specs.List.{slice_get}
use lib.Seq.{take_all}
use Rattle.lines.proofs.Counting.{begins_line, counted}
use Rattle.lines.proofs.line_count.Goals as goal

pub returns : goal.returns
returns c =
    let t = c.args.text.now in
    let whole = rw (take_all c.loop-byte.byte-index t (omega arith)) at c.loop-byte.invariant in
    let tail : c.from.result ≡ cond (begins_line (slice_get t (length t - 1))) 1 0 = search rules in
    omega (arith, counted t)
