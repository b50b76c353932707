-- One number more is put; all are put once no pair is left.
use mathlib.Core.Path.{◌∙◌}
use native.Mathlib.Omega.{arith}
use borrow.Author.Rules.{rules}
use lib.ListN.{length, length-append}
use Rattle.std.proofs.lemmas.Slice.Zip.{zip_turn, zip_end}
use Rattle.hex_lines.proofs.Fields.{all_put}
use Rattle.plan.specs.Fits.{pairs_at}
use Rattle.plan.proofs.Placing.{next_pair, no_pair}
use Rattle.plan.proofs.puts.put_row.Goals as goal

pub overflow_mul-place : goal.overflow_mul-place
overflow_mul-place c =
    let a = c.args in
    let v = c.loop-size in
    let turn = zip_turn a.sizes.now a.row.now v.yielded _ _ c.next.new.self _ (cc) (cc) v.yielded_by _ c.in-Some.is c.next.ensures.steps in
    let n = next_pair a.sizes.now a.row.now (length v.yielded) (omega arith) in
    let room = rw (n, ← (turn.2 0)) at v.invariant.2 in
    omega arith

pub overflow_add-place : goal.overflow_add-place
overflow_add-place c =
    let a = c.args in
    let v = c.loop-size in
    let turn = zip_turn a.sizes.now a.row.now v.yielded _ _ c.next.new.self _ (cc) (cc) v.yielded_by _ c.in-Some.is c.next.ensures.steps in
    let n = next_pair a.sizes.now a.row.now (length v.yielded) (omega arith) in
    let room = rw (n, ← (turn.2 0)) at v.invariant.2 in
    omega arith

pub loop-size-preserved : goal.loop-size-preserved
loop-size-preserved c =
    let a = c.args in
    let v = c.loop-size in
    let turn = zip_turn a.sizes.now a.row.now v.yielded _ _ c.next.new.self _ (cc) (cc) v.yielded_by _ c.in-Some.is c.next.ensures.steps in
    let n = next_pair a.sizes.now a.row.now (length v.yielded) (omega arith) in
    let room = rw (n, ← (turn.2 0)) at v.invariant.2 in
    let more = rw (n, ← (turn.2 0), ← (turn.3 0)) at v.invariant.3 in
    rw (length-append v.yielded _) (search rules, search rules, omega arith, rw c.put.ensures more)

pub returns : goal.returns
returns c =
    let a = c.args in
    let v = c.loop-size in
    let long = zip_end a.sizes.now a.row.now v.yielded _ _ c.next.new.self _ (cc) (cc) v.yielded_by c.in-None.is c.next.ensures.steps in
    let z = no_pair a.sizes.now a.row.now (length v.yielded) (omega arith) in
    (rw z at v.invariant.3) ∙ all_put (pairs_at a.sizes.now a.row.now 0) a.buf.now a.at c.requires
