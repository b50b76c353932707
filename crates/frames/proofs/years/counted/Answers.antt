-- The months that the positions reach from the front, and then from the end; the frame has the same day set as a daily one without positions.
use mathlib.Core.Path.{◌≡◌}
use lib.ListN.{length}
use Rattle.frames.specs.Kinds.{row_numbers}
use Rattle.frames.specs.Years.{reached}
use Rattle.frames.proofs.YearSets.{bared_is, bare_counts}
use borrow.Author.Rules.{rules}
use Rattle.frames.proofs.years.counted.Goals as goal

pub from_front-front-requires : goal.from_front-front-requires
from_front-front-requires c =
    let r = c.bare-g in
    let n : length r.result ≡ row_numbers = search rules in
    (c.requires.0, rw r.ensures (bared_is c.args.f.now (rw r.ensures at n) c.requires.1))

pub from_back-requires : goal.from_back-requires
from_back-requires c =
    let r = c.bare-g in
    let n : length r.result ≡ row_numbers = search rules in
    let front = c.from_front-front.ensures in
    (c.requires.0, rw r.ensures (bared_is c.args.f.now (rw r.ensures at n) c.requires.1), front.most, front.counts)

pub returns : goal.returns
unfolding reached
returns c =
    let l = c.args.f.now in
    let r = c.bare-g.ensures in
    let front = c.from_front-front.ensures in
    let made = rw (front.months, r, bare_counts l) at c.from_back.ensures in
    made
