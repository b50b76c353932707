-- A year begins with every twelfth month.
use native.Mathlib.Omega.{arith}
use mathlib.Core.Path.{◌≡◌, ap, ◌∙◌}
use Prim.Native.Nat.{◌-◌, ◌/◌}
use Rattle.frames.specs.Years.{year_counts}
use Rattle.count.proofs.counts_on.Goals as goal

pub returns : goal.returns
returns c =
    let e : (c.args.k - 1) / 12 ≡ c.args.k / 12 = omega arith in
    c.requires.1 ∙ ap (year_counts c.args.f.now) e
