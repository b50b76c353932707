-- Each turn passes one set bit: what is left to count starts after it.
use mathlib.Core.Path.{◌≡◌, sym, ap, ◌∙◌}
use Prim.Native.Nat.{ℕ, ◌+◌, ◌-◌}
use native.Mathlib.Omega.{arith}
use Rattle.masks.specs.Masks.{bit}
use Rattle.days.specs.Search.{nth_from}
use Rattle.count.proofs.NthBits.{nth_bit_one, nth_bit_none, nth_bit_next}
use Rattle.count.proofs.bits.nth_bit.Goals as goal

pub returns-then-next-ge-NONE : goal.returns-then-next-ge-NONE
returns-then-next-ge-NONE c =
    let a = c.args in
    let v = c.loop-passed in
    nth_bit_none a.mask v.at v.invariant.0 (a.count + 1 - v._passed) (omega (arith, c.next_bit-next.ensures)) ∙ sym v.invariant.1

pub loop-passed-preserved : goal.loop-passed-preserved
loop-passed-preserved c =
    let a = c.args in
    let v = c.loop-passed in
    let e = c.next_bit-next.ensures in
    let left : a.count + 1 - v._passed - 1 ≡ a.count + 1 - (v._passed + 1) = omega arith in
    (omega arith, rw (e, ← left) (v.invariant.1 ∙ nth_bit_next a.mask v.at v.invariant.0 (a.count + 1 - v._passed) (omega arith) (omega (arith, e))))

pub returns : goal.returns
returns c =
    let a = c.args in
    let v = c.loop-passed in
    let e : 1 ≡ a.count + 1 - v._passed = omega arith in
    c.next_bit.ensures
    ∙ nth_bit_one a.mask v.at v.invariant.0
    ∙ ap (λ (x : ℕ). nth_from (bit a.mask) x (64 - v.at) v.at) e
    ∙ sym v.invariant.1
