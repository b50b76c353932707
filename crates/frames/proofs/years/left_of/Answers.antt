-- Past bit 63 there is none.
use native.Mathlib.Omega.{arith}
use mathlib.Core.Path.{◌≡◌, sym, ap, ◌∙◌}
use Prim.Native.Nat.{ℕ, ◌+◌, ◌/◌, ◌%◌, ◌^◌}
use native.Mathlib.Nat.{div-eq_of_lt, pow-le-pow_right, zero-mod}
use Rattle.frames.proofs.years.left_of.Goals as goal

pub returns-then-others-gt63 : goal.returns-then-others-gt63
returns-then-others-gt63 c =
    let a = c.args in
    let top = pow-le-pow_right {n = 2} (omega arith) {i = 64} {j = a.others} (omega arith) in
    let z : a.mask / 2 ^ a.others ≡ 0 = div-eq_of_lt (omega arith) in
    sym (ap (λ (x : ℕ). x % 2 ^ (a.here + 1)) z ∙ zero-mod (2 ^ (a.here + 1)))
