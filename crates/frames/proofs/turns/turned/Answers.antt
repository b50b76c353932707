-- The reversed bits, moved down to the month's own and one up.
use mathlib.Core.Path.{◌≡◌, ap, ◌∙◌}
use Prim.Native.Nat.{ℕ, ◌+◌, ◌-◌, ◌/◌, ◌%◌, ◌^◌}
use native.Mathlib.Nat.{div-le_self}
use native.Mathlib.Omega.{arith}
use Rattle.masks.proofs.Bits.{bit_of_quotient, bit_of_multiple, bit_of_rest}
use Rattle.masks.specs.Masks.{bit}
use borrow.Author.Tests.{le-leb}
use Rattle.frames.proofs.Reversals.{reversed_bit}
use Rattle.frames.proofs.turns.turned.Goals as goal

pub overflow_mul-result : goal.overflow_mul-result
overflow_mul-result c = let r = c.from.result in omega (arith, c.from.ensures, div-le_self r (2 ^ (31 - c.args.len)))

pub returns : goal.returns
returns c =
    let a = c.args in
    let r = c.from.result in
    λ n l h.
    let e : 31 - (31 - a.len + (n - 1)) ≡ a.len + 1 - n = omega arith in
    bit_of_multiple (r / 2 ^ (31 - a.len)) 1 n
    ∙
    (rw (le-leb 1 n l) (bit_of_quotient r (31 - a.len) (n - 1) ∙ ap (λ (x : ℕ). bit x (31 - a.len + (n - 1))) (c.from.ensures ∙ c.reverse_bits.ensures) ∙ reversed_bit (a.mask % 2 ^ 32) (31 - a.len + (n - 1)) (omega arith) ∙ ap (bit (a.mask % 2 ^ 32)) e ∙ bit_of_rest a.mask 32 (a.len + 1 - n) (omega arith)))
