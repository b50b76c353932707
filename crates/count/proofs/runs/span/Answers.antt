-- The bits are shifted down, cut, and shifted back.
use mathlib.Core.Path.{sym, ◌∙◌}
use Prim.Native.Nat.{◌/◌, ◌^◌}
use native.Mathlib.Nat.{mod-lt}
use native.Mathlib.Omega.{arith}
use lib.Pow.{pow_pos, shl_exact}
use Rattle.masks.proofs.Bits.{one_shifted}
use Rattle.masks.proofs.MaskFroms.{mask_of_own_bits}
use Rattle.count.proofs.runs.span.Goals as goal

pub returns : goal.returns
returns c =
    let a = c.args in
    rw (one_shifted a.wide (omega arith))
    (shl_exact a.wide a.low 64 (mod-lt (a.mask / 2 ^ a.low) (pow_pos a.wide)) (omega arith) ∙ sym (mask_of_own_bits a.mask a.wide a.low))
