-- A byte has eight bits.
use mathlib.Core.Path.{◌∙◌}
use Prim.Native.Nat.{◌*◌}
use native.Mathlib.Omega.{arith}
use Rattle.std.proofs.lemmas.Nat.{one_shl}
use Rattle.plan.proofs.Placing.{bytes_bits}
use Rattle.plan.proofs.puts.numbers_of.Goals as goal

pub returns : goal.returns
returns c = one_shl (8 * c.args.bytes) 64 (omega arith) ∙ bytes_bits c.args.bytes
