-- The bytes that are left fall.
use Prim.Native.Nat.{◌-◌}
use lib.ListN.{length}
use Rattle.fields.proofs.list.+rest_from.Given as goal

abbrev pub decreases-rest_from : goal.decreases-rest_from
decreases-rest_from g l = length l.t.now.now - l.at
