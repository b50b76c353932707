-- A zone as the code holds it.
use Rattle.std.specs.Prelude.{take}
use Rattle.zone.specs.Zone.{Offsets}
use Rattle.zone.specs.declared.Zone.{Zone}

-- its transitions are the first `count` of the array, and all 32 where `count` is above
unfoldable pub offsets_of : Zone → Offsets
offsets_of z = record { first = z.first; changes = take z.count z.changes }
