-- Where a line may stand, by its tag.
use Rattle.std.specs.Prelude.{Bool, true, false, ℕ, suc, ltb}
use Rattle.zone.specs.Zone.{most_changes}
use Rattle.sheet.specs.Form.{Form, zone, change, cron, rule, extra, except}

-- what stands before a line: nothing, a Z and so many T, or more
pub data Before : Type 0 where
  start : Before
  zoned : ℕ → Before
  lines : Before

abbrev pub after : Before → Form → Before
after b (zone s) = zoned 0
after start (change t s) = lines
after (zoned k) (change t s) = zoned (suc k)
after lines (change t s) = lines
after b (cron m h d mo w) = lines
after b (rule t ps) = lines
after b (extra t) = lines
after b (except t) = lines

-- "`Z`: exactly one, the first line. `T`: directly after `Z` or another `T`." "At most 32."
unfoldable pub in_place : Before → Form → Bool
in_place start (zone s) = true
in_place start (change t s) = false
in_place start (cron m h d mo w) = false
in_place start (rule t ps) = false
in_place start (extra t) = false
in_place start (except t) = false
in_place (zoned k) (zone s) = false
in_place (zoned k) (change t s) = ltb k most_changes
in_place (zoned k) (cron m h d mo w) = true
in_place (zoned k) (rule t ps) = true
in_place (zoned k) (extra t) = true
in_place (zoned k) (except t) = true
in_place lines (zone s) = false
in_place lines (change t s) = false
in_place lines (cron m h d mo w) = true
in_place lines (rule t ps) = true
in_place lines (extra t) = true
in_place lines (except t) = true
