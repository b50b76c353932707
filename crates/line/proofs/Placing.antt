-- Where a line may stand, as the code asks it.
use mathlib.Core.List.{List}
use mathlib.Core.Path.{◌≡◌, refl}
use Rattle.sheet.specs.Form.{Time, Shift, Field, Part, zone, change, cron, rule, extra, except}
use Rattle.sheet.specs.Place.{in_place}
use Rattle.line.specs.Lined.{before_as, zone_stands, change_stands, other_stands}
use Rattle.line.specs.declared.Before.{Before}

pub zone_place : (b : Before) (s : Shift) → in_place (before_as b) (zone s) ≡ zone_stands b
unfolding in_place
zone_place Before.Start s = refl
zone_place (Before.Zoned k) s = refl
zone_place Before.Lines s = refl

pub change_place : (b : Before) (t : Time) (s : Shift) → in_place (before_as b) (change t s) ≡ change_stands b
unfolding in_place
change_place Before.Start t s = refl
change_place (Before.Zoned k) t s = refl
change_place Before.Lines t s = refl

pub cron_place : (b : Before) (m h d mo w : Field) → in_place (before_as b) (cron m h d mo w) ≡ other_stands b
unfolding in_place
cron_place Before.Start m h d mo w = refl
cron_place (Before.Zoned k) m h d mo w = refl
cron_place Before.Lines m h d mo w = refl

pub rule_place : (b : Before) (t : Time) (ps : List Part) → in_place (before_as b) (rule t ps) ≡ other_stands b
unfolding in_place
rule_place Before.Start t ps = refl
rule_place (Before.Zoned k) t ps = refl
rule_place Before.Lines t ps = refl

pub extra_place : (b : Before) (t : Time) → in_place (before_as b) (extra t) ≡ other_stands b
unfolding in_place
extra_place Before.Start t = refl
extra_place (Before.Zoned k) t = refl
extra_place Before.Lines t = refl

pub except_place : (b : Before) (t : Time) → in_place (before_as b) (except t) ≡ other_stands b
unfolding in_place
except_place Before.Start t = refl
except_place (Before.Zoned k) t = refl
except_place Before.Lines t = refl
