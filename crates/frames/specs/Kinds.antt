-- "Kind": the first byte of a frame, and a rule's frequency, "1 daily, 2 weekly, 3 monthly", and by request T-01 "`FREQ=YEARLY` (frequency 4)".
use Rattle.std.specs.Prelude.{Bool, List, ℕ, eqb, get_or}
use Rattle.frames.specs.declared.Rule.{Rule}

abbrev pub offset_kind : ℕ
offset_kind = 1

abbrev pub change_kind : ℕ
change_kind = 2

abbrev pub cron_kind : ℕ
cron_kind = 3

abbrev pub rule_kind : ℕ
rule_kind = 4

abbrev pub extra_kind : ℕ
extra_kind = 5

abbrev pub excepted_kind : ℕ
excepted_kind = 6

abbrev pub end_kind : ℕ
end_kind = 255

-- "at most 64 before the end frame"
abbrev pub most_frames : ℕ
most_frames = 64

abbrev pub daily_number : ℕ
daily_number = 1

abbrev pub weekly_number : ℕ
weekly_number = 2

abbrev pub monthly_number : ℕ
monthly_number = 3

abbrev pub yearly_number : ℕ
yearly_number = 4

-- the numbers of a row
abbrev pub row_numbers : ℕ
row_numbers = 18

-- a frame's numbers: its kind first, then a rule's frequency
abbrev pub kind_in : List ℕ → ℕ
kind_in l = get_or l 0 0

abbrev pub frequency_in : List ℕ → ℕ
frequency_in l = get_or l 1 0

abbrev pub is_kind : ℕ → List ℕ → Bool
is_kind kind l = eqb (kind_in l) kind

abbrev pub is_daily : Rule → Bool
is_daily f = eqb f.frequency daily_number

abbrev pub is_weekly : Rule → Bool
is_weekly f = eqb f.frequency weekly_number

abbrev pub is_monthly : Rule → Bool
is_monthly f = eqb f.frequency monthly_number

abbrev pub is_yearly : Rule → Bool
is_yearly f = eqb f.frequency yearly_number
