-- "A plan is taken exactly if", condition by condition.
use Rattle.std.specs.Prelude.{Bool, true, false, cond, not, ◌&&◌, ◌||◌, List, [], ◌∷◌, ℕ, suc, ◌+◌, ◌-◌, ◌%◌, ◌^◌, leb, ltb, eqb, length, Option, None, Some}
use Rattle.calendar.specs.Below.{within}
use Rattle.frames.specs.Rule.{no_limit, ordinal_mask, rule_occurs}
use Rattle.frames.specs.declared.Cron.{Cron}
use Rattle.frames.specs.declared.Ends.{Ends}
use Rattle.frames.specs.declared.Rule.{Rule}
use Rattle.lines.specs.Lines.{lines_of}
use Rattle.masks.specs.Masks.{bit}
use Rattle.zone.specs.Zone.{offset_in_range, under_limits, in_window, in_range, most_changes, distance}
use Rattle.frames.specs.Kinds.{most_frames, is_daily, is_weekly, is_monthly, is_yearly}
use Rattle.plan.specs.Text.{line_frame}
use Rattle.plan.specs.declared.Frame.{Frame}

-- a mask with no bit but low to high, and the one with all of them
abbrev pub only_bits : ℕ → ℕ → ℕ → Bool
only_bits low high mask = eqb (mask % 2 ^ low) 0 && ltb mask (2 ^ (high + 1))

abbrev pub full_mask : ℕ → ℕ → ℕ
full_mask low high = 2 ^ (high + 1) - 2 ^ low

-- "Cron masks non-zero, only named bits"
abbrev pub mask_good : ℕ → ℕ → ℕ → Bool
mask_good low high mask = ltb 0 mask && only_bits low high mask

-- "a flag not set only with a full mask, other flag bits 0"; T-04: of the month "clear, it needs a full month mask"
unfoldable pub cron_good : Cron → Bool
cron_good f =
    mask_good 0 59 f.minutes
    && (mask_good 0 23 f.hours
    && (mask_good 1 31 f.days
    && (mask_good 1 12 f.months
    && (mask_good 0 6 f.weekdays
    && (ltb f.flags 8
    && ((bit f.flags 0 || eqb f.days (full_mask 1 31))
    && ((bit f.flags 1 || eqb f.weekdays (full_mask 0 6)) && (bit f.flags 2 || eqb f.months (full_mask 1 12)))))))))

-- "mask bits only in named places": a pair with bits 1 to 31, and five weekday masks; T-01: of the months "bits 1 to 12 only"
abbrev pub pair_good : Ends → Bool
pair_good e = only_bits 1 31 e.front && only_bits 1 31 e.back

abbrev pub ordinals_good : ℕ → Bool
ordinals_good g =
    ltb g (256 ^ 5)
    && (only_bits 0 6 (ordinal_mask g 1)
    && (only_bits 0 6 (ordinal_mask g 2) && (only_bits 0 6 (ordinal_mask g 3) && (only_bits 0 6 (ordinal_mask g 4) && only_bits 0 6 (ordinal_mask g 5)))))

unfoldable pub places_good : Rule → Bool
places_good f =
    only_bits 0 6 f.weekdays
    && (pair_good f.days
    && (ordinals_good f.ordinals.front && (ordinals_good f.ordinals.back && (pair_good f.positions && only_bits 1 12 f.months))))

-- a month day or a weekday is set
abbrev pub any_day : Rule → Bool
any_day f = not (eqb f.weekdays 0 && (no_limit f.days && no_limit f.ordinals))

-- "daily: ordinals and positions zero; weekly: weekday mask set, all else after it zero; monthly: at least one month day or weekday set";
-- T-01: the month mask is "free in every frequency", "a yearly frame is taken only with a month day or weekday set, and with a month set where an ordinal is"
unfoldable pub frequency_good : Rule → Bool
frequency_good f =
    is_daily f && (no_limit f.ordinals && no_limit f.positions)
    || (is_weekly f && (ltb 0 f.weekdays && (no_limit f.days && (no_limit f.ordinals && no_limit f.positions)))
    || (is_monthly f && any_day f
    || is_yearly f && (any_day f && (no_limit f.ordinals || ltb 0 f.months))))

-- "interval 1 to 999; local minutes in range; start not above last; start an occurrence"
unfoldable pub rule_good : Rule → Bool
rule_good f =
    frequency_good f
    && (places_good f
    && (within 1 999 f.interval && (in_window f.last && (leb f.start f.last && rule_occurs f f.start))))

-- a frame by itself
unfoldable pub frame_good : Frame → Bool
frame_good (Frame.Offset o) = offset_in_range o
frame_good (Frame.Change t) = in_range t
frame_good (Frame.Cron f) = cron_good f
frame_good (Frame.Rule f) = rule_good f
frame_good (Frame.Extra m) = in_window m
frame_good (Frame.Excepted m) = in_window m
frame_good (Frame.End n) = true

-- what stands before a frame: nothing; a zone of some transitions, the last at an instant, with an offset; more than a zone
pub data Before : Type 0 where
  start : Before
  zoned : ℕ → ℕ → ℕ → Before
  lines : Before

-- "01 first, then up to 32 of 02 under the zone limits, then others": `low` is the least instant that the next transition may have
unfoldable pub place : Before → Frame → Option Before
place start (Frame.Offset o) = Some (zoned 0 0 o)
place start (Frame.Change t) = None
place start (Frame.Cron f) = None
place start (Frame.Rule f) = None
place start (Frame.Extra m) = None
place start (Frame.Excepted m) = None
place start (Frame.End n) = None
place (zoned k low offset) (Frame.Offset o) = None
place (zoned k low offset) (Frame.Change t) = cond (ltb k most_changes && under_limits low offset t) (Some (zoned (suc k) (t.at + distance) t.offset)) None
place (zoned k low offset) (Frame.Cron f) = Some lines
place (zoned k low offset) (Frame.Rule f) = Some lines
place (zoned k low offset) (Frame.Extra m) = Some lines
place (zoned k low offset) (Frame.Excepted m) = Some lines
place (zoned k low offset) (Frame.End n) = Some lines
place lines (Frame.Offset o) = None
place lines (Frame.Change t) = None
place lines (Frame.Cron f) = Some lines
place lines (Frame.Rule f) = Some lines
place lines (Frame.Extra m) = Some lines
place lines (Frame.Excepted m) = Some lines
place lines (Frame.End n) = Some lines

-- "at most 64 before the end frame, its number right": n frames stand before
unfoldable pub number_good : ℕ → Frame → Bool
number_good n (Frame.Offset o) = ltb n most_frames
number_good n (Frame.Change t) = ltb n most_frames
number_good n (Frame.Cron f) = ltb n most_frames
number_good n (Frame.Rule f) = ltb n most_frames
number_good n (Frame.Extra m) = ltb n most_frames
number_good n (Frame.Excepted m) = ltb n most_frames
number_good n (Frame.End k) = eqb k n

abbrev pub is_end : Frame → Bool
is_end (Frame.Offset o) = false
is_end (Frame.Change t) = false
is_end (Frame.Cron f) = false
is_end (Frame.Rule f) = false
is_end (Frame.Extra m) = false
is_end (Frame.Excepted m) = false
is_end (Frame.End n) = true

-- a line that is allowed where it stands: its frame, and what stands before the next line
unfoldable pub allowed : ℕ → Before → List ℕ → Option (Frame × Before)
allowed n before line =
    elim (line_frame line) [
      | None ↦ None
      | Some f ↦ elim (place before f) [ None ↦ None | Some after ↦ cond (frame_good f && number_good n f) (Some (f, after)) None ]
    ]

-- what a plan is found to be: its frames up to the end frame, or 10 with the number of a line
pub data Loaded : Type 0 where
  taken : List Frame → Loaded
  refused : ℕ → Loaded

-- "10: plan not taken, with the line number of the first line not allowed where it stands, or of the line wanted after the last":
-- n lines were allowed, and nothing may stand after the end frame
unfoldable pub load_from : ℕ → Before → List (List ℕ) → List ℕ → Loaded
load_from n before [] tail = refused (n + 1)
load_from n before (line ∷ more) tail =
    elim (allowed n before line) [
      | None ↦ refused (n + 1)
      | Some r ↦ elim (is_end r.0) [
        | true ↦ cond (eqb (length more) 0 && eqb (length tail) 0) (taken []) (refused (n + 2))
        | false ↦ elim (load_from (n + 1) r.1 more tail) [ taken fs ↦ taken (r.0 ∷ fs) | refused k ↦ refused k ]
      ]
    ]

unfoldable pub load : List ℕ → Loaded
load text = let r = lines_of text in load_from 0 start r.whole r.tail

-- the refusal number and the line
abbrev pub loaded_number : Loaded → ℕ
loaded_number (taken fs) = 0
loaded_number (refused k) = 10

abbrev pub loaded_line : Loaded → ℕ
loaded_line (taken fs) = 0
loaded_line (refused k) = k
