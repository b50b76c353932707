-- "The sheet": the written form of each line, whatever its numbers.
use Rattle.std.specs.Prelude.{Bool, true, false, cond, ◌&&◌, ◌||◌, List, [], ◌∷◌, ℕ, ◌-◌, ltb, eqb, length, get_or, take, drop, Option, None, Some}
use Rattle.calendar.specs.Below.{all_of}
use Rattle.lines.specs.Bytes.{bytes, byte}
use Rattle.sheet.specs.Words.{same_bytes, word_in, is_digit, decimal, number_of, Signed, signed_of, pieces, each_of}

-- "A *time* is `YYYYMMDDTHHMM`", T-02: or "`YYYYMMDDTHHMMSS`"
pub record Time : Type 0 where
  pub year : ℕ
  pub month : ℕ
  pub day : ℕ
  pub hour : ℕ
  pub minute : ℕ
  pub second : ℕ

-- T-02: "four or six digits may follow the `T`"
unfoldable pub clock_digits : ℕ → Bool
clock_digits n = eqb n 4 || eqb n 6

-- where no seconds are written they are 0
unfoldable pub time_of : List ℕ → Option Time
time_of s =
    cond
    (all_of is_digit (take 8 s)
    && (eqb (get_or s 8 0) (byte "T") && (clock_digits (length (drop 9 s)) && all_of is_digit (drop 9 s))))
    (Some
    (record {
      year = decimal 0 (take 4 s);
      month = decimal 0 (take 2 (drop 4 s));
      day = decimal 0 (take 2 (drop 6 s));
      hour = decimal 0 (take 2 (drop 9 s));
      minute = decimal 0 (take 2 (drop 11 s));
      second = decimal 0 (drop 13 s);
    }))
    None

-- "An *offset* is a sign and `HHMM`."
pub record Shift : Type 0 where
  pub minus : Bool
  pub hours : ℕ
  pub minutes : ℕ

shift : Bool → List ℕ → Option Shift
shift m s =
    cond (eqb (length s) 4 && all_of is_digit s)
    (Some (record { minus = m; hours = decimal 0 (take 2 s); minutes = decimal 0 (drop 2 s) }))
    None

unfoldable pub shift_of : List ℕ → Option Shift
unfolding shift
shift_of [] = None
shift_of (c ∷ cs) = cond (eqb c (byte "+")) (shift false cs) (cond (eqb c (byte "-")) (shift true cs) None)

-- "An element is a number or two numbers with `-`."
pub data Element : Type 0 where
  one : ℕ → Element
  range : ℕ → ℕ → Element

ends : Option (List ℕ) → Option Element
ends None = None
ends (Some []) = None
ends (Some (a ∷ [])) = Some (one a)
ends (Some (a ∷ b ∷ [])) = Some (range a b)
ends (Some (a ∷ b ∷ c ∷ more)) = None

unfoldable pub element_of : List ℕ → Option Element
unfolding ends
element_of s = ends (each_of number_of (pieces (byte "-") s))

-- "A field is `*` or an element list. An element list is an element, or an element, a comma and an element list."
pub data Field : Type 0 where
  star : Field
  list : List Element → Field

listed : Option (List Element) → Option Field
listed None = None
listed (Some es) = Some (list es)

unfoldable pub field_of : List ℕ → Option Field
unfolding listed
field_of s = cond (same_bytes s (bytes "*")) (Some star) (listed (each_of element_of (pieces (byte ",") s)))

-- "`SU MO TU WE Th FR SA`", Sunday 0
unfoldable pub weekday_words : List (List ℕ)
weekday_words = bytes "SU" ∷ bytes "MO" ∷ bytes "TU" ∷ bytes "WE" ∷ bytes "TH" ∷ bytes "FR" ∷ bytes "SA" ∷ []

-- a weekday, "each with an optional signed ordinal"
pub data Entry : Type 0 where
  plain : ℕ → Entry
  ordinal : Signed → ℕ → Entry

unfoldable pub ordinal_entry : Option Signed → ℕ → Option Entry
ordinal_entry None w = None
ordinal_entry (Some n) w = Some (ordinal n w)

unfoldable pub entry_of : List ℕ → Option Entry
unfolding ordinal_entry
entry_of s =
    let front = take (length s - 2) s in
    let w = word_in weekday_words (drop (length s - 2) s) in
    cond (ltb w 7) (cond (eqb (length front) 0) (Some (plain w)) (ordinal_entry (signed_of front) w)) None

-- the parts of a rule; T-01 added YEARLY and BYMONTH
pub data Frequency : Type 0 where
  daily weekly monthly yearly : Frequency

pub data Part : Type 0 where
  freq : Frequency → Part
  interval : ℕ → Part
  count : ℕ → Part
  until : Time → Part
  by_day : List Entry → Part
  by_month_day : List Signed → Part
  by_set_pos : List Signed → Part
  by_month : List ℕ → Part

unfoldable pub frequency_words : List (List ℕ)
frequency_words = bytes "DAILY" ∷ bytes "WEEKLY" ∷ bytes "MONTHLY" ∷ bytes "YEARLY" ∷ []

unfoldable pub frequency_at : ℕ → Option Part
frequency_at k =
    cond (eqb k 0) (Some (freq daily))
    (cond (eqb k 1) (Some (freq weekly)) (cond (eqb k 2) (Some (freq monthly)) (cond (eqb k 3) (Some (freq yearly)) None)))

-- "Part names and values are upper case and compared byte for byte."
unfoldable pub part_words : List (List ℕ)
part_words = bytes "FREQ" ∷ bytes "INTERVAL" ∷ bytes "COUNT" ∷ bytes "UNTIL" ∷ bytes "BYDAY" ∷ bytes "BYMONTHDAY" ∷ bytes "BYSETPOS" ∷ bytes "BYMONTH" ∷ []

unfoldable pub part_by : {A : Type 0} → (A → Part) → Option A → Option Part
part_by part None = None
part_by part (Some a) = Some (part a)

-- the value of a part by the part's name; "`BYMONTH=` 1 to 12, a comma list": numbers without a sign
unfoldable pub value_of : ℕ → List ℕ → Option Part
unfolding frequency_at part_by
value_of k v =
    cond (eqb k 0) (frequency_at (word_in frequency_words v))
    (cond (eqb k 1) (part_by interval (number_of v))
    (cond (eqb k 2) (part_by count (number_of v))
    (cond (eqb k 3) (part_by until (time_of v))
    (cond (eqb k 4) (part_by by_day (each_of entry_of (pieces (byte ",") v)))
    (cond (eqb k 5) (part_by by_month_day (each_of signed_of (pieces (byte ",") v)))
    (cond (eqb k 6) (part_by by_set_pos (each_of signed_of (pieces (byte ",") v)))
    (cond (eqb k 7) (part_by by_month (each_of number_of (pieces (byte ",") v))) None)))))))

unfoldable pub named : List (List ℕ) → Option Part
unfolding value_of
named [] = None
named (name ∷ []) = None
named (name ∷ value ∷ []) = value_of (word_in part_words name) value
named (name ∷ value ∷ other ∷ more) = None

unfoldable pub part_of : List ℕ → Option Part
unfolding named
part_of s = named (pieces (byte "=") s)

-- the lines; a cron line has minute, hour, day of month, month and day of week
pub data Form : Type 0 where
  zone : Shift → Form
  change : Time → Shift → Form
  cron : Field → Field → Field → Field → Field → Form
  rule : Time → List Part → Form
  extra : Time → Form
  except : Time → Form

unfoldable pub form_by : {A : Type 0} → (A → Form) → Option A → Option Form
form_by form None = None
form_by form (Some a) = Some (form a)

unfoldable pub change_by : Option Time → Option Shift → Option Form
change_by None s = None
change_by (Some t) None = None
change_by (Some t) (Some s) = Some (change t s)

unfoldable pub change_of : List (List ℕ) → Option Form
unfolding change_by
change_of [] = None
change_of (t ∷ []) = None
change_of (t ∷ s ∷ []) = change_by (time_of t) (shift_of s)
change_of (t ∷ s ∷ other ∷ more) = None

-- "five cron fields, one space between"
unfoldable pub cron_of : Option (List Field) → Option Form
cron_of None = None
cron_of (Some []) = None
cron_of (Some (a ∷ [])) = None
cron_of (Some (a ∷ b ∷ [])) = None
cron_of (Some (a ∷ b ∷ c ∷ [])) = None
cron_of (Some (a ∷ b ∷ c ∷ d ∷ [])) = None
cron_of (Some (a ∷ b ∷ c ∷ d ∷ e ∷ [])) = Some (cron a b c d e)
cron_of (Some (a ∷ b ∷ c ∷ d ∷ e ∷ f ∷ more)) = None

unfoldable pub rule_by : Option Time → Option (List Part) → Option Form
rule_by None ps = None
rule_by (Some t) None = None
rule_by (Some t) (Some ps) = Some (rule t ps)

-- "local start time, space, rule parts separated by `;`"
unfoldable pub rule_of : List (List ℕ) → Option Form
unfolding rule_by
rule_of [] = None
rule_of (t ∷ []) = None
rule_of (t ∷ ps ∷ []) = rule_by (time_of t) (each_of part_of (pieces (byte ";") ps))
rule_of (t ∷ ps ∷ other ∷ more) = None

unfoldable pub tagged : ℕ → List ℕ → Option Form
unfolding form_by change_of cron_of rule_of
tagged tag s =
    cond (eqb tag (byte "Z")) (form_by zone (shift_of s))
    (cond (eqb tag (byte "T")) (change_of (pieces (byte " ") s))
    (cond (eqb tag (byte "C")) (cron_of (each_of field_of (pieces (byte " ") s)))
    (cond (eqb tag (byte "R")) (rule_of (pieces (byte " ") s))
    (cond (eqb tag (byte "D")) (form_by extra (time_of s)) (cond (eqb tag (byte "X")) (form_by except (time_of s)) None)))))

-- "Each line starts with a tag letter and one space."
unfoldable pub form_of : List ℕ → Option Form
unfolding tagged
form_of [] = None
form_of (tag ∷ []) = None
form_of (tag ∷ space ∷ s) = cond (eqb space (byte " ")) (tagged tag s) None
