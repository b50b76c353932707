-- The entries of BYDAY and the signed numbers, taken up as they are read, as the masks of the whole lists.
use Rattle.std.specs.Prelude.{Some}
use mathlib.Core.Bool.{true}
use mathlib.Core.List.{List, [], ◌∷◌}
use mathlib.Core.Path.{◌≡◌, refl, ap, ◌∙◌}
use Prim.Native.Nat.{ℕ, ◌+◌, ◌<◌, ◌≤◌}
use native.Mathlib.Omega.{arith}
use borrow.Author.Tests.{lt-ltb}
use lib.ListN.{length}
use Rattle.calendar.specs.Below.{all_of}
use Rattle.framed.proofs.Goods.{weekday_written}
use Rattle.framed.proofs.Ordinals.{entry_weekday}
use Rattle.framed.specs.Framed.{ends_of}
use Rattle.sheet.specs.Form.{Entry, plain, ordinal}
use Rattle.sheet.specs.Words.{Signed}
use Rattle.words.proofs.Afters.{Every, empty, with}
use Rattle.words.specs.Answers.{signed_read}
use Rattle.words.specs.Lists.{over_all}
use Rattle.words.specs.Reads.{signed_at}
use Rattle.entries.specs.Gathered.{gathered, step_of, ended}
use Rattle.entries.specs.Lists.{entry_read, days_read, days_as, numbers_read, numbers_given, numbers_as, weekdays_given}
use Rattle.entries.specs.Marks.{take_entry, take_number}
use Rattle.entries.specs.declared.weekdays.Weekdays.{Weekdays}
use Rattle.entries.proofs.Gathering.{gathered_list, made_same, step_goes_on}
use Rattle.entries.proofs.Marking.{list_given, no_numbers, numbers_marked, no_entries, entries_marked}
use Rattle.entries.proofs.Places.{entry_after, days_weekdays}

-- the numbers of BYMONTHDAY and BYSETPOS
numbers_are : (ns : List Signed) → over_all (take_number 31) no_numbers ns ≡ numbers_given ns
unfolding list_given numbers_given ends_of
numbers_are ns = numbers_marked 31 (omega arith) ns

pub numbers_taken : (s : List ℕ) (at : ℕ)
    → ended (gathered (step_of (take_number 31) (λ (e : ℕ). signed_read (signed_at s e))) 44 s (length s + 1) no_numbers at) ≡ numbers_as (numbers_read s at)
unfolding numbers_read
numbers_taken s at =
    ap ended
    (gathered_list (take_number 31) (λ (e : ℕ). signed_read (signed_at s e)) 44 s (length s + 1) no_numbers at
    ∙ made_same (over_all (take_number 31) no_numbers) numbers_given _ (λ ns e q. numbers_are ns))

all_weekdays : (es : List Entry) → Every (λ x. entry_weekday x < 7) es → all_of weekday_written es ≡ true
all_weekdays [] empty = refl
all_weekdays (plain w ∷ es) (with h all) = rw (lt-ltb w 7 h) (all_weekdays es all)
all_weekdays (ordinal n w ∷ es) (with h all) = rw (lt-ltb w 7 h) (all_weekdays es all)

pub days_taken : (s : List ℕ) (at : ℕ)
    → ended (gathered (step_of take_entry (entry_read s)) 44 s (length s + 1) no_entries at) ≡ days_as (days_read s at)
unfolding days_read
days_taken s at =
    ap ended
    (gathered_list take_entry (entry_read s) 44 s (length s + 1) no_entries at
    ∙ made_same (over_all take_entry no_entries) weekdays_given (days_read s at) (λ es e q. entries_marked es (all_weekdays es (days_weekdays s at es e q))))

pub entry_goes_on : (s : List ℕ) (m : Weekdays) (at : ℕ) (r : Weekdays × ℕ) → step_of take_entry (entry_read s) m at ≡ Some r → at ≤ r.1
entry_goes_on s m at = step_goes_on (take_entry m) (entry_read s at) at (entry_after s at)
