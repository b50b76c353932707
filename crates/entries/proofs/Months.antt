-- The months of BYMONTH: numbers without a sign, taken up as signed ones are.
use mathlib.Core.Bool.{true, false}
use mathlib.Core.List.{List, [], ◌∷◌}
use mathlib.Core.Path.{◌≡◌, refl, ap, ◌∙◌}
use Prim.Native.Nat.{ℕ, ◌+◌}
use native.Mathlib.Omega.{arith}
use lib.Dec.{eqb}
use lib.ListN.{length}
use Rattle.calendar.proofs.Every.{same_either_way}
use Rattle.calendar.specs.Below.{within, any_of, all_of}
use Rattle.framed.proofs.Ends.{signed_as}
use Rattle.framed.specs.Framed.{month_mask}
use Rattle.masks.proofs.MaskFroms.{mask_from_same, mask_none}
use Rattle.sheet.specs.Words.{Signed}
use Rattle.words.specs.Answers.{number_read}
use Rattle.words.specs.Lists.{over_all}
use Rattle.words.specs.Reads.{number_at}
use Rattle.entries.specs.Gathered.{gathered, step_of, ended}
use Rattle.entries.specs.Lists.{months_read, months_given, months_as}
use Rattle.entries.specs.Marks.{take_number, take_month}
use Rattle.entries.specs.declared.numbers.Numbers.{Numbers}
use Rattle.entries.proofs.Gathering.{gathered_list, made_same}
use Rattle.entries.proofs.Marking.{list_given, no_numbers, numbers_marked}

abbrev unsigned : ℕ → Signed
unsigned n = record { minus = false; number = n }

abbrev unsigneds : List ℕ → List Signed
unsigneds [] = []
unsigneds (n ∷ ns) = unsigned n ∷ unsigneds ns

months_over : (m : Numbers) (ms : List ℕ) → over_all take_month m ms ≡ over_all (take_number 12) m (unsigneds ms)
unfolding over_all
months_over m [] = refl
months_over m (n ∷ ms) = months_over (take_month m n) ms

-- ---- as masks
all_unsigned : (most : ℕ) (ms : List ℕ) → all_of (λ s. within 1 most s.number) (unsigneds ms) ≡ all_of (within 1 most) ms
all_unsigned most [] = refl
all_unsigned most (m ∷ ms) = rw (all_unsigned most ms) refl

front_unsigned : (i : ℕ) (ms : List ℕ) → any_of (signed_as false i) (unsigneds ms) ≡ any_of (eqb i) ms
front_unsigned i [] = refl
front_unsigned i (m ∷ ms) = rw (front_unsigned i ms, same_either_way m i) refl

back_unsigned : (i : ℕ) (ms : List ℕ) → any_of (signed_as true i) (unsigneds ms) ≡ false
back_unsigned i [] = refl
back_unsigned i (m ∷ ms) = back_unsigned i ms

months_given_lem : (ms : List ℕ) → list_given 12 (unsigneds ms) ≡ months_given ms
unfolding list_given months_given month_mask
months_given_lem ms =
    rw (
      all_unsigned 12 ms,
      mask_from_same (λ i. any_of (signed_as false i) (unsigneds ms)) (λ i. any_of (eqb i) ms) 12 1 (λ i l h. front_unsigned i ms),
      mask_none (λ i. any_of (signed_as true i) (unsigneds ms)) 12 1 (λ i l h. back_unsigned i ms),
    ) refl

pub months_taken : (s : List ℕ) (at : ℕ)
    → ended (gathered (step_of take_month (λ (e : ℕ). number_read (number_at s e))) 44 s (length s + 1) no_numbers at) ≡ months_as (months_read s at)
unfolding months_read
months_taken s at =
    ap ended
    (gathered_list take_month (λ (e : ℕ). number_read (number_at s e)) 44 s (length s + 1) no_numbers at
    ∙ made_same (over_all take_month no_numbers) months_given _ (λ ms e q. months_over no_numbers ms ∙ numbers_marked 12 (omega arith) (unsigneds ms) ∙ months_given_lem ms))
