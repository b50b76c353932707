-- What the tests of a frame's numbers are, one by one.
use mathlib.Core.Bool.{Bool, true, false, and-true}
use mathlib.Core.List.{List}
use mathlib.Core.Logic.{dite}
use mathlib.Core.Path.{◌≡◌, refl, sym, ◌∙◌}
use Prim.Native.Nat.{ℕ, ◌+◌, ◌/◌, ◌%◌, ◌<◌}
use native.Mathlib.Decide.{ℕ_discrete}
use native.Mathlib.Nat.{div-one, mod-one}
use borrow.Author.Tests.{eq-eqb, ne_eqb, lt-ltb}
use mir.Syntax.{w64}
use native.Mathlib.Omega.{arith}
use Rattle.std.specs.Int.{to_be_bytes}
use Rattle.std.specs.List.{list_all, AllWithin, HoldsAt}
use lib.Dec.{ltb, eqb}
use lib.ListN.{length}
use Rattle.std.specs.Bool.{MatchBool}
use Rattle.std.proofs.lemmas.List.Elements.{All-from_all_within}
use Rattle.std.proofs.lemmas.List.Folds.{list_all_at}
use Rattle.std.proofs.lemmas.List.Sums.{list_all-from_AllPass}
use Rattle.days.proofs.Answers.{this_day, not_this_day}
use Rattle.frames.specs.Numbers.{day_held}
use Rattle.frames.specs.Rule.{rule_day, rule_occurs}
use Rattle.days.specs.Search.{least_day}
use Rattle.frames.specs.declared.Rule.{Rule}
use Rattle.plan.specs.Rows.{row_of}
use Rattle.plan.specs.Taken.{only_bits, ordinals_good}
use Rattle.plan.specs.declared.Frame.{Frame}

-- a test a, whose answer r let the code stop or go on
pub stopped : {r a : Bool} → r ≡ a → r ≡ false → a ≡ false
stopped e n = sym e ∙ n

pub passed : {r a : Bool} → r ≡ a → r ≡ true → a ≡ true
passed e n = sym e ∙ n

-- what a call of `all` found of a test
pub by_test : (p : ℕ → Bool) (r : Bool) (xs : List ℕ)
    → MatchBool r (AllWithin (λ b. p b ≡ true) xs 0 (length xs)) ((k : ℕ) × (k < length xs) × HoldsAt (λ b. p b ≡ false) xs k)
    → r ≡ list_all p xs
by_test p true xs h = sym (list_all-from_AllPass p xs (All-from_all_within (λ b. p b ≡ true) xs h))
by_test p false xs h = sym (list_all_at p xs h.0 0 h.1 (h.2 0))

-- a weekday mask has no bit above 6 exactly if it is below 128
weekday_bits : (m : ℕ) → only_bits 0 6 m ≡ ltb m 128
weekday_bits m = rw (mod-one m)

pub ordinals_by_bytes : (g : ℕ) → g < 1099511627776 → list_all (λ b. ltb b 128) (to_be_bytes w64 g) ≡ ordinals_good g
ordinals_by_bytes g h =
    let a : g / 1099511627776 % 256 ≡ 0 = omega arith in
    let b : g / 281474976710656 % 256 ≡ 0 = omega arith in
    let c : g / 72057594037927936 % 256 ≡ 0 = omega arith in
    rw (
      a,
      b,
      c,
      lt-ltb g 1099511627776 h,
      weekday_bits (g / 4294967296 % 256),
      weekday_bits (g / 16777216 % 256),
      weekday_bits (g / 65536 % 256),
      weekday_bits (g / 256 % 256),
      weekday_bits (g / 1 % 256),
      div-one g,
      and-true,
    )

-- a day by itself is the least of itself exactly if it is held
day_found : (l : List ℕ) (d : ℕ) → d < 36525 → eqb (least_day l d (d + 1)) d ≡ day_held l d
day_found l d h =
    dite (ℕ_discrete (least_day l d (d + 1)) d)
    (λ (e : least_day l d (d + 1) ≡ d). eq-eqb (least_day l d (d + 1)) d e ∙ sym (this_day l d h e))
    (λ (n : least_day l d (d + 1) ≡ d → ⊥). ne_eqb (least_day l d (d + 1)) d n ∙ sym (not_this_day l d h n))

pub rule_row_day : (f : Rule) (d : ℕ) → day_held (row_of (Frame.Rule f)) d ≡ rule_day f d
unfolding row_of day_held
rule_row_day f d = refl

pub rule_day_found : (f : Rule) (d : ℕ) → d < 36525 → eqb (least_day (row_of (Frame.Rule f)) d (d + 1)) d ≡ rule_day f d
rule_day_found f d h = day_found (row_of (Frame.Rule f)) d h ∙ rule_row_day f d

-- the start has its own time of day
pub start_occurs_lem : (f : Rule) → rule_occurs f f.start ≡ rule_day f (f.start / 1440)
unfolding rule_occurs
start_occurs_lem f = rw (eq-eqb (f.start % 1440) (f.start % 1440) refl) (and-true (rule_day f (f.start / 1440)))
