-- Sets of a month's days: the whole month, none of it, one built up, and what a frame says of a day by its place.
use mathlib.Core.Bool.{Bool, true, false, cond, ◌&&◌, ◌||◌, and-false}
use mathlib.Core.List.{List}
use mathlib.Core.Path.{◌≡◌, refl, sym, ap, ◌∙◌}
use Prim.Native.Nat.{ℕ, suc, ◌+◌, ◌-◌, ◌%◌, ◌≤◌}
use native.Mathlib.Omega.{arith}
use borrow.Author.Tests.{lt-leb, not-true, not-false}
use lib.Dec.{T, leb}
use Rattle.calendar.proofs.Every.{every, neither}
use Rattle.calendar.specs.Below.{every_below}
use Rattle.calendar.specs.Window.{month_first, month_days, local_weekday}
use Rattle.masks.proofs.MaskFroms.{mask_from_same, mask_none, bit_in_mask}
use Rattle.masks.proofs.WithBits.{mask_from_with_last}
use Rattle.masks.specs.Masks.{bit, mask_from, with_bit}
use Rattle.frames.specs.Cron.{joined, cron_day_at, cron_day}
use Rattle.frames.specs.Months.{month_counts, rule_part, month_part, month_out, day_of, days_in, InMonth, place_wanted}
use Rattle.frames.specs.Numbers.{cron_of, rule_of, months_in, flags_in, rule_months_in}
use Rattle.frames.specs.Rule.{no_limit, month_allowed, month_day_allowed, weekday_allowed, in_set}
use Rattle.frames.specs.Years.{positions_in}
use Rattle.frames.specs.Kinds.{cron_kind, rule_kind, kind_in, is_kind}
use Rattle.frames.specs.declared.Cron.{Cron}
use Rattle.frames.specs.declared.Ends.{Ends}
use Rattle.frames.specs.declared.Rule.{Rule}
use Rattle.frames.proofs.MonthDays.{in_month, month_of_day, day_of_day, end_of_day, weekday_of_day_lem}

pub is_true : (b : Bool) → T b → b ≡ true
is_true true t = refl
is_true false t = absurd t

whole_month : ℕ → Bool
whole_month n = leb n 0 || bit 4294967294 n

all_whole : T (every_below whole_month 32)
unfolding whole_month
all_whole = tt

-- 4,294,967,294 has the bits 1 to 31
pub whole_bit : (n : ℕ) → 1 ≤ n → n ≤ 31 → bit 4294967294 n ≡ true
unfolding whole_month
whole_bit n l h =
    let e : leb n 0 ≡ false = lt-leb n 0 l in
    is_true (bit 4294967294 n) (simp e at (every whole_month 32 all_whole n (omega arith)))

-- the set of a month's days that pass a test: no other days, and those
pub month_none : (test : ℕ → Bool) (k : ℕ) → ((n : ℕ) → InMonth k n → test n ≡ false) → 0 ≡ mask_from test (month_days k) 1
month_none test k none = sym (mask_none test (month_days k) 1 (λ n l h. none n (in_month k n l (omega arith))))

pub month_same : (test other : ℕ → Bool) (k len : ℕ) → len ≡ month_days k → ((n : ℕ) → InMonth k n → test n ≡ other n)
    → mask_from test len 1 ≡ mask_from other (month_days k) 1
month_same test other k len e same =
    ap (λ (m : ℕ). mask_from test m 1) e ∙ mask_from_same test other (month_days k) 1 (λ n l h. same n (in_month k n l (omega arith)))

pub month_bit : (test : ℕ → Bool) (k n : ℕ) → InMonth k n → bit (mask_from test (month_days k) 1) n ≡ test n
month_bit test k n i = bit_in_mask test (month_days k) 1 n i.low (omega (arith, i.high))

-- a set built up a day at a time
built : (test : ℕ → Bool) (n : ℕ) → 1 ≤ n → n ≤ 31
    → mask_from test (n + 1 - 1) 1 ≡ cond (test n) (with_bit (mask_from test (n - 1) 1) n) (mask_from test (n - 1) 1)
built test n l h =
    let e : n + 1 - 1 ≡ suc (n - 1) = omega arith in
    let g : 1 + (n - 1) ≡ n = omega arith in
    rw (e, mask_from_with_last test (n - 1) 1 (omega arith), g)

pub built_none : (test : ℕ → Bool) → 0 ≡ mask_from test (1 - 1) 1
unfolding mask_from
built_none test = refl

pub built_next : (test : ℕ → Bool) (n set : ℕ) → 1 ≤ n → n ≤ 31 → set ≡ mask_from test (n - 1) 1 → (b : Bool) → test n ≡ b
    → cond b (with_bit set n) set ≡ mask_from test (n + 1 - 1) 1
built_next test n set l h e b t = rw (built test n l h, t, e)

pub built_without : (test : ℕ → Bool) (n set : ℕ) → 1 ≤ n → n ≤ 31 → set ≡ mask_from test (n - 1) 1 → test n ≡ false
    → set ≡ mask_from test (n + 1 - 1) 1
built_without test n set l h e t = built_next test n set l h e false t

pub built_whole : (test : ℕ → Bool) (n len set : ℕ) → set ≡ mask_from test (n - 1) 1 → n ≡ len + 1 → set ≡ mask_from test len 1
built_whole test n len set e d =
    let g : n - 1 ≡ len = omega arith in
    e ∙ ap (λ (k : ℕ). mask_from test k 1) g

-- a frame's day by its place
pub cron_day_at_lem : (f : Cron) (k n : ℕ) → InMonth k n
    → cron_day f (day_of k n) ≡ cron_day_at f (k % 12 + 1) n ((local_weekday (month_first k) + (n - 1)) % 7)
unfolding cron_day
cron_day_at_lem f k n i = rw (month_of_day k n i, day_of_day k n i, weekday_of_day_lem k n i)

pub in_set_at : (f : Rule) (k n : ℕ) → InMonth k n
    → in_set f (day_of k n)
    ≡ (month_allowed f.months (k % 12 + 1)
    && (month_day_allowed f n (month_days k + 1 - n) && weekday_allowed f n (month_days k + 1 - n) ((local_weekday (month_first k) + (n - 1)) % 7)))
unfolding in_set
in_set_at f k n i = rw (month_of_day k n i, day_of_day k n i, end_of_day k n i, weekday_of_day_lem k n i)

-- a month that the mask of a rule leaves out has none of its days
module _ (f : Rule) (k n : ℕ) (out : month_allowed f.months (k % 12 + 1) ≡ false) (i : InMonth k n) where
  pub not_in_set : in_set f (day_of k n) ≡ false
  not_in_set = in_set_at f k n i ∙ simp out

  not_placed : (positions : Ends) → place_wanted positions (days_in f k) n ≡ false
  not_placed positions = let b = month_bit (λ j. in_set f (day_of k j)) k n i ∙ not_in_set in simp b

  none_chosen : (start counts : ℕ) (b : Bool) → no_limit f.positions ≡ b → rule_part f start counts k n ≡ false
  unfolding rule_part
  none_chosen start counts true e = simp (e, not_in_set, and-false)
  none_chosen start counts false e = simp (e, not_placed (positions_in f counts k), and-false)

  pub out_rule : (start counts : ℕ) → rule_part f start counts k n ≡ false
  out_rule start counts = none_chosen start counts (no_limit f.positions) refl

-- none of a frame's months
module _ (l : List ℕ) (start counts k n : ℕ) (i : InMonth k n) where
  out_by_kind : (a b : Bool) → is_kind cron_kind l ≡ a → is_kind rule_kind l ≡ b → month_out l k ≡ true → month_part l start counts k n ≡ false
  unfolding month_out month_part cron_day_at
  out_by_kind true b p q e =
      let m = neither (bit (months_in l) (k % 12 + 1)) (joined (flags_in l)) (not-true (bit (months_in l) (k % 12 + 1) || joined (flags_in l)) (simp p at e)) in
      rw p (cron_day_at_lem (cron_of l) k n i ∙ simp (m.0, m.1))
  out_by_kind false true p q e =
      let m = not-true (month_allowed (rule_months_in l) (k % 12 + 1)) (simp (p, q) at e) in
      rw (p, q) (out_rule (rule_of l) k n m i start counts)
  out_by_kind false false p q e = rw (p, q) refl

  pub out_part : month_out l k ≡ true → month_part l start counts k n ≡ false
  out_part e = out_by_kind (is_kind cron_kind l) (is_kind rule_kind l) refl refl e

-- one of a rule's months
module _ (l : List ℕ) (k : ℕ) (e : month_out l k ≡ false) where
  pub rule_month_in : kind_in l ≡ rule_kind → month_allowed (rule_months_in l) (k % 12 + 1) ≡ true
  unfolding month_out
  rule_month_in z = not-false (month_allowed (rule_months_in l) (k % 12 + 1)) (simp z at e)

-- a rule's days by its month, without positions and with them
module _ (f : Rule) (start counts k : ℕ) (m : month_counts f start k ≡ true) where
  pub free_part : (n : ℕ) → no_limit f.positions ≡ true → in_set f (day_of k n) ≡ rule_part f start counts k n
  unfolding rule_part
  free_part n l = rw (m, l) refl

  pub picked_part : (n : ℕ) → no_limit f.positions ≡ false → place_wanted (positions_in f counts k) (days_in f k) n ≡ rule_part f start counts k n
  unfolding rule_part
  picked_part n l = rw (m, l) refl
