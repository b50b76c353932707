-- A month's held days: the set that goes by the month, where the days' own part passes.
use mathlib.Core.Bool.{Bool, true, false, ◌&&◌, and-true, and-false}
use mathlib.Core.List.{List}
use mathlib.Core.Logic.{dite}
use mathlib.Core.Path.{◌≡◌, sym, ap, ◌∙◌}
use Prim.Native.Nat.{ℕ, ◌+◌, ◌-◌, ◌*◌, ◌/◌, ◌%◌, ◌<◌, ◌≤◌, max}
use native.Mathlib.Decide.{dec_lt}
use native.Mathlib.Nat.{div-mul-le_self, mod-add-mod}
use native.Mathlib.Omega.{arith}
use lib.Dec.{ltb}
use lib.ListN.{get_or}
use Rattle.calendar.specs.Window.{month_first, month_days}
use Rattle.masks.proofs.Bits.{bit_of_zero}
use Rattle.masks.proofs.MaskFroms.{bit_above_mask}
use Rattle.masks.specs.Masks.{bit}
use Rattle.frames.specs.Months.{month_part, month_set, day_of, InMonth}
use Rattle.frames.specs.Numbers.{day_held, rule_of, start_month}
use Rattle.frames.specs.Years.{year_counts}
use Rattle.days.proofs.Splits.{month_set_of}
use Rattle.days.specs.Steps.{day_counts, day_part}
use Rattle.count.specs.Runs.{in_run, Runs}
use Rattle.count.specs.Sets.{set_of, HeldSet, AllFrom}
use Rattle.count.specs.Turns.{width_of, start_day, place_of, Turn}
use Rattle.count.proofs.NthDays.{day_below}
use Rattle.count.proofs.Turning.{part_before, part_from}

module _ (l : List ℕ) (k set : ℕ) (e : set ≡ set_of l k) where
  pub none_past : (n : ℕ) → month_days k < n → bit set n ≡ false
  unfolding month_set
  none_past n h = ap (λ (m : ℕ). bit m n) e ∙ bit_above_mask (month_part l (start_month l) (year_counts l (k / 12)) k) (month_days k) 1 n (omega arith)

  by_part : (n : ℕ) (b : Bool) → InMonth k n → day_part l (day_of k n) ≡ b → (bit set n && b) ≡ day_held l (day_of k n)
  by_part n b i p = ap (λ (x : Bool). bit set n && x) (sym p) ∙ (month_set_of l k set e).decides n i

  pub by_month_set : AllFrom (day_part l) (month_first k) → HeldSet l k set
  by_month_set all =
      record { decides = λ n i. sym (and-true (bit set n)) ∙ by_part n true i (all.passes (day_of k n) (omega arith) (day_below k n i)); none = none_past }

  module _ (kind : get_or l 0 0 ≡ 4) where
    pub none_held : month_first k + month_days k ≤ start_day l → HeldSet l k 0
    none_held h =
        record {
          decides = λ n i.
              bit_of_zero n ∙ sym (and-false (bit set n)) ∙ by_part n false i (part_before l kind (day_of k n) (omega (arith, i.low, i.high)));
          none = λ n g. bit_of_zero n;
        }

    -- from the later of the start and the month's first day on, the runs of the rule's turns
    module _ (from turn r : ℕ) (t : Turn l turn) (a : from ≡ max (month_first k) (start_day l))
        (q : Runs set (from - month_first k + 1) (place_of (width_of l) (start_day l) from % turn) (width_of l) turn (month_days k) r) where
      n : ℕ
      n = from - month_first k + 1

      in_turn : (j : ℕ) → InMonth k j → n ≤ j
          → in_run n (place_of (width_of l) (start_day l) from % turn) (width_of l) turn j ≡ day_counts (rule_of l) (day_of k j)
      unfolding n
      in_turn j i h =
          let w : ℕ = width_of l in
          let s : ℕ = start_day l in
          let b : (730119 + s) / w * w ≤ 730119 + s = div-mul-le_self (730119 + s) w in
          let p : place_of w s from + (j - (from - month_first k + 1)) ≡ place_of w s (day_of k j) = omega (arith, i.low) in
          ap (λ (x : ℕ). ltb x w) (mod-add-mod (place_of w s from) turn (j - (from - month_first k + 1)) ∙ ap (λ (x : ℕ). x % turn) p)
          ∙ sym (t.counts (day_of k j) (omega (arith, i.low)) (day_below k j i))

      pub counted_held : HeldSet l k r
      unfolding n
      counted_held =
          record {
            decides = λ j i.
                dite (dec_lt j (from - month_first k + 1))
                (λ (h : j < from - month_first k + 1).
                q.before j h ∙ sym (and-false (bit set j)) ∙ by_part j false i (part_before l kind (day_of k j) (omega (arith, i.low))))
                (λ (h : j < from - month_first k + 1 → ⊥).
                q.decides j (omega arith) i.high
                ∙ ap (λ (b : Bool). bit set j && b) (in_turn j i (omega arith))
                ∙ by_part j (day_counts (rule_of l) (day_of k j)) i (part_from l kind (day_of k j) (omega (arith, i.low))));
            none = q.after;
          }
