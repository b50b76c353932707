-- The interval of a rule as turns of days.
use mathlib.Core.Bool.{Bool, true, false, cond}
use mathlib.Core.List.{List}
use mathlib.Core.Path.{◌≡◌, refl, sym, ap, ◌∙◌}
use Prim.Native.Nat.{ℕ, zero, suc, ◌+◌, ◌-◌, ◌*◌, ◌/◌, ◌%◌, ◌<◌, ◌≤◌}
use native.Mathlib.Nat.{div-add-mod, mod-eq_of_lt, mod-lt, mul-add-mod_self_left, mul_assoc, mul-suc}
use native.Mathlib.Omega.{arith}
use borrow.Author.Tests.{eq-eqb, ne_eqb, lt-ltb, le-ltb, le-leb, lt-leb}
use lib.Dec.{eqb, ltb}
use lib.ListN.{get_or}
use Rattle.calendar.proofs.Weekdays.{local_week_lem}
use Rattle.frames.specs.Numbers.{rule_of}
use Rattle.frames.specs.Rule.{period, counts}
use Rattle.days.specs.Steps.{day_counts, day_part}
use Rattle.count.specs.Turns.{width_of, start_day, place_of, Turn, Stride}

-- the first of the runs of 7, or of 1
first_run : (w z c : ℕ) → c < w → eqb z 0 ≡ ltb (w * z + c) w
first_run w zero c h = let e : w * 0 + c ≡ c = omega arith in rw (e, lt-ltb c w h) refl
first_run w (suc z) c h = ne_eqb (suc z) 0 (λ (e : suc z ≡ 0). omega arith) ∙ sym (le-ltb (w * suc z + c) w (omega (arith, mul-suc w z)))

-- a remainder of weeks, in days
weeks_over : (q r c : ℕ) → 1 ≤ r → c < 7 → (7 * q + c) % (7 * r) ≡ 7 * (q % r) + c
weeks_over q r c l h =
    let m : q % r < r = mod-lt q l in
    let e : 7 * q + c ≡ 7 * r * (q / r) + (7 * (q % r) + c) = omega (arith, div-add-mod q r, mul_assoc 7 r (q / r)) in
    ap (λ (y : ℕ). y % (7 * r)) e ∙ mul-add-mod_self_left (7 * r) (q / r) (7 * (q % r) + c) ∙ mod-eq_of_lt (omega arith)

module _ (l : List ℕ) (r : ℕ) (s : Stride (get_or l 2 0) r) where
  pub daily_turn : get_or l 1 0 ≡ 1 → Turn l r
  unfolding day_counts counts period
  daily_turn e =
      record {
        room = rw e s.low;
        small = omega (arith, s.high);
        counts = λ j h t.
            let d : ℕ = j - get_or l 3 0 / 1440 in
            let p : 730119 + j - (730119 + get_or l 3 0 / 1440) / 1 * 1 ≡ d = omega arith in
            let o : 1 * (d % r) + 0 ≡ d % r = omega arith in
            rw (e, p) (ap (λ (y : ℕ). eqb y 0) (s.same d (omega arith)) ∙ first_run 1 (d % r) 0 (omega arith) ∙ ap (λ (y : ℕ). ltb y 1) o);
      }

  pub weekly_turn : get_or l 1 0 ≡ 2 → Turn l (7 * r)
  unfolding day_counts counts period
  weekly_turn e =
      record {
        room = rw e (omega (arith, s.low));
        small = omega (arith, s.high);
        counts = λ j h t.
            let q : ℕ = (730119 + j) / 7 - (730119 + get_or l 3 0 / 1440) / 7 in
            let p : 730119 + j - (730119 + get_or l 3 0 / 1440) / 7 * 7 ≡ 7 * q + (730119 + j) % 7 = omega arith in
            rw (e, p, local_week_lem j, local_week_lem (get_or l 3 0 / 1440))
            (ap (λ (y : ℕ). eqb y 0) (s.same q (omega arith))
            ∙ first_run 7 (q % r) ((730119 + j) % 7) (omega arith)
            ∙ ap (λ (y : ℕ). ltb y 7) (sym (weeks_over q r ((730119 + j) % 7) s.low (omega arith))));
      }

-- of any other frequency every day counts
pub every_turn : (l : List ℕ) → (get_or l 1 0 ≡ 1 → ⊥) → (get_or l 1 0 ≡ 2 → ⊥) → Turn l 1
unfolding day_counts
every_turn l a b =
    record {
      room = rw (ne_eqb _ _ b) (omega arith);
      small = omega arith;
      counts = λ j h t.
          let z : (730119 + j - (730119 + get_or l 3 0 / 1440) / 1 * 1) % 1 ≡ 0 = omega arith in
          rw (ne_eqb _ _ a, ne_eqb _ _ b, z) refl;
    }

week_or_day : (b : Bool) → (1 ≤ cond b 7 1) × (cond b 7 1 ≤ 7)
week_or_day true = (omega arith, omega arith)
week_or_day false = (omega arith, omega arith)

pub width_range : (l : List ℕ) → (1 ≤ width_of l) × (width_of l ≤ 7)
width_range l = week_or_day (eqb (get_or l 1 0) 2)

-- where a turn is all of its first days, every day counts
pub whole_turn : (l : List ℕ) (turn : ℕ) → Turn l turn → turn ≡ width_of l → (j : ℕ) → start_day l ≤ j → j < 36525
    → day_counts (rule_of l) j ≡ true
whole_turn l turn t e j h g =
    let p : place_of (width_of l) (start_day l) j % turn < turn = mod-lt _ (omega (arith, e, (width_range l).0)) in
    t.counts j h g ∙ lt-ltb _ (width_of l) (omega arith)

-- a rule's day by itself: its start, and then the interval
module _ (l : List ℕ) (kind : get_or l 0 0 ≡ 4) (d : ℕ) where
  pub part_before : d < start_day l → day_part l d ≡ false
  unfolding day_part
  part_before h = simp (eq-eqb _ _ kind, lt-leb _ _ h)

  pub part_from : start_day l ≤ d → day_part l d ≡ day_counts (rule_of l) d
  unfolding day_part
  part_from h = simp (eq-eqb _ _ kind, le-leb _ _ h)
