-- The frame of a cron line holds what the line holds.
use mathlib.Core.Bool.{Bool, true, false, cond, ◌&&◌, ◌||◌, and_comm, and_assoc}
use mathlib.Core.Path.{◌≡◌, refl, ap, ◌∙◌}
use Prim.Native.Nat.{ℕ, ◌+◌, ◌-◌, ◌/◌, ◌%◌, ◌<◌, ◌≤◌}
use native.Mathlib.Omega.{arith}
use Rattle.calendar.specs.Window.{local_date, local_weekday, day_minutes, window_days, window_minutes}
use Rattle.frames.proofs.MonthDays.{weekday_at_most}
use Rattle.frames.specs.Cron.{joined, cron_day_at, cron_day, cron_time, cron_held}
use Rattle.masks.proofs.MaskFroms.{bit_in_mask}
use Rattle.masks.specs.Masks.{bit, mask_from}
use Rattle.sheet.specs.Form.{Field}
use Rattle.sheet.specs.Meaning.{field_has, restricted, cron_holds}
use Rattle.framed.specs.Framed.{cron_frame}
use Rattle.framed.proofs.Counted.{place_low, place_high}

-- "bit 0 day of month restricted, bit 1 day of week restricted", and bit 2 month
flag_bits : (a b c : Bool) → joined (cond a 1 0 + cond b 2 0 + cond c 4 0) ≡ (b && (a || c))
unfolding joined
flag_bits true true true = refl
flag_bits true true false = refl
flag_bits true false true = refl
flag_bits true false false = refl
flag_bits false true true = refl
flag_bits false true false = refl
flag_bits false false true = refl
flag_bits false false false = refl

reordered : (day hour minute : Bool) → (day && (hour && minute)) ≡ (minute && (hour && day))
reordered day hour minute = and_comm day (hour && minute) ∙ ap (λ (b : Bool). b && day) (and_comm hour minute) ∙ and_assoc minute hour day

-- bit n of a field's mask is whether the field has n
pub field_bit : (f : Field) (lowest highest n : ℕ) → lowest ≤ n → n ≤ highest
    → bit (mask_from (field_has f) (highest + 1 - lowest) lowest) n ≡ field_has f n
field_bit f lowest highest n l h = bit_in_mask (field_has f) (highest + 1 - lowest) lowest n l (omega arith)

pub cron_held_lem : (mi h d mo w : Field) (m : ℕ) → m < window_minutes → cron_held (cron_frame mi h d mo w) m ≡ cron_holds mi h d mo w m
unfolding cron_held cron_day cron_day_at cron_time cron_frame cron_holds
cron_held_lem mi h d mo w m l =
    let n : ℕ = m / day_minutes in
    let t : ℕ = m % day_minutes in
    let in_window_lem : n < window_days = omega arith in
    rw (
      field_bit mi 0 59 (t % 60) (omega arith) (omega arith),
      field_bit h 0 23 (t / 60) (omega arith) (omega arith),
      field_bit d 1 31 (local_date n).day (place_low false n in_window_lem) (place_high false n in_window_lem),
      field_bit mo 1 12 ((local_date n).month % 12 + 1) (omega arith) (omega arith),
      field_bit w 0 6 (local_weekday n) (omega arith) (omega (arith, weekday_at_most n)),
      flag_bits (restricted d) (restricted w) (restricted mo),
    )
    (reordered _ (field_has h (t / 60)) (field_has mi (t % 60)))
