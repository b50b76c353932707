-- The fields of every frame that a plan may have fit their bytes.
use mathlib.Core.Bool.{Bool, true, false, ◌&&◌, ◌||◌}
use mathlib.Core.Path.{◌≡◌, refl}
use Prim.Native.Nat.{ℕ, ◌+◌, ◌%◌, ◌^◌, ◌<◌, ◌≤◌}
use native.Mathlib.Omega.{arith}
use borrow.Author.Tests.{ltb-true, leb-true, eqb-true, lt-ltb}
use lib.Dec.{eqb, ltb}
use Rattle.calendar.proofs.Every.{both_true, within_range}
use Rattle.calendar.specs.Below.{within}
use Rattle.frames.specs.declared.Cron.{Cron}
use Rattle.frames.specs.declared.Ends.{Ends}
use Rattle.frames.specs.declared.Rule.{Rule}
use Rattle.zone.specs.Zone.{in_window}
use Rattle.plan.specs.Fits.{frame_fields, frame_fits}
use Rattle.plan.specs.Taken.{only_bits, mask_good, pair_good, ordinals_good, cron_good, places_good, frequency_good, rule_good, frame_good, is_end}
use Rattle.plan.specs.declared.Frame.{Frame}

-- one of four tests, each joined with another
one_of : (a b c d x y z w : Bool) {G : Type 0} → (a && x || (b && y || (c && z || d && w))) ≡ true
    → (a ≡ true → G) → (b ≡ true → G) → (c ≡ true → G) → (d ≡ true → G) → G
one_of true b c d x y z w h p q r s = p refl
one_of false true c d x y z w h p q r s = q refl
one_of false false true d x y z w h p q r s = r refl
one_of false false false true x y z w h p q r s = s refl
one_of false false false false x y z w h p q r s = let n : ◌≡◌ {A = ℕ} 0 1 = cc in absurd (omega arith)

bits_below_lem : (low high m : ℕ) → only_bits low high m ≡ true → m < 2 ^ (high + 1)
bits_below_lem low high m h = ltb-true _ _ (both_true (eqb (m % 2 ^ low) 0) _ h).1

mask_below : (low high m : ℕ) → mask_good low high m ≡ true → m < 2 ^ (high + 1)
mask_below low high m h = bits_below_lem low high m (both_true (ltb 0 m) _ h).1

cron_fits : (f : Cron) → cron_good f ≡ true → frame_fits (Frame.Cron f) ≡ true
unfolding cron_good frame_fits frame_fields
cron_fits f h =
    let h1 = (both_true (mask_good 0 59 f.minutes) _ h).1 in
    let h2 = (both_true (mask_good 0 23 f.hours) _ h1).1 in
    let h3 = (both_true (mask_good 1 31 f.days) _ h2).1 in
    let h4 = (both_true (mask_good 1 12 f.months) _ h3).1 in
    let h5 = (both_true (mask_good 0 6 f.weekdays) _ h4).1 in
    let a = mask_below 0 59 f.minutes (both_true _ _ h).0 in
    let b = mask_below 0 23 f.hours (both_true _ _ h1).0 in
    let c = mask_below 1 31 f.days (both_true _ _ h2).0 in
    let d = mask_below 1 12 f.months (both_true _ _ h3).0 in
    let e = mask_below 0 6 f.weekdays (both_true _ _ h4).0 in
    let g = ltb-true f.flags 8 (both_true _ _ h5).0 in
    rw
    (lt-ltb f.minutes (256 ^ 8) (omega arith), lt-ltb f.hours (256 ^ 4) (omega arith), lt-ltb f.days (256 ^ 4) (omega arith), lt-ltb f.months (256 ^ 2) (omega arith), lt-ltb f.weekdays (256 ^ 1) (omega arith), lt-ltb f.flags (256 ^ 1) (omega arith))

frequency_below : (f : Rule) → frequency_good f ≡ true → f.frequency < 256
unfolding frequency_good
frequency_below f h =
    let is : ℕ → Bool = λ n. eqb f.frequency n in
    one_of (is 1) (is 2) (is 3) (is 4) _ _ _ _ h (λ a. omega (arith, eqb-true f.frequency 1 a)) (λ a. omega (arith, eqb-true f.frequency 2 a))
    (λ a. omega (arith, eqb-true f.frequency 3 a)) (λ a. omega (arith, eqb-true f.frequency 4 a))

pair_front : (e : Ends) → pair_good e ≡ true → e.front < 4294967296
pair_front e h = bits_below_lem 1 31 e.front (both_true (only_bits 1 31 e.front) _ h).0

pair_back : (e : Ends) → pair_good e ≡ true → e.back < 4294967296
pair_back e h = bits_below_lem 1 31 e.back (both_true (only_bits 1 31 e.front) _ h).1

ordinals_below : (g : ℕ) → ordinals_good g ≡ true → g < 256 ^ 5
ordinals_below g h = ltb-true _ _ (both_true (ltb g (256 ^ 5)) _ h).0

rule_fits : (f : Rule) → rule_good f ≡ true → frame_fits (Frame.Rule f) ≡ true
unfolding rule_good places_good frame_fits frame_fields
rule_fits f h =
    let h1 = (both_true (frequency_good f) _ h).1 in
    let h2 = (both_true (places_good f) _ h1).1 in
    let h3 = (both_true (within 1 999 f.interval) _ h2).1 in
    let h4 = (both_true (in_window f.last) _ h3).1 in
    let p = (both_true (places_good f) _ h1).0 in
    let p1 = (both_true (only_bits 0 6 f.weekdays) _ p).1 in
    let p2 = (both_true (pair_good f.days) _ p1).1 in
    let p3 = (both_true (ordinals_good f.ordinals.front) _ p2).1 in
    let frequency = frequency_below f (both_true _ _ h).0 in
    let interval = (within_range 1 999 f.interval (both_true _ _ h2).0).1 in
    let last = ltb-true f.last 52596000 (both_true _ _ h3).0 in
    let start = leb-true f.start f.last (both_true _ _ h4).0 in
    let weekdays = bits_below_lem 0 6 f.weekdays (both_true _ _ p).0 in
    let days = (both_true (pair_good f.days) _ p1).0 in
    let front = ordinals_below f.ordinals.front (both_true _ _ p2).0 in
    let back = ordinals_below f.ordinals.back (both_true _ _ p3).0 in
    let p4 = (both_true (ordinals_good f.ordinals.back) _ p3).1 in
    let positions = (both_true (pair_good f.positions) _ p4).0 in
    let months = bits_below_lem 1 12 f.months (both_true (pair_good f.positions) _ p4).1 in
    rw
    (lt-ltb f.frequency (256 ^ 1) (omega arith), lt-ltb f.interval (256 ^ 2) (omega arith), lt-ltb f.start (256 ^ 4) (omega arith), lt-ltb f.last (256 ^ 4) (omega arith), lt-ltb f.weekdays (256 ^ 1) (omega arith), lt-ltb f.days.front (256 ^ 4) (pair_front f.days days), lt-ltb f.days.back (256 ^ 4) (pair_back f.days days), lt-ltb f.ordinals.front (256 ^ 5) front, lt-ltb f.ordinals.back (256 ^ 5) back, lt-ltb f.positions.front (256 ^ 4) (pair_front f.positions positions), lt-ltb f.positions.back (256 ^ 4) (pair_back f.positions positions), lt-ltb f.months (256 ^ 2) (omega arith))

-- a frame that may stand before the end frame
pub good_fits : (f : Frame) → frame_good f ≡ true → is_end f ≡ false → frame_fits f ≡ true
unfolding frame_good frame_fits frame_fields
good_fits (Frame.Offset o) h e = let a = (within_range 720 2280 o h).1 in rw (lt-ltb o (256 ^ 2) (omega arith))
good_fits (Frame.Change t) h e =
    let a = (within_range 1440 52597439 t.at (both_true (within 1440 52597439 t.at) _ h).0).1 in
    let b = (within_range 720 2280 t.offset (both_true (within 1440 52597439 t.at) _ h).1).1 in
    rw (lt-ltb t.at (256 ^ 4) (omega arith), lt-ltb t.offset (256 ^ 2) (omega arith))
good_fits (Frame.Cron f) h e = cron_fits f h
good_fits (Frame.Rule f) h e = rule_fits f h
good_fits (Frame.Extra m) h e = let a = ltb-true m 52596000 h in rw (lt-ltb m (256 ^ 4) (omega arith))
good_fits (Frame.Excepted m) h e = let a = ltb-true m 52596000 h in rw (lt-ltb m (256 ^ 4) (omega arith))
good_fits (Frame.End n) h e = let z : ◌≡◌ {A = ℕ} 0 1 = cc in absurd (omega arith)

pub end_fits : (n : ℕ) → n ≤ 64 → frame_fits (Frame.End n) ≡ true
unfolding frame_fits frame_fields
end_fits n h = rw (lt-ltb n (256 ^ 1) (omega arith))
