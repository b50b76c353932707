-- Held minutes by their hour: the rest of one hour, and the hours after or before it.
use mathlib.Core.Bool.{true, false, and-false}
use mathlib.Core.Logic.{dite}
use mathlib.Core.Path.{◌≡◌, refl, sym, subst}
use Prim.Native.Nat.{ℕ, ◌+◌, ◌-◌, ◌*◌, ◌/◌, ◌%◌, ◌<◌, ◌≤◌}
use native.Mathlib.Decide.{dec_lt}
use native.Mathlib.Nat.{min-eq_left, min-eq_right}
use native.Mathlib.Omega.{arith}
use borrow.Author.Tests.{le-leb, lt-leb}
use Rattle.calendar.proofs.Leasts.{Least, Last, least_from_lem, last_from_lem, least_unique, last_unique, least_after, last_before, least_none, last_none}
use Rattle.calendar.specs.Below.{least_from, last_from}
use Rattle.masks.specs.Masks.{bit, next_bit, previous_bit}
use Rattle.masks.specs.Times.{time_held, next_time, last_time}
use Rattle.masks.proofs.Nexts.{next_bit_least, next_bit_past, previous_bit_last}

-- a held minute, by its hour and its minute
pub time_held_lem : (hours minutes t h m : ℕ) → t ≡ 60 * h + m → m < 60 → bit hours h ≡ true → bit minutes m ≡ true
    → time_held hours minutes t ≡ true
unfolding time_held
time_held_lem hours minutes t h m e l a b =
    let q : t / 60 ≡ h = omega arith in
    let r : t % 60 ≡ m = omega arith in
    rw (q, r, a) b

-- the hour is not held, or the minute is not
pub hour_not_held : (hours minutes t h : ℕ) → t / 60 ≡ h → bit hours h ≡ false → time_held hours minutes t ≡ false
unfolding time_held
hour_not_held hours minutes t h e a = rw (e, a) refl

pub minute_not_held : (hours minutes t m : ℕ) → t % 60 ≡ m → bit minutes m ≡ false → time_held hours minutes t ≡ false
unfolding time_held
minute_not_held hours minutes t m e a = rw (e, a) (and-false (bit hours (t / 60)))

-- what the definitions say
pub next_time_least : (hours minutes t : ℕ) → t ≤ 1440 → Least (time_held hours minutes) t 1440 (next_time hours minutes t)
unfolding next_time
next_time_least hours minutes t h =
    let e : t + (1440 - t) ≡ 1440 = omega arith in
    rw (le-leb t 1440 h)
    (subst (λ (x : ℕ). Least (time_held hours minutes) t x (least_from (time_held hours minutes) (1440 - t) t)) e
    (least_from_lem (time_held hours minutes) (1440 - t) t))

pub next_time_past : (hours minutes t : ℕ) → 1440 ≤ t → next_time hours minutes t ≡ 1440
unfolding next_time
next_time_past hours minutes t h =
    dite (dec_lt 1440 t)
    (λ (l : 1440 < t). rw (lt-leb t 1440 l) refl)
    (λ (g : 1440 < t → ⊥). let a = next_time_least hours minutes t (omega arith) in omega (arith, a.from, a.to))

pub next_time_is : (hours minutes t r : ℕ) → t ≤ 1440 → Least (time_held hours minutes) t 1440 r → r ≡ next_time hours minutes t
next_time_is hours minutes t r h l =
    least_unique (time_held hours minutes) t 1440 r (next_time hours minutes t) l (next_time_least hours minutes t h)

pub last_time_last : (hours minutes t : ℕ) → t ≤ 1440 → Last (time_held hours minutes) 0 t (last_time hours minutes t)
unfolding last_time
last_time_last hours minutes t h =
    let e : 0 + t ≡ t = omega arith in
    rw (min-eq_left h)
    (subst (λ (x : ℕ). Last (time_held hours minutes) 0 x (last_from (time_held hours minutes) t 0)) e (last_from_lem (time_held hours minutes) t 0))

pub last_time_past : (hours minutes t : ℕ) → 1440 ≤ t → last_time hours minutes t ≡ last_time hours minutes 1440
unfolding last_time
last_time_past hours minutes t h = rw (min-eq_right h) refl

pub last_time_is : (hours minutes t r : ℕ) → t ≤ 1440 → Last (time_held hours minutes) 0 t r → r ≡ last_time hours minutes t
last_time_is hours minutes t r h l =
    last_unique (time_held hours minutes) 0 t r (last_time hours minutes t) l (last_time_last hours minutes t h)

-- from the start of an hour on
pub hours_none : (hours minutes hour : ℕ) → 24 ≤ next_bit hours hour → next_time hours minutes (60 * hour) ≡ 1440
hours_none hours minutes hour h =
    dite (dec_lt hour 24)
    (λ (l : hour < 24).
    let b = next_bit_least hours hour (omega arith) in
    sym
    (next_time_is hours minutes (60 * hour) 1440 (omega arith)
    (least_none (time_held hours minutes) (60 * hour) 1440 (omega arith)
    (λ j a c. hour_not_held hours minutes j (j / 60) refl (b.fails (j / 60) (omega arith) (omega arith))))))
    (λ (g : hour < 24 → ⊥). next_time_past hours minutes (60 * hour) (omega arith))

pub minutes_none : (hours minutes hour : ℕ) → 60 ≤ next_bit minutes 0 → next_time hours minutes (60 * hour) ≡ 1440
minutes_none hours minutes hour h =
    dite (dec_lt hour 24)
    (λ (l : hour < 24).
    let b = next_bit_least minutes 0 (omega arith) in
    sym
    (next_time_is hours minutes (60 * hour) 1440 (omega arith)
    (least_none (time_held hours minutes) (60 * hour) 1440 (omega arith)
    (λ j a c. minute_not_held hours minutes j (j % 60) refl (b.fails (j % 60) (omega arith) (omega arith))))))
    (λ (g : hour < 24 → ⊥). next_time_past hours minutes (60 * hour) (omega arith))

pub next_hour_time : (hours minutes hour : ℕ) → next_bit hours hour < 24 → next_bit minutes 0 < 60
    → 60 * next_bit hours hour + next_bit minutes 0 ≡ next_time hours minutes (60 * hour)
next_hour_time hours minutes hour h m =
    dite (dec_lt hour 24)
    (λ (l : hour < 24).
    let b = next_bit_least hours hour (omega arith) in
    let f = next_bit_least minutes 0 (omega arith) in
    next_time_is hours minutes (60 * hour) (60 * next_bit hours hour + next_bit minutes 0) (omega arith)
    (record {
      from = omega (arith, b.from);
      to = omega arith;
      passes = λ p.
          time_held_lem hours minutes (60 * next_bit hours hour + next_bit minutes 0) (next_bit hours hour) (next_bit minutes 0) refl m
          (b.passes (omega arith)) (f.passes (omega arith));
      fails = λ j a c.
          dite (dec_lt (j / 60) (next_bit hours hour))
          (λ (d : j / 60 < next_bit hours hour). hour_not_held hours minutes j (j / 60) refl (b.fails (j / 60) (omega arith) d))
          (λ (d : j / 60 < next_bit hours hour → ⊥).
          minute_not_held hours minutes j (j % 60) refl (f.fails (j % 60) (omega arith) (omega arith)));
    }))
    (λ (g : hour < 24 → ⊥).
    absurd
    (dite (dec_lt hour 64)
    (λ (l : hour < 64). omega (arith, (next_bit_least hours hour (omega arith)).from))
    (λ (f : hour < 64 → ⊥). omega (arith, next_bit_past hours hour (omega arith)))))

-- the rest of t's own hour
pub this_hour_time : (hours minutes t : ℕ) → t < 1440 → bit hours (t / 60) ≡ true → next_bit minutes (t % 60) < 60
    → t / 60 * 60 + next_bit minutes (t % 60) ≡ next_time hours minutes t
this_hour_time hours minutes t h a m =
    let f = next_bit_least minutes (t % 60) (omega arith) in
    next_time_is hours minutes t (t / 60 * 60 + next_bit minutes (t % 60)) (omega arith)
    (record {
      from = omega (arith, f.from);
      to = omega arith;
      passes = λ p.
          time_held_lem hours minutes (t / 60 * 60 + next_bit minutes (t % 60)) (t / 60) (next_bit minutes (t % 60)) (omega arith) m a
          (f.passes (omega arith));
      fails = λ j b c. minute_not_held hours minutes j (j % 60) refl (f.fails (j % 60) (omega (arith, f.from)) (omega arith));
    })

-- nothing is left in t's hour
later : (hours minutes t : ℕ) → t < 1440 → ((j : ℕ) → t ≤ j → j < 60 * (t / 60 + 1) → time_held hours minutes j ≡ false)
    → next_time hours minutes (60 * (t / 60 + 1)) ≡ next_time hours minutes t
later hours minutes t h none =
    let next = 60 * (t / 60 + 1) in
    next_time_is hours minutes t (next_time hours minutes next) (omega arith)
    (least_after (time_held hours minutes) t next 1440 (next_time hours minutes next) (omega arith) none
    (next_time_least hours minutes next (omega arith)))

pub later_hour : (hours minutes t : ℕ) → t < 1440 → bit hours (t / 60) ≡ false
    → next_time hours minutes (60 * (t / 60 + 1)) ≡ next_time hours minutes t
later_hour hours minutes t h a = later hours minutes t h (λ j b c. hour_not_held hours minutes j (t / 60) (omega arith) a)

pub later_minute : (hours minutes t : ℕ) → t < 1440 → 60 ≤ next_bit minutes (t % 60)
    → next_time hours minutes (60 * (t / 60 + 1)) ≡ next_time hours minutes t
later_minute hours minutes t h m =
    let f = next_bit_least minutes (t % 60) (omega arith) in
    later hours minutes t h
    (λ j b c. minute_not_held hours minutes j (j % 60) refl (f.fails (j % 60) (omega arith) (omega arith)))

-- before the start of an hour
pub no_hour_before : (hours minutes hour : ℕ) → hour ≤ 24 → previous_bit hours hour ≡ 0 → 0 ≡ last_time hours minutes (60 * hour)
no_hour_before hours minutes hour h z =
    let b = previous_bit_last hours hour (omega arith) in
    last_time_is hours minutes (60 * hour) 0 (omega arith)
    (last_none (time_held hours minutes) 0 (60 * hour) (omega arith)
    (λ j a c. hour_not_held hours minutes j (j / 60) refl (b.fails (j / 60) (omega arith) (omega arith))))

pub no_minute_before : (hours minutes hour : ℕ) → hour ≤ 24 → previous_bit minutes 60 ≡ 0 → 0 ≡ last_time hours minutes (60 * hour)
no_minute_before hours minutes hour h z =
    let b = previous_bit_last minutes 60 (omega arith) in
    last_time_is hours minutes (60 * hour) 0 (omega arith)
    (last_none (time_held hours minutes) 0 (60 * hour) (omega arith)
    (λ j a c. minute_not_held hours minutes j (j % 60) refl (b.fails (j % 60) (omega arith) (omega arith))))

pub last_hour_time : (hours minutes hour : ℕ) → hour ≤ 24 → 0 < previous_bit hours hour → 0 < previous_bit minutes 60
    → 60 * (previous_bit hours hour - 1) + previous_bit minutes 60 ≡ last_time hours minutes (60 * hour)
last_hour_time hours minutes hour h p m =
    let b = previous_bit_last hours hour (omega arith) in
    let f = previous_bit_last minutes 60 (omega arith) in
    let r = 60 * (previous_bit hours hour - 1) + previous_bit minutes 60 in
    last_time_is hours minutes (60 * hour) r (omega arith)
    (record {
      from = omega arith;
      to = omega (arith, b.to, f.to);
      passes = λ q.
          time_held_lem hours minutes (r - 1) (previous_bit hours hour - 1) (previous_bit minutes 60 - 1) (omega arith) (omega (arith, f.to))
          (b.passes p) (f.passes m);
      fails = λ j a c.
          dite (dec_lt (j / 60) (previous_bit hours hour))
          (λ (d : j / 60 < previous_bit hours hour).
          minute_not_held hours minutes j (j % 60) refl (f.fails (j % 60) (omega arith) (omega arith)))
          (λ (d : j / 60 < previous_bit hours hour → ⊥).
          hour_not_held hours minutes j (j / 60) refl (b.fails (j / 60) (omega arith) (omega arith)));
    })

-- the part of t's own hour before t
pub this_hour_last : (hours minutes t : ℕ) → t < 1440 → bit hours (t / 60) ≡ true → 0 < previous_bit minutes (t % 60)
    → t / 60 * 60 + previous_bit minutes (t % 60) ≡ last_time hours minutes t
this_hour_last hours minutes t h a m =
    let f = previous_bit_last minutes (t % 60) (omega arith) in
    let r = t / 60 * 60 + previous_bit minutes (t % 60) in
    last_time_is hours minutes t r (omega arith)
    (record {
      from = omega arith;
      to = omega (arith, f.to);
      passes = λ q.
          time_held_lem hours minutes (r - 1) (t / 60) (previous_bit minutes (t % 60) - 1) (omega arith) (omega (arith, f.to)) a (f.passes m);
      fails = λ j b c. minute_not_held hours minutes j (j % 60) refl (f.fails (j % 60) (omega (arith, f.to)) (omega arith));
    })

earlier : (hours minutes t : ℕ) → t < 1440 → ((j : ℕ) → 60 * (t / 60) ≤ j → j < t → time_held hours minutes j ≡ false)
    → last_time hours minutes (60 * (t / 60)) ≡ last_time hours minutes t
earlier hours minutes t h none =
    let start = 60 * (t / 60) in
    last_time_is hours minutes t (last_time hours minutes start) (omega arith)
    (last_before (time_held hours minutes) 0 start t (last_time hours minutes start) (omega arith) none
    (last_time_last hours minutes start (omega arith)))

pub earlier_hour : (hours minutes t : ℕ) → t < 1440 → bit hours (t / 60) ≡ false
    → last_time hours minutes (60 * (t / 60)) ≡ last_time hours minutes t
earlier_hour hours minutes t h a = earlier hours minutes t h (λ j b c. hour_not_held hours minutes j (t / 60) (omega arith) a)

pub earlier_minute : (hours minutes t : ℕ) → t < 1440 → previous_bit minutes (t % 60) ≡ 0
    → last_time hours minutes (60 * (t / 60)) ≡ last_time hours minutes t
earlier_minute hours minutes t h m =
    let f = previous_bit_last minutes (t % 60) (omega arith) in
    earlier hours minutes t h
    (λ j b c. minute_not_held hours minutes j (j % 60) refl (f.fails (j % 60) (omega arith) (omega arith)))
