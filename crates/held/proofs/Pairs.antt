-- Minutes held by their day and their time of day: the search over days and over the minutes of a day, put together.
use mathlib.Core.Bool.{Bool, true, false, and-false, false≢true}
use mathlib.Core.Logic.{dite}
use mathlib.Core.Path.{◌≡◌, refl, sym, ◌∙◌}
use Prim.Native.Nat.{ℕ, ◌+◌, ◌-◌, ◌*◌, ◌/◌, ◌%◌, ◌<◌, ◌≤◌, min, max}
use native.Mathlib.Decide.{dec_lt}
use native.Mathlib.Omega.{arith}
use Rattle.calendar.proofs.Leasts.{Least, Last, least_none, last_none}
use Rattle.held.specs.Minutes.{day_and_time}

module _ (day time : ℕ → Bool) where
  no_day : (d m : ℕ) → m / 1440 ≡ d → day d ≡ false → day_and_time day time m ≡ false
  no_day d m e f = rw (e, f)

  no_time : (t m : ℕ) → m % 1440 ≡ t → time t ≡ false → day_and_time day time m ≡ false
  no_time t m e f = rw (e, f) (and-false (day (m / 1440)))

  on_day : (d t m : ℕ) → m / 1440 ≡ d → m % 1440 ≡ t → day d ≡ true → time t ≡ true → day_and_time day time m ≡ true
  on_day d t m e g p q = rw (e, g, p, q)

  -- no day of the range
  pub days_none : (low high e d : ℕ) → low ≤ high → high ≤ 1440 * e → Least day (low / 1440) e d → e ≤ d
      → Least (day_and_time day time) low high high
  days_none low high e d l h a n =
      least_none (day_and_time day time) low high l (λ j b c. no_day (j / 1440) j refl (a.fails (j / 1440) (omega arith) (omega arith)))

  -- no time of day at all, or none from that of low on
  pub times_none : (low high t : ℕ) → low ≤ high → Least time 0 1440 t → 1440 ≤ t → Least (day_and_time day time) low high high
  times_none low high t l a n =
      least_none (day_and_time day time) low high l (λ j b c. no_time (j % 1440) j refl (a.fails (j % 1440) (omega arith) (omega arith)))

  pub time_past : (low t : ℕ) → Least time (low % 1440) 1440 t → 1440 ≤ t → (j : ℕ) → low ≤ j → j < 1440 * (low / 1440 + 1)
      → day_and_time day time j ≡ false
  time_past low t a n j b c = no_time (j % 1440) j refl (a.fails (j % 1440) (omega arith) (omega arith))

  -- the day of low itself, from its time on
  pub found_today : (low high d t : ℕ) → low ≤ high → d ≡ low / 1440 → day d ≡ true → Least time (low % 1440) 1440 t → t < 1440
      → Least (day_and_time day time) low high (min (1440 * d + t) high)
  found_today low high d t l e p b q =
      record {
        from = omega (arith, e, b.from);
        to = omega arith;
        passes = λ h. on_day d t (min (1440 * d + t) high) (omega arith) (omega arith) p (b.passes q);
        fails = λ j c g. no_time (j % 1440) j refl (b.fails (j % 1440) (omega (arith, e)) (omega (arith, e)));
      }

  -- a later day, from its first time on
  pub found_later : (low high e d t : ℕ) → low ≤ high → Least day (low / 1440) e d → d < e → low / 1440 < d → Least time 0 1440 t → t < 1440
      → Least (day_and_time day time) low high (min (1440 * d + t) high)
  found_later low high e d t l a p f b q =
      record {
        from = omega arith;
        to = omega arith;
        passes = λ h. on_day d t (min (1440 * d + t) high) (omega arith) (omega arith) (a.passes p) (b.passes q);
        fails = λ j c g.
            dite (dec_lt (j / 1440) d) (λ (s : j / 1440 < d). no_day (j / 1440) j refl (a.fails (j / 1440) (omega arith) s))
            (λ (s : j / 1440 < d → ⊥). no_time (j % 1440) j refl (b.fails (j % 1440) (omega arith) (omega arith)));
      }

  -- the same downwards
  pub days_last_none : (low high to p : ℕ) → low ≤ high → high ≤ 1440 * to → Last day (low / 1440) to p → p ≤ low / 1440
      → Last (day_and_time day time) low high low
  days_last_none low high to p l h a n =
      last_none (day_and_time day time) low high l (λ j b c. no_day (j / 1440) j refl (a.fails (j / 1440) (omega arith) (omega arith)))

  pub times_last_none : (low high t : ℕ) → low ≤ high → Last time 0 1440 t → t ≡ 0 → Last (day_and_time day time) low high low
  times_last_none low high t l a n =
      last_none (day_and_time day time) low high l (λ j b c. no_time (j % 1440) j refl (a.fails (j % 1440) (omega arith) (omega arith)))

  pub time_before : (high t : ℕ) → 0 < high → Last time 0 (high - 1440 * ((high - 1) / 1440)) t → t ≡ 0 → (j : ℕ)
      → 1440 * ((high - 1) / 1440) ≤ j → j < high → day_and_time day time j ≡ false
  time_before high t h a n j b c = no_time (j % 1440) j refl (a.fails (j % 1440) (omega arith) (omega arith))

  pub last_today : (low high d t : ℕ) → low < high → d ≡ (high - 1) / 1440 → day d ≡ true
      → Last time 0 (high - 1440 * ((high - 1) / 1440)) t → 0 < t → Last (day_and_time day time) low high (max (1440 * d + t) low)
  last_today low high d t l e p b q =
      record {
        from = omega arith;
        to = omega (arith, e, b.to);
        passes = λ h. on_day d (t - 1) (max (1440 * d + t) low - 1) (omega (arith, e, b.to)) (omega (arith, e, b.to)) p (b.passes q);
        fails = λ j c g. no_time (j % 1440) j refl (b.fails (j % 1440) (omega (arith, e)) (omega (arith, e)));
      }

  pub last_earlier : (low high p t : ℕ) → low < high → Last day (low / 1440) ((high - 1) / 1440 + 1) p → low / 1440 < p
      → p ≤ (high - 1) / 1440 → Last time 0 1440 t → 0 < t → Last (day_and_time day time) low high (max (1440 * (p - 1) + t) low)
  last_earlier low high p t l a h f b q =
      record {
        from = omega arith;
        to = omega (arith, b.to);
        passes = λ g. on_day (p - 1) (t - 1) (max (1440 * (p - 1) + t) low - 1) (omega (arith, b.to)) (omega (arith, b.to)) (a.passes h)
            (b.passes q);
        fails = λ j c g.
            dite (dec_lt (j / 1440) p) (λ (s : j / 1440 < p). no_time (j % 1440) j refl (b.fails (j % 1440) (omega arith) (omega arith)))
            (λ (s : j / 1440 < p → ⊥). no_day (j / 1440) j refl (a.fails (j / 1440) (omega arith) (omega arith)));
      }

  -- where some time of day is held, there is a first and a last
  pub first_time : (at t s : ℕ) → Least time at 1440 t → t < 1440 → Least time 0 1440 s → s < 1440
  first_time at t s a p b =
      dite (dec_lt s 1440) (λ (g : s < 1440). g)
      (λ (g : s < 1440 → ⊥). absurd (false≢true (sym (b.fails t (omega arith) (omega arith)) ∙ a.passes p)))

  pub last_time_lem : (at t s : ℕ) → at ≤ 1440 → Last time 0 at t → 0 < t → Last time 0 1440 s → 0 < s
  last_time_lem at t s h a p b =
      dite (dec_lt 0 s) (λ (g : 0 < s). g)
      (λ (g : 0 < s → ⊥). absurd (false≢true (sym (b.fails (t - 1) (omega arith) (omega (arith, a.to))) ∙ a.passes p)))
