-- The steps of the search over days: where they go on, and what they have passed.
use mathlib.Core.Bool.{Bool, false}
use mathlib.Core.List.{List}
use mathlib.Core.Logic.{dite}
use mathlib.Core.Path.{◌≡◌, sym, ap, ◌∙◌}
use Prim.Native.Nat.{ℕ, ◌+◌, ◌-◌, ◌<◌, ◌≤◌}
use native.Mathlib.Decide.{dec_lt}
use native.Mathlib.Omega.{arith}
use Rattle.calendar.proofs.Leasts.{Least, Last, least_none, least_after, last_none, last_before}
use Rattle.calendar.proofs.Windows.{month_first_next, month_first_mono, month_first_end, month_days_range}
use Rattle.calendar.specs.Window.{month_first, month_days, local_date}
use Rattle.masks.proofs.Bits.{bit_of_zero}
use Rattle.frames.specs.Months.{day_of, InMonth}
use Rattle.frames.specs.Numbers.{day_held}
use Rattle.days.specs.Steps.{day_part, SetOf, Holds, Ready, InYear, Up, Down, Passed, last_month_in, last_day_in}
use Rattle.days.proofs.Answers.{holds_at}

-- the month after a month that is not the last starts where that ends
month_before : (k : ℕ) → k < 1200 → 1 ≤ k → month_first k ≡ month_first (k - 1) + month_days (k - 1)
month_before k h l = let e : k - 1 + 1 ≡ k = omega arith in ap month_first (sym e) ∙ month_first_next (k - 1) (omega arith)

-- a day of an earlier month is an earlier day
earlier_month : (j k d : ℕ) → Holds j d → j < k → k < 1200 → d < month_first k
earlier_month j k d h l m =
    omega (arith, h.to, month_first_next j h.month, month_first_mono (j + 1) k (omega arith) (omega arith))

-- months rise with their days
pub month_rises : (j k d e : ℕ) → Holds j d → Holds k e → d ≤ e → j ≤ k
month_rises j k d e a b h =
    dite (dec_lt k j) (λ (g : k < j). absurd (omega (arith, earlier_month k j e b g a.month, a.from)))
    (λ (g : k < j → ⊥). omega arith)

-- a month ends within the window
pub month_end_top : (k : ℕ) → k < 1200 → month_first k + month_days k ≤ 36525
month_end_top k h = omega (arith, month_first_next k h, month_first_mono (k + 1) 1200 (omega arith) (omega arith), month_first_end)

module _ (l : List ℕ) (k d : ℕ) (u : Up l k d) where
  -- in the walk's last month its last day comes
  pub up_last : last_month_in l ≤ k → last_day_in l < month_first k + month_days k
  up_last h =
      dite (dec_lt (last_month_in l) k)
      (λ (g : last_month_in l < k). omega (arith, earlier_month (last_month_in l) k (last_day_in l) u.ready.ends g u.here.month))
      (λ (g : last_month_in l < k → ⊥).
      let e : last_month_in l ≡ k = omega arith in
      omega (arith, u.ready.ends.to, ap month_first e, ap month_days e))

  -- before it the walk goes on to the next month
  pub up_month : k < last_month_in l → Up l (k + 1) (month_first (k + 1))
  up_month h =
      let m : k + 1 < 1200 = omega (arith, u.ready.ends.month) in
      record {
        ready = u.ready;
        here = record { month = m; from = omega arith; to = omega (arith, (month_days_range (k + 1) m).0) };
        before = omega (arith, u.ready.ends.from, month_first_mono (k + 1) (last_month_in l) (omega arith) (omega (arith, u.ready.ends.month)));
        year = record { same = λ e. omega (arith, u.year.same e) };
      }

  -- a later day of the month
  pub up_on : (n next : ℕ) → InMonth k n → d ≡ day_of k n → d ≤ next → next ≤ last_day_in l → n + (next - d) ≤ month_days k → Up l k next
  up_on n next i e f b t =
      record {
        ready = u.ready;
        here = record { month = i.month; from = omega (arith, e); to = omega (arith, e, i.low) };
        before = b;
        year = u.year;
      }

module _ (l : List ℕ) (k d : ℕ) (w : Down l k d) where
  pub down_last : k ≤ last_month_in l → month_first k ≤ last_day_in l
  down_last h = omega (arith, w.ready.ends.from, month_first_mono k (last_month_in l) h (omega (arith, w.ready.ends.month)))

  pub down_end : last_month_in l < k → month_first k ≡ month_first (k - 1) + month_days (k - 1)
  down_end h = month_before k w.here.month (omega arith)

  pub down_month : last_month_in l < k → Down l (k - 1) (month_first (k - 1) + month_days (k - 1) - 1)
  down_month h =
      let m : k - 1 < 1200 = omega (arith, w.here.month) in
      let r = (month_days_range (k - 1) m).0 in
      record {
        ready = w.ready;
        here = record { month = m; from = omega (arith, r); to = omega (arith, r) };
        after = omega (arith, down_end h, earlier_month (last_month_in l) k (last_day_in l) w.ready.ends h w.here.month);
        year = record { same = λ e. omega (arith, w.year.same e) };
      }

  pub down_on : (n back : ℕ) → InMonth k n → d ≡ day_of k n → back ≤ d → last_day_in l ≤ back → d - back < n → Down l k back
  down_on n back i e f b t =
      record {
        ready = w.ready;
        here = record { month = i.month; from = omega (arith, e); to = omega (arith, e, i.high) };
        after = b;
        year = w.year;
      }

-- the walk's last day lies in the window, and so do the days up to it
pub last_day_top : (l : List ℕ) → Ready l → last_day_in l < 36525
last_day_top l r = omega (arith, r.ends.to, month_end_top (last_month_in l) r.ends.month)

pub up_at : (l : List ℕ) (d : ℕ) → Ready l → d ≤ last_day_in l → InYear l (local_date d).month → Up l (local_date d).month d
up_at l d r h y = record { ready = r; here = (holds_at d (omega (arith, last_day_top l r))).0; before = h; year = y }

pub down_at : (l : List ℕ) (d : ℕ) → Ready l → last_day_in l ≤ d → d < 36525 → InYear l (local_date d).month → Down l (local_date d).month d
down_at l d r h t y = record { ready = r; here = (holds_at d t).0; after = h; year = y }

-- a later day of the walk up lies in its year too, and an earlier one of the walk down
pub up_year : (l : List ℕ) (k d next : ℕ) → Up l k d → d ≤ next → next ≤ last_day_in l → InYear l (local_date next).month
up_year l k d next u h b =
    let n = (holds_at next (omega (arith, last_day_top l u.ready))).0 in
    let from = month_rises k (local_date next).month d next u.here n h in
    let to = month_rises (local_date next).month (last_month_in l) next (last_day_in l) n u.ready.ends b in
    record { same = λ e. omega (arith, u.year.same e) }

pub down_year : (l : List ℕ) (k d back : ℕ) → Down l k d → back ≤ d → last_day_in l ≤ back → InYear l (local_date back).month
down_year l k d back w h b =
    let n = (holds_at back (omega (arith, w.here.to, month_end_top k w.here.month))).0 in
    let to = month_rises (local_date back).month k back d n w.here h in
    let from = month_rises (last_month_in l) (local_date back).month (last_day_in l) back w.ready.ends n b in
    record { same = λ e. omega (arith, w.year.same e) }

-- what the numbers of a step stay below
pub small : (k n d : ℕ) → InMonth k n → d ≡ day_of k n → (d < 36525) × (n ≤ 31)
small k n d i e =
    let t : month_first k + month_days k ≤ 36525 = month_end_top k i.month in
    (omega (arith, e, i.low, i.high), omega (arith, i.high, (month_days_range k i.month).1))

-- the days of a month after and before one of them
pub day_on : (k n on : ℕ) → InMonth k n → n + on ≤ month_days k → InMonth k (n + on)
day_on k n on i t = record { month = i.month; low = omega (arith, i.low); high = t }

pub day_back : (k n back : ℕ) → InMonth k n → back < n → InMonth k (n - back)
day_back k n back i t = record { month = i.month; low = omega arith; high = omega (arith, i.high) }

pub first_day_lem : (k : ℕ) → k < 1200 → InMonth k 1
first_day_lem k h = record { month = h; low = omega arith; high = omega (arith, (month_days_range k h).0) }

pub last_day_lem : (k : ℕ) → k < 1200 → InMonth k (month_days k)
last_day_lem k h = record { month = h; low = omega (arith, (month_days_range k h).0); high = omega arith }

-- no day of a month with an empty set is held
pub none_held : (l : List ℕ) (k : ℕ) → k < 1200 → SetOf (day_part l) (day_held l) k 0 → (j : ℕ) → month_first k ≤ j
    → j < month_first k + month_days k
    → day_held l j ≡ false
none_held l k m s j a b =
    let n : ℕ = j - month_first k + 1 in
    let i : InMonth k n = record { month = m; low = omega arith; high = omega arith } in
    let e : day_of k n ≡ j = omega arith in
    rw (← e) (sym (s.decides n i) ∙ simp bit_of_zero)

-- a day that is not held is passed, with those after it that the interval leaves out
module _ (held : ℕ → Bool) (d next end : ℕ) (f : held d ≡ false) (p : Passed held (d + 1) next) (b : d ≤ end) (t : end < 36525) where
  none_on : (j : ℕ) → d ≤ j → j < next → j ≤ end → held j ≡ false
  none_on j u v w =
      dite (dec_lt d j) (λ (g : d < j). p.none j (omega arith) v (omega arith))
      (λ (g : d < j → ⊥). let e : j ≡ d = omega arith in rw e f)

  pub passed_on : (r : ℕ) → next ≤ end → Least held next (end + 1) r → Least held d (end + 1) r
  passed_on r h a = least_after held d next (end + 1) r (omega (arith, p.rises)) (λ j u v. none_on j u v (omega arith)) a

  pub all_passed : end < next → Least held d (end + 1) (end + 1)
  all_passed h = least_none held d (end + 1) (omega arith) (λ j u v. none_on j u (omega arith) (omega arith))

-- a month with an empty set is passed
pub month_passed : (l : List ℕ) (k d : ℕ) → Up l k d → SetOf (day_part l) (day_held l) k 0 → (r : ℕ)
    → Least (day_held l) (month_first (k + 1)) (last_day_in l + 1) r → Least (day_held l) d (last_day_in l + 1) r
month_passed l k d u z r a =
    let n = month_first_next k u.here.month in
    least_after (day_held l) d (month_first (k + 1)) (last_day_in l + 1) r (omega (arith, n, u.here.to))
    (λ j b c. none_held l k u.here.month z j (omega (arith, u.here.from)) (omega (arith, n))) a

pub last_month_passed : (l : List ℕ) (k d : ℕ) → Up l k d → SetOf (day_part l) (day_held l) k 0 → last_month_in l ≤ k
    → Least (day_held l) d (last_day_in l + 1) (last_day_in l + 1)
last_month_passed l k d u z h =
    least_none (day_held l) d (last_day_in l + 1) (omega (arith, u.before))
    (λ j b c. none_held l k u.here.month z j (omega (arith, u.here.from)) (omega (arith, up_last l k d u h)))

-- the same downwards
module _ (held : ℕ → Bool) (low past d : ℕ) (f : held d ≡ false) (p : Passed held past d) (b : low ≤ d) (t : d < 36525) where
  none_back : (j : ℕ) → past ≤ j → j < d + 1 → held j ≡ false
  none_back j u v =
      dite (dec_lt j d) (λ (g : j < d). p.none j u g (omega arith))
      (λ (g : j < d → ⊥). let e : j ≡ d = omega arith in rw e f)

  pub passed_back : (r : ℕ) → low < past → Last held low (past - 1 + 1) r → Last held low (d + 1) r
  passed_back r h a = last_before held low (past - 1 + 1) (d + 1) r (omega (arith, p.rises)) (λ j u v. none_back j (omega arith) v) a

  pub all_passed_back : past ≤ low → Last held low (d + 1) low
  all_passed_back h = last_none held low (d + 1) (omega arith) (λ j u v. none_back j (omega arith) v)

pub month_passed_back : (l : List ℕ) (k d : ℕ) → Down l k d → SetOf (day_part l) (day_held l) k 0 → last_month_in l < k
    → (r : ℕ) → Last (day_held l) (last_day_in l) (month_first (k - 1) + month_days (k - 1)) r → Last (day_held l) (last_day_in l) (d + 1) r
month_passed_back l k d w z h r a =
    let n = down_end l k d w h in
    last_before (day_held l) (last_day_in l) (month_first (k - 1) + month_days (k - 1)) (d + 1) r (omega (arith, n, w.here.from))
    (λ j b c. none_held l k w.here.month z j (omega (arith, n)) (omega (arith, w.here.to))) a

pub last_month_passed_back : (l : List ℕ) (k d : ℕ) → Down l k d → SetOf (day_part l) (day_held l) k 0 → k ≤ last_month_in l
    → Last (day_held l) (last_day_in l) (d + 1) (last_day_in l)
last_month_passed_back l k d w z h =
    last_none (day_held l) (last_day_in l) (d + 1) (omega (arith, w.after))
    (λ j b c. none_held l k w.here.month z j (omega (arith, down_last l k d w h)) (omega (arith, w.here.to)))

-- days that are passed before a range: nothing is left of it, or what is found in the rest
module _ (held : ℕ → Bool) (low from end : ℕ) (p : Passed held low from) (h : low < end) (t : end ≤ 36525) where
  none_first : (j : ℕ) → low ≤ j → j < from → j < end → held j ≡ false
  none_first j a b c = p.none j a b (omega arith)

  pub least_all_passed : end ≤ from → Least held low end end
  least_all_passed g = least_none held low end (omega arith) (λ j a b. none_first j a (omega arith) b)

  pub least_passed : (r : ℕ) → from < end → Least held from end r → Least held low end r
  least_passed r g a = least_after held low from end r p.rises (λ j b c. none_first j b c (omega arith)) a

  pub last_all_passed : end ≤ from → Last held low end low
  last_all_passed g = last_none held low end (omega arith) (λ j a b. none_first j a (omega arith) b)

  pub last_passed_none : (r : ℕ) → from < end → Last held from end r → r ≤ from → Last held low end low
  last_passed_none r g a b =
      last_none held low end (omega arith)
      (λ j c d. dite (dec_lt j from) (λ (e : j < from). none_first j c e d) (λ (e : j < from → ⊥). a.fails j (omega arith) d))

  pub last_passed : (r : ℕ) → Last held from end r → from < r → Last held low end r
  last_passed r a b = record { from = omega (arith, p.rises); to = a.to; passes = λ c. a.passes b; fails = a.fails }
