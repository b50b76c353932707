-- ISO weeks: where the years start, the year of a day, from an ISO date to its day and back.
use Rattle.std.specs.Prelude.{Some}
use mathlib.Core.Bool.{true, ◌&&◌}
use mathlib.Core.Logic.{dite}
use mathlib.Core.Path.{◌≡◌, refl, sym, ap, ◌∙◌, subst}
use Prim.Native.Nat.{ℕ, ◌+◌, ◌-◌, ◌*◌, ◌%◌, ◌<◌, ◌≤◌}
use native.Mathlib.Decide.{dec_lt}
use native.Mathlib.Omega.{arith}
use borrow.Author.Tests.{le-leb, lt-leb, lt-ltb}
use lib.Dec.{T, leb, leb→le, ltb, ltb→lt}
use Rattle.calendar.specs.Below.{within}
use Rattle.calendar.specs.Calendar.{month_start, year_start, year_day, day_of, weekday_of}
use Rattle.calendar.specs.Iso.{monday_of, iso_start, iso_weeks, day_of_week, valid_iso, day_of_iso, iso_year, iso_of, iso_of_day}
use Rattle.calendar.specs.declared.iso.IsoDate.{IsoDate}
use Rattle.calendar.proofs.Every.{left, right}
use Rattle.calendar.proofs.Years.{year_length_range, year_start_first, year_start_next, year_start_mono, year_start_end, year_day_holds}

-- the Monday of the week that holds 4 January; day 0 is a Monday
pub iso_start_lem : (y : ℕ) → iso_start y ≡ year_start y + 3 - (year_start y + 3) % 7
unfolding iso_start monday_of weekday_of day_of month_start
iso_start_lem y = omega arith

-- it is a Monday, within three days of 1 January
pub record Near (y : ℕ) : Type 0 where
  pub monday : iso_start y % 7 ≡ 0
  pub after : year_start y ≤ iso_start y + 3
  pub before : iso_start y ≤ year_start y + 3

pub iso_start_near : (y : ℕ) → Near y
iso_start_near y = record { monday = omega (arith, iso_start_lem y); after = omega (arith, iso_start_lem y); before = omega (arith, iso_start_lem y) }

pub iso_start_later : (y z : ℕ) → 1 ≤ y → y < z → iso_start y + 359 ≤ iso_start z
iso_start_later y z h l =
    omega (
      arith,
      (iso_start_near y).before,
      (iso_start_near z).after,
      year_start_next y h,
      (year_length_range y).0,
      year_start_mono (y + 1) z (omega arith),
    )

pub iso_start_next : (y : ℕ) → 1 ≤ y → iso_start y ≤ iso_start (y + 1)
iso_start_next y h = omega (arith, iso_start_later y (y + 1) h (omega arith))

pub iso_start_top : (y : ℕ) → y ≤ 10000 → iso_start y ≤ 3652062
iso_start_top y h = omega (arith, (iso_start_near y).before, year_start_mono y 10000 h, year_start_end)

-- a year's weeks fill it
pub iso_weeks_lem : (y : ℕ) → 1 ≤ y → iso_start (y + 1) ≡ iso_start y + 7 * iso_weeks y
unfolding iso_weeks
iso_weeks_lem y h =
    omega (arith, (iso_start_near y).monday, (iso_start_near (y + 1)).monday, iso_start_later y (y + 1) h (omega arith))

-- there are at most 53
pub iso_weeks_most : (y : ℕ) → iso_weeks y ≤ 53
unfolding iso_weeks
iso_weeks_most y =
    dite (dec_lt 0 y)
    (λ (l : 0 < y). omega (arith, (iso_start_near y).after, (iso_start_near (y + 1)).before, year_start_next y l, year_length_range y))
    (λ (g : 0 < y → ⊥).
    let e : y + 1 ≡ 1 = omega arith in omega (arith, (iso_start_near (y + 1)).before, ap year_start e, year_start_first))

-- what the ISO year of a day is
pub record InIsoYear (n y : ℕ) : Type 0 where
  pub first : 1 ≤ y
  pub last : y ≤ 9999
  pub from : iso_start y ≤ n
  pub to : n < iso_start (y + 1)

pub iso_year_unique : (n y z : ℕ) → InIsoYear n y → InIsoYear n z → y ≡ z
iso_year_unique n y z a b =
    dite (dec_lt y z)
    (λ (l : y < z). absurd (earlier y z a b l))
    (λ (g : y < z → ⊥). dite (dec_lt z y) (λ (l : z < y). absurd (earlier z y b a l)) (λ (k : z < y → ⊥). omega arith))
  where
    reach : (y z : ℕ) → 1 ≤ y → y < z → iso_start (y + 1) ≤ iso_start z
    reach y z h l =
        dite (dec_lt (y + 1) z) (λ (g : y + 1 < z). omega (arith, iso_start_later (y + 1) z (omega arith) g))
        (λ (g : y + 1 < z → ⊥). let e : y + 1 ≡ z = omega arith in omega (arith, ap iso_start e))

    earlier : (y z : ℕ) → InIsoYear n y → InIsoYear n z → y < z → ⊥
    earlier y z a b l = omega (arith, a.to, b.from, reach y z a.first l)

-- the range ends before the ISO year 10000 starts, and starts with ISO year 1
iso_start_end : iso_start 10000 ≡ 3652061
iso_start_end = omega (arith, iso_start_lem 10000, year_start_end)

iso_start_first : iso_start 1 ≡ 0
iso_start_first = omega (arith, iso_start_lem 1, year_start_first)

-- the calendar year of a day of the range, and the three cases of its ISO year
module _ (n : ℕ) (h : n < 3652059) (y : ℕ) (e : y ≡ (year_day n).year) where
  pub year_first_lem : 1 ≤ y
  year_first_lem = omega (arith, e, (year_day_holds n h).first)

  pub year_last : y ≤ 9999
  year_last = omega (arith, e, (year_day_holds n h).last)

  begun : year_start y ≤ n
  begun = omega (arith, (year_day_holds n h).whole, ap year_start e)

  not_ended : n < year_start (y + 1)
  not_ended =
      let a = year_day_holds n h in
      rw e (omega (arith, a.whole, a.short, year_start_next (year_day n).year a.first))

  pub iso_year_after : iso_start (y + 1) ≤ n → InIsoYear n (y + 1)
  iso_year_after l =
      record {
        first = omega arith;
        last = dite (dec_lt y 9999) (λ (k : y < 9999). omega arith)
            (λ (k : y < 9999 → ⊥).
            let d : y + 1 ≡ 10000 = omega (arith, year_last) in
            absurd (omega (arith, ap iso_start d, iso_start_end)));
        from = l;
        to = omega (
          arith,
          not_ended,
          year_start_next (y + 1) (omega arith),
          (year_length_range (y + 1)).0,
          (iso_start_near (y + 1 + 1)).after,
        );
      }

  pub iso_year_this : n < iso_start (y + 1) → iso_start y ≤ n → InIsoYear n y
  iso_year_this g l = record { first = year_first_lem; last = year_last; from = l; to = g }

  pub not_first : n < iso_start y → 1 < y
  not_first g =
      dite (dec_lt 1 y) (λ (k : 1 < y). k)
      (λ (k : 1 < y → ⊥).
      let d : y ≡ 1 = omega (arith, year_first_lem) in
      absurd (omega (arith, ap iso_start d, iso_start_first)))

  pub iso_year_before : n < iso_start y → InIsoYear n (y - 1)
  iso_year_before g =
      let k = not_first g in
      let d : y - 1 + 1 ≡ y = omega arith in
      record {
        first = omega arith;
        last = omega (arith, year_last);
        from = omega (
          arith,
          begun,
          (iso_start_near (y - 1)).before,
          year_start_next (y - 1) (omega arith),
          ap year_start d,
          (year_length_range (y - 1)).0,
        );
        to = omega (arith, ap iso_start d);
      }

pub iso_year_holds : (n : ℕ) → n < 3652059 → InIsoYear n (iso_year n)
unfolding iso_year
iso_year_holds n h =
    let y = (year_day n).year in
    dite (dec_lt n (iso_start (y + 1)))
    (λ (a : n < iso_start (y + 1)).
    dite (dec_lt n (iso_start y))
    (λ (b : n < iso_start y). simp (lt-leb _ _ a, lt-leb _ _ b) (iso_year_before n h y refl b))
    (λ (b : n < iso_start y → ⊥).
    let l : iso_start y ≤ n = omega arith in
    simp (lt-leb _ _ a, le-leb _ _ l) (iso_year_this n h y refl a l)))
    (λ (a : n < iso_start (y + 1) → ⊥).
    let l : iso_start (y + 1) ≤ n = omega arith in
    simp (le-leb _ _ l) (iso_year_after n h y refl l))

pub iso_year_range : (n : ℕ) → n < 3652059 → (1 ≤ iso_year n) × (iso_year n ≤ 10000)
iso_year_range n h = ((iso_year_holds n h).first, omega (arith, (iso_year_holds n h).last))

pub iso_year_from : (n : ℕ) → n < 3652059 → iso_start (iso_year n) ≤ n
iso_year_from n h = (iso_year_holds n h).from

pub iso_year_is : (n y : ℕ) → n < 3652059 → InIsoYear n y → y ≡ iso_year n
iso_year_is n y h a = iso_year_unique n y (iso_year n) a (iso_year_holds n h)

-- what an ISO date of the range is
pub record ValidIso (y w d : ℕ) : Type 0 where
  pub first : 1 ≤ y
  pub last : y ≤ 9999
  pub week_low : 1 ≤ w
  pub week_high : w ≤ iso_weeks y
  pub low : 1 ≤ d
  pub high : d ≤ 7
  pub below : day_of_week y w d < 3652059

pub valid_iso_lem : (y w d : ℕ) → valid_iso y w d ≡ true → ValidIso y w d
unfolding valid_iso
valid_iso_lem y w d e =
    let t : T (within 1 9999 y && (within 1 (iso_weeks y) w && (within 1 7 d && ltb (day_of_week y w d) 3652059))) = subst T (sym e) tt in
    let a = left (within 1 9999 y) _ t in
    let u = right (within 1 9999 y) _ t in
    let b = left (within 1 (iso_weeks y) w) _ u in
    let v = right (within 1 (iso_weeks y) w) _ u in
    let k = left (within 1 7 d) _ v in
    record {
      first = leb→le _ _ (left (leb 1 y) _ a);
      last = leb→le _ _ (right (leb 1 y) _ a);
      week_low = leb→le _ _ (left (leb 1 w) _ b);
      week_high = leb→le _ _ (right (leb 1 w) _ b);
      low = leb→le _ _ (left (leb 1 d) _ k);
      high = leb→le _ _ (right (leb 1 d) _ k);
      below = ltb→lt _ _ (right (within 1 7 d) _ v);
    }

pub is_valid_iso : (y w d : ℕ) → ValidIso y w d → valid_iso y w d ≡ true
unfolding valid_iso
is_valid_iso y w d v =
    simp (
      le-leb _ _ v.first,
      le-leb _ _ v.last,
      le-leb _ _ v.week_low,
      le-leb _ _ v.week_high,
      le-leb _ _ v.low,
      le-leb _ _ v.high,
      lt-ltb _ _ v.below,
    )

pub day_of_iso_is : (y w d : ℕ) → ValidIso y w d → day_of_iso y w d ≡ Some (day_of_week y w d)
unfolding day_of_iso
day_of_iso_is y w d v = simp (is_valid_iso y w d v)

same : {p q : IsoDate} → p.year ≡ q.year → p.week ≡ q.week → p.weekday ≡ q.weekday → p ≡ q
same a b c = λ i. record { year = a i; week = b i; weekday = c i }

-- ISO date → day → ISO date is the identity on every ISO date of the range
pub iso_of_day_of_iso : (y w d : ℕ) → ValidIso y w d → iso_of (day_of_week y w d) ≡ record { year = y; week = w; weekday = d }
unfolding iso_of day_of_week
iso_of_day_of_iso y w d v =
    let n : ℕ = day_of_week y w d in
    let i : InIsoYear n y = record {
      first = v.first;
      last = v.last;
      from = omega arith;
      to = omega (arith, iso_weeks_lem y v.first, v.week_low, v.week_high, v.low, v.high);
    } in
    let e : iso_year n ≡ y = sym (iso_year_is n y v.below i) in
    same e (omega (arith, ap iso_start e, v.week_low, v.low, v.high)) (omega (arith, ap iso_start e, v.week_low, v.low, v.high))

pub iso_day_iso : (y w d : ℕ) → valid_iso y w d ≡ true
    → iso_of_day (day_of_week y w d) ≡ Some (record { year = y; week = w; weekday = d })
unfolding iso_of_day
iso_day_iso y w d e =
    let v = valid_iso_lem y w d e in
    simp (lt-ltb _ _ v.below, iso_of_day_of_iso y w d v)

-- day → ISO date → day is the identity on every day of the range
pub day_of_iso_of_day : (n : ℕ) → n < 3652059 → day_of_week (iso_of n).year (iso_of n).week (iso_of n).weekday ≡ n
unfolding iso_of day_of_week
day_of_iso_of_day n h = omega (arith, (iso_year_holds n h).from)

pub iso_of_day_valid : (n : ℕ) → n < 3652059 → ValidIso (iso_of n).year (iso_of n).week (iso_of n).weekday
unfolding iso_of
iso_of_day_valid n h =
    let place = iso_year_holds n h in
    record {
      first = place.first;
      last = place.last;
      week_low = omega arith;
      week_high = omega (arith, iso_weeks_lem (iso_year n) place.first, place.from, place.to);
      low = omega arith;
      high = omega arith;
      below = omega (arith, day_of_iso_of_day n h);
    }

pub day_iso_day : (n : ℕ) → n < 3652059 → day_of_iso (iso_of n).year (iso_of n).week (iso_of n).weekday ≡ Some n
day_iso_day n h = day_of_iso_is _ _ _ (iso_of_day_valid n h) ∙ ap Some (day_of_iso_of_day n h)
