-- Where a search over a range of days starts, and what its answer is.
use mathlib.Core.Bool.{Bool, true, false}
use mathlib.Core.List.{List}
use mathlib.Core.Path.{◌≡◌, refl, sym, ap, ◌∙◌}
use Prim.Native.Nat.{ℕ, ◌+◌, ◌-◌, ◌<◌, ◌≤◌, min}
use native.Mathlib.Omega.{arith}
use Rattle.calendar.proofs.Leasts.{Least, Last, least_from_lem, last_from_lem, least_unique, last_unique}
use Rattle.calendar.proofs.Windows.{local_date_holds}
use Rattle.calendar.specs.Below.{least_from, last_from}
use Rattle.calendar.specs.Window.{local_date}
use Rattle.frames.specs.Months.{day_of, InMonth}
use Rattle.frames.specs.Numbers.{day_held}
use Rattle.days.specs.Search.{least_day, last_day}
use Rattle.days.specs.Steps.{Holds}

-- an answer is the least of the range exactly if it is what the definition computes
pub least_is : (test : ℕ → Bool) (low high r : ℕ) → low ≤ high → Least test low high r → r ≡ least_from test (high - low) low
least_is test low high r h a =
    let e : low + (high - low) ≡ high = omega arith in
    least_unique test low high r (least_from test (high - low) low) a (rw e at (least_from_lem test (high - low) low))

pub last_is : (test : ℕ → Bool) (low high r : ℕ) → low ≤ high → Last test low high r → r ≡ last_from test (high - low) low
last_is test low high r h a =
    let e : low + (high - low) ≡ high = omega arith in
    last_unique test low high r (last_from test (high - low) low) a (rw e at (last_from_lem test (high - low) low))

pub least_of : (test : ℕ → Bool) (low high : ℕ) → low ≤ high → Least test low high (least_from test (high - low) low)
least_of test low high h =
    let e : low + (high - low) ≡ high = omega arith in
    rw e at (least_from_lem test (high - low) low)

pub last_of : (test : ℕ → Bool) (low high : ℕ) → low ≤ high → Last test low high (last_from test (high - low) low)
last_of test low high h =
    let e : low + (high - low) ≡ high = omega arith in
    rw e at (last_from_lem test (high - low) low)

-- an empty range
pub least_empty : (test : ℕ → Bool) (low high : ℕ) → high ≤ low → low ≡ least_from test (high - low) low
unfolding least_from
least_empty test low high h =
    let e : high - low ≡ 0 = omega arith in
    rw e refl

pub last_empty : (test : ℕ → Bool) (low high : ℕ) → high ≤ low → low ≡ last_from test (high - low) low
unfolding last_from
last_empty test low high h =
    let e : high - low ≡ 0 = omega arith in
    rw e refl

-- a day stands in its month
pub holds_at : (d : ℕ) → d < 36525
    → (Holds (local_date d).month d) × (InMonth (local_date d).month (local_date d).day) × (d ≡ day_of (local_date d).month (local_date d).day)
holds_at d h =
    let i = local_date_holds d h in (
      record { month = i.last; from = omega (arith, i.low, i.whole); to = omega (arith, i.low, i.high, i.whole) },
      record { month = i.last; low = i.low; high = i.high },
      sym i.whole,
    )

-- what a search over a range of days answers
pub least_day_least : (l : List ℕ) (low high : ℕ) → low ≤ high → high ≤ 36525 → Least (day_held l) low high (least_day l low high)
unfolding least_day
least_day_least l low high h t =
    let e : min high 36525 ≡ high = omega arith in
    rw e (least_of (day_held l) low high h)

pub last_day_last : (l : List ℕ) (low high : ℕ) → low ≤ high → high ≤ 36525 → Last (day_held l) low high (last_day l low high)
unfolding last_day
last_day_last l low high h t =
    let e : min high 36525 ≡ high = omega arith in
    rw e (last_of (day_held l) low high h)

-- one day by itself
pub this_day : (l : List ℕ) (d : ℕ) → d < 36525 → least_day l d (d + 1) ≡ d → day_held l d ≡ true
this_day l d h e =
    let a = least_day_least l d (d + 1) (omega arith) (omega arith) in
    ap (day_held l) (sym e) ∙ a.passes (omega arith)

pub not_this_day : (l : List ℕ) (d : ℕ) → d < 36525 → (least_day l d (d + 1) ≡ d → ⊥) → day_held l d ≡ false
not_this_day l d h n =
    let a = least_day_least l d (d + 1) (omega arith) (omega arith) in
    a.fails d (omega arith) (omega (arith, a.from))
