-- The five fields one after the other: the first that is none, or all.
use Rattle.fields.proofs.Steps.{last_not, last_is, spaced_not, spaced_is, no_minute, no_hour, no_day, no_month, no_weekday, five_is}
use Rattle.fields.proofs.five.five_at.Goals as goal

pub returns-in_err-minutes : goal.returns-in_err-minutes
returns-in_err-minutes c =
    rw c.from_residual.ensures (no_minute _ _ (spaced_not _ 0 59 _ c.in_err-minutes.ensures))

pub returns-in_err-hours : goal.returns-in_err-hours
returns-in_err-hours c =
    let m = spaced_is _ 0 59 _ c.in_ok-minutes.ensures in
    rw c.from_residual-in_err-hours.ensures (no_hour _ _ m (spaced_not _ 0 23 _ c.in_err-hours.ensures))

pub returns-in_err-days : goal.returns-in_err-days
returns-in_err-days c =
    let m = spaced_is _ 0 59 _ c.in_ok-minutes.ensures in
    let h = spaced_is _ 0 23 _ c.in_ok-hours.ensures in
    rw c.from_residual-in_err-days.ensures (no_day _ _ m h (spaced_not _ 1 31 _ c.in_err-days.ensures))

pub returns-in_err-months : goal.returns-in_err-months
returns-in_err-months c =
    let m = spaced_is _ 0 59 _ c.in_ok-minutes.ensures in
    let h = spaced_is _ 0 23 _ c.in_ok-hours.ensures in
    let d = spaced_is _ 1 31 _ c.in_ok-days.ensures in
    rw c.from_residual-in_err-months.ensures (no_month _ _ m h d (spaced_not _ 1 12 _ c.in_err-months.ensures))

pub returns-in_err-weekdays : goal.returns-in_err-weekdays
returns-in_err-weekdays c =
    let m = spaced_is _ 0 59 _ c.in_ok-minutes.ensures in
    let h = spaced_is _ 0 23 _ c.in_ok-hours.ensures in
    let d = spaced_is _ 1 31 _ c.in_ok-days.ensures in
    let mo = spaced_is _ 1 12 _ c.in_ok-months.ensures in
    rw c.from_residual-in_err-weekdays.ensures (no_weekday _ _ m h d mo (last_not _ 0 6 _ c.in_err-weekdays.ensures))

pub returns : goal.returns
returns c =
    let m = spaced_is _ 0 59 _ c.in_ok-minutes.ensures in
    let h = spaced_is _ 0 23 _ c.in_ok-hours.ensures in
    let d = spaced_is _ 1 31 _ c.in_ok-days.ensures in
    let mo = spaced_is _ 1 12 _ c.in_ok-months.ensures in
    let w = last_is _ 0 6 _ c.in_ok-weekdays.ensures in
    rw c.frame_of.ensures (five_is _ _ m h d mo w)
