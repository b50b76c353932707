-- `*`, or a list whose numbers are all in range, or not.
use Rattle.std.proofs.Common.{ℕ, ◌+◌, ◌∙◌, length, sym, ap, arith}
use borrow.Author.Tests.{ne_eqb}
use lib.Dec.{eqb}
use Rattle.masks.proofs.Bits.{one_shifted}
use Rattle.fields.proofs.Answers.{taken_not, taken_is, field_star, field_not, field_listed}
use Rattle.fields.proofs.Numbers.{lower_bit}
use Rattle.fields.proofs.field.field_at.Goals as goal

pub overflow_sub-every : goal.overflow_sub-every
overflow_sub-every g c =
    let f = g.F.CronField in
    lower_bit _ _ (omega (arith, f.rises, c.LOW.ensures, c.HIGH.ensures)) (omega (arith, f.fits, c.HIGH.ensures))

pub returns-then-byte-eq-STAR : goal.returns-then-byte-eq-STAR
returns-then-byte-eq-STAR g c =
    let f = g.F.CronField in
    rw (
      c.LOW.ensures,
      c.HIGH.ensures,
      one_shifted f.LOW (omega (arith, f.rises, f.fits)),
      one_shifted (f.HIGH + 1) (omega (arith, f.fits)),
    )
    (field_star f.LOW f.HIGH c.args.s.now c.args.c.at f.rises (sym c.byte.ensures ∙ c.if-byte-eq-STAR.true))

pub returns-in_err-marks : goal.returns-in_err-marks
returns-in_err-marks g c =
    let a = c.args in
    let other = ap (λ (x : ℕ). eqb x 42) (sym c.byte.ensures) ∙ ne_eqb _ _ c.if-byte-eq-STAR.false in
    rw c.from_residual.ensures (field_not _ _ _ _ other (taken_not _ _ _ (c.in_err-marks.ensures (length a.s.now + 1) (omega arith))))

pub returns : goal.returns
returns g c =
    let a = c.args in
    let other = ap (λ (x : ℕ). eqb x 42) (sym c.byte.ensures) ∙ ne_eqb _ _ c.if-byte-eq-STAR.false in
    rw c.then_some.ensures
    (field_listed _ _ _ _ other _ _ (taken_is _ _ _ _ _ (c.in_ok-marks.ensures (length a.s.now + 1) (omega arith))) g.F.CronField.rises)
