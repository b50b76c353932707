-- A number and a weekday.
use mathlib.Core.Path.{refl, sym, ap}
use Rattle.sheet.specs.Form.{weekday_words}
use Rattle.words.specs.Answers.{signed_read, one_at}
use Rattle.words.proofs.Named.{named_is, named_not}
use Rattle.entries.proofs.Places.{entry_ordinal}
use Rattle.entries.proofs.entry.entry_at.Goals as goal

pub returns-in_err-weekday : goal.returns-in_err-weekday
returns-in_err-weekday c = let a = c.args in
    rw (
      c.from_residual-in_err-weekday.ensures,
      entry_ordinal a.s.now a.c.at _ _ (named_not _ c.in_default.ensures) (ap signed_read (sym c.in_ok-number.ensures)),
      named_not (one_at weekday_words a.s.now _) c.in_err-weekday.ensures,
    ) refl

pub returns : goal.returns
returns c = let a = c.args in
    rw (
      entry_ordinal a.s.now a.c.at _ _ (named_not _ c.in_default.ensures) (ap signed_read (sym c.in_ok-number.ensures)),
      named_is (one_at weekday_words a.s.now _) _ _ c.in_ok-weekday.ensures,
    ) refl
