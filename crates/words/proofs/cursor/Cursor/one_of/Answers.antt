-- The word at the place stands there, or the search goes on behind it.
use mathlib.Core.Path.{sym, ◌∙◌}
use Rattle.words.proofs.Named.{one_here, one_later, one_past}
use Rattle.words.proofs.cursor.Cursor.one_of.Goals as goal

pub returns-in-Some : goal.returns-in-Some
returns-in-Some c = one_here _ _ _ _ _ c.loop-place-test.true c.loop-place.invariant _ (sym c.word.ensures ∙ c.in-Some.is)

pub loop-place-preserved : goal.loop-place-preserved
loop-place-preserved c = one_later _ _ _ _ _ c.loop-place-test.true c.loop-place.invariant (sym c.word.ensures ∙ c.in_default.is)

pub returns : goal.returns
returns c = one_past _ _ _ _ c.loop-place-test.false c.loop-place.invariant
