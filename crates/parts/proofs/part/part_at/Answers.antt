-- By the name.
use mathlib.Core.Path.{refl}
use Rattle.words.proofs.Named.{named_is, named_not}
use Rattle.parts.proofs.Places.{part_value, part_not}
use Rattle.parts.proofs.part.part_at.Goals as goal

pub returns-in_err-name : goal.returns-in_err-name
returns-in_err-name c = rw (c.from_residual.ensures, part_not c.args.s.now c.args.c.at (named_not _ c.in_err-name.ensures)) refl

pub returns : goal.returns
returns c = rw (part_value c.args.s.now c.args.c.at _ _ (named_is _ _ _ c.in_ok-name.ensures)) c.value_at.ensures
