-- The front alone, or both.
use mathlib.Core.Bool.{Bool, ◌||◌}
use mathlib.Core.Path.{ap, ◌∙◌}
use Rattle.masks.proofs.WithBits.{bit_of_both}
use Rattle.masks.specs.Masks.{bit}
use Rattle.frames.proofs.turns.both_ends.Goals as goal

pub returns : goal.returns
returns c =
    let a = c.args in
    λ n l h. bit_of_both a.wanted.front _ n ∙ ap (λ (b : Bool). bit a.wanted.front n || b) (c.turned.ensures n l h)
