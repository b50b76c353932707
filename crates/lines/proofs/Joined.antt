-- A text is its lines, each with its LF, and what stands after the last.
use mathlib.Core.Bool.{Bool, true, false}
use mathlib.Core.List.{List, [], ◌∷◌, ◌++◌}
use mathlib.Core.Path.{◌≡◌, refl, ap, ◌∙◌}
use Prim.Native.Nat.{ℕ}
use borrow.Author.Tests.{eqb-true}
use lib.Dec.{eqb}
use Rattle.lines.specs.Lines.{before, lines_of}

abbrev pub joined : List (List ℕ) → List ℕ → List ℕ
joined [] tail = tail
joined (line ∷ more) tail = line ++ (10 ∷ joined more tail)

joined_before : (c : ℕ) (whole : List (List ℕ)) (tail : List ℕ)
    → joined (before c whole tail).whole (before c whole tail).tail ≡ c ∷ joined whole tail
joined_before c [] tail = refl
joined_before c (line ∷ more) tail = refl

pub lines_joined : (text : List ℕ) → joined (lines_of text).whole (lines_of text).tail ≡ text
unfolding lines_of
lines_joined [] = refl
lines_joined (c ∷ cs) = by_byte (eqb c 10) refl (lines_joined cs)
  where
    by_byte : (b : Bool) → eqb c 10 ≡ b → joined (lines_of cs).whole (lines_of cs).tail ≡ cs
        → joined (lines_of (c ∷ cs)).whole (lines_of (c ∷ cs)).tail ≡ c ∷ cs
    by_byte true e again = rw (lines_of, e, eqb-true c 10 e) (ap (λ (t : List ℕ). 10 ∷ t) again)
    by_byte false e again = rw (lines_of, e) (joined_before c (lines_of cs).whole (lines_of cs).tail ∙ ap (λ (t : List ℕ). c ∷ t) again)
