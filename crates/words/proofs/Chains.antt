-- Words tried one after the other, with their places: the first of them that stands there.
use Rattle.std.specs.Prelude.{Option, None, Some}
use mathlib.Core.Bool.{Bool, true, false, cond}
use mathlib.Core.List.{List, [], ◌∷◌}
use mathlib.Core.Path.{◌≡◌, refl, ◌∙◌}
use Prim.Native.Nat.{ℕ, suc, ◌+◌}
use native.Mathlib.Omega.{arith}
use lib.ListN.{length, drop}
use Rattle.words.specs.Answers.{made_read, one_at, named_as, or_word}
use Rattle.words.specs.Reads.{starts_with}
use Rattle.words.specs.declared.cursor.Cursor.{Cursor}

unfoldable pub or_words : Option (ℕ × Cursor) → List (List ℕ) → ℕ → List ℕ → ℕ → Option (ℕ × Cursor)
or_words n [] k s at = n
or_words n (w ∷ ws) k s at = or_words (or_word n w k s at) ws (k + 1) s at

module _ (s : List ℕ) (at : ℕ) where
  or_kept : (ws : List (List ℕ)) (i k : ℕ) (c : Cursor) → or_words (Some (i, c)) ws k s at ≡ Some (i, c)
  unfolding or_words
  or_kept [] i k c = refl
  or_kept (w ∷ ws) i k c = or_kept ws i (k + 1) c

  or_from : (ws : List (List ℕ)) (k : ℕ) → or_words None ws k s at ≡ named_as (made_read (λ (j : ℕ). k + j) (one_at ws s at))
  unfolding or_words one_at
  or_from [] k = refl
  or_from (w ∷ ws) k = by_start (starts_with w (drop at s)) (or_from ws (k + 1))
    where
      later : (o : Option (ℕ × ℕ)) → named_as (made_read (λ (j : ℕ). k + 1 + j) o) ≡ named_as (made_read (λ (j : ℕ). k + j) (made_read suc o))
      later None = refl
      later (Some r) = let e : k + 1 + r.0 ≡ k + suc r.0 = omega arith in rw e refl

      by_start : (b : Bool) → or_words None ws (k + 1) s at ≡ named_as (made_read (λ (j : ℕ). k + 1 + j) (one_at ws s at))
          → or_words (named_as (cond b (Some (k, at + length w)) None)) ws (k + 1) s at
          ≡ named_as (made_read (λ (j : ℕ). k + j) (cond b (Some (0, at + length w)) (made_read suc (one_at ws s at))))
      by_start true again = let e : k + 0 ≡ k = omega arith in rw e (or_kept ws k (k + 1) _)
      by_start false again = again ∙ later (one_at ws s at)

  pub or_words_lem : (ws : List (List ℕ)) → or_words None ws 0 s at ≡ named_as (one_at ws s at)
  or_words_lem ws = or_from ws 0 ∙ same (one_at ws s at)
    where
      same : (o : Option (ℕ × ℕ)) → named_as (made_read (λ (j : ℕ). 0 + j) o) ≡ named_as o
      same None = refl
      same (Some r) = let e : 0 + r.0 ≡ r.0 = omega arith in rw e refl
