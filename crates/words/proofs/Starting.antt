-- A word compared byte by byte.
use Rattle.std.specs.Prelude.{Option, None, Some}
use mathlib.Core.Bool.{Bool, true, false, cond}
use mathlib.Core.List.{List, ◌∷◌}
use mathlib.Core.Path.{◌≡◌, refl, sym, ap, ap₂, ◌∙◌}
use Prim.Native.Nat.{ℕ, suc, ◌+◌, ◌<◌, ◌≤◌}
use native.Mathlib.Omega.{arith}
use borrow.Author.Tests.{eq-eqb, ne_eqb}
use lib.ListN.{length, get_or, drop, drop_of_length-le}
use lib.Seq.{drop-cons}
use Rattle.words.specs.Reads.{cursor, starts_with, word_at}
use Rattle.words.specs.declared.cursor.Cursor.{Cursor}

cons_same : {x y : ℕ} (w s : List ℕ) → y ≡ x → starts_with (x ∷ w) (y ∷ s) ≡ starts_with w s
unfolding starts_with
cons_same {x} {y} w s e = rw (eq-eqb x y (sym e)) refl

cons_differs : {x y : ℕ} (w s : List ℕ) → (y ≡ x → ⊥) → starts_with (x ∷ w) (y ∷ s) ≡ false
unfolding starts_with
cons_differs {x} {y} w s d = rw (ne_eqb x y (λ e. d (sym e))) refl

-- after i bytes of the word
module _ (w s : List ℕ) (at i : ℕ) where
  pub word_done : length w ≤ i → starts_with (drop i w) (drop (at + i) s) ≡ true
  unfolding starts_with
  word_done h = rw (drop_of_length-le w) refl

  pub word_short : i < length w → length s ≤ at + i → starts_with (drop i w) (drop (at + i) s) ≡ false
  unfolding starts_with
  word_short h k = rw (drop-cons w i 0, drop_of_length-le s) refl

  pub word_differs : i < length w → at + i < length s → (get_or s (at + i) 0 ≡ get_or w i 0 → ⊥)
      → starts_with (drop i w) (drop (at + i) s) ≡ false
  word_differs h k d = rw (drop-cons w i 0, drop-cons s (at + i) 0) (cons_differs _ _ d)

  pub word_same : i < length w → at + i < length s → get_or s (at + i) 0 ≡ get_or w i 0
      → starts_with (drop i w) (drop (at + i) s) ≡ starts_with (drop (i + 1) w) (drop (at + (i + 1)) s)
  word_same h k e =
      rw (drop-cons w i 0, drop-cons s (at + i) 0)
      (cons_same _ _ e ∙ ap₂ (λ (m n : ℕ). starts_with (drop m w) (drop n s)) {x = suc i} {y = i + 1} {u = suc (at + i)} {v = at + (i + 1)} (omega arith) (omega arith))

-- a word that was read, or not
module _ (w s : List ℕ) (at : ℕ) where
  place_in : Option Cursor → Cursor
  place_in (Some c) = c
  place_in None = cursor 0

  pub word_is : (c : Cursor) → word_at w s at ≡ Some c → (starts_with w (drop at s) ≡ true) × (c ≡ cursor (at + length w))
  unfolding word_at place_in
  word_is c e = by_start (starts_with w (drop at s)) refl e
    where
      by_start : (b : Bool) → starts_with w (drop at s) ≡ b
          → cond (starts_with w (drop at s)) (Some (cursor (at + length w))) None ≡ Some c
          → (starts_with w (drop at s) ≡ true) × (c ≡ cursor (at + length w))
      by_start true f e = (f, sym (ap place_in (rw f at e)))
      by_start false f e = let g : None ≡ Some c = rw f at e in let z : ◌≡◌ {A = ℕ} 0 1 = cc in absurd (omega arith)

  pub word_not : word_at w s at ≡ None → starts_with w (drop at s) ≡ false
  unfolding word_at
  word_not e = by_start (starts_with w (drop at s)) refl e
    where
      by_start : (b : Bool) → starts_with w (drop at s) ≡ b
          → cond (starts_with w (drop at s)) (Some (cursor (at + length w))) None ≡ None → starts_with w (drop at s) ≡ false
      by_start true f e =
          let g : Some (cursor (at + length w)) ≡ None = rw f at e in let z : ◌≡◌ {A = ℕ} 0 1 = cc in absurd (omega arith)
      by_start false f e = f
