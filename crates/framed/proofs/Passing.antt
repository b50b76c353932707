-- What every value that a text is found to write passes, and every element of a list of pieces, which has one at least.
use Rattle.std.specs.Prelude.{Option, None, Some}
use mathlib.Core.Bool.{Bool, true, false, cond, false≢true}
use mathlib.Core.List.{List, [], ◌∷◌}
use mathlib.Core.Path.{◌≡◌, refl}
use Prim.Native.Nat.{ℕ}
use lib.Dec.{eqb}
use Rattle.calendar.proofs.Every.{decided}
use Rattle.calendar.specs.Below.{all_of}
use Rattle.sheet.specs.Words.{pieces, cons_of, each_of}
use Rattle.framed.proofs.Goods.{given_passes}
use Rattle.framed.proofs.Listed.{anything, listed}

pub anything_passes : {A : Type 0} (o : Option A) → given_passes anything o ≡ true
anything_passes None = refl
anything_passes (Some a) = refl

-- one of two
pub cond_passes : {A : Type 0} (test : A → Bool) (b : Bool) (x y : Option A) → given_passes test x ≡ true → given_passes test y ≡ true
    → given_passes test (cond b x y) ≡ true
cond_passes test true x y e f = e
cond_passes test false x y e f = f

pub all_anything : {A : Type 0} (xs : List A) → all_of anything xs ≡ true
all_anything [] = refl
all_anything (x ∷ xs) = all_anything xs

-- a list of pieces has one at least
some_piece : (separator : ℕ) (s : List ℕ) → listed anything (pieces separator s) ≡ true
unfolding pieces
some_piece separator [] = refl
some_piece separator (c ∷ cs) =
    decided (eqb c separator) (λ (t : eqb c separator ≡ true). rw (t, pieces) (all_anything (pieces separator cs)))
    (λ (f : eqb c separator ≡ false). by_rest f (pieces separator cs) refl)
  where
    by_rest : eqb c separator ≡ false → (ps : List (List ℕ)) → pieces separator cs ≡ ps → listed anything (pieces separator (c ∷ cs)) ≡ true
    by_rest f [] e = rw (pieces, f, e) refl
    by_rest f (p ∷ ps) e = rw (pieces, f, e) (all_anything ps)

-- a list of what passes
module _ {A : Type 0} (test : A → Bool) (form : List ℕ → Option A) (each : (s : List ℕ) → given_passes test (form s) ≡ true) where
  first_passes : (x : Option A) (xs : Option (List A)) → given_passes test x ≡ true → given_passes (all_of test) xs ≡ true
      → given_passes (listed test) (cons_of x xs) ≡ true
  unfolding cons_of
  first_passes None xs e f = refl
  first_passes (Some x) None e f = refl
  first_passes (Some x) (Some xs) e f = rw (e, f) refl

  listed_all : (o : Option (List A)) → given_passes (listed test) o ≡ true → given_passes (all_of test) o ≡ true
  listed_all None e = refl
  listed_all (Some []) e = refl
  listed_all (Some (x ∷ xs)) e = e

  pub all_pass : (ss : List (List ℕ)) → given_passes (all_of test) (each_of form ss) ≡ true
  unfolding each_of
  all_pass [] = refl
  all_pass (s ∷ ss) = listed_all (cons_of (form s) (each_of form ss)) (first_passes (form s) (each_of form ss) (each s) (all_pass ss))

  some_pass : (ss : List (List ℕ)) → listed anything ss ≡ true → given_passes (listed test) (each_of form ss) ≡ true
  unfolding each_of
  some_pass [] e = absurd (false≢true e)
  some_pass (s ∷ ss) e = first_passes (form s) (each_of form ss) (each s) (all_pass ss)

  pub pieces_pass : (separator : ℕ) (s : List ℕ) → given_passes (listed test) (each_of form (pieces separator s)) ≡ true
  pieces_pass separator s = some_pass (pieces separator s) (some_piece separator s)
