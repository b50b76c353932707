-- Lists that are given have an element, and a test of every element; tests of their elements joined by "or".
use mathlib.Core.Bool.{Bool, true, false, ◌&&◌, ◌||◌}
use mathlib.Core.List.{List, [], ◌∷◌}
use mathlib.Core.Path.{◌≡◌, refl, ap₂, ◌∙◌}
use Rattle.calendar.proofs.Every.{both_true, regrouped}
use Rattle.calendar.specs.Below.{any_of, all_of}

abbrev pub anything : {A : Type 0} → A → Bool
anything a = true

-- there is an element, and every one passes the test
abbrev pub listed : {A : Type 0} → (A → Bool) → List A → Bool
listed test [] = false
listed test (x ∷ xs) = test x && all_of test xs

pub all_listed : {A : Type 0} (test : A → Bool) (xs : List A) → listed test xs ≡ true → all_of test xs ≡ true
all_listed test [] e = refl
all_listed test (x ∷ xs) e = e

-- some element passes one test, or some the other
module _ {A : Type 0} (one other both : A → Bool) (same : (x : A) → (one x || other x) ≡ both x) where
  pub any_either : (xs : List A) → (any_of one xs || any_of other xs) ≡ any_of both xs
  any_either [] = refl
  any_either (x ∷ xs) = regrouped (one x) (any_of one xs) (other x) (any_of other xs) ∙ ap₂ ◌||◌ (same x) (any_either xs)

-- what a list's elements pass, and what all of them pass
module _ {A : Type 0} (one other both : A → Bool) (join : (x : A) → one x ≡ true → other x ≡ true → both x ≡ true) where
  all_by : (xs : List A) → all_of one xs ≡ true → all_of other xs ≡ true → all_of both xs ≡ true
  all_by [] e f = refl
  all_by (x ∷ xs) e f =
      let a = both_true (one x) (all_of one xs) e in
      let b = both_true (other x) (all_of other xs) f in
      rw (join x a.0 b.0) (all_by xs a.1 b.1)

  pub listed_by_lem : (xs : List A) → listed one xs ≡ true → all_of other xs ≡ true → listed both xs ≡ true
  listed_by_lem [] e f = e
  listed_by_lem (x ∷ xs) e f = all_by (x ∷ xs) e f
