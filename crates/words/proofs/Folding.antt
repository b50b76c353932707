-- The elements of a list taken up one after the other, as they are read.
use Rattle.std.specs.Prelude.{Option, None, Some}
use mathlib.Core.Bool.{false}
use mathlib.Core.List.{List}
use mathlib.Core.Path.{◌≡◌, refl, sym, ap, ◌∙◌}
use Prim.Native.Nat.{ℕ, zero, suc, ◌+◌, ◌<◌}
use native.Mathlib.Omega.{arith}
use borrow.Author.Tests.{eq-eqb}
use lib.Dec.{eqb}
use lib.ListN.{get_or}
use Rattle.words.specs.Lists.{before, over_all, list_at}

module _ {A M R : Type 0} (take : M → A → M) (is : M → ℕ → R) (not : R) where
  abbrev pub taken_as : M → Option (List A × ℕ) → R
  taken_as m None = not
  taken_as m (Some r) = is (over_all take m r.0) r.1

  taken_before : (m : M) (x : A) (o : Option (List A × ℕ)) → taken_as m (before x o) ≡ taken_as (take m x) o
  unfolding over_all
  taken_before m x None = refl
  taken_before m x (Some r) = refl

  module _ (read : ℕ → Option (A × ℕ)) (separator : ℕ) (s : List ℕ) (m : M) (at : ℕ) where
    pub taken_not : (left : ℕ) → read at ≡ None → not ≡ taken_as m (list_at read separator s left at)
    unfolding list_at
    taken_not zero e = refl
    taken_not (suc left) e = rw (list_at, e) refl

    pub taken_last : (left : ℕ) (x : A) (end : ℕ) → 0 < left → read at ≡ Some (x, end) → eqb (get_or s end 0) separator ≡ false
        → is (take m x) end ≡ taken_as m (list_at read separator s left at)
    unfolding list_at over_all
    taken_last zero x end h e f = absurd (omega arith)
    taken_last (suc left) x end h e f = rw (list_at, e, f) refl

    pub taken_next : (left : ℕ) (x : A) (end : ℕ) → read at ≡ Some (x, end) → get_or s end 0 ≡ separator
        → taken_as (take m x) (list_at read separator s left (end + 1)) ≡ taken_as m (list_at read separator s (suc left) at)
    unfolding list_at
    taken_next left x end e f =
        let step : list_at read separator s (suc left) at ≡ before x (list_at read separator s left (end + 1)) =
        rw (list_at, e, eq-eqb _ _ f) refl in
        sym (ap (taken_as m) step ∙ taken_before m x (list_at read separator s left (end + 1)))
