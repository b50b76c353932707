-- One nearest instant in either direction, and one answer of a plan.
use mathlib.Core.Bool.{Bool, false}
use mathlib.Core.List.{List}
use mathlib.Core.Path.{◌≡◌, sym, ap, ◌∙◌}
use Prim.Native.Nat.{ℕ}
use lib.IntN.{ℤ}
use lib.Signed.{lt_z}
use Rattle.calendar.proofs.Every.{decided}
use Rattle.plan.specs.Taken.{Loaded, taken, refused, load}
use Rattle.evandrusk.specs.Plans.{Nearest, NearestFound, NearestBy, NextAnswer, PreviousAnswer, SignedInstant, found_at, later}
use Rattle.evandrusk.specs.Plans.NearestFound.{found, none}
use Rattle.evandrusk.specs.declared.answers.EvkFound.{EvkFound}
use Rattle.evandrusk.proofs.Orders.{neither_below}

neither_above : (a b : ℤ) → later a b ≡ false → later b a ≡ false → a ≡ b
neither_above a b f g = neither_below a b g f

module _ (before : ℤ → ℤ → Bool) (total : (a b : ℤ) → before a b ≡ false → before b a ≡ false → a ≡ b) where
  nearest_unique : (instants : ℤ → Type 0) (asked y z : ℤ) → Nearest before instants asked y → Nearest before instants asked z → y ≡ z
  nearest_unique instants asked y z a b =
      decided (before y z) (λ t. absurd (b.nearest y a.is a.beyond t))
      (λ f. decided (before z y) (λ t. absurd (a.nearest z b.is b.beyond t)) (λ g. total y z f g))

  found_unique : (instants : ℤ → Type 0) (asked : ℤ) (r s : EvkFound)
      → NearestFound before instants asked r → NearestFound before instants asked s → r ≡ s
  found_unique instants asked r s (found y a p) (found z b q) = p ∙ ap found_at (nearest_unique instants asked y z a b) ∙ sym q
  found_unique instants asked r s (found y a p) (none b q) = absurd (b y a.is a.beyond)
  found_unique instants asked r s (none a p) (found z b q) = absurd (a z b.is b.beyond)
  found_unique instants asked r s (none a p) (none b q) = p ∙ sym q

  by_unique : (l : Loaded) (asked : ℤ) (r s : EvkFound) → NearestBy before l asked r → NearestBy before l asked s → r ≡ s
  unfolding NearestBy
  by_unique (taken fs) asked r s a b = found_unique (SignedInstant fs) asked r s a b
  by_unique (refused k) asked r s a b = a ∙ sym b

-- later and earlier, of any instants
module _ (instants : ℤ → Type 0) (asked : ℤ) (r s : EvkFound) where
  pub later_unique : NearestFound lt_z instants asked r → NearestFound lt_z instants asked s → r ≡ s
  later_unique = found_unique lt_z neither_below instants asked r s

  pub earlier_unique : NearestFound later instants asked r → NearestFound later instants asked s → r ≡ s
  earlier_unique = found_unique later neither_above instants asked r s

-- two structs that meet the promise of next are equal, and so with previous
pub next_answer_unique : (plan : List ℕ) (asked : ℤ) (r s : EvkFound) → NextAnswer plan asked r → NextAnswer plan asked s → r ≡ s
unfolding NextAnswer
next_answer_unique plan asked r s = by_unique lt_z neither_below (load plan) asked r s

pub previous_answer_unique : (plan : List ℕ) (asked : ℤ) (r s : EvkFound)
    → PreviousAnswer plan asked r → PreviousAnswer plan asked s → r ≡ s
unfolding PreviousAnswer
previous_answer_unique plan asked r s = by_unique later neither_above (load plan) asked r s
