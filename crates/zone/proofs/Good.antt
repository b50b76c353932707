-- What transitions under the limits give, one by one, and the offset before and after them.
use mathlib.Core.Bool.{true, ◌&&◌}
use mathlib.Core.List.{List, [], ◌∷◌}
use mathlib.Core.Logic.{dite}
use mathlib.Core.Path.{◌≡◌, refl, sym, subst}
use Prim.Native.Nat.{ℕ, ◌+◌, ◌<◌, ◌≤◌}
use native.Mathlib.Decide.{dec_lt}
use native.Mathlib.Omega.{arith}
use borrow.Author.Tests.{le-leb, lt-leb}
use lib.Dec.{T, leb, leb→le}
use lib.ListN.{length}
use Rattle.calendar.proofs.Every.{left, right}
use Rattle.calendar.specs.Below.{within}
use Rattle.zone.specs.Zone.{Offsets, offset_from, apart, offset_in_range, under_limits, transitions_good, zone_good}
use Rattle.zone.specs.declared.Transition.{Transition}

-- by which of two numbers is the lesser
pub by_order : {A : Type 0} (a b : ℕ) → (a < b → A) → (b ≤ a → A) → A
by_order a b f g = dite (dec_lt a b) f (λ n. g (omega arith))

pub record Within (low high n : ℕ) : Type 0 where
  pub from : low ≤ n
  pub upto : n ≤ high

pub within_holds : (low high n : ℕ) → T (within low high n) → Within low high n
within_holds low high n t = record { from = leb→le _ _ (left (leb low n) _ t); upto = leb→le _ _ (right (leb low n) _ t) }

-- a transition under the limits, and those after it
pub record GoodHead (low offset : ℕ) (t : Transition) (ts : List Transition) : Type 0 where
  pub instant : Within 1440 52597439 t.at
  pub range : Within 720 2280 t.offset
  pub after : low ≤ t.at
  pub change : Within 1 180 (apart offset t.offset)
  pub rest : T (transitions_good (t.at + 2880) t.offset ts)

pub good_head : (low offset : ℕ) (t : Transition) (ts : List Transition) → T (transitions_good low offset (t ∷ ts))
    → GoodHead low offset t ts
unfolding transitions_good under_limits
good_head low offset t ts g =
    let a = right (within 1440 52597439 t.at) _ g in
    let b = right (offset_in_range t.offset) _ a in
    let u = left (under_limits low offset t) _ b in
    record {
      instant = within_holds _ _ _ (left (within 1440 52597439 t.at) _ g);
      range = within_holds _ _ _ (left (offset_in_range t.offset) _ a);
      after = leb→le _ _ (left (leb low t.at) _ u);
      change = within_holds _ _ _ (right (leb low t.at) _ u);
      rest = right (under_limits low offset t) _ b;
    }

-- before the first transition the offset is the one before them
pub offset_before : (low offset x : ℕ) (ts : List Transition) (i : ℕ) → T (transitions_good low offset ts) → i < low → offset_from x ts i ≡ x
unfolding offset_from
offset_before low offset x [] i g l = refl
offset_before low offset x (t ∷ ts) i g l =
    let h = good_head low offset t ts g in
    let b : i < t.at = omega (arith, h.after) in
    rw (lt-leb _ _ b, offset_from) (offset_before (t.at + 2880) t.offset x ts i h.rest (omega arith))

-- before a transition, and from it on
pub offset_until : (low offset : ℕ) (t : Transition) (ts : List Transition) → T (transitions_good low offset (t ∷ ts))
    → (i : ℕ) → i < t.at → offset_from offset (t ∷ ts) i ≡ offset
unfolding offset_from
offset_until low offset t ts g i b = rw (lt-leb _ _ b, offset_from)
    (offset_before (t.at + 2880) t.offset offset ts i (good_head low offset t ts g).rest (omega arith))

pub offset_since : (offset : ℕ) (t : Transition) (ts : List Transition) (i : ℕ) → t.at ≤ i
    → offset_from offset (t ∷ ts) i ≡ offset_from t.offset ts i
unfolding offset_from
offset_since offset t ts i b = rw (le-leb _ _ b, offset_from) refl

pub offset_passed_over : (offset : ℕ) (t : Transition) (ts : List Transition) (i : ℕ) → i < t.at
    → offset_from offset (t ∷ ts) i ≡ offset_from offset ts i
unfolding offset_from
offset_passed_over offset t ts i b = rw (lt-leb _ _ b, offset_from) refl

-- from a transition on no minute before its own is shown
pub shown_since : (at offset : ℕ) (ts : List Transition) (i : ℕ)
    → T (transitions_good (at + 2880) offset ts) → at ≤ i → at + offset ≤ i + offset_from offset ts i
unfolding offset_from
shown_since at offset [] i g l = omega arith
shown_since at offset (t ∷ ts) i g l =
    let h = good_head (at + 2880) offset t ts g in
    by_order i t.at (λ b. rw (offset_until (at + 2880) offset t ts g i b) (omega arith))
    (λ b. rw (offset_since offset t ts i b) (omega (arith, shown_since t.at t.offset ts i h.rest b)))

-- offsets stay in range
pub offset_range : (low offset : ℕ) (ts : List Transition) (i : ℕ)
    → Within 720 2280 offset → T (transitions_good low offset ts) → Within 720 2280 (offset_from offset ts i)
unfolding offset_from
offset_range low offset [] i r g = r
offset_range low offset (t ∷ ts) i r g =
    let h = good_head low offset t ts g in
    by_order i t.at (λ b. rw (offset_until low offset t ts g i b) r)
    (λ b. rw (offset_since offset t ts i b) (offset_range (t.at + 2880) t.offset ts i h.range h.rest))

-- a zone under the limits
pub record GoodZone (z : Offsets) : Type 0 where
  pub range : Within 720 2280 z.first
  pub places : length z.changes ≤ 32
  pub changes : T (transitions_good 0 z.first z.changes)

pub good_zone : (z : Offsets) → zone_good z ≡ true → GoodZone z
unfolding zone_good
good_zone z e =
    let g : T (offset_in_range z.first && (leb (length z.changes) 32 && transitions_good 0 z.first z.changes)) =
    subst T (sym e) tt in
    let a = right (offset_in_range z.first) _ g in
    record {
      range = within_holds _ _ _ (left (offset_in_range z.first) _ g);
      places = leb→le _ _ (left (leb (length z.changes) 32) _ a);
      changes = right (leb (length z.changes) 32) _ a;
    }
