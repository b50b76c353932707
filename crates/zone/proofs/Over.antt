-- One step over a list of transitions: the offset so far, and those from place k on.
use mathlib.Core.List.{List, ◌∷◌}
use mathlib.Core.Path.{◌≡◌, refl, sym, ◌∙◌}
use Prim.Native.Nat.{ℕ, ◌+◌, ◌<◌, ◌≤◌}
use native.Mathlib.Numerals.{add-one}
use lib.ListN.{length, get_or, drop, drop_of_length-le}
use lib.Seq.{drop-cons}
use Rattle.zone.specs.Zone.{Offsets, offset_from, offset_at}
use Rattle.zone.specs.declared.Transition.{Transition}
use Rattle.zone.proofs.Good.{offset_since, offset_passed_over}

abbrev pub none : Transition
none = record { at = 0; offset = 0 }

-- transition k
abbrev pub nth : List Transition → ℕ → Transition
nth ts k = get_or ts k none

pub left_from : (ts : List Transition) (k : ℕ) → k < length ts → drop k ts ≡ nth ts k ∷ drop (k + 1) ts
left_from ts k l = rw add-one (drop-cons ts k none l)

abbrev pub over : ℕ → List Transition → Offsets
over first ts = record { first = first; changes = ts }

-- what is looked up, by the offset so far and the transitions that are left
abbrev pub Agrees : ℕ → List Transition → ℕ → ℕ → ℕ → Type 0
Agrees first ts i k offset = offset_from offset (drop k ts) i ≡ offset_at (over first ts) i

module _ (first : ℕ) (ts : List Transition) (i k offset : ℕ) where
  pub at_start : Agrees first ts i 0 first
  unfolding offset_at
  at_start = refl

  pub since : k < length ts → (nth ts k).at ≤ i → Agrees first ts i k offset → Agrees first ts i (k + 1) (nth ts k).offset
  since l b e = sym (offset_since offset (nth ts k) (drop (k + 1) ts) i b) ∙ (rw (left_from ts k l) at e)

  pub passed_over : k < length ts → i < (nth ts k).at → Agrees first ts i k offset → Agrees first ts i (k + 1) offset
  passed_over l b e = sym (offset_passed_over offset (nth ts k) (drop (k + 1) ts) i b) ∙ (rw (left_from ts k l) at e)

  pub at_end : length ts ≤ k → Agrees first ts i k offset → offset ≡ offset_at (over first ts) i
  unfolding offset_from
  at_end l e = rw (drop_of_length-le ts {i = k} l) at e
