-- The transitions that count, the stretch after each of them, and how many a zone holds.
use mathlib.Core.List.{List, [], ◌∷◌, ◌++◌}
use mathlib.Core.Path.{◌≡◌, refl, sym, ap, ◌∙◌}
use Prim.Native.Nat.{ℕ, zero, suc, ◌+◌, ◌-◌, ◌<◌, ◌≤◌, min}
use native.Mathlib.Numerals.{add-one}
use native.Mathlib.Omega.{arith}
use lib.ListN.{length, get_or, take, length-take}
use lib.Seq.{take_all, take-suc, take-take}
use Rattle.zone.specs.Held.{offsets_of}
use Rattle.zone.specs.Stretches.{offset_after, boundary, end_in, stretch_offset}
use Rattle.zone.specs.Zone.{Offsets}
use Rattle.zone.specs.declared.Transition.{Transition}
use Rattle.zone.specs.declared.Zone.{Zone}
use Rattle.zone.proofs.Good.{by_order}
use Rattle.zone.proofs.Over.{nth}
use denote.Laws.{Is}
use denote.Struct.Declared.{row}
use denote.Struct.Laws.{val}
use Rattle.zone.specs.contracts.Zone.{the_type}
use Rattle.zone.proofs.Zone.TheLaws.{the_laws}

-- the transition in place k
abbrev pub held_at : Offsets → ℕ → Transition
held_at z k = nth z.changes k

-- the last of some transitions
offset_last : (offset : ℕ) (ts : List Transition) (t : Transition) → offset_after offset (ts ++ (t ∷ [])) ≡ t.offset
unfolding offset_after
offset_last offset [] t = refl
offset_last offset (u ∷ ts) t = offset_last u.offset ts t

-- the same, where it is looked up from the end
offset_end : (offset : ℕ) (ts : List Transition) (n : ℕ) (t : Transition) → length ts ≡ suc n → t ≡ get_or ts n t → offset_after offset ts ≡ t.offset
unfolding offset_after
offset_end offset [] n t l e = absurd (omega arith)
offset_end offset (u ∷ []) zero t l e = ap (λ (t : Transition). t.offset) (sym e)
offset_end offset (u ∷ []) (suc n) t l e = absurd (omega arith)
offset_end offset (u ∷ v ∷ ts) zero t l e = absurd (omega arith)
offset_end offset (u ∷ v ∷ ts) (suc n) t l e = offset_end u.offset (v ∷ ts) n t (omega arith) e

-- where stretch k ends, by its offset and the transition after it
end_is : (offset : ℕ) (ts : List Transition) (k : ℕ) (d : Transition)
    → k < length ts → end_in offset ts k ≡ boundary (offset_after offset (take k ts)) (get_or ts k d)
unfolding end_in offset_after
end_is offset [] k d l = absurd (omega arith)
end_is offset (t ∷ ts) zero d l = refl
end_is offset (t ∷ ts) (suc k) d l = end_is t.offset ts k d (omega arith)

module _ (z : Offsets) where
  -- the offset of the first stretch, and of that after transition k
  pub first_offset : stretch_offset z 0 ≡ z.first
  unfolding stretch_offset offset_after
  first_offset = refl

  pub held_offset : (k : ℕ) → k < length z.changes → stretch_offset z (k + 1) ≡ (held_at z k).offset
  unfolding stretch_offset
  held_offset k l = rw add-one (ap (offset_after z.first) (take-suc z.changes k _ l) ∙ offset_last z.first (take k z.changes) _)

  -- the first k of them, or all
  first_of : (k : ℕ) → take k z.changes ≡ take (min k (length z.changes)) z.changes
  first_of k =
      by_order (length z.changes) k
      (λ l. let e : min k (length z.changes) ≡ length z.changes = omega arith in rw e (take_all k z.changes (omega arith) ∙ sym (take_all (length z.changes) z.changes (omega arith))))
      (λ l. let e : min k (length z.changes) ≡ k = omega arith in rw e refl)

  -- the offset of stretch k by the last of them
  pub offset_none : (k n : ℕ) → n ≡ min k (length z.changes) → length (take n z.changes) ≤ 0 → z.first ≡ stretch_offset z k
  unfolding stretch_offset offset_after
  offset_none k n e l =
      let h : n ≡ 0 = omega (arith, length-take n z.changes) in
      sym (ap (offset_after z.first) (first_of k ∙ ap (λ (n : ℕ). take n z.changes) (sym e ∙ h)))

  pub offset_some : (k n : ℕ) (t : Transition)
      → n ≡ min k (length z.changes) → 0 < length (take n z.changes) → t ≡ get_or (take n z.changes) (length (take n z.changes) - 1) t
      → t.offset ≡ stretch_offset z k
  unfolding stretch_offset
  offset_some k n t e l h =
      sym (ap (offset_after z.first) (first_of k ∙ ap (λ (n : ℕ). take n z.changes) (sym e)) ∙ offset_end z.first (take n z.changes) _ t (omega arith) h)

  -- the end of stretch k
  pub held_end : (k : ℕ) → k < length z.changes → end_in z.first z.changes k ≡ boundary (stretch_offset z k) (held_at z k)
  unfolding stretch_offset
  held_end k l = end_is z.first z.changes k _ l

-- a part of a part from the front
take_both : (k n : ℕ) (l : List Transition) → take k (take n l) ≡ take (min k n) l
take_both k n l =
    by_order n k (λ b. let e : min k n ≡ n = omega arith in rw e (take_all k (take n l) (omega (arith, length-take n l))))
    (λ b. let e : min k n ≡ k = omega arith in rw e (take-take k n l (omega arith)))

module _ (z : Zone) (whole : length z.changes ≡ 32) where
  pub held_length : length (offsets_of z).changes ≡ min z.count 32
  unfolding offsets_of
  held_length = omega (arith, length-take z.count z.changes)

  pub held_front : (offsets_of z).changes ≡ take (min z.count 32) z.changes
  unfolding offsets_of
  held_front =
      ap (λ (l : List Transition). take z.count l) (sym (take_all 32 z.changes (omega arith)))
      ∙ take_both z.count 32 z.changes

-- what is known of a zone that a function is passed: its array is whole
abbrev pub Passed : Zone → Type 0
Passed z = Is (row the_type) z (val the_type the_laws z ∷ [])

pub whole : (z : Zone) → Passed z → length z.changes ≡ 32
whole z passed = passed.1.1.1.1.0.1.0.1
