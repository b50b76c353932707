-- The answer of a field's reader by what was read.
use Rattle.std.specs.Bool.{then_some}
use Rattle.std.specs.Prelude.{Option, None, Some}
use mathlib.Core.Bool.{Bool, true, false}
use mathlib.Core.List.{List}
use mathlib.Core.Path.{◌≡◌, refl, sym, ap, ◌∙◌}
use Prim.Native.Nat.{ℕ, ◌+◌, ◌-◌, ◌^◌, ◌≤◌}
use native.Mathlib.Omega.{arith}
use lib.Dec.{eqb}
use lib.ListN.{length, get_or}
use Rattle.calendar.specs.Below.{all_of}
use Rattle.masks.proofs.MaskFroms.{mask_from_same}
use Rattle.masks.specs.Masks.{mask_from}
use Rattle.sheet.specs.Form.{Element as Form, star, list}
use Rattle.sheet.specs.Meaning.{field_has}
use Rattle.sheet.specs.Range.{element_in_range, field_in_range}
use Rattle.words.specs.Reads.{cursor}
use Rattle.words.specs.declared.cursor.Cursor.{Cursor}
use Rattle.fields.specs.Fields.{field_read, field_as, field_at}
use Rattle.fields.specs.Marked.{marks_over, elements_at, listed_as}
use Rattle.fields.specs.declared.marks.Marks.{Marks}
use Rattle.fields.proofs.Spans.{span_mask, over_good, over_mask}

abbrev pub nothing : Marks
nothing = record { mask = 0; good = true }

-- what the list reader answered
pub record Taken (low high : ℕ) (o : Option (List Form × ℕ)) (marks : Marks) (c : Cursor) : Type 0 where
  pub forms : List Form
  pub read : o ≡ Some (forms, c.at)
  pub marked : marks ≡ marks_over low high nothing forms

pub taken_not : (low high : ℕ) (o : Option (List Form × ℕ)) → None ≡ listed_as low high nothing o → o ≡ None
taken_not low high None e = refl
taken_not low high (Some r) e = let z : ◌≡◌ {A = ℕ} 0 1 = cc in absurd (omega arith)

pub taken_is : (low high : ℕ) (o : Option (List Form × ℕ)) (marks : Marks) (c : Cursor) → Some (marks, c) ≡ listed_as low high nothing o
    → Taken low high o marks c
taken_is low high None marks c e = let z : ◌≡◌ {A = ℕ} 0 1 = cc in absurd (omega arith)
taken_is low high (Some r) marks c e =
    let p : ◌≡◌ {A = Marks × Cursor} (marks, c) (marks_over low high nothing r.0, cursor r.1) = cc in
    let k : c ≡ cursor r.1 = ap (λ x. x.1) p in
    record { forms = r.0; read = rw k refl; marked = ap (λ x. x.0) p }

module _ (low high : ℕ) (s : List ℕ) (at : ℕ) where
  pub field_star : low ≤ high → get_or s at 0 ≡ 42 → Some (Some (record { mask = 2 ^ (high + 1) - 2 ^ low; restricted = false }), cursor (at + 1)) ≡ field_at low high s at
  unfolding field_at field_as field_read field_in_range field_has
  field_star h e =
      let m : 2 ^ (high + 1) - 2 ^ low ≡ mask_from (field_has star) (high + 1 - low) low =
      span_mask low high (omega arith) ∙ mask_from_same (λ (n : ℕ). true) (field_has star) (high + 1 - low) low (λ i a b. refl) in
      rw (e, m) refl

  module _ (other : eqb (get_or s at 0) 42 ≡ false) where
    pub field_not : elements_at s (length s + 1) at ≡ None → None ≡ field_at low high s at
    unfolding field_at field_as field_read
    field_not e = rw (other, e) refl

    module _ (marks : Marks) (c : Cursor) (t : Taken low high (elements_at s (length s + 1) at) marks c) where
      all_in : marks.good ≡ all_of (element_in_range low high) t.forms
      all_in = ap (λ (m : Marks). m.good) t.marked ∙ over_good low high nothing t.forms

      field_outside : marks.good ≡ false → Some (None, c) ≡ field_at low high s at
      unfolding field_at field_as field_read field_in_range
      field_outside g = rw (other, t.read, sym all_in ∙ g) refl

      field_is : low ≤ high → marks.good ≡ true → Some (Some (record { mask = marks.mask; restricted = true }), c) ≡ field_at low high s at
      unfolding field_at field_as field_read field_in_range field_has
      field_is h g =
          let a : all_of (element_in_range low high) t.forms ≡ true = sym all_in ∙ g in
          let m : marks.mask ≡ mask_from (field_has (list t.forms)) (high + 1 - low) low =
          ap (λ (m : Marks). m.mask) t.marked ∙ over_mask low high t.forms h a in
          rw (other, t.read, a, m) refl

      pub field_listed : low ≤ high → Some (then_some marks.good (record { mask = marks.mask; restricted = true }), c) ≡ field_at low high s at
      field_listed h = by_good marks.good refl
        where
          by_good : (b : Bool) → marks.good ≡ b → Some (then_some b (record { mask = marks.mask; restricted = true }), c) ≡ field_at low high s at
          by_good true g = field_is h g
          by_good false g = field_outside g
