-- Elements marked one after the other.
use Rattle.std.specs.Prelude.{Option, None, Some}
use mathlib.Core.Bool.{Bool, true, false, cond}
use mathlib.Core.List.{List}
use mathlib.Core.Path.{◌≡◌, refl, sym, ap, ◌∙◌}
use Prim.Native.Nat.{ℕ, suc, ◌+◌, ◌-◌, ◌<◌}
use native.Mathlib.Omega.{arith}
use borrow.Author.Tests.{ne_eqb}
use lib.Dec.{eqb}
use lib.ListN.{get_or}
use Rattle.sheet.specs.Form.{Element as Form}
use Rattle.words.proofs.Afters.{number_after}
use Rattle.words.proofs.Folding.{taken_as, taken_not, taken_last, taken_next}
use Rattle.words.specs.Answers.{number_read}
use Rattle.words.specs.Reads.{cursor, number_at}
use Rattle.words.specs.declared.cursor.Cursor.{Cursor}
use Rattle.fields.specs.Elements.{range_from, element_from, element_at, form_of, element_read}
use Rattle.fields.specs.Marked.{marks_of, elements_at, listed_as, ended_as}
use Rattle.fields.specs.declared.element.Element.{Element}
use Rattle.fields.specs.declared.marks.Marks.{Marks}

-- ---- the marks of a list as what comes of any list
abbrev marked : Marks → ℕ → Option (Marks × Cursor)
marked m e = Some (m, cursor e)

as_taken : (low high : ℕ) (m : Marks) (o : Option (List Form × ℕ))
    → taken_as (marks_of low high) marked None m o ≡ listed_as low high m o
as_taken low high m None = refl
as_taken low high m (Some r) = refl

-- ---- an end that is some place
pub ended_is : (m : Marks) (end : ℕ) → 0 < end → ended_as m end ≡ Some (m, cursor end)
ended_is m end h = rw (ne_eqb end 0 (λ e. omega arith)) refl

-- ---- the list from a place on
module _ (s : List ℕ) (low high : ℕ) (m : Marks) (at : ℕ) where
  abbrev read : ℕ → Option (Form × ℕ)
  read e = element_read (element_at s e)

  pub list_not : (left : ℕ) → element_at s at ≡ None → None ≡ listed_as low high m (elements_at s left at)
  unfolding elements_at
  list_not left e =
      taken_not (marks_of low high) marked None read 44 s m at left (ap element_read e) ∙ as_taken low high m (elements_at s left at)

  module _ (x : Element) (c : Cursor) (r : element_at s at ≡ Some (x, c)) where
    pub list_last_lem : (left : ℕ) → 0 < left → eqb (get_or s c.at 0) 44 ≡ false
        → Some (marks_of low high m (form_of x), c) ≡ listed_as low high m (elements_at s left at)
    unfolding elements_at
    list_last_lem left h f =
        taken_last (marks_of low high) marked None read 44 s m at left (form_of x) c.at h (ap element_read r) f
        ∙ as_taken low high m (elements_at s left at)

    pub list_next : (left : ℕ) → 0 < left → get_or s c.at 0 ≡ 44
        → listed_as low high (marks_of low high m (form_of x)) (elements_at s (left - 1) (c.at + 1)) ≡ listed_as low high m (elements_at s left at)
    unfolding elements_at
    list_next left h f =
        let n : suc (left - 1) ≡ left = omega arith in
        let e = taken_next (marks_of low high) marked None read 44 s m at (left - 1) (form_of x) c.at (ap element_read r) f in
        sym (as_taken low high (marks_of low high m (form_of x)) (elements_at s (left - 1) (c.at + 1))) ∙ rw n at e ∙ as_taken low high m (elements_at s left at)

-- ---- the place after an element
place_in : Option (Element × Cursor) → ℕ
place_in None = 0
place_in (Some r) = r.1.at

number_place : (s : List ℕ) (at : ℕ) (r : ℕ × Cursor) → number_at s at ≡ Some r → at < r.1.at
number_place s at r g = number_after s at r.0 r.1.at (ap number_read g)

range_after : (s : List ℕ) (at n : ℕ) (o : Option (ℕ × Cursor)) → number_at s at ≡ o → (x : Element) (c : Cursor) → range_from n o ≡ Some (x, c)
    → at < c.at
unfolding place_in
range_after s at n (Some r) g x c q = omega (arith, number_place s at r g, ap place_in q)
range_after s at n None g x c q = let z : ◌≡◌ {A = ℕ} 0 1 = cc in absurd (omega arith)

pub place_after : (s : List ℕ) (at : ℕ) (x : Element) (c : Cursor) → element_at s at ≡ Some (x, c) → at < c.at
unfolding element_at place_in
place_after s at x c q = by_number (number_at s at) refl q
  where
    by_number : (o : Option (ℕ × Cursor)) → number_at s at ≡ o → element_from s o ≡ Some (x, c) → at < c.at
    by_number None g q = let z : ◌≡◌ {A = ℕ} 0 1 = cc in absurd (omega arith)
    by_number (Some r) g q = by_dash (eqb (get_or s r.1.at 0) 45) q
      where
        by_dash : (b : Bool) → cond b (range_from r.0 (number_at s (r.1.at + 1))) (Some (Element.One r.0, r.1)) ≡ Some (x, c) → at < c.at
        by_dash true q =
            omega (arith, number_place s at r g, range_after s (r.1.at + 1) r.0 (number_at s (r.1.at + 1)) refl x c q)
        by_dash false q = omega (arith, number_place s at r g, ap place_in q)
