-- A field's reader against the form of a whole field.
use Rattle.std.specs.Prelude.{Option, None, Some}
use mathlib.Core.Bool.{Bool, true, false, and-false}
use mathlib.Core.List.{List, [], ◌∷◌, ◌++◌}
use mathlib.Core.Path.{◌≡◌, refl, ap, ◌∙◌}
use Prim.Native.Nat.{ℕ, ◌+◌, ◌≤◌}
use native.Mathlib.Omega.{arith}
use borrow.Author.Tests.{eqb-true}
use lib.Dec.{eqb}
use lib.ListN.{length, get_or, drop}
use Rattle.sheet.specs.Form.{Element, Field, star, list, element_of, field_of}
use Rattle.sheet.specs.Words.{number_of, same_bytes, pieces, cons_of, each_of}
use Rattle.words.proofs.Listing.{first_byte, each_cons, all_tied}
use Rattle.words.proofs.Pieces.{Cut, cut_of}
use Rattle.words.proofs.Tied.{made, Tied, tied_made, tied_by}
use Rattle.words.specs.Answers.{made_read}
use Rattle.words.specs.Reads.{digits_in}
use Rattle.fields.specs.Elements.{element_at, element_read}
use Rattle.fields.specs.Fields.{list_of, field_read}
use Rattle.fields.specs.Marked.{elements_at}
use Rattle.fields.proofs.Elements.{element_tied}

-- what may stand after a field: no digit, `-`, comma or `*`
pub record FieldStops (tail : List ℕ) : Type 0 where
  pub digits : digits_in tail ≡ 0
  pub dash : eqb (get_or tail 0 0) 45 ≡ false
  pub comma : eqb (get_or tail 0 0) 44 ≡ false
  pub star : eqb (get_or tail 0 0) 42 ≡ false

abbrev Stop : List ℕ → Type 0
Stop tail = (digits_in tail ≡ 0) × (eqb (get_or tail 0 0) 45 ≡ false)

after_comma : (rest : List ℕ) → Stop (44 ∷ rest)
unfolding digits_in
after_comma rest = (refl, refl)

-- ---- the form of a field that is not `*`
list_form : (p : List ℕ) (o : Option (List Element)) → each_of element_of (pieces 44 p) ≡ o → same_bytes p (42 ∷ []) ≡ false
    → field_of p ≡ made list o
unfolding field_of
list_form p None e f = rw (f, e) refl
list_form p (Some es) e f = rw (f, e) refl

-- what begins with `*` is no number, no element and no list
star_number : (q : List ℕ) → number_of (42 ∷ q) ≡ None
unfolding number_of
star_number q = rw and-false refl

first_piece : (separator : ℕ) (q : List ℕ) → eqb 42 separator ≡ false → (A : Type 0) (form : List ℕ → Option A)
    → ((r : List ℕ) → form (42 ∷ r) ≡ None) → each_of form (pieces separator (42 ∷ q)) ≡ None
unfolding pieces cons_of
first_piece separator q e A form f = by_cut (cut_of separator q)
  where
    by_cut : Cut separator q → each_of form (pieces separator (42 ∷ q)) ≡ None
    by_cut c = rw (pieces, e, c.cut) (each_cons form (42 ∷ c.piece) c.others None _ (f c.piece) refl)

star_element : (q : List ℕ) → element_of (42 ∷ q) ≡ None
unfolding element_of
star_element q = rw (first_piece 45 q refl ℕ number_of star_number) refl

star_more : (c : ℕ) (q : List ℕ) → field_of (42 ∷ c ∷ q) ≡ None
unfolding same_bytes
star_more c q = list_form (42 ∷ c ∷ q) None (first_piece 44 (c ∷ q) refl Element element_of star_element) refl

star_whole : field_of (42 ∷ []) ≡ Some star
unfolding field_of same_bytes
star_whole = refl

empty_other : same_bytes [] (42 ∷ []) ≡ false
unfolding same_bytes
empty_other = refl

other_byte : (c : ℕ) (q : List ℕ) → eqb c 42 ≡ false → same_bytes (c ∷ q) (42 ∷ []) ≡ false
unfolding same_bytes
other_byte c q e = rw e refl

-- ---- the reader
list_read_lem : (o : Option (List Element × ℕ)) → list_of o ≡ made_read list o
list_read_lem None = refl
list_read_lem (Some r) = refl

module _ (s : List ℕ) (at : ℕ) (tail : List ℕ) (stops : FieldStops tail) where
  list_case : (p : List ℕ) → drop at s ≡ p ++ tail → eqb (get_or s at 0) 42 ≡ false → same_bytes p (42 ∷ []) ≡ false
      → Tied (field_of p) (field_read s at) at (at + length p)
  unfolding field_read elements_at
  list_case p here e f =
      let t =
      all_tied s (λ (e : ℕ). element_read (element_at s e)) 44 element_of Stop after_comma (λ at p tail here stop. element_tied s at p tail here stop.0 stop.1) at p tail here (stops.digits, stops.dash) stops.comma in
      rw (e, list_read_lem (elements_at s (length s + 1) at), list_form p (each_of element_of (pieces 44 p)) refl f)
      (tied_made list _ _ at at _ (omega arith) t)

  star_case : (p : List ℕ) (form : Option Field) → field_of p ≡ form → eqb (get_or s at 0) 42 ≡ true → 1 ≤ length p
      → (length p ≡ 1 → form ≡ Some star) → ((length p ≡ 1 → ⊥) → form ≡ None) → Tied (field_of p) (field_read s at) at (at + length p)
  unfolding field_read
  star_case p form e b h all part =
      rw (e, b)
      (tied_by form star (at + 1) at (at + length p) (omega arith) true (λ g. omega arith) (λ g (q : at + 1 ≡ at + length p). all (omega arith)) (λ g q. part (λ (n : length p ≡ 1). q (omega arith)))
      (λ g. let z : ◌≡◌ {A = ℕ} 0 1 = cc in absurd (omega arith)))

  pub field_tied : (p : List ℕ) → drop at s ≡ p ++ tail → Tied (field_of p) (field_read s at) at (at + length p)
  field_tied [] here = list_case [] here (ap (λ (x : ℕ). eqb x 42) (first_byte s at tail here) ∙ stops.star) empty_other
  field_tied (c ∷ q) here = by_byte (eqb c 42) refl
    where
      byte : get_or s at 0 ≡ c
      byte = first_byte s at ((c ∷ q) ++ tail) here

      after_star : eqb (get_or s at 0) 42 ≡ true → (q : List ℕ) → Tied (field_of (42 ∷ q)) (field_read s at) at (at + length (42 ∷ q))
      after_star b [] = star_case (42 ∷ []) (Some star) star_whole b (omega arith) (λ l. refl) (λ n. absurd (n refl))
      after_star b (d ∷ q) = star_case (42 ∷ d ∷ q) None (star_more d q) b (omega arith) (λ l. absurd (omega arith)) (λ n. refl)

      by_byte : (b : Bool) → eqb c 42 ≡ b → Tied (field_of (c ∷ q)) (field_read s at) at (at + length (c ∷ q))
      by_byte true e = rw (eqb-true c 42 e) (after_star (ap (λ (x : ℕ). eqb x 42) byte ∙ e) q)
      by_byte false e = list_case (c ∷ q) here (ap (λ (x : ℕ). eqb x 42) byte ∙ e) (other_byte c q e)
