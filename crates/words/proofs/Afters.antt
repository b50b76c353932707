-- What is read ends no earlier than it begins, whatever the line.
use Rattle.std.specs.Prelude.{Option, None, Some}
use mathlib.Core.Bool.{Bool, true, false, cond}
use mathlib.Core.List.{List, [], ◌∷◌}
use mathlib.Core.Path.{◌≡◌, refl, ap, subst}
use Prim.Native.Nat.{ℕ, zero, suc, ◌+◌, ◌<◌, ◌≤◌}
use native.Mathlib.Omega.{arith}
use lib.Dec.{eqb}
use lib.ListN.{length, get_or, drop}
use Rattle.calendar.proofs.Every.{within_range}
use Rattle.calendar.specs.Below.{within}
use Rattle.sheet.specs.Form.{Time}
use Rattle.sheet.specs.Words.{Signed}
use Rattle.words.specs.Answers.{made_read, number_read, signed_read, time_read, one_at}
use Rattle.words.specs.Lists.{before, list_at}
use Rattle.words.specs.Reads.{starts_with, cursor, digits_in, number_at, sign_at, with_sign, signed_at, time_bytes, time_of, time_at}
use Rattle.words.specs.declared.cursor.Cursor.{Cursor}

-- what is read, and the place after it, are as they should be
abbrev pub Reads : {A : Type 0} → (A → ℕ → Type 0) → Option (A × ℕ) → Type 0
Reads {A} P o = (x : A) (e : ℕ) → o ≡ Some (x, e) → P x e

pub read_none : {A : Type 0} (P : A → ℕ → Type 0) → Reads P None
read_none P x e q = let z : ◌≡◌ {A = ℕ} 0 1 = cc in absurd (omega arith)

pub read_some : {A : Type 0} (P : A → ℕ → Type 0) (y : A) (f : ℕ) → P y f → Reads P (Some (y, f))
read_some {A} P y f h x e q = subst Is q h
  where
    Is : Option (A × ℕ) → Type 0
    Is None = ⊥
    Is (Some r) = P r.0 r.1

pub read_made : {A B : Type 0} (f : A → B) (P : B → ℕ → Type 0) (o : Option (A × ℕ)) → Reads (λ x e. P (f x) e) o → Reads P (made_read f o)
read_made f P None h = read_none P
read_made f P (Some r) h = read_some P (f r.0) r.1 (h r.0 r.1 refl)

pub read_cond : {A : Type 0} (P : A → ℕ → Type 0) (b : Bool) (o p : Option (A × ℕ)) → Reads P o → Reads P p → Reads P (cond b o p)
read_cond P true o p g h = g
read_cond P false o p g h = h

-- ---- one of some words
one_read : (ws : List (List ℕ)) (s : List ℕ) (at : ℕ) → Reads (λ k e. (at ≤ e) × (k < length ws)) (one_at ws s at)
unfolding one_at
one_read [] s at = read_none (λ k e. (at ≤ e) × (k < 0))
one_read (w ∷ ws) s at =
    let P : ℕ → ℕ → Type 0 = λ k e. (at ≤ e) × (k < suc (length ws)) in
    read_cond P (starts_with w (drop at s)) (Some (0, at + length w)) (made_read suc (one_at ws s at))
    (read_some P 0 (at + length w) (omega arith, omega arith))
    (read_made suc P (one_at ws s at) (λ k e q. let h = one_read ws s at k e q in (h.0, omega (arith, h))))

pub one_after : (ws : List (List ℕ)) (s : List ℕ) (at k e : ℕ) → one_at ws s at ≡ Some (k, e) → at ≤ e
one_after ws s at k e q = (one_read ws s at k e q).0

pub one_below : (ws : List (List ℕ)) (s : List ℕ) (at k e : ℕ) → one_at ws s at ≡ Some (k, e) → k < length ws
one_below ws s at k e q = (one_read ws s at k e q).1

-- ---- numbers and times
module _ (s : List ℕ) (at : ℕ) where
  pub number_after : (n e : ℕ) → number_read (number_at s at) ≡ Some (n, e) → at < e
  unfolding number_at
  number_after = by_range (within 1 4 (digits_in (drop at s))) refl _
    where
      by_range : (b : Bool) → within 1 4 (digits_in (drop at s)) ≡ b → (v : ℕ)
          → Reads (λ n e. at < e) (number_read (cond b (Some (v, cursor (at + digits_in (drop at s)))) None))
      by_range true g v = read_some (λ n e. at < e) v (at + digits_in (drop at s)) (omega (arith, within_range 1 4 (digits_in (drop at s)) g))
      by_range false g v = read_none (λ (n e : ℕ). at < e)

  pub time_after : (t : Time) (e : ℕ) → time_read (time_at s at) ≡ Some (t, e) → at ≤ e
  unfolding time_at
  time_after = by_used (time_bytes s at)
    where
      by_used : (o : Option ℕ) → Reads (λ n e. at ≤ e) (time_read (time_of s at o))
      by_used (Some used) = read_some (λ n e. at ≤ e) _ (at + used) (omega arith)
      by_used None = read_none (λ (n : Time) (e : ℕ). at ≤ e)

module _ (s : List ℕ) (at : ℕ) where
  sign_after : at ≤ (sign_at s at).1.at
  unfolding sign_at
  sign_after = by_signs (eqb (get_or s at 0) 45) (eqb (get_or s at 0) 43)
    where
      by_plus : (b : Bool) → at ≤ cond b (at + 1) at
      by_plus true = omega arith
      by_plus false = omega arith

      by_signs : (b c : Bool)
          → at ≤ (cond {A = Bool × Cursor} b (true, cursor (at + 1)) (false, cursor (cond c (at + 1) at))).1.at
      by_signs true c = omega arith
      by_signs false c = by_plus c

  pub signed_after : (x : Signed) (e : ℕ) → signed_read (signed_at s at) ≡ Some (x, e) → at ≤ e
  unfolding signed_at
  signed_after = by_number (number_at s (sign_at s at).1.at) refl
    where
      by_number : (n : Option (ℕ × Cursor)) → number_at s (sign_at s at).1.at ≡ n
          → Reads (λ x e. at ≤ e) (signed_read (with_sign (sign_at s at).0 n))
      by_number None g = read_none (λ (x : Signed) (e : ℕ). at ≤ e)
      by_number (Some (v, c)) g =
          read_some (λ x e. at ≤ e) (record { minus = (sign_at s at).0; number = v }) c.at
          (omega (arith, sign_after, number_after s (sign_at s at).1.at v c.at (ap number_read g)))

-- ---- a list, and all that stands in it
pub data Every {A : Type 0} (P : A → Type 0) : List A → Type 0 where
  empty : Every P []
  with : {x : A} {xs : List A} → P x → Every P xs → Every P (x ∷ xs)

module _ {A : Type 0} (P : A → Type 0) (read : ℕ → Option (A × ℕ)) (separator : ℕ) (s : List ℕ) (each : (at : ℕ) → Reads (λ x e. (at ≤ e) × P x) (read at)) where
  ListRead : ℕ → List A → ℕ → Type 0
  ListRead at xs e = (at ≤ e) × Every P xs

  pub list_read_lem : (left at : ℕ) (xs : List A) (e : ℕ) → list_at read separator s left at ≡ Some (xs, e) → (at ≤ e) × Every P xs
  unfolding list_at ListRead
  list_read_lem zero at = read_none (ListRead at)
  list_read_lem (suc left) at = by_first (read at) refl (list_read_lem left)
    where
      by_more : (x : A) (f : ℕ) → at ≤ f → P x → (o : Option (List A × ℕ)) → Reads (ListRead (f + 1)) o → Reads (ListRead at) (before x o)
      by_more x f h p None g = read_none (ListRead at)
      by_more x f h p (Some r) g =
          let k = g r.0 r.1 refl in read_some (ListRead at) (x ∷ r.0) r.1 (omega (arith, k), with p k.1)

      by_separator : (x : A) (f : ℕ) → at ≤ f → P x → (b : Bool) → Reads (ListRead (f + 1)) (list_at read separator s left (f + 1))
          → Reads (ListRead at) (elim b [ true ↦ before x (list_at read separator s left (f + 1)) | false ↦ Some (x ∷ [], f) ])
      by_separator x f h p true g = by_more x f h p (list_at read separator s left (f + 1)) g
      by_separator x f h p false g = read_some (ListRead at) (x ∷ []) f (h, with p empty)

      by_first : (o : Option (A × ℕ)) → read at ≡ o → ((at : ℕ) → Reads (ListRead at) (list_at read separator s left at))
          → Reads (ListRead at) (list_at read separator s (suc left) at)
      by_first None q again = rw (list_at, q) (read_none (ListRead at))
      by_first (Some r) q again =
          let h = each at r.0 r.1 q in
          rw (list_at, q) (by_separator r.0 r.1 h.0 h.1 (eqb (get_or s r.1 0) separator) (again (r.1 + 1)))
