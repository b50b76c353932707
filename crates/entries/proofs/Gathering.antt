-- A list taken up as it is read comes to what the list that was read does, taken up.
use Rattle.std.specs.Prelude.{Option, None, Some}
use mathlib.Core.Bool.{Bool, true, false}
use mathlib.Core.List.{List}
use mathlib.Core.Path.{◌≡◌, refl, ap, ◌∙◌}
use Prim.Native.Nat.{ℕ, zero, suc, ◌+◌, ◌<◌, ◌≤◌}
use native.Mathlib.Omega.{arith}
use borrow.Author.Tests.{eq-eqb, ne_eqb}
use lib.Dec.{eqb}
use lib.ListN.{length, get_or}
use Rattle.words.proofs.Counting.{byte_within}
use Rattle.words.proofs.Afters.{Reads, number_after}
use Rattle.words.specs.Answers.{made_read, number_read}
use Rattle.words.specs.Lists.{before, over_all, list_at}
use Rattle.words.specs.Reads.{cursor, number_at}
use Rattle.words.specs.declared.cursor.Cursor.{Cursor}
use Rattle.entries.specs.Gathered.{gathered, step_of, ended}

-- ---- one step
pub ended_is : {M : Type 0} (o : Option (M × ℕ)) (r : M × Cursor) → Some r ≡ ended o → o ≡ Some (r.0, r.1.at)
ended_is None r e = let z : ◌≡◌ {A = ℕ} 0 1 = cc in absurd (omega arith)
ended_is (Some q) r e = let z : r ≡ (q.0, cursor q.1) = cc in rw z refl

pub ended_not : {M : Type 0} (o : Option (M × ℕ)) → None ≡ ended o → o ≡ None
ended_not None e = refl
ended_not (Some q) e = let z : ◌≡◌ {A = ℕ} 0 1 = cc in absurd (omega arith)

module _ {M : Type 0} (step : M → ℕ → Option (M × ℕ)) (separator : ℕ) (s : List ℕ) (whole : Option (M × Cursor)) where
  -- what is left comes to the whole; `left` is above the bytes left
  pub record Rest (m : M) (at : ℕ) : Type 0 where
    pub left : ℕ
    pub some : 0 < left
    pub above : length s < at + left
    pub same : ended (gathered step separator s left m at) ≡ whole

  module _ (m : M) (at : ℕ) (rest : Rest m at) where
    pub rest_not : None ≡ ended (step m at) → None ≡ whole
    unfolding gathered
    rest_not e = by_left rest.left ∙ rest.same
      where
        by_left : (left : ℕ) → None ≡ ended (gathered step separator s left m at)
        by_left zero = refl
        by_left (suc left) = rw (gathered, ended_not (step m at) e) refl

    module _ (r : M × Cursor) (e : Some r ≡ ended (step m at)) where
      pub rest_last : (get_or s r.1.at 0 ≡ separator → ⊥) → Some r ≡ whole
      unfolding gathered
      rest_last f = by_left rest.left rest.some ∙ rest.same
        where
          by_left : (left : ℕ) → 0 < left → Some r ≡ ended (gathered step separator s left m at)
          by_left zero h = absurd (omega arith)
          by_left (suc left) h = rw (gathered, ended_is (step m at) r e, ne_eqb _ _ f) refl

      pub rest_next : 0 < separator → at ≤ r.1.at → get_or s r.1.at 0 ≡ separator → Rest r.0 (r.1.at + 1)
      unfolding gathered
      rest_next mark onward f = by_left rest.left rest.some rest.above rest.same
        where
          by_left : (left : ℕ) → 0 < left → length s < at + left → ended (gathered step separator s left m at) ≡ whole → Rest r.0 (r.1.at + 1)
          by_left zero h k q = absurd (omega arith)
          by_left (suc left) h k q =
              record {
                left = left;
                some = omega (arith, byte_within s r.1.at separator mark f);
                above = omega arith;
                same = ap ended next ∙ q;
              }
            where
              next : gathered step separator s left r.0 (r.1.at + 1) ≡ gathered step separator s (suc left) m at
              next = rw (gathered, ended_is (step m at) r e, eq-eqb _ _ f) refl

-- ---- the whole list
module _ {A M : Type 0} (take : M → A → M) (read : ℕ → Option (A × ℕ)) (separator : ℕ) (s : List ℕ) where
  pub gathered_list : (left : ℕ) (m : M) (at : ℕ)
      → gathered (step_of take read) separator s left m at ≡ made_read (over_all take m) (list_at read separator s left at)
  unfolding gathered list_at over_all
  gathered_list zero m at = refl
  gathered_list (suc left) m at = by_read (read at) refl (gathered_list left)
    where
      taken : (x : A) (o : Option (List A × ℕ)) → made_read (over_all take (take m x)) o ≡ made_read (over_all take m) (before x o)
      taken x None = refl
      taken x (Some r) = refl

      by_read : (o : Option (A × ℕ)) → read at ≡ o
          → ((m : M) (at : ℕ) → gathered (step_of take read) separator s left m at ≡ made_read (over_all take m) (list_at read separator s left at))
          → gathered (step_of take read) separator s (suc left) m at ≡ made_read (over_all take m) (list_at read separator s (suc left) at)
      by_read None e again = rw (gathered, list_at, e) refl
      by_read (Some r) e again = by_byte (eqb (get_or s r.1 0) separator) refl
        where
          by_byte : (b : Bool) → eqb (get_or s r.1 0) separator ≡ b
              → gathered (step_of take read) separator s (suc left) m at ≡ made_read (over_all take m) (list_at read separator s (suc left) at)
          by_byte true f =
              rw (gathered, list_at, e, f) (again (take m r.0) (r.1 + 1) ∙ taken r.0 (list_at read separator s left (r.1 + 1)))
          by_byte false f = rw (gathered, list_at, e, f) refl

-- what is made of what was read, where two ways to make it agree
pub made_same : {A B : Type 0} (f g : A → B) (o : Option (A × ℕ)) → ((x : A) (e : ℕ) → o ≡ Some (x, e) → f x ≡ g x)
    → made_read f o ≡ made_read g o
made_same f g None h = refl
made_same {B = B} f g (Some r) h = ap (λ (y : B). Some (y, r.1)) (h r.0 r.1 refl)

-- a step goes no way back where its reader goes none
pub step_goes_on : {A M : Type 0} (f : A → M) (o : Option (A × ℕ)) (at : ℕ) → Reads (λ x e. at ≤ e) o → (r : M × ℕ) → made_read f o ≡ Some r → at ≤ r.1
step_goes_on f None at h r e = let z : ◌≡◌ {A = ℕ} 0 1 = cc in absurd (omega arith)
step_goes_on {M = M} f (Some q) at h r e = let y : q.1 ≡ r.1 = ap place e in omega (arith, h q.0 q.1 refl)
  where
    place : Option (M × ℕ) → ℕ
    place None = 0
    place (Some x) = x.1

-- the same of the step's answer with a cursor
pub step_onward : {A M : Type 0} (f : A → M) (o : Option (A × ℕ)) (at : ℕ) → Reads (λ x e. at ≤ e) o → (r : M × Cursor) → Some r ≡ ended (made_read f o)
    → at ≤ r.1.at
step_onward f o at h r e = step_goes_on f o at h (r.0, r.1.at) (ended_is (made_read f o) r e)

-- a number without a sign takes a byte at least
pub number_goes_on : (s : List ℕ) (at : ℕ) → Reads (λ n e. at ≤ e) (number_read (number_at s at))
number_goes_on s at n e q = omega (arith, number_after s at n e q)
