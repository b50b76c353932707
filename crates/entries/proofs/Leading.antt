-- Of a step that may answer this or that: what its answers lead to, taken up one after the other.
use Rattle.std.specs.Prelude.{Option, None, Some}
use mathlib.Core.Bool.{Bool, true, false}
use mathlib.Core.List.{List}
use mathlib.Core.Path.{◌≡◌, refl, sym, ◌∙◌}
use Prim.Native.Nat.{ℕ, zero, suc, ◌+◌, ◌<◌, ◌≤◌}
use native.Mathlib.Omega.{arith}
use borrow.Author.Tests.{eq-eqb, ne_eqb}
use lib.Dec.{eqb}
use lib.ListN.{length, get_or}
use Rattle.words.proofs.Counting.{byte_within}
use Rattle.words.specs.Reads.{cursor}
use Rattle.words.specs.declared.cursor.Cursor.{Cursor}
use Rattle.entries.specs.Gathered.{gathered, ended, Leads}
use Rattle.entries.proofs.Gathering.{ended_is, ended_not}

module _ {M : Type 0} (step : M → Cursor → Option (M × Cursor) → Type 0) (separator : ℕ) (s : List ℕ) where
  -- what is left leads to the whole; `left` is above the bytes left
  pub record Rest (Whole : Option (M × Cursor) → Type 0) (m : M) (at : ℕ) : Type 0 where
    pub left : ℕ
    pub some : 0 < left
    pub above : length s < at + left
    pub leads : (r : Option (M × Cursor)) → Leads step separator s left m at r → Whole r

  module _ (Whole : Option (M × Cursor) → Type 0) (m : M) (at : ℕ) (rest : Rest Whole m at) where
    pub leads_not : step m (cursor at) None → Whole None
    unfolding Leads
    leads_not p = by_left rest.left rest.some rest.leads
      where
        by_left : (left : ℕ) → 0 < left → ((r : Option (M × Cursor)) → Leads step separator s left m at r → Whole r) → Whole None
        by_left zero h w = absurd (omega arith)
        by_left (suc left) h w = w None (None, p, refl)

    module _ (r : M × Cursor) (p : step m (cursor at) (Some r)) (onward : at ≤ r.1.at) where
      pub leads_last : (get_or s r.1.at 0 ≡ separator → ⊥) → Whole (Some r)
      unfolding Leads
      leads_last f = by_left rest.left rest.some rest.leads
        where
          by_left : (left : ℕ) → 0 < left → ((q : Option (M × Cursor)) → Leads step separator s left m at q → Whole q) → Whole (Some r)
          by_left zero h w = absurd (omega arith)
          by_left (suc left) h w = w (Some r) (Some r, p, (onward, rw (ne_eqb _ _ f) refl))

      pub leads_next : 0 < separator → get_or s r.1.at 0 ≡ separator → Rest Whole r.0 (r.1.at + 1)
      unfolding Leads
      leads_next mark f = by_left rest.left rest.some rest.above rest.leads
        where
          by_left : (left : ℕ) → 0 < left → length s < at + left → ((q : Option (M × Cursor)) → Leads step separator s left m at q → Whole q)
              → Rest Whole r.0 (r.1.at + 1)
          by_left zero h k w = absurd (omega arith)
          by_left (suc left) h k w =
              record {
                left = left;
                some = omega (arith, byte_within s r.1.at separator mark f);
                above = omega arith;
                leads = λ q l. w q (Some r, p, (onward, rw (eq-eqb _ _ f) l));
              }

  -- where the step is a function, one whole alone, which `gathered` says
  module _ (t : M → ℕ → Option (M × ℕ)) (is : (m : M) (c : Cursor) (r : Option (M × Cursor)) → step m c r → r ≡ ended (t m c.at)) where
    pub leads_gathered : (left : ℕ) (m : M) (at : ℕ) (whole : Option (M × Cursor)) → Leads step separator s left m at whole
        → whole ≡ ended (gathered t separator s left m at)
    unfolding Leads gathered
    leads_gathered zero m at whole l = absurd l
    leads_gathered (suc left) m at whole (None, p, l) = rw (gathered, ended_not (t m at) (is m (cursor at) None p)) l
    leads_gathered (suc left) m at whole (Some r, p, (onward, l)) = by_byte (eqb (get_or s r.1.at 0) separator) refl (leads_gathered left r.0 (r.1.at + 1) whole)
      where
        read : t m at ≡ Some (r.0, r.1.at)
        read = ended_is (t m at) r (is m (cursor at) (Some r) p)

        by_byte : (b : Bool) → eqb (get_or s r.1.at 0) separator ≡ b
            → (Leads step separator s left r.0 (r.1.at + 1) whole → whole ≡ ended (gathered t separator s left r.0 (r.1.at + 1)))
            → whole ≡ ended (gathered t separator s (suc left) m at)
        by_byte true e again = rw (gathered, read, e) (again (rw e at l))
        by_byte false e again = rw (gathered, read, e) (rw e at l)

  abbrev After : ℕ → M × Cursor → Option (M × Cursor) → Type 0
  After left r whole = elim (eqb (get_or s r.1.at 0) separator) [ true ↦ Leads step separator s left r.0 (r.1.at + 1) whole | false ↦ whole ≡ Some r ]

  -- where the step has one answer, no second whole
  pub leads_unique : ((m : M) (c : Cursor) (a b : Option (M × Cursor)) → step m c a → step m c b → a ≡ b)
      → (left : ℕ) (m : M) (at : ℕ) (a b : Option (M × Cursor)) → Leads step separator s left m at a → Leads step separator s left m at b → a ≡ b
  unfolding Leads
  leads_unique one zero m at a b l k = absurd l
  leads_unique one (suc left) m at a b (None, p, l) (y, q, k) = l ∙ sym (rw (one m (cursor at) y None q p) at k)
  leads_unique one (suc left) m at a b (Some r, p, (onward, l)) (y, q, k) =
      let e : y ≡ Some r = one m (cursor at) y (Some r) q p in
      by_byte (eqb (get_or s r.1.at 0) separator) refl (rw e at k).1 (leads_unique one left r.0 (r.1.at + 1) a b)
    where
      by_byte : (f : Bool) → eqb (get_or s r.1.at 0) separator ≡ f → After left r b
          → (Leads step separator s left r.0 (r.1.at + 1) a → Leads step separator s left r.0 (r.1.at + 1) b → a ≡ b) → a ≡ b
      by_byte true f k again = again (rw f at l) (rw (f, After) at k)
      by_byte false f k again = (rw f at l) ∙ sym (rw (f, After) at k)
