-- The frame of a cron line passes the load check: masks with a bit and only named ones, and a flag not set only with a full mask.
use mathlib.Core.Bool.{Bool, true, false, cond, ◌&&◌, ◌||◌, false≢true}
use mathlib.Core.List.{List, [], ◌∷◌}
use mathlib.Core.Path.{◌≡◌, refl}
use Prim.Native.Nat.{ℕ, ◌+◌, ◌≤◌}
use native.Mathlib.Omega.{arith}
use borrow.Author.Tests.{le-leb, eq-eqb}
use lib.Dec.{leb, ltb, eqb}
use Rattle.calendar.proofs.Every.{both_true, both, within_range}
use Rattle.calendar.specs.Below.{within, all_of}
use Rattle.framed.proofs.Goods.{field_written, written}
use Rattle.framed.specs.Framed.{cron_frame}
use Rattle.masks.specs.Masks.{bit, mask_from}
use Rattle.plan.specs.Taken.{full_mask, mask_good, cron_good}
use Rattle.sheet.specs.Form.{Element, one, range, Field, star, list, cron}
use Rattle.sheet.specs.Meaning.{element_has, field_has, restricted}
use Rattle.sheet.specs.Range.{element_in_range, field_in_range, in_range}
use Rattle.demands.proofs.MaskGoods.{mask_good_lem}

module _ (low high : ℕ) where
  -- a number that a field holds
  record Held (f : Field) : Type 0 where
    number : ℕ
    from : low ≤ number
    upto : number ≤ high
    has : field_has f number ≡ true

  first_held : (x : Element) (es : List Element) → element_in_range low high x ≡ true → Held (list (x ∷ es))
  unfolding element_in_range field_has element_has
  first_held (one n) es r =
      let p = within_range low high n r in
      record { number = n; from = p.0; upto = p.1; has = rw (eq-eqb n n refl) refl }
  first_held (range a b) es r =
      let p = both_true (within low high a) (within low high b && leb a b) r in
      let q = within_range low high a p.0 in
      let o = (both_true (within low high b) (leb a b) p.1).1 in
      record { number = a; from = q.0; upto = q.1; has = rw (le-leb a a (omega arith), o) refl }

  held : (f : Field) → low ≤ high → field_written f ≡ true → field_in_range low high f ≡ true → Held f
  unfolding field_in_range field_has
  held star l w r = record { number = low; from = omega arith; upto = l; has = refl }
  held (list []) l w r = absurd (false≢true w)
  held (list (x ∷ es)) l w r = first_held x es (both_true (element_in_range low high x) (all_of (element_in_range low high) es) r).0

  field_good : (f : Field) (k : ℕ) → low ≤ high → low + k ≡ high + 1 → field_written f ≡ true → field_in_range low high f ≡ true
      → mask_good low high (mask_from (field_has f) k low) ≡ true
  field_good f k l e w r = let a = held f l w r in mask_good_lem low high (field_has f) k e a.number a.from a.upto a.has

-- `*` has every number
unrestricted_full : (f : Field) (k low full : ℕ) → eqb (mask_from (field_has star) k low) full ≡ true
    → (restricted f || eqb (mask_from (field_has f) k low) full) ≡ true
unrestricted_full star k low full e = e
unrestricted_full (list es) k low full e = refl

abbrev flags_of : Bool → Bool → Bool → ℕ
flags_of a b c = cond a 1 0 + cond b 2 0 + cond c 4 0

flags_good : (a b c x y z : Bool) → (a || x) ≡ true → (b || y) ≡ true → (c || z) ≡ true
    → (ltb (flags_of a b c) 8 && ((bit (flags_of a b c) 0 || x) && ((bit (flags_of a b c) 1 || y) && (bit (flags_of a b c) 2 || z)))) ≡ true
flags_good true true true x y z e f g = refl
flags_good true true false x y z e f g = g
flags_good true false true x y z e f g = both f refl
flags_good true false false x y z e f g = both f g
flags_good false true true x y z e f g = both e refl
flags_good false true false x y z e f g = both e g
flags_good false false true x y z e f g = both e (both f refl)
flags_good false false false x y z e f g = both e (both f g)

module _ (m h d mo w : Field) (inside : in_range (cron m h d mo w) ≡ true) (lists : written (cron m h d mo w) ≡ true) where
  pub cron_good_lem : cron_good (cron_frame m h d mo w) ≡ true
  unfolding cron_good cron_frame in_range mask_from field_has
  cron_good_lem =
      let r1 = both_true (field_in_range 0 59 m) _ inside in
      let r2 = both_true (field_in_range 0 23 h) _ r1.1 in
      let r3 = both_true (field_in_range 1 31 d) _ r2.1 in
      let r4 = both_true (field_in_range 1 12 mo) _ r3.1 in
      let w1 = both_true (field_written m) _ lists in
      let w2 = both_true (field_written h) _ w1.1 in
      let w3 = both_true (field_written d) _ w2.1 in
      let w4 = both_true (field_written mo) _ w3.1 in
      let w5 = both_true (field_written w) true w4.1 in
      both (field_good 0 59 m 60 (omega arith) refl w1.0 r1.0)
      (both (field_good 0 23 h 24 (omega arith) refl w2.0 r2.0)
      (both (field_good 1 31 d 31 (omega arith) refl w3.0 r3.0)
      (both (field_good 1 12 mo 12 (omega arith) refl w4.0 r4.0)
      (both (field_good 0 6 w 7 (omega arith) refl w5.0 r4.1)
      (flags_good (restricted d) (restricted w) (restricted mo) _ _ _ (unrestricted_full d 31 1 (full_mask 1 31) refl)
      (unrestricted_full w 7 0 (full_mask 0 6) refl)
      (unrestricted_full mo 12 1 (full_mask 1 12) refl))))))
