-- Numbers of a signed list as two masks, and of a list of months as one: their bits, and that a list that is given is a limit.
use mathlib.Core.Bool.{Bool, true, false, cond, not, ◌&&◌, ◌||◌, and-false, or-false, false≢true}
use mathlib.Core.List.{List, [], ◌∷◌}
use mathlib.Core.Path.{◌≡◌, refl, sym, ap, ap₂, ◌∙◌}
use Prim.Native.Nat.{ℕ, ◌≤◌}
use native.Mathlib.Omega.{arith}
use borrow.Author.Tests.{eq-eqb, ne_eqb, eqb-true, lt-ltb, le-ltb, le-leb, lt-leb}
use lib.Dec.{leb, ltb, eqb}
use Rattle.calendar.proofs.Every.{both_true, decided, within_range}
use Rattle.calendar.specs.Below.{any_of, all_of}
use Rattle.frames.specs.Rule.{no_limit}
use Rattle.frames.specs.declared.Ends.{Ends}
use Rattle.masks.proofs.Bits.{bit_of_zero}
use Rattle.masks.proofs.MaskFroms.{bit_in_mask, bit_mask_from}
use Rattle.masks.specs.Masks.{bit}
use Rattle.sheet.specs.Range.{day_number_in_range, month_in_range}
use Rattle.sheet.specs.Words.{Signed}
use Rattle.zone.proofs.Good.{by_order}
use Rattle.framed.specs.Framed.{ends_of, month_mask}
use Rattle.framed.proofs.Listed.{listed, all_listed, any_either}

-- the mask of one end
abbrev pub end_of : Bool → Ends → ℕ
end_of minus e = cond minus e.back e.front

-- one with a bit, or of which a part has one, is a limit
pub bit_not_zero : (part : ℕ → ℕ) → part 0 ≡ 0 → (mask n : ℕ) → bit (part mask) n ≡ true → eqb mask 0 ≡ false
bit_not_zero part none mask n t =
    decided (eqb mask 0)
    (λ (z : eqb mask 0 ≡ true).
    let e : part mask ≡ 0 = ap part (eqb-true mask 0 z) ∙ none in
    absurd (false≢true (sym (bit_of_zero n) ∙ ap (λ (m : ℕ). bit m n) (sym e) ∙ t)))
    (λ (f : eqb mask 0 ≡ false). f)

pub end_limits : (e : Ends) (minus : Bool) → eqb (end_of minus e) 0 ≡ false → no_limit e ≡ false
end_limits e true f = rw f (and-false (eqb e.front 0))
end_limits e false f = rw f refl

abbrev pub signed_as : Bool → ℕ → Signed → Bool
signed_as minus n s = cond minus s.minus (not s.minus) && eqb s.number n

-- a number out of range is none of a list whose numbers are in range
none_outside : (minus : Bool) (n : ℕ) → (1 ≤ n → n ≤ 31 → ⊥) → (ns : List Signed) → all_of day_number_in_range ns ≡ true
    → any_of (signed_as minus n) ns ≡ false
none_outside minus n out [] a = refl
none_outside minus n out (s ∷ ns) a =
    let p = both_true (day_number_in_range s) (all_of day_number_in_range ns) a in
    let q = within_range 1 31 s.number p.0 in
    let e : eqb s.number n ≡ false = ne_eqb s.number n (λ (e : s.number ≡ n). out (omega (arith, q)) (omega (arith, q))) in
    rw (e, and-false) (none_outside minus n out ns p.1)

in_range_alone : (minus : Bool) (n : ℕ) (ns : List Signed) → all_of day_number_in_range ns ≡ true
    → (leb 1 n && ltb n 32 && any_of (signed_as minus n) ns) ≡ any_of (signed_as minus n) ns
in_range_alone minus n ns a =
    by_order n 1 (λ l. rw (lt-leb 1 n l, none_outside minus n (λ p q. omega arith) ns a) refl)
    (λ l.
    by_order n 32 (λ h. rw (le-leb 1 n l, lt-ltb n 32 h) refl)
    (λ h. rw (le-ltb n 32 h, none_outside minus n (λ p q. omega arith) ns a) (and-false (leb 1 n && false))))

pub end_bit : (minus : Bool) (ns : List Signed) (n : ℕ) → all_of day_number_in_range ns ≡ true
    → bit (end_of minus (ends_of ns)) n ≡ any_of (signed_as minus n) ns
unfolding ends_of
end_bit true ns n a = bit_mask_from (λ k. any_of (signed_as true k) ns) 31 1 n ∙ in_range_alone true n ns a
end_bit false ns n a = bit_mask_from (λ k. any_of (signed_as false k) ns) 31 1 n ∙ in_range_alone false n ns a

-- of two places one counts, by the sign
pub either_sign : (place : Bool → ℕ) (m : Bool) (x : ℕ) → (not m && eqb x (place false) || m && eqb x (place true)) ≡ eqb x (place m)
either_sign place true x = refl
either_sign place false x = or-false (eqb x (place false))

-- the place n from the front and k from the end is one of the list's
module _ (n k : ℕ) where
  abbrev pub is_place : Signed → Bool
  is_place s = eqb s.number (cond s.minus k n)

  pub ends_hold : (ns : List Signed) → listed day_number_in_range ns ≡ true → (bit (ends_of ns).front n || bit (ends_of ns).back k) ≡ any_of is_place ns
  ends_hold ns l =
      let a = all_listed day_number_in_range ns l in
      ap₂ ◌||◌ (end_bit false ns n a) (end_bit true ns k a)
      ∙ any_either (signed_as false n) (signed_as true k) is_place (λ s. either_sign (λ m. cond m k n) s.minus s.number) ns

own_sign : (s : Signed) (minus : Bool) → s.minus ≡ minus → signed_as minus s.number s ≡ true
own_sign s true e = rw (e, eq-eqb s.number s.number refl) refl
own_sign s false e = rw (e, eq-eqb s.number s.number refl) refl

pub ends_limit : (ns : List Signed) → listed day_number_in_range ns ≡ true → no_limit (ends_of ns) ≡ false
ends_limit [] e = absurd (false≢true e)
ends_limit (s ∷ ns) e =
    let a : any_of (signed_as s.minus s.number) (s ∷ ns) ≡ true = rw (own_sign s s.minus refl) refl in
    end_limits (ends_of (s ∷ ns)) s.minus
    (bit_not_zero (λ m. m) refl (end_of s.minus (ends_of (s ∷ ns))) s.number
    (end_bit s.minus (s ∷ ns) s.number e ∙ a))

-- ---- months
pub month_bit : (ms : List ℕ) (n : ℕ) → 1 ≤ n → n ≤ 12 → bit (month_mask ms) n ≡ any_of (eqb n) ms
unfolding month_mask
month_bit ms n l h = bit_in_mask (λ k. any_of (eqb k) ms) 12 1 n l (omega arith)

pub months_limit : (ms : List ℕ) → listed month_in_range ms ≡ true → eqb (month_mask ms) 0 ≡ false
months_limit [] e = absurd (false≢true e)
months_limit (m ∷ ms) e =
    let q = within_range 1 12 m (both_true (month_in_range m) (all_of month_in_range ms) e).0 in
    let a : any_of (eqb m) (m ∷ ms) ≡ true = rw (eq-eqb m m refl) refl in
    bit_not_zero (λ x. x) refl (month_mask (m ∷ ms)) m (month_bit (m ∷ ms) m q.0 q.1 ∙ a)
