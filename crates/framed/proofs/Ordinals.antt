-- The masks of a weekday list: plain weekdays, and those with an ordinal, one mask for each.
use mathlib.Core.Bool.{Bool, true, false, not, ◌&&◌, ◌||◌, and_comm, and-false, or-false, false≢true}
use mathlib.Core.List.{List, [], ◌∷◌}
use mathlib.Core.Path.{◌≡◌, refl, sym, ap, ap₂, ◌∙◌}
use Prim.Native.Nat.{ℕ, zero, suc, ◌+◌, ◌-◌, ◌*◌, ◌^◌, ◌<◌, ◌≤◌}
use native.Mathlib.Nat.{zero-div}
use native.Mathlib.Omega.{arith}
use borrow.Author.Tests.{eq-eqb, eqb-true, ltb-true}
use lib.Dec.{ltb, eqb}
use Rattle.calendar.proofs.Every.{both_true, decided, within_range, same_either_way}
use Rattle.calendar.specs.Below.{within, any_of, all_of}
use Rattle.calendar.specs.Window.{local_weekday, local_date, from_end, window_days}
use Rattle.frames.proofs.MonthDays.{weekday_at_most}
use Rattle.frames.specs.Rule.{no_limit, ordinal_of, ordinal_mask, ordinal_allowed}
use Rattle.frames.specs.declared.Ends.{Ends}
use Rattle.masks.proofs.MaskFroms.{bit_in_mask, mask_from_below}
use Rattle.masks.specs.Masks.{bit, mask_from}
use Rattle.sheet.specs.Form.{Entry, plain, ordinal}
use Rattle.sheet.specs.Meaning.{entry_has}
use Rattle.sheet.specs.Range.{entry_in_range}
use Rattle.sheet.specs.Words.{Signed}
use Rattle.framed.specs.Framed.{is_plain, is_ordinal, ordinals_of}
use Rattle.framed.proofs.Counted.{place_of, place_high, ordinal_counted}
use Rattle.framed.proofs.Ends.{end_of, bit_not_zero, end_limits, either_sign}
use Rattle.framed.proofs.Listed.{listed, any_either}

-- the two groups of a list
abbrev pub ordinal_ends : List Entry → Ends
ordinal_ends es = record { front = ordinals_of false es; back = ordinals_of true es }

-- five masks in one group
five : (a b c d e : ℕ) → a < 128 → b < 128 → c < 128 → d < 128 → e < 128
    → let g = 256 ^ 4 * a + (256 ^ 3 * b + (256 ^ 2 * c + (256 * d + e))) in
    (ordinal_mask g 1 ≡ a) × (ordinal_mask g 2 ≡ b) × (ordinal_mask g 3 ≡ c) × (ordinal_mask g 4 ≡ d) × (ordinal_mask g 5 ≡ e)
five a b c d e p q r s t = (omega arith, omega arith, omega arith, omega arith, omega arith)

module _ (minus : Bool) (es : List Entry) where
  abbrev mask_of : ℕ → ℕ
  mask_of k = mask_from (λ w. any_of (is_ordinal minus k w) es) 7 0

  abbrev group : ℕ
  group = ordinals_of minus es

  small : (k : ℕ) → mask_of k < 128
  small k = mask_from_below (λ w. any_of (is_ordinal minus k w) es) 7 0

  pub ordinal_mask_lem : (k : ℕ) → 1 ≤ k → k ≤ 5 → ordinal_mask (ordinals_of minus es) k ≡ mask_from (λ w. any_of (is_ordinal minus k w) es) 7 0
  unfolding ordinals_of
  ordinal_mask_lem k l h =
      by_ordinal k l h (five (mask_of 1) (mask_of 2) (mask_of 3) (mask_of 4) (mask_of 5) (small 1) (small 2) (small 3) (small 4) (small 5))
    where
      by_ordinal : (k : ℕ) → 1 ≤ k → k ≤ 5
          → (ordinal_mask group 1 ≡ mask_of 1) × (ordinal_mask group 2 ≡ mask_of 2) × (ordinal_mask group 3 ≡ mask_of 3) × (ordinal_mask group 4 ≡ mask_of 4) × (ordinal_mask group 5 ≡ mask_of 5)
          → ordinal_mask group k ≡ mask_of k
      by_ordinal zero l h m = absurd (omega arith)
      by_ordinal (suc zero) l h m = m.0
      by_ordinal (suc (suc zero)) l h m = m.1
      by_ordinal (suc (suc (suc zero))) l h m = m.2
      by_ordinal (suc (suc (suc (suc zero)))) l h m = m.3
      by_ordinal (suc (suc (suc (suc (suc zero))))) l h m = m.4
      by_ordinal (suc (suc (suc (suc (suc (suc k)))))) l h m = absurd (omega arith)

-- a weekday of an ordinal is one of the list's
ordinal_bit_lem : (minus : Bool) (es : List Entry) (k w : ℕ) → 1 ≤ k → k ≤ 5 → w < 7
    → bit (ordinal_mask (ordinals_of minus es) k) w ≡ any_of (is_ordinal minus k w) es
ordinal_bit_lem minus es k w l h b =
    ap (λ (m : ℕ). bit m w) (ordinal_mask_lem minus es k l h) ∙ bit_in_mask (λ v. any_of (is_ordinal minus k v) es) 7 0 w (omega arith) b

plain_bit : (es : List Entry) (w : ℕ) → w < 7 → bit (mask_from (λ v. any_of (is_plain v) es) 7 0) w ≡ any_of (is_plain w) es
plain_bit es w b = bit_in_mask (λ v. any_of (is_plain v) es) 7 0 w (omega arith) b

-- an entry of the list by its masks
module _ (d : ℕ) (h : d < window_days) where
  abbrev placed : Bool → ℕ
  placed minus = ordinal_of (place_of minus d)

  its_place : (m : Bool) (x : ℕ) → (eqb x (placed false) && not m || eqb x (placed true) && m) ≡ eqb x (placed m)
  its_place m x = ap₂ ◌||◌ (and_comm (eqb x (placed false)) (not m)) (and_comm (eqb x (placed true)) m) ∙ either_sign placed m x

  entry_is : (e : Entry)
      → (is_plain (local_weekday d) e || (is_ordinal false (placed false) (local_weekday d) e || is_ordinal true (placed true) (local_weekday d) e)) ≡ entry_has d e
  unfolding entry_has
  entry_is (plain w) = or-false (eqb w (local_weekday d)) ∙ same_either_way w (local_weekday d)
  entry_is (ordinal n w) =
      decided (eqb (local_weekday d) w)
      (λ (t : eqb (local_weekday d) w ≡ true).
      let e = eqb-true (local_weekday d) w t in
      rw (t, same_either_way w (local_weekday d) ∙ t)
      (its_place n.minus n.number ∙ ap (eqb n.number) (sym (ordinal_counted n.minus d w h e))))
      (λ (f : eqb (local_weekday d) w ≡ false). rw (f, same_either_way w (local_weekday d) ∙ f) refl)

  pub entries_hold : (es : List Entry)
      → (bit (mask_from (λ w. any_of (is_plain w) es) 7 0) (local_weekday d) || ordinal_allowed (ordinal_ends es) (local_date d).day (from_end d) (local_weekday d)) ≡ any_of (entry_has d) es
  entries_hold es =
      let w : ℕ = local_weekday d in
      let bits : (minus : Bool) → bit (ordinal_mask (ordinals_of minus es) (placed minus)) w ≡ any_of (is_ordinal minus (placed minus) w) es = λ minus.
      ordinal_bit_lem minus es (placed minus) w (omega arith) (omega (arith, place_high minus d h)) (weekday_at_most d) in
      ap₂ ◌||◌ (plain_bit es w (weekday_at_most d))
      (ap₂ ◌||◌ (bits false) (bits true)
      ∙ any_either (is_ordinal false (placed false) w) (is_ordinal true (placed true) w)
      (λ e. is_ordinal false (placed false) w e || is_ordinal true (placed true) w e) (λ e. refl) es)
      ∙ any_either (is_plain w) (λ e. is_ordinal false (placed false) w e || is_ordinal true (placed true) w e) (entry_has d) entry_is es

-- a list that is given is a limit
abbrev pub entry_weekday : Entry → ℕ
entry_weekday (plain w) = w
entry_weekday (ordinal n w) = w

abbrev pub entry_good : Entry → Bool
entry_good e = entry_in_range e && ltb (entry_weekday e) 7

own_ordinal : (n : Signed) (w : ℕ) (minus : Bool) → n.minus ≡ minus → is_ordinal minus n.number w (ordinal n w) ≡ true
own_ordinal n w true e = rw (e, eq-eqb n.number n.number refl, eq-eqb w w refl) refl
own_ordinal n w false e = rw (e, eq-eqb n.number n.number refl, eq-eqb w w refl) refl

no_ordinal : (k : ℕ) → ordinal_mask 0 k ≡ 0
no_ordinal k = rw (zero-div (256 ^ (5 - k))) refl

pub entries_limit : (es : List Entry) → listed entry_good es ≡ true
    → (eqb (mask_from (λ w. any_of (is_plain w) es) 7 0) 0 && no_limit (ordinal_ends es)) ≡ false
unfolding entry_in_range
entries_limit [] l = absurd (false≢true l)
entries_limit (plain w ∷ es) l =
    let p = both_true (ltb w 7) (all_of entry_good es) l in
    let a : any_of (is_plain w) (plain w ∷ es) ≡ true = rw (eq-eqb w w refl) refl in
    rw
    (bit_not_zero (λ m. m) refl (mask_from (λ v. any_of (is_plain v) (plain w ∷ es)) 7 0) w (plain_bit (plain w ∷ es) w (ltb-true w 7 p.0) ∙ a))
    refl
entries_limit (ordinal n w ∷ es) l =
    let p = both_true (within 1 5 n.number && ltb w 7) (all_of entry_good es) l in
    let q = both_true (within 1 5 n.number) (ltb w 7) p.0 in
    let r = within_range 1 5 n.number q.0 in
    let a : any_of (is_ordinal n.minus n.number w) (ordinal n w ∷ es) ≡ true = rw (own_ordinal n w n.minus refl) refl in
    let b : bit (ordinal_mask (ordinals_of n.minus (ordinal n w ∷ es)) n.number) w ≡ true =
    ordinal_bit_lem n.minus (ordinal n w ∷ es) n.number w r.0 r.1 (ltb-true w 7 q.1) ∙ a in
    rw
    (end_limits (ordinal_ends (ordinal n w ∷ es)) n.minus (own_end n.minus (bit_not_zero (λ g. ordinal_mask g n.number) (no_ordinal n.number) (ordinals_of n.minus (ordinal n w ∷ es)) w b)))
    (and-false (eqb (mask_from (λ v. any_of (is_plain v) (ordinal n w ∷ es)) 7 0) 0))
  where
    own_end : (minus : Bool) → eqb (ordinals_of minus (ordinal n w ∷ es)) 0 ≡ false
        → eqb (end_of minus (ordinal_ends (ordinal n w ∷ es))) 0 ≡ false
    own_end true e = e
    own_end false e = e
