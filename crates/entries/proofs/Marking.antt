-- The entries and numbers of a list marked one after the other, as the masks of the whole list.
use Rattle.std.specs.Prelude.{Option, None, Some}
use mathlib.Core.Bool.{Bool, true, false, cond, not, ◌&&◌, ◌||◌, and_assoc, and-true, and-false, or_assoc, or-true, or-false}
use mathlib.Core.List.{List, [], ◌∷◌}
use mathlib.Core.Path.{◌≡◌, refl, sym, ap, ◌∙◌}
use Prim.Native.Nat.{ℕ, zero, suc, ◌+◌, ◌-◌, ◌*◌, ◌/◌, ◌%◌, ◌^◌, ◌<◌, ◌≤◌}
use native.Mathlib.Omega.{arith}
use borrow.Author.Tests.{le-leb, ltb-true, eq-eqb, ne_eqb, eqb-true, eqb-false}
use lib.Dec.{ltb, eqb}
use Rattle.calendar.proofs.Every.{both_true, within_range, same_either_way}
use Rattle.calendar.specs.Below.{within, any_of, all_of}
use Rattle.frames.specs.Rule.{ordinal_mask}
use Rattle.framed.proofs.Ends.{signed_as}
use Rattle.framed.proofs.Goods.{weekday_written}
use Rattle.framed.proofs.Listed.{anything}
use Rattle.framed.proofs.Ordinals.{ordinal_mask_lem}
use Rattle.framed.proofs.Passing.{all_anything}
use Rattle.framed.specs.Framed.{is_plain, is_ordinal, ordinals_of}
use Rattle.masks.proofs.Bits.{bit_of_quotient, bit_of_rest}
use Rattle.masks.proofs.MaskFroms.{mask_from_same, mask_from_below, bit_in_mask, bit_above_mask, own_mask}
use Rattle.masks.specs.Masks.{bit, mask_from}
use Rattle.sheet.specs.Form.{Entry, plain, ordinal}
use Rattle.sheet.specs.Parts.{is_ordinal as has_ordinal}
use Rattle.sheet.specs.Range.{entry_in_range}
use Rattle.sheet.specs.Words.{Signed}
use Rattle.words.specs.Lists.{over_all}
use Rattle.zone.proofs.Good.{by_order}
use Rattle.entries.specs.Marks.{ordinal_bit, with_plain, with_ordinal, take_entry, with_number, take_number}
use Rattle.entries.specs.Lists.{weekdays_given}
use Rattle.entries.specs.declared.numbers.Numbers.{Numbers}
use Rattle.entries.specs.declared.weekdays.Weekdays.{Weekdays}
use Rattle.entries.proofs.Setting.{set_one, is_at, Between, set_all, set_mask}

-- tests that agree on what passes another agree of lists
any_same : {A : Type 0} (good f g : A → Bool) → ((x : A) → good x ≡ true → f x ≡ g x) → (xs : List A) → all_of good xs ≡ true
    → any_of f xs ≡ any_of g xs
any_same good f g e [] a = refl
any_same good f g e (x ∷ xs) a = let b = both_true (good x) _ a in rw (e x b.0, any_same good f g e xs b.1) refl

-- a bit that is set where a test holds lies in a range, where it holds for the range alone
some_between : (low high n : ℕ) (b : Bool) → (b ≡ true → (low ≤ n) × (n < high)) → Between low high (cond b (Some n) None)
some_between low high n true h = record { between = λ k e. let v : n ≡ k = ap value_in e in (omega (arith, h refl), omega (arith, h refl)) }
  where
    value_in : Option ℕ → ℕ
    value_in None = 0
    value_in (Some v) = v
some_between low high n false h = record { between = λ k e. let z : ◌≡◌ {A = ℕ} 0 1 = cc in absurd (omega arith) }

-- the sign of one end
abbrev sign_is : Bool → Bool → Bool
sign_is minus m = cond minus m (not m)

-- ---- numbers of 1 to `most`
unfoldable pub list_given : ℕ → List Signed → Numbers
list_given most ns =
    let mask : Bool → ℕ = λ minus. mask_from (λ i. any_of (signed_as minus i) ns) most 1 in
    record { good = all_of (λ s. within 1 most s.number) ns; front = mask false; back = mask true }

abbrev pub no_numbers : Numbers
no_numbers = record { good = true; front = 0; back = 0 }

module _ (most : ℕ) where
  abbrev in_range : Signed → Bool
  in_range n = within 1 most n.number

  -- the bit that a number sets at one end
  number_place : Bool → Signed → Option ℕ
  number_place minus n = cond (in_range n && sign_is minus n.minus) (Some n.number) None

  number_step : (m : Numbers) (n : Signed) → take_number most m n
      ≡ record { good = m.good && in_range n; front = set_one m.front (number_place false n); back = set_one m.back (number_place true n) }
  unfolding with_number number_place
  number_step m n = by_cases (in_range n) n.minus
    where
      by_cases : (b sign : Bool)
          → cond {A = Numbers} b
          (cond sign (record m { back = set_one m.back (Some n.number) }) (record m { front = set_one m.front (Some n.number) }))
          (record m { good = false })
          ≡ record {
            good = m.good && b;
            front = set_one m.front (cond (b && sign_is false sign) (Some n.number) None);
            back = set_one m.back (cond (b && sign_is true sign) (Some n.number) None);
          }
      by_cases true true = rw (and-true m.good) refl
      by_cases true false = rw (and-true m.good) refl
      by_cases false sign = rw (and-false m.good) refl

  numbers_over : (m : Numbers) (ns : List Signed) → over_all (take_number most) m ns
      ≡ record { good = m.good && all_of in_range ns; front = set_all (number_place false) m.front ns; back = set_all (number_place true) m.back ns }
  unfolding over_all
  numbers_over m [] = rw (and-true m.good) refl
  numbers_over m (n ∷ ns) =
      numbers_over (take_number most m n) ns ∙ rw (number_step m n, and_assoc m.good (in_range n) (all_of in_range ns)) refl

  module _ (minus : Bool) where
    number_between : (n : Signed) → Between 1 (1 + most) (number_place minus n)
    unfolding number_place
    number_between n =
        some_between 1 (1 + most) n.number (in_range n && sign_is minus n.minus) (λ e. let r = within_range 1 most n.number (both_true (in_range n) _ e).0 in (omega (arith, r), omega (arith, r)))

    number_at : (i : ℕ) → 1 ≤ i → i < 1 + most → (n : Signed) → is_at i (number_place minus n) ≡ signed_as minus i n
    unfolding number_place
    number_at i l h n = by_same (eqb n.number i) refl
      where
        by_sign : (s : Bool) → n.number ≡ i → is_at i (cond s (Some n.number) None) ≡ (s && true)
        by_sign true e = eq-eqb i n.number (sym e)
        by_sign false e = refl

        by_test : (t : Bool) → (n.number ≡ i → ⊥) → is_at i (cond t (Some n.number) None) ≡ false
        by_test true d = ne_eqb i n.number (λ e. d (sym e))
        by_test false d = refl

        by_same : (b : Bool) → eqb n.number i ≡ b
            → is_at i (cond (in_range n && sign_is minus n.minus) (Some n.number) None) ≡ (sign_is minus n.minus && eqb n.number i)
        by_same true e =
            let v : n.number ≡ i = eqb-true n.number i e in
            rw (e, le-leb 1 n.number (omega arith), le-leb n.number most (omega arith)) (by_sign (sign_is minus n.minus) v)
        by_same false e =
            rw (e, and-false (sign_is minus n.minus)) (by_test (in_range n && sign_is minus n.minus) (eqb-false n.number i e))

    numbers_end : most < 64 → (ns : List Signed) → set_all (number_place minus) 0 ns ≡ mask_from (λ i. any_of (signed_as minus i) ns) most 1
    numbers_end fits ns =
        set_mask (number_place minus) 1 (1 + most) (omega arith) number_between most refl ns
        ∙ mask_from_same (λ i. any_of (λ n. is_at i (number_place minus n)) ns) (λ i. any_of (signed_as minus i) ns) most 1
        (λ i l h. any_same anything (λ n. is_at i (number_place minus n)) (signed_as minus i) (λ n t. number_at i l h n) ns (all_anything ns))

  pub numbers_marked : most < 64 → (ns : List Signed) → over_all (take_number most) no_numbers ns ≡ list_given most ns
  unfolding list_given
  numbers_marked fits ns = numbers_over no_numbers ns ∙ rw (numbers_end false fits ns, numbers_end true fits ns) refl

-- ---- weekdays
abbrev pub no_entries : Weekdays
no_entries = record { good = true; ordinal = false; plain = 0; front = 0; back = 0 }

plain_place : Entry → Option ℕ
plain_place (plain w) = cond (ltb w 7) (Some w) None
plain_place (ordinal n w) = None

ordinal_place : Bool → Entry → Option ℕ
ordinal_place minus (plain w) = None
ordinal_place minus (ordinal n w) = cond (within 1 5 n.number && sign_is minus n.minus) (Some (ordinal_bit n.number w)) None

entry_step : (m : Weekdays) (x : Entry) → weekday_written x ≡ true → take_entry m x
    ≡ record {
      good = m.good && entry_in_range x;
      ordinal = m.ordinal || has_ordinal x;
      plain = set_one m.plain (plain_place x);
      front = set_one m.front (ordinal_place false x);
      back = set_one m.back (ordinal_place true x);
    }
unfolding with_plain with_ordinal plain_place ordinal_place entry_in_range
entry_step m (plain w) e = rw (e, and-true m.good, or-false m.ordinal) refl
entry_step m (ordinal n w) e = by_cases (within 1 5 n.number) n.minus
  where
    by_cases : (b sign : Bool)
        → cond {A = Weekdays} b
        (cond sign (record m { ordinal = true; back = set_one m.back (Some (ordinal_bit n.number w)) })
        (record m { ordinal = true; front = set_one m.front (Some (ordinal_bit n.number w)) }))
        (record m { good = false; ordinal = true })
        ≡ record {
          good = m.good && b;
          ordinal = m.ordinal || true;
          plain = m.plain;
          front = set_one m.front (cond (b && sign_is false sign) (Some (ordinal_bit n.number w)) None);
          back = set_one m.back (cond (b && sign_is true sign) (Some (ordinal_bit n.number w)) None);
        }
    by_cases true true = rw (and-true m.good, or-true m.ordinal) refl
    by_cases true false = rw (and-true m.good, or-true m.ordinal) refl
    by_cases false sign = rw (and-false m.good, or-true m.ordinal) refl

entries_over : (m : Weekdays) (es : List Entry) → all_of weekday_written es ≡ true → over_all take_entry m es
    ≡ record {
      good = m.good && all_of entry_in_range es;
      ordinal = m.ordinal || any_of has_ordinal es;
      plain = set_all plain_place m.plain es;
      front = set_all (ordinal_place false) m.front es;
      back = set_all (ordinal_place true) m.back es;
    }
unfolding over_all
entries_over m [] a = rw (and-true m.good, or-false m.ordinal) refl
entries_over m (x ∷ es) a =
    let w = both_true (weekday_written x) _ a in
    entries_over (take_entry m x) es w.1
    ∙ rw (
      entry_step m x w.0,
      and_assoc m.good (entry_in_range x) (all_of entry_in_range es),
      or_assoc m.ordinal (has_ordinal x) (any_of has_ordinal es),
    ) refl

plain_between : (x : Entry) → Between 0 7 (plain_place x)
unfolding plain_place
plain_between (plain w) = some_between 0 7 w (ltb w 7) (λ e. (omega arith, ltb-true w 7 e))
plain_between (ordinal n w) = record { between = λ k e. let z : ◌≡◌ {A = ℕ} 0 1 = cc in absurd (omega arith) }

plain_at : (i : ℕ) (x : Entry) → weekday_written x ≡ true → is_at i (plain_place x) ≡ is_plain i x
unfolding plain_place
plain_at i (plain w) e = rw e (same_either_way i w)
plain_at i (ordinal n w) e = refl

plains : (es : List Entry) → all_of weekday_written es ≡ true → set_all plain_place 0 es ≡ mask_from (λ w. any_of (is_plain w) es) 7 0
plains es a =
    set_mask plain_place 0 7 (omega arith) plain_between 7 refl es
    ∙ mask_from_same (λ i. any_of (λ x. is_at i (plain_place x)) es) (λ w. any_of (is_plain w) es) 7 0
    (λ i l h. any_same weekday_written (λ x. is_at i (plain_place x)) (is_plain i) (λ x e. plain_at i x e) es a)

module _ (minus : Bool) where
  ordinal_between : (x : Entry) → Between 0 40 (ordinal_place minus x)
  unfolding ordinal_place
  ordinal_between (plain w) = record { between = λ k e. let z : ◌≡◌ {A = ℕ} 0 1 = cc in absurd (omega arith) }
  ordinal_between (ordinal n w) =
      some_between 0 40 (ordinal_bit n.number w) (within 1 5 n.number && sign_is minus n.minus) (λ e. let r = within_range 1 5 n.number (both_true (within 1 5 n.number) _ e).0 in (omega arith, omega (arith, r)))

  -- bit i stands for weekday i % 8 of ordinal 5 - i / 8
  ordinal_at_lem : (i : ℕ) → i < 40 → (x : Entry) → weekday_written x ≡ true
      → is_at i (ordinal_place minus x) ≡ is_ordinal minus (5 - i / 8) (i % 8) x
  unfolding ordinal_place
  ordinal_at_lem i l (plain w) e = refl
  ordinal_at_lem i l (ordinal n w) e = by_weekday (eqb w (i % 8)) refl
    where
      k : ℕ
      k = n.number

      small : w < 7
      small = ltb-true w 7 e

      by_sign : (s : Bool) → ordinal_bit k w ≡ i → is_at i (cond s (Some (ordinal_bit k w)) None) ≡ s
      by_sign true q = eq-eqb i (ordinal_bit k w) (sym q)
      by_sign false q = refl

      elsewhere : (t : Bool) → (t ≡ true → ordinal_bit k w ≡ i → ⊥) → is_at i (cond t (Some (ordinal_bit k w)) None) ≡ false
      elsewhere true d = ne_eqb i (ordinal_bit k w) (λ q. d refl (sym q))
      elsewhere false d = refl

      in_range_lem : (s : Bool) → (within 1 5 k && s) ≡ true → (1 ≤ k) × (k ≤ 5)
      in_range_lem s t = within_range 1 5 k (both_true (within 1 5 k) _ t).0

      by_number : (b : Bool) → eqb k (5 - i / 8) ≡ b → w ≡ i % 8
          → is_at i (cond (within 1 5 k && sign_is minus n.minus) (Some (ordinal_bit k w)) None) ≡ (true && (b && sign_is minus n.minus))
      by_number true f q =
          let v : k ≡ 5 - i / 8 = eqb-true _ _ f in
          rw (le-leb 1 k (omega arith), le-leb k 5 (omega arith)) (by_sign (sign_is minus n.minus) (omega arith))
      by_number false f q =
          elsewhere (within 1 5 k && sign_is minus n.minus)
          (λ t g. eqb-false k (5 - i / 8) f (omega (arith, in_range_lem (sign_is minus n.minus) t)))

      by_weekday : (b : Bool) → eqb w (i % 8) ≡ b
          → is_at i (cond (within 1 5 k && sign_is minus n.minus) (Some (ordinal_bit k w)) None) ≡ (eqb w (i % 8) && (eqb k (5 - i / 8) && sign_is minus n.minus))
      by_weekday true f = rw f (by_number (eqb k (5 - i / 8)) refl (eqb-true _ _ f))
      by_weekday false f =
          rw f
          (elsewhere (within 1 5 k && sign_is minus n.minus) (λ t (g : ordinal_bit k w ≡ i). eqb-false w (i % 8) f (omega (arith, in_range_lem (sign_is minus n.minus) t, small))))

  -- bit i of the five masks in one number
  byte_bit : (g j w : ℕ) → j < 5 → w < 8 → bit g (8 * j + w) ≡ bit (ordinal_mask g (5 - j)) w
  byte_bit g zero w l h = sym (bit_of_rest (g / 2 ^ 0) 8 w h ∙ bit_of_quotient g 0 w)
  byte_bit g (suc zero) w l h = sym (bit_of_rest (g / 2 ^ 8) 8 w h ∙ bit_of_quotient g 8 w)
  byte_bit g (suc (suc zero)) w l h = sym (bit_of_rest (g / 2 ^ 16) 8 w h ∙ bit_of_quotient g 16 w)
  byte_bit g (suc (suc (suc zero))) w l h = sym (bit_of_rest (g / 2 ^ 24) 8 w h ∙ bit_of_quotient g 24 w)
  byte_bit g (suc (suc (suc (suc zero)))) w l h = sym (bit_of_rest (g / 2 ^ 32) 8 w h ∙ bit_of_quotient g 32 w)
  byte_bit g (suc (suc (suc (suc (suc j))))) w l h = absurd (omega arith)

  no_eighth : (k w : ℕ) (es : List Entry) → all_of weekday_written es ≡ true → 7 ≤ w → any_of (is_ordinal minus k w) es ≡ false
  no_eighth k w [] a h = refl
  no_eighth k w (plain v ∷ es) a h = no_eighth k w es (both_true (ltb v 7) _ a).1 h
  no_eighth k w (ordinal n v ∷ es) a h =
      let b = both_true (ltb v 7) _ a in
      rw (ne_eqb v w (λ (q : v ≡ w). omega (arith, ltb-true v 7 b.0))) (no_eighth k w es b.1 h)

  group_bit : (es : List Entry) (i : ℕ) → all_of weekday_written es ≡ true → i < 40
      → any_of (is_ordinal minus (5 - i / 8) (i % 8)) es ≡ bit (ordinals_of minus es) i
  group_bit es i a l =
      let e : 8 * (i / 8) + i % 8 ≡ i = omega arith in
      sym
      (ap (bit (ordinals_of minus es)) (sym e) ∙ byte_bit (ordinals_of minus es) (i / 8) (i % 8) (omega arith) (omega arith)
      ∙ ap (λ (m : ℕ). bit m (i % 8)) (ordinal_mask_lem minus es (5 - i / 8) (omega arith) (omega arith))
      ∙ by_order (i % 8) 7 (λ h. bit_in_mask (λ w. any_of (is_ordinal minus (5 - i / 8) w) es) 7 0 (i % 8) (omega arith) h)
      (λ h. bit_above_mask (λ w. any_of (is_ordinal minus (5 - i / 8) w) es) 7 0 (i % 8) h ∙ sym (no_eighth (5 - i / 8) (i % 8) es a h)))

  group_below : (es : List Entry) → ordinals_of minus es < 2 ^ 40
  unfolding ordinals_of
  group_below es =
      let small : (k : ℕ) → mask_from (λ w. any_of (is_ordinal minus k w) es) 7 0 < 2 ^ (0 + 7) =
      λ k. mask_from_below (λ w. any_of (is_ordinal minus k w) es) 7 0 in
      omega (arith, small 1, small 2, small 3, small 4, small 5)

  groups : (es : List Entry) → all_of weekday_written es ≡ true → set_all (ordinal_place minus) 0 es ≡ ordinals_of minus es
  groups es a =
      set_mask (ordinal_place minus) 0 40 (omega arith) ordinal_between 40 refl es
      ∙ mask_from_same (λ i. any_of (λ x. is_at i (ordinal_place minus x)) es) (bit (ordinals_of minus es)) 40 0
      (λ i l h. any_same weekday_written (λ x. is_at i (ordinal_place minus x)) (is_ordinal minus (5 - i / 8) (i % 8)) (λ x e. ordinal_at_lem i h x e) es a ∙ group_bit es i a h)
      ∙ own_mask (ordinals_of minus es) 40 (group_below es)

pub entries_marked : (es : List Entry) → all_of weekday_written es ≡ true → over_all take_entry no_entries es ≡ weekdays_given es
unfolding weekdays_given
entries_marked es a = entries_over no_entries es a ∙ rw (plains es a, groups false es a, groups true es a) refl
