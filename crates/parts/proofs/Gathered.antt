-- Parts taken up one after the other, as all parts of the rule: of one given twice the first counts.
use Rattle.std.specs.Prelude.{Option, None, Some, unwrap_or}
use Rattle.std.specs.Option.{is_some}
use mathlib.Core.Bool.{Bool, true, false, cond, ◌&&◌, ◌||◌, or_assoc, or-true, or-false, and_assoc, and-true, true≢false}
use mathlib.Core.List.{List, [], ◌∷◌, ◌++◌, append-nil, append_assoc}
use mathlib.Core.Path.{◌≡◌, refl, sym, ap, ◌∙◌}
use Prim.Native.Nat.{ℕ, ◌+◌, ◌<◌, ◌≤◌}
use native.Mathlib.Omega.{arith}
use borrow.Author.Tests.{ne_eqb, eqb-true}
use lib.Dec.{eqb}
use lib.ListN.{length}
use Rattle.calendar.proofs.Every.{same_either_way, regrouped}
use Rattle.calendar.specs.Below.{any_of, all_of}
use Rattle.entries.proofs.Gathering.{gathered_list, made_same, step_goes_on}
use Rattle.entries.specs.Gathered.{gathered, step_of, ended}
use Rattle.entries.specs.Lists.{weekdays_given, numbers_given, months_given}
use Rattle.masks.proofs.MaskFroms.{mask_ext, mask_from_same, mask_from_below, bit_in_mask}
use Rattle.masks.proofs.WithBits.{bit_of_with_bit, with_bit_below}
use Rattle.masks.specs.Masks.{bit, mask_from, with_bit}
use Rattle.sheet.specs.Form.{Time, Entry, Frequency, Part, freq, interval, count, until, by_day, by_month_day, by_set_pos, by_month}
use Rattle.sheet.specs.Parts.{Given, given_of, name_of, given_twice}
use Rattle.sheet.specs.Range.{time_in_range, minute_of, part_in_range}
use Rattle.sheet.specs.Words.{Signed}
use Rattle.words.specs.Lists.{over_all}
use Rattle.parts.proofs.Places.{part_after}
use Rattle.parts.specs.Given.{name_in, good_in, with_value, taken, take_part, frequency_from, until_from, days_from, numbers_from, months_from, parts_given, parts_read, parts_as}
use Rattle.parts.specs.Values.{part_as, part_read}
use Rattle.parts.specs.declared.given.Parts.{Parts}

-- ---- the first part of a name
abbrev first_of : ℕ → Part → Option Part → Option Part
first_of k p other = cond (eqb (name_of p) k) (Some p) other

lookup : ℕ → List Part → Option Part
lookup k [] = None
lookup k (p ∷ ps) = first_of k p (lookup k ps)

abbrev named : ℕ → List Part → Bool
named k ps = any_of (λ p. eqb (name_of p) k) ps

frequency_in : Option Part → Option Frequency
frequency_in (Some (freq f)) = Some f
frequency_in _ = None

number_in : Option Part → Option ℕ
number_in (Some (interval n)) = Some n
number_in (Some (count n)) = Some n
number_in _ = None

time_in : Option Part → Option Time
time_in (Some (until t)) = Some t
time_in _ = None

entries_in : Option Part → Option (List Entry)
entries_in (Some (by_day es)) = Some es
entries_in _ = None

numbers_in : Option Part → Option (List Signed)
numbers_in (Some (by_month_day ns)) = Some ns
numbers_in (Some (by_set_pos ns)) = Some ns
numbers_in _ = None

months_in : Option Part → Option (List ℕ)
months_in (Some (by_month ms)) = Some ms
months_in _ = None

given_by : (ℕ → Option Part) → Given
given_by f =
    record {
      frequency = frequency_in (f 0);
      interval = number_in (f 1);
      count = number_in (f 2);
      until = time_in (f 3);
      days = entries_in (f 4);
      month_days = numbers_in (f 5);
      positions = numbers_in (f 6);
      months = months_in (f 7);
    }

given_by_lem : (ps : List Part) → given_of ps ≡ given_by (λ k. lookup k ps)
unfolding given_of given_by lookup frequency_in number_in time_in entries_in numbers_in months_in
given_by_lem [] = refl
given_by_lem (freq f ∷ ps) = rw (given_by_lem ps) refl
given_by_lem (interval n ∷ ps) = rw (given_by_lem ps) refl
given_by_lem (count n ∷ ps) = rw (given_by_lem ps) refl
given_by_lem (until t ∷ ps) = rw (given_by_lem ps) refl
given_by_lem (by_day es ∷ ps) = rw (given_by_lem ps) refl
given_by_lem (by_month_day ns ∷ ps) = rw (given_by_lem ps) refl
given_by_lem (by_set_pos ns ∷ ps) = rw (given_by_lem ps) refl
given_by_lem (by_month ms ∷ ps) = rw (given_by_lem ps) refl

given_same : (f g : ℕ → Option Part) → ((k : ℕ) → f k ≡ g k) → given_by f ≡ given_by g
unfolding given_by
given_same f g e = rw (e 0, e 1, e 2, e 3, e 4, e 5, e 6, e 7) refl

-- ---- one part more at the end
module _ (p : Part) where
  any_more : (f : Part → Bool) (ps : List Part) → any_of f (ps ++ (p ∷ [])) ≡ (any_of f ps || f p)
  any_more f [] = or-false (f p)
  any_more f (q ∷ ps) = ap (λ (b : Bool). f q || b) (any_more f ps) ∙ sym (or_assoc (f q) (any_of f ps) (f p))

  range_more : (ps : List Part) → all_of part_in_range (ps ++ (p ∷ [])) ≡ (all_of part_in_range ps && part_in_range p)
  range_more [] = and-true (part_in_range p)
  range_more (q ∷ ps) =
      ap (λ (b : Bool). part_in_range q && b) (range_more ps) ∙ sym (and_assoc (part_in_range q) (all_of part_in_range ps) (part_in_range p))

  twice_more : (ps : List Part) → given_twice (ps ++ (p ∷ [])) ≡ (given_twice ps || named (name_of p) ps)
  unfolding given_twice
  twice_more [] = refl
  twice_more (q ∷ ps) =
      rw (any_more (λ r. eqb (name_of q) (name_of r)) ps, twice_more ps)
      (regrouped (any_of (λ r. eqb (name_of q) (name_of r)) ps) (eqb (name_of q) (name_of p)) (given_twice ps) (named (name_of p) ps))

  -- a name that was there stays as it was, and one that was not is the part's or nobody's
  lookup_there : (k : ℕ) (ps : List Part) → named k ps ≡ true → lookup k (ps ++ (p ∷ [])) ≡ lookup k ps
  unfolding lookup
  lookup_there k [] e = let z : ◌≡◌ {A = ℕ} 0 1 = cc in absurd (omega arith)
  lookup_there k (q ∷ ps) e = by_first (eqb (name_of q) k) e (lookup_there k ps)
    where
      by_first : (b : Bool) → (b || named k ps) ≡ true → (named k ps ≡ true → lookup k (ps ++ (p ∷ [])) ≡ lookup k ps)
          → cond b (Some q) (lookup k (ps ++ (p ∷ []))) ≡ cond b (Some q) (lookup k ps)
      by_first true e again = refl
      by_first false e again = again e

  lookup_new : (k : ℕ) (ps : List Part) → named k ps ≡ false → (lookup k (ps ++ (p ∷ [])) ≡ first_of k p None) × (lookup k ps ≡ None)
  unfolding lookup
  lookup_new k [] e = (refl, refl)
  lookup_new k (q ∷ ps) e = by_first (eqb (name_of q) k) e (lookup_new k ps)
    where
      by_first : (b : Bool) → (b || named k ps) ≡ false
          → (named k ps ≡ false → (lookup k (ps ++ (p ∷ [])) ≡ first_of k p None) × (lookup k ps ≡ None))
          → (cond b (Some q) (lookup k (ps ++ (p ∷ []))) ≡ first_of k p None) × (cond b (Some q) (lookup k ps) ≡ None)
      by_first true e again = let z : ◌≡◌ {A = ℕ} 0 1 = cc in absurd (omega arith)
      by_first false e again = again e

  -- a name that is there and one that is not are two
  two_names : (k j : ℕ) (ps : List Part) → named k ps ≡ true → named j ps ≡ false → eqb j k ≡ false
  two_names k j ps e f = ne_eqb j k (λ (q : j ≡ k). true≢false (sym e ∙ ap (λ (n : ℕ). named n ps) (sym q) ∙ f))

  lookup_more : (k : ℕ) (ps : List Part) (b : Bool) → named (name_of p) ps ≡ b
      → lookup k (ps ++ (p ∷ [])) ≡ cond b (lookup k ps) (lookup k (p ∷ ps))
  unfolding lookup
  lookup_more k ps b e = by_name (named k ps) refl b e
    where
      by_name : (c : Bool) → named k ps ≡ c → (b : Bool) → named (name_of p) ps ≡ b
          → lookup k (ps ++ (p ∷ [])) ≡ cond b (lookup k ps) (lookup k (p ∷ ps))
      by_name true c true e = lookup_there k ps c
      by_name true c false e = lookup_there k ps c ∙ sym (rw (two_names k (name_of p) ps c e) refl)
      by_name false c true e =
          let n = lookup_new k ps c in n.0 ∙ rw (same_either_way (name_of p) k ∙ two_names (name_of p) k ps e c, n.1) refl
      by_name false c false e = let n = lookup_new k ps c in n.0 ∙ rw n.1 refl

  given_more : (ps : List Part) (b : Bool) → named (name_of p) ps ≡ b → given_of (ps ++ (p ∷ [])) ≡ cond b (given_of ps) (given_of (p ∷ ps))
  given_more ps true e = given_by_lem (ps ++ (p ∷ [])) ∙ given_same _ _ (λ k. lookup_more k ps true e) ∙ sym (given_by_lem ps)
  given_more ps false e = given_by_lem (ps ++ (p ∷ [])) ∙ given_same _ _ (λ k. lookup_more k ps false e) ∙ sym (given_by_lem (p ∷ ps))

-- ---- the same in numbers
abbrev built : ℕ → Bool → Bool → Given → Parts
built names twice good g =
    record {
      names = names;
      twice = twice;
      good = good;
      frequency = frequency_from g.frequency;
      interval = unwrap_or g.interval 1;
      count = g.count;
      until = until_from g.until;
      weekdays = days_from g.days;
      days = numbers_from g.month_days;
      positions = numbers_from g.positions;
      months = months_from g.months;
    }

value_more : (names : ℕ) (twice good : Bool) (p : Part) (ps : List Part)
    → with_value (built names twice good (given_of ps)) (part_as p) ≡ built names twice good (given_of (p ∷ ps))
unfolding with_value part_as given_of
value_more names twice good (freq f) ps = refl
value_more names twice good (interval n) ps = refl
value_more names twice good (count n) ps = refl
value_more names twice good (until t) ps = refl
value_more names twice good (by_day es) ps = refl
value_more names twice good (by_month_day ns) ps = refl
value_more names twice good (by_set_pos ns) ps = refl
value_more names twice good (by_month ms) ps = refl

name_as : (p : Part) → name_in (part_as p) ≡ name_of p
unfolding part_as
name_as (freq f) = refl
name_as (interval n) = refl
name_as (count n) = refl
name_as (until t) = refl
name_as (by_day es) = refl
name_as (by_month_day ns) = refl
name_as (by_set_pos ns) = refl
name_as (by_month ms) = refl

some_if : (b : Bool) (n : ℕ) → is_some (cond b (Some n) None) ≡ b
some_if true n = refl
some_if false n = refl

good_as : (p : Part) → good_in (part_as p) ≡ part_in_range p
unfolding part_as part_in_range weekdays_given numbers_given months_given
good_as (freq f) = refl
good_as (interval n) = refl
good_as (count n) = refl
good_as (until t) = some_if (time_in_range t) (minute_of t)
good_as (by_day es) = refl
good_as (by_month_day ns) = refl
good_as (by_set_pos ns) = refl
good_as (by_month ms) = refl

name_below : (p : Part) → name_of p < 8
name_below (freq f) = omega arith
name_below (interval n) = omega arith
name_below (count n) = omega arith
name_below (until t) = omega arith
name_below (by_day es) = omega arith
name_below (by_month_day ns) = omega arith
name_below (by_set_pos ns) = omega arith
name_below (by_month ms) = omega arith

abbrev names_of : List Part → ℕ
names_of ps = mask_from (λ k. named k ps) 8 0

module _ (p : Part) (ps : List Part) where
  name_bit : bit (names_of ps) (name_of p) ≡ named (name_of p) ps
  name_bit = bit_in_mask (λ k. named k ps) 8 0 (name_of p) (omega arith) (name_below p)

  names_same : named (name_of p) ps ≡ true → names_of (ps ++ (p ∷ [])) ≡ names_of ps
  names_same e =
      mask_from_same (λ k. named k (ps ++ (p ∷ []))) (λ k. named k ps) 8 0
      (λ k l h. any_more p (λ q. eqb (name_of q) k) ps ∙ by_name k (eqb (name_of p) k) refl)
    where
      by_name : (k : ℕ) (b : Bool) → eqb (name_of p) k ≡ b → (named k ps || b) ≡ named k ps
      by_name k true f = or-true (named k ps) ∙ sym (sym (ap (λ (n : ℕ). named n ps) (eqb-true (name_of p) k f)) ∙ e)
      by_name k false f = or-false (named k ps)

  names_new : with_bit (names_of ps) (name_of p) ≡ names_of (ps ++ (p ∷ []))
  names_new =
      mask_ext 8 _ _ (with_bit_below (names_of ps) (name_of p) 8 (mask_from_below (λ k. named k ps) 8 0) (name_below p)) (mask_from_below (λ k. named k (ps ++ (p ∷ []))) 8 0)
      (λ i l.
      bit_of_with_bit (names_of ps) (name_of p) i (omega (arith, name_below p))
      ∙ ap (λ (b : Bool). b || eqb i (name_of p)) (bit_in_mask (λ k. named k ps) 8 0 i (omega arith) l)
      ∙ ap (λ (b : Bool). named i ps || b) (same_either_way i (name_of p))
      ∙ sym (bit_in_mask (λ k. named k (ps ++ (p ∷ []))) 8 0 i (omega arith) l ∙ any_more p (λ q. eqb (name_of q) i) ps))

  part_step : taken (parts_given ps) (part_as p) ≡ parts_given (ps ++ (p ∷ []))
  unfolding taken parts_given
  part_step = by_name (named (name_of p) ps) refl
    where
      by_name : (b : Bool) → named (name_of p) ps ≡ b → taken (parts_given ps) (part_as p) ≡ parts_given (ps ++ (p ∷ []))
      by_name true e =
          rw (
            name_as p,
            good_as p,
            name_bit ∙ e,
            names_same e,
            twice_more p ps,
            range_more p ps,
            given_more p ps true e,
            e,
            or-true (given_twice ps),
          ) refl
      by_name false e =
          rw (
            name_as p,
            good_as p,
            name_bit ∙ e,
            names_new,
            twice_more p ps,
            range_more p ps,
            given_more p ps false e,
            e,
            or-false (given_twice ps),
          )
          (value_more (names_of (ps ++ (p ∷ []))) (given_twice ps) (all_of part_in_range ps && part_in_range p) p ps)

-- ---- all of them
parts_over : (qs ps : List Part) → over_all take_part (parts_given qs) ps ≡ parts_given (qs ++ ps)
unfolding over_all
parts_over qs [] = ap parts_given (sym (append-nil qs))
parts_over qs (p ∷ ps) = rw (part_step p qs) (parts_over (qs ++ (p ∷ [])) ps ∙ ap parts_given (append_assoc qs (p ∷ []) ps))

pub parts_taken : (s : List ℕ) (at : ℕ)
    → ended (gathered (step_of take_part (part_read s)) 59 s (length s + 1) (parts_given []) at) ≡ parts_as (parts_read s at)
unfolding parts_read
parts_taken s at =
    ap ended
    (gathered_list take_part (part_read s) 59 s (length s + 1) (parts_given []) at
    ∙ made_same (over_all take_part (parts_given [])) parts_given _ (λ ps e q. parts_over [] ps))

pub part_goes_on : (s : List ℕ) (m : Parts) (at : ℕ) (r : Parts × ℕ) → step_of take_part (part_read s) m at ≡ Some r → at ≤ r.1
part_goes_on s m at = step_goes_on (take_part m) (part_read s at) at (part_after s at)
