-- The day set of a year in parts, month by month, and a day's place in it.
use mathlib.Core.Bool.{Bool, true, false, cond, not, ◌&&◌, ◌||◌, and-true, and-false, or-true}
use mathlib.Core.List.{List}
use mathlib.Core.Path.{◌≡◌, refl, sym, ap, ap₂, fun_ext, ◌∙◌}
use Prim.Native.Nat.{ℕ, zero, suc, ◌+◌, ◌-◌, ◌*◌, ◌/◌, ◌%◌, ◌^◌, ◌<◌, ◌≤◌}
use native.Mathlib.Nat.{zero-add, add_assoc, mul_left_comm, mul-le-mul_right, mod-eq_of_lt, pow-le-pow_right, pow-succ', div-le_self, mod-le, div-div-eq-div-mul}
use lib.Pow.{pow-add}
use native.Mathlib.Omega.{arith}
use native.Mathlib.Decide.{dec_lt}
use mathlib.Core.Logic.{dite}
use borrow.Author.Tests.{eq-eqb, eqb-true, ne_eqb, ltb-true, lt-ltb, lt-leb, le-ltb, le-leb, not-true}
use lib.Dec.{leb, ltb}
use Rattle.calendar.proofs.Every.{both_true, both}
use lib.ListN.{length, get_or, set, length-set}
use lib.Seq.{get_or-set_same, get_or-set_other}
use Rattle.calendar.proofs.Windows.{month_days_range, month_first_next, month_first_mono}
use Rattle.calendar.specs.Below.{count_from}
use Rattle.calendar.specs.Window.{month_first, month_days}
use Rattle.masks.proofs.Bits.{bit_above, bit_of_quotient, bit_of_rest}
use Rattle.masks.proofs.Counts.{count_same, count_at_most, count_parts, bits_below_next, bits_in_two, bits_below_one}
use Rattle.masks.proofs.MaskFroms.{bit_below_mask}
use Rattle.masks.specs.Masks.{bit, bits_below, bits_from}
use Rattle.frames.specs.Kinds.{cron_kind, rule_kind, daily_number, row_numbers, kind_in, is_kind, is_daily, is_yearly}
use Rattle.frames.specs.Months.{day_of, days_in, InMonth, month_counts, none_placed, rule_part, month_part, month_set, place_wanted}
use Rattle.frames.specs.Rule.{no_limit, month_day_allowed, weekday_allowed, in_set, set_first, set_past, placed}
use Rattle.frames.specs.Years.{day_count, packed, packed_sum, reach, reach_back, outer, reached, year_placed, year_counts, left_of, none_counted, positions_in, bared, Bare}
use Rattle.frames.specs.Numbers.{rule_of}
use Rattle.frames.specs.declared.Ends.{Ends}
use Rattle.frames.specs.declared.Rule.{Rule}
use Rattle.frames.proofs.MonthDays.{past_window, days_at_most, month_of_day}
use Rattle.frames.proofs.MonthSets.{month_bit, month_same}
use Rattle.frames.proofs.Positions.{set as bits_of, place_back, counted_front, counted_back}

-- the sum of the n numbers from the i-th on
pub sum_from : (ℕ → ℕ) → ℕ → ℕ → ℕ
sum_from g zero i = 0
sum_from g (suc n) i = g i + sum_from g n (suc i)

module _ (g : ℕ → ℕ) (small : (j : ℕ) → g j < 32) where
  lowest : (x i : ℕ) → (g i + 32 * x) % 32 ≡ g i
  lowest x i = omega (arith, small i)

  others : (x i : ℕ) → (g i + 32 * x) / 32 ≡ x
  others x i = omega (arith, small i)

  pub packed_sum_lem : (m n i : ℕ) → m ≤ n → packed_sum m (packed g n i) ≡ sum_from g m i
  unfolding packed packed_sum sum_from
  packed_sum_lem zero n i h = refl
  packed_sum_lem (suc m) zero i h = absurd (omega arith)
  packed_sum_lem (suc m) (suc n) i h = rw (lowest (packed g n (suc i)) i, others (packed g n (suc i)) i, packed_sum_lem m n (suc i) (omega arith))

  pub packed_first : (n i : ℕ) → packed g (suc n) i % 32 ≡ g i
  unfolding packed
  packed_first n i = lowest (packed g n (suc i)) i

  pub packed_below : (n i : ℕ) → packed g n i < 32 ^ n
  unfolding packed
  packed_below zero i = omega arith
  packed_below (suc n) i = rw (pow-succ' 32 n) (omega (arith, small i, packed_below n (suc i)))

  pub packed_rest : (m n i : ℕ) → m ≤ n → packed g n i / 32 ^ m ≡ packed g (n - m) (i + m)
  unfolding packed
  packed_rest zero n i h = let e : n - 0 ≡ n = omega arith in let f : i + 0 ≡ i = omega arith in rw (e, f) (omega arith)
  packed_rest (suc m) zero i h = absurd (omega arith)
  packed_rest (suc m) (suc n) i h =
      let e : i + suc m ≡ suc i + m = omega arith in
      let l : suc n - suc m ≡ n - m = omega arith in
      rw (pow-succ' 32 m, ← div-div-eq-div-mul, others (packed g n (suc i)) i, e, l) (packed_rest m n (suc i) (omega arith))

pub five_bits : (n : ℕ) → 2 ^ (5 * n) ≡ 32 ^ n
five_bits zero = refl
five_bits (suc n) =
    let e : 5 * suc n ≡ suc (suc (suc (suc (suc (5 * n))))) = omega arith in
    rw (e, pow-succ' 2 (suc (suc (suc (suc (5 * n))))), pow-succ' 2 (suc (suc (suc (5 * n)))), pow-succ' 2 (suc (suc (5 * n))), pow-succ' 2 (suc (5 * n)), pow-succ' 2 (5 * n), pow-succ' 32 n)
    (omega (arith, five_bits n))

-- a sum taken up count by count
pub packed_sum_next : (n i left : ℕ) → i < n → packed_sum (n - i) left ≡ left % 32 + packed_sum (n - (i + 1)) (left / 32)
unfolding packed_sum
packed_sum_next n i left h = let e : n - i ≡ suc (n - (i + 1)) = omega arith in rw e

pub packed_sum_none : (n i left : ℕ) → n ≤ i → packed_sum (n - i) left ≡ 0
unfolding packed_sum
packed_sum_none n i left h = let e : n - i ≡ 0 = omega arith in rw e

-- the days of a month's set by its bits
pub count_of_set : (f : Rule) (k : ℕ) → k < 1200 → bits_from (days_in f k) 0 ≡ day_count f k
unfolding day_count bits_of
count_of_set f k h =
    let r = month_days_range k h in
    let b : month_first k + (1 - 1) ≡ month_first k = omega arith in
    let e : month_days k + 1 - 1 ≡ month_days k = omega arith in
    bits_in_two (days_in f k) 1 (omega arith)
    ∙ ap (λ (x : ℕ). x + bits_from (days_in f k) 1)
    (bits_below_one (days_in f k) (bit_below_mask (λ n. in_set f (day_of k n)) (month_days k) 1 0 (omega arith)))
    ∙ zero-add (bits_from (days_in f k) 1)
    ∙ sym (rw (b, e) at (place_back (in_set f) (month_first k) (month_days k) 1 (omega (arith, r.0)) r.1 (omega arith)))

-- a month has fewer than 32 days in its set
pub count_small : (f : Rule) (k : ℕ) → day_count f k < 32
unfolding day_count
count_small f k = omega (arith, count_at_most (in_set f) (month_days k) (month_first k), days_at_most k)

-- past the window no month has a day
packed_none : (g : ℕ → ℕ) (n i : ℕ) → ((j : ℕ) → i ≤ j → g j ≡ 0) → packed g n i ≡ 0
unfolding packed
packed_none g zero i z = refl
packed_none g (suc n) i z = rw (z i (omega arith), packed_none g n (suc i) (λ j h. z j (omega arith)))

count_past : (f : Rule) (k : ℕ) → 1200 ≤ k → day_count f k ≡ 0
unfolding day_count
count_past f k h = rw (past_window k h) refl

none_outer : {c : ℕ} → c ≡ 0 → (b : Bool) → cond b c 0 ≡ 0
none_outer e true = e
none_outer e false = refl

pub no_counts : (l : List ℕ) (y : ℕ) → 100 ≤ y → 0 ≡ year_counts l y
unfolding year_counts reached
no_counts l y h = sym (by_placed (year_placed l))
  where
    by_placed : (b : Bool) → cond b (reached (rule_of l) y) 0 ≡ 0
    by_placed true =
        let c : ℕ → ℕ = day_count (rule_of l) in
        let a : ℕ = reach c (rule_of l).positions.front 12 (12 * y) in
        let b : ℕ = reach_back c (rule_of l).positions.back 12 (12 * y) in
        packed_none (outer c (12 * y) a b) 12 (12 * y)
        (λ j g. none_outer (count_past (rule_of l) j (omega arith)) (ltb j (12 * y + a) || leb (12 * y + 12) (j + b)))
    by_placed false = refl

-- the counts of a frame whose positions go by them, and of any other
module _ (l : List ℕ) where
  pub counts_placed : (y : ℕ) → is_kind rule_kind l ≡ true → is_yearly (rule_of l) ≡ true → no_limit (rule_of l).positions ≡ false
      → year_counts l y ≡ reached (rule_of l) y
  unfolding year_counts year_placed
  counts_placed y p q r = rw (p, q, r) refl

  pub counts_same : (y z : ℕ) → (year_placed l ≡ true → y ≡ z) → year_counts l y ≡ year_counts l z
  unfolding year_counts
  counts_same y z e = by_placed (year_placed l) refl
    where
      by_placed : (b : Bool) → year_placed l ≡ b
          → cond (year_placed l) (reached (rule_of l) y) 0 ≡ cond (year_placed l) (reached (rule_of l) z) 0
      by_placed true t = rw (e t)
      by_placed false t = rw t refl

-- the counts of months that follow each other add up
pub months_counted : (f : Rule) (m k : ℕ) → k + m ≤ 1200
    → sum_from (day_count f) m k ≡ count_from (in_set f) (month_first (k + m) - month_first k) (month_first k)
unfolding sum_from day_count
months_counted f zero k h =
    let e : k + 0 ≡ k = omega arith in
    let z : month_first k - month_first k ≡ 0 = omega arith in
    rw (e, z) refl
months_counted f (suc m) k h =
    let e = month_first_next k (omega arith) in
    let s : k + 1 ≡ suc k = omega arith in
    let a : k + suc m ≡ suc k + m = omega arith in
    let r = month_first_mono (suc k) (suc k + m) (omega arith) (omega arith) in
    let w : month_first (suc k + m) - month_first k ≡ month_days k + (month_first (suc k + m) - month_first (suc k)) =
    omega (arith, e, r, ap month_first s) in
    let n : month_first k + month_days k ≡ month_first (suc k) = omega (arith, e, ap month_first s) in
    rw (months_counted f m (suc k) (omega arith), a, w, count_parts (in_set f) (month_days k) (month_first (suc k + m) - month_first (suc k)) (month_first k), n)

-- ---- months that a mask of places can reach
sum_same : (g h : ℕ → ℕ) (n i : ℕ) → ((j : ℕ) → i ≤ j → j < i + n → g j ≡ h j) → sum_from g n i ≡ sum_from h n i
unfolding sum_from
sum_same g h zero i e = refl
sum_same g h (suc n) i e = rw (e i (omega arith) (omega arith), sum_same g h n (suc i) (λ j a b. e j (omega arith) (omega arith)))

sum_parts : (g : ℕ → ℕ) (m n i : ℕ) → sum_from g (m + n) i ≡ sum_from g m i + sum_from g n (i + m)
unfolding sum_from
sum_parts g zero n i = let e : i + 0 ≡ i = omega arith in rw (zero-add n, e) (sym (zero-add (sum_from g n i)))
sum_parts g (suc m) n i =
    let e : suc m + n ≡ suc (m + n) = omega arith in
    let f : i + suc m ≡ suc i + m = omega arith in
    rw (e, f, sum_parts g m n (suc i)) (sym (add_assoc (g i) (sum_from g m (suc i)) (sum_from g n (suc i + m))))

-- a mask's places past some days, and past more
past_more : (mask a b : ℕ) → mask / 2 ^ (a + b) ≡ mask / 2 ^ a / 2 ^ b
past_more mask a b = rw (pow-add 2 a b) (sym (div-div-eq-div-mul mask (2 ^ a) (2 ^ b)))

none_past : (mask a x : ℕ) → a ≤ x → mask / 2 ^ a < 2 → mask / 2 ^ x < 2
none_past mask a x h l =
    let e : x ≡ a + (x - a) = omega arith in
    let s : mask / 2 ^ x ≡ mask / 2 ^ a / 2 ^ (x - a) = ap (λ (n : ℕ). mask / 2 ^ n) e ∙ past_more mask a (x - a) in
    omega (arith, s, div-le_self (mask / 2 ^ a) (2 ^ (x - a)))

no_sum : (g : ℕ → ℕ) (i : ℕ) → sum_from g 0 i ≡ 0
unfolding sum_from
no_sum g i = refl

one_more_lem : (b : Bool) (r n : ℕ) → r ≤ n → cond b 0 (suc r) ≤ suc n
one_more_lem true r n h = omega arith
one_more_lem false r n h = omega arith

pub reach_most : (g : ℕ → ℕ) (mask n i : ℕ) → reach g mask n i ≤ n
unfolding reach
reach_most g mask zero i = omega arith
reach_most g mask (suc n) i = one_more_lem (ltb mask 2) (reach g (mask / 2 ^ g i) n (suc i)) n (reach_most g (mask / 2 ^ g i) n (suc i))

-- past the months that it reaches, no place is left
reach_ends : (g : ℕ → ℕ) (mask n i : ℕ) → reach g mask n i < n → mask / 2 ^ sum_from g (reach g mask n i) i < 2
unfolding reach sum_from
reach_ends g mask zero i h = absurd (omega arith)
reach_ends g mask (suc n) i h = by_mask (ltb mask 2) refl (reach_ends g (mask / 2 ^ g i) n (suc i)) h
  where
    by_mask : (b : Bool) → ltb mask 2 ≡ b
        → (reach g (mask / 2 ^ g i) n (suc i) < n → mask / 2 ^ g i / 2 ^ sum_from g (reach g (mask / 2 ^ g i) n (suc i)) (suc i) < 2)
        → cond b 0 (suc (reach g (mask / 2 ^ g i) n (suc i))) < suc n
        → mask / 2 ^ sum_from g (cond b 0 (suc (reach g (mask / 2 ^ g i) n (suc i)))) i < 2
    by_mask true e r l = omega (arith, ltb-true mask 2 e)
    by_mask false e r l = rw (past_more mask (g i) (sum_from g (reach g (mask / 2 ^ g i) n (suc i)) (suc i))) (r (omega arith))

pub back_most : (g : ℕ → ℕ) (mask n first : ℕ) → reach_back g mask n first ≤ n
unfolding reach_back
back_most g mask zero first = omega arith
back_most g mask (suc n) first =
    one_more_lem (ltb mask 2) (reach_back g (mask / 2 ^ g (first + n)) n first) n (back_most g (mask / 2 ^ g (first + n)) n first)

last_sum : (g : ℕ → ℕ) (r n first : ℕ) → r ≤ n → sum_from g (suc r) (first + suc n - suc r) ≡ g (first + n) + sum_from g r (first + n - r)
unfolding sum_from
last_sum g r n first h =
    let i : first + suc n - suc r ≡ first + n - r = omega arith in
    let o : suc r ≡ r + 1 = omega arith in
    let z : first + n - r + r ≡ first + n = omega arith in
    ap (sum_from g (suc r)) i
    ∙ ap (λ (x : ℕ). sum_from g x (first + n - r)) o
    ∙ sum_parts g r 1 (first + n - r)
    ∙ rw z (omega arith)

back_ends : (g : ℕ → ℕ) (mask n first : ℕ) → reach_back g mask n first < n
    → mask / 2 ^ sum_from g (reach_back g mask n first) (first + n - reach_back g mask n first) < 2
unfolding reach_back
back_ends g mask zero first h = absurd (omega arith)
back_ends g mask (suc n) first h =
    by_mask (ltb mask 2) refl (back_ends g (mask / 2 ^ g (first + n)) n first) (back_most g (mask / 2 ^ g (first + n)) n first) h
  where
    by_mask : (b : Bool) → ltb mask 2 ≡ b
        → (reach_back g (mask / 2 ^ g (first + n)) n first < n
        → mask / 2 ^ g (first + n) / 2 ^ sum_from g (reach_back g (mask / 2 ^ g (first + n)) n first) (first + n - reach_back g (mask / 2 ^ g (first + n)) n first) < 2)
        → reach_back g (mask / 2 ^ g (first + n)) n first ≤ n
        → cond b 0 (suc (reach_back g (mask / 2 ^ g (first + n)) n first)) < suc n
        → mask / 2 ^ sum_from g (cond b 0 (suc (reach_back g (mask / 2 ^ g (first + n)) n first))) (first + suc n - cond b 0 (suc (reach_back g (mask / 2 ^ g (first + n)) n first))) < 2
    by_mask true e s m l = rw (no_sum g (first + suc n - 0)) (omega (arith, ltb-true mask 2 e))
    by_mask false e s m l =
        let r : ℕ = reach_back g (mask / 2 ^ g (first + n)) n first in
        rw (last_sum g r n first m, past_more mask (g (first + n)) (sum_from g r (first + n - r))) (s (omega arith))

-- a place up to c is left exactly where it is one of the positions
pub left_bit : (mask others c p : ℕ) → p ≤ c → bit (left_of mask others c) p ≡ bit mask (others + p)
left_bit mask others c p h = bit_of_rest (mask / 2 ^ others) (c + 1) p (omega arith) ∙ bit_of_quotient mask others p

-- where none of the places past a are left, none past x is
no_place : (mask a x p : ℕ) → a ≤ x → mask / 2 ^ a < 2 → 1 ≤ p → bit mask (x + p) ≡ false
no_place mask a x p h l o = sym (bit_of_quotient mask x p) ∙ bit_above (mask / 2 ^ x) 1 p (none_past mask a x h l) o

no_place_left : (mask a x c p : ℕ) → a ≤ x → mask / 2 ^ a < 2 → 1 ≤ p → bit (left_of mask x c) p ≡ false
no_place_left mask a x c p h l o =
    bit_above (left_of mask x c) 1 p (omega (arith, none_past mask a x h l, mod-le (mask / 2 ^ x) (2 ^ (c + 1)))) o

-- ---- counts taken up month by month
pub packed_same : (g h : ℕ → ℕ) (n i : ℕ) → ((j : ℕ) → i ≤ j → j < i + n → g j ≡ h j) → packed g n i ≡ packed h n i
unfolding packed
packed_same g h zero i e = refl
packed_same g h (suc n) i e = rw (e i (omega arith) (omega arith), packed_same g h n (suc i) (λ j a b. e j (omega arith) (omega arith)))

-- one more count, in place of 0
module _ (g h : ℕ → ℕ) (j : ℕ) (none : g j ≡ 0) (others : (k : ℕ) → (k ≡ j → ⊥) → h k ≡ g k) where
  packed_more : (n i : ℕ) → i ≤ j → j < i + n → packed h n i ≡ packed g n i + h j * 32 ^ (j - i)
  unfolding packed
  packed_more zero i l u = absurd (omega arith)
  packed_more (suc n) i l u =
      dite (dec_lt i j)
      (λ (b : i < j).
      let d : j - i ≡ suc (j - suc i) = omega arith in
      let r = packed_more n (suc i) (omega arith) (omega arith) in
      let q : h j * (32 * 32 ^ (j - suc i)) ≡ 32 * (h j * 32 ^ (j - suc i)) = mul_left_comm (h j) 32 (32 ^ (j - suc i)) in
      rw (others i (λ e. omega (arith, e)), d, pow-succ' 32 (j - suc i), q) (omega (arith, r)))
      (λ (b : i < j → ⊥).
      let e : i ≡ j = omega arith in
      let d : j - j ≡ 0 = omega arith in
      rw (e, d, none, packed_same h g n (suc j) (λ k a c. others k (λ x. omega (arith, x)))) (omega arith))

module _ (g : ℕ → ℕ) (first a b : ℕ) where
  outer_in : (i : ℕ) → i < first + a → outer g first a b i ≡ g i
  outer_in i l = rw (lt-ltb i (first + a) l) refl

  outer_end : (i : ℕ) → first + 12 ≤ i + b → outer g first a b i ≡ g i
  outer_end i l = rw (le-leb (first + 12) (i + b) l, or-true (ltb i (first + a))) refl

  outer_mid : (i : ℕ) → first + a ≤ i → i + b < first + 12 → outer g first a b i ≡ 0
  outer_mid i l u = rw (le-ltb i (first + a) l, lt-leb (first + 12) (i + b) u) refl

past : (k x : ℕ) → x ≤ k → (k ≡ x → ⊥) → x + 1 ≤ k
past k x l n = omega arith

pub more_in_front : (g : ℕ → ℕ) (first m : ℕ) → m < 12
    → packed (outer g first (m + 1) 0) 12 first ≡ packed (outer g first m 0) 12 first + g (first + m) * 32 ^ m
more_in_front g first m h =
    let d : first + m - first ≡ m = omega arith in
    let r =
    packed_more (outer g first m 0) (outer g first (m + 1) 0) (first + m) (outer_mid g first m 0 (first + m) (omega arith) (omega arith))
    (λ k n.
    dite (dec_lt k (first + m)) (λ (l : k < first + m). outer_in g first (m + 1) 0 k (omega arith) ∙ sym (outer_in g first m 0 k l))
    (λ (l : k < first + m → ⊥).
    dite (dec_lt k (first + 12))
    (λ (u : k < first + 12).
    outer_mid g first (m + 1) 0 k (omega (arith, past k (first + m) (omega arith) n)) (omega arith) ∙ sym (outer_mid g first m 0 k (omega arith) (omega arith)))
    (λ (u : k < first + 12 → ⊥). outer_end g first (m + 1) 0 k (omega arith) ∙ sym (outer_end g first m 0 k (omega arith)))))
    12 first (omega arith) (omega arith) in
    rw (d, outer_in g first (m + 1) 0 (first + m) (omega arith)) at r

pub more_in_back : (g : ℕ → ℕ) (first a m : ℕ) → a ≤ m → m < 12
    → packed (outer g first a (12 - m)) 12 first ≡ packed (outer g first a (12 - (m + 1))) 12 first + g (first + m) * 32 ^ m
more_in_back g first a m l h =
    let d : first + m - first ≡ m = omega arith in
    let old : ℕ → ℕ = outer g first a (12 - (m + 1)) in
    let new : ℕ → ℕ = outer g first a (12 - m) in
    let r =
    packed_more old new (first + m) (outer_mid g first a (12 - (m + 1)) (first + m) (omega arith) (omega arith))
    (λ k n.
    dite (dec_lt k (first + a)) (λ (i : k < first + a). outer_in g first a (12 - m) k i ∙ sym (outer_in g first a (12 - (m + 1)) k i))
    (λ (i : k < first + a → ⊥).
    dite (dec_lt k (first + m))
    (λ (u : k < first + m).
    outer_mid g first a (12 - m) k (omega arith) (omega arith) ∙ sym (outer_mid g first a (12 - (m + 1)) k (omega arith) (omega arith)))
    (λ (u : k < first + m → ⊥).
    let p = past k (first + m) (omega arith) n in
    outer_end g first a (12 - m) k (omega arith) ∙ sym (outer_end g first a (12 - (m + 1)) k (omega arith)))))
    12 first (omega arith) (omega arith) in
    rw (d, outer_end g first a (12 - m) (first + m) (omega arith)) at r

-- all of the months
pub all_months : (g : ℕ → ℕ) (first a b c : ℕ) → 12 ≤ a + b → 12 ≤ a + c → packed (outer g first a b) 12 first ≡ packed (outer g first a c) 12 first
all_months g first a b c u v =
    packed_same (outer g first a b) (outer g first a c) 12 first
    (λ j l h.
    dite (dec_lt j (first + a)) (λ (i : j < first + a). outer_in g first a b j i ∙ sym (outer_in g first a c j i))
    (λ (i : j < first + a → ⊥). outer_end g first a b j (omega arith) ∙ sym (outer_end g first a c j (omega arith))))

-- a step further, and no further
module _ (g : ℕ → ℕ) (left : ℕ) where
  pub reach_on : (m i : ℕ) → m < 12 → 2 ≤ left → reach g left (12 - m) i ≡ 1 + reach g (left / 2 ^ g i) (12 - (m + 1)) (i + 1)
  unfolding reach
  reach_on m i h l =
      let n : 12 - m ≡ suc (12 - (m + 1)) = omega arith in
      let s : i + 1 ≡ suc i = omega arith in
      rw (n, le-ltb left 2 l, s) (omega arith)

  pub reach_stops : (n i : ℕ) → left < 2 → reach g left n i ≡ 0
  unfolding reach
  reach_stops zero i l = refl
  reach_stops (suc n) i l = rw (lt-ltb left 2 l) refl

  pub back_on : (m first : ℕ) → 2 ≤ left → reach_back g left (m + 1) first ≡ 1 + reach_back g (left / 2 ^ g (first + m)) m first
  unfolding reach_back
  back_on m first l = let s : m + 1 ≡ suc m = omega arith in rw (s, le-ltb left 2 l) (omega arith)

  pub back_stops : (n first : ℕ) → left < 2 → reach_back g left n first ≡ 0
  unfolding reach_back
  back_stops zero first l = refl
  back_stops (suc n) first l = rw (lt-ltb left 2 l) refl

  pub reach_none : (m i : ℕ) → 12 ≤ m → reach g left (12 - m) i ≡ 0
  unfolding reach
  reach_none m i h = let n : 12 - m ≡ 0 = omega arith in rw n refl

pub no_months : (g : ℕ → ℕ) (first : ℕ) → 0 ≡ packed (outer g first 0 0) 12 first
no_months g first =
    sym (packed_same (outer g first 0 0) (λ _. 0) 12 first (λ j l h. outer_mid g first 0 0 j (omega arith) (omega arith)) ∙ packed_none (λ _. 0) 12 first (λ j h. refl))

-- a count in its five bits, and twelve of them
pub shifted_count : (c m : ℕ) → c < 32 → m < 12 → c * 2 ^ (5 * m) % 2 ^ 64 ≡ c * 32 ^ m
shifted_count c m l h =
    let top : 32 ^ m ≤ 32 ^ 11 = pow-le-pow_right {n = 32} (omega arith) {i = m} {j = 11} (omega arith) in
    let b : c * 32 ^ m ≤ 31 * 32 ^ m = mul-le-mul_right (32 ^ m) (omega arith) in
    rw (five_bits m) (mod-eq_of_lt (omega arith))

outer_small : (g : ℕ → ℕ) → ((j : ℕ) → g j < 32) → (first a b j : ℕ) → outer g first a b j < 32
outer_small g small first a b j = by_bool (ltb j (first + a) || leb (first + 12) (j + b)) (small j)
  where
    by_bool : (c : Bool) {x : ℕ} → x < 32 → cond c x 0 < 32
    by_bool true l = l
    by_bool false l = omega arith

pub outer_below : (g : ℕ → ℕ) → ((j : ℕ) → g j < 32) → (first a b : ℕ) → packed (outer g first a b) 12 first < 1152921504606846976
outer_below g small first a b = packed_below (outer g first a b) (outer_small g small first a b) 12 first

-- ---- places by the counts that are reached
module _ (g : ℕ → ℕ) (small : (j : ℕ) → g j < 32) (first front back m : ℕ) (h : m < 12) where
  abbrev a : ℕ
  a = reach g front 12 first

  abbrev b : ℕ
  b = reach_back g back 12 first

  abbrev e : ℕ → ℕ
  e = outer g first a b

  few : (j : ℕ) → e j < 32
  few = outer_small g small first a b

  abbrev counts_of : ℕ
  counts_of = packed e 12 first

  before_is : packed_sum m counts_of ≡ sum_from e m first
  before_is = packed_sum_lem e few m 12 first (omega arith)

  rest_is : counts_of / 32 ^ m ≡ packed e (12 - m) (first + m)
  rest_is = packed_rest e few m 12 first (omega arith)

  here_is : counts_of / 32 ^ m % 32 ≡ e (first + m)
  here_is = let l : 12 - m ≡ suc (11 - m) = omega arith in rw (rest_is, l) (packed_first e few (11 - m) (first + m))

  after_is : packed_sum (11 - m) (counts_of / 32 ^ (m + 1)) ≡ sum_from e (11 - m) (first + (m + 1))
  after_is =
      let l : 12 - (m + 1) ≡ 11 - m = omega arith in
      rw (packed_rest e few (m + 1) 12 first (omega arith), l) (packed_sum_lem e few (11 - m) (11 - m) (first + (m + 1)) (omega arith))

  -- a place in the year from the front: `p` is the place in the month
  pub front_place : (p : ℕ) → 1 ≤ p → p ≤ g (first + m) → bit (left_of front (packed_sum m counts_of) (counts_of / 32 ^ m % 32)) p ≡ bit front (sum_from g m first + p)
  front_place p o l =
      dite (dec_lt m a)
      (λ (i : m < a).
      rw (before_is, sum_same e g m first (λ j u v. outer_in g first a b j (omega arith)), here_is, outer_in g first a b (first + m) (omega arith))
      (left_bit front (sum_from g m first) (g (first + m)) p l))
      (λ (i : m < a → ⊥).
      let s : sum_from e a first ≡ sum_from g a first = sum_same e g a first (λ j u v. outer_in g first a b j v) in
      let r = reach_ends g front 12 first (omega arith) in
      let x : m ≡ a + (m - a) = omega arith in
      let y : sum_from e m first ≡ sum_from e a first + sum_from e (m - a) (first + a) = ap (λ (n : ℕ). sum_from e n first) x ∙ sum_parts e a (m - a) first in
      let z : sum_from g m first ≡ sum_from g a first + sum_from g (m - a) (first + a) = ap (λ (n : ℕ). sum_from g n first) x ∙ sum_parts g a (m - a) first in
      rw before_is (no_place_left front (sum_from g a first) (sum_from e m first) _ p (omega (arith, s, y)) r o)
      ∙ sym (no_place front (sum_from g a first) (sum_from g m first) p (omega (arith, z)) r o))

  -- and from the end
  pub back_place : (p : ℕ) → 1 ≤ p → p ≤ g (first + m)
      → bit (left_of back (packed_sum (11 - m) (counts_of / 32 ^ (m + 1))) (counts_of / 32 ^ m % 32)) p ≡ bit back (sum_from g (11 - m) (first + (m + 1)) + p)
  back_place p o l =
      dite (dec_lt (m + b) 12)
      (λ (i : m + b < 12).
      let t : ℕ = first + 12 - b in
      let n : ℕ = 12 - b - (m + 1) in
      let r = back_ends g back 12 first (omega arith) in
      let x : 11 - m ≡ n + b = omega arith in
      let w : first + (m + 1) + n ≡ t = omega arith in
      let s : sum_from e b t ≡ sum_from g b t = sum_same e g b t (λ j u v. outer_end g first a b j (omega arith)) in
      let y : sum_from e (11 - m) (first + (m + 1)) ≡ sum_from e n (first + (m + 1)) + sum_from e b t =
      ap (λ (k : ℕ). sum_from e k (first + (m + 1))) x ∙ sum_parts e n b (first + (m + 1)) ∙ rw w refl in
      let z : sum_from g (11 - m) (first + (m + 1)) ≡ sum_from g n (first + (m + 1)) + sum_from g b t =
      ap (λ (k : ℕ). sum_from g k (first + (m + 1))) x ∙ sum_parts g n b (first + (m + 1)) ∙ rw w refl in
      rw after_is (no_place_left back (sum_from g b t) (sum_from e (11 - m) (first + (m + 1))) _ p (omega (arith, s, y)) r o)
      ∙ sym (no_place back (sum_from g b t) (sum_from g (11 - m) (first + (m + 1))) p (omega (arith, z)) r o))
      (λ (i : m + b < 12 → ⊥).
      rw (after_is, sum_same e g (11 - m) (first + (m + 1)) (λ j u v. outer_end g first a b j (omega arith)), here_is, outer_end g first a b (first + m) (omega arith))
      (left_bit back (sum_from g (11 - m) (first + (m + 1))) (g (first + m)) p l))

-- a day's places in its month's set, from 1 to the days of the set
record Places (f : Rule) (k n : ℕ) : Type 0 where
  front_low : 1 ≤ bits_below (days_in f k) (n + 1)
  front_high : bits_below (days_in f k) (n + 1) ≤ day_count f k
  back_low : 1 ≤ bits_from (days_in f k) n
  back_high : bits_from (days_in f k) n ≤ day_count f k

places_in : (f : Rule) (k n : ℕ) → InMonth k n → in_set f (day_of k n) ≡ true → Places f k n
places_in f k n i t =
    let s : ℕ = days_in f k in
    let short : n ≤ 31 = omega (arith, i.high, days_at_most k) in
    let c = count_of_set f k i.month in
    let e : bit s n ≡ true = month_bit (λ j. in_set f (day_of k j)) k n i ∙ t in
    let p : bits_below s (n + 1) ≡ bits_below s n + 1 = bits_below_next s n (omega arith) ∙ rw e refl in
    let u = bits_in_two s n (omega arith) in
    let v = bits_in_two s (n + 1) (omega arith) in
    record {
      front_low = omega (arith, p);
      front_high = omega (arith, v, c);
      back_low = omega (arith, p, u, v);
      back_high = omega (arith, u, c);
    }

-- a day's place in the period by its place in the month
module _ (f : Rule) (k n counts : ℕ) (i : InMonth k n)
    (year : is_yearly f ≡ true → no_limit f.positions ≡ false → counts ≡ reached f (k / 12)) where
  abbrev first : ℕ
  first = 12 * (k / 12)

  abbrev Wanted : Type 0
  Wanted =
      (bit f.positions.front (count_from (in_set f) (day_of k n + 1 - set_first f k) (set_first f k)) || bit f.positions.back (count_from (in_set f) (set_past f k - day_of k n) (day_of k n)))
      ≡ (bit (positions_in f counts k).front (bits_below (days_in f k) (n + 1)) || bit (positions_in f counts k).back (bits_from (days_in f k) n))

  by_year : no_limit f.positions ≡ false → is_yearly f ≡ true → Places f k n → Wanted
  unfolding positions_in reached
  by_year l e p =
      let y = year e l in
      let m : first + k % 12 ≡ k = omega arith in
      let o : first + (k % 12 + 1) ≡ k + 1 = omega arith in
      let w : k + 1 + (11 - k % 12) ≡ first + 12 = omega arith in
      let before = rw m at (months_counted f (k % 12) first (omega (arith, i.month))) in
      let after = rw w at (months_counted f (11 - k % 12) (k + 1) (omega (arith, i.month))) in
      let fp = front_place (day_count f) (count_small f) first f.positions.front f.positions.back (k % 12) (omega arith) (bits_below (days_in f k) (n + 1)) p.front_low (rw m p.front_high) in
      let bp = rw o at (back_place (day_count f) (count_small f) first f.positions.front f.positions.back (k % 12) (omega arith) (bits_from (days_in f k) n) p.back_low (rw m p.back_high)) in
      rw (
        e,
        counted_front (in_set f) k n first (first + 12) i (omega arith) (omega arith) (omega (arith, i.month)),
        counted_back (in_set f) k n first (first + 12) i (omega arith) (omega arith) (omega (arith, i.month)),
        ← before,
        ← after,
        y,
      )
      (ap₂ ◌||◌ (sym fp) (sym bp))

  by_month_lem : is_yearly f ≡ false → Wanted
  unfolding positions_in
  by_month_lem e =
      let z : month_first k - month_first k ≡ 0 = omega arith in
      let w : month_first (k + 1) - month_first (k + 1) ≡ 0 = omega arith in
      rw (
        e,
        counted_front (in_set f) k n k (k + 1) i (omega arith) (omega arith) (omega (arith, i.month)),
        counted_back (in_set f) k n k (k + 1) i (omega arith) (omega arith) (omega (arith, i.month)),
        z,
        w,
        zero-add (bits_below (days_in f k) (n + 1)),
        zero-add (bits_from (days_in f k) n),
      )

  by_period : no_limit f.positions ≡ false → Places f k n → (b : Bool) → is_yearly f ≡ b → Wanted
  by_period l p true e = by_year l e p
  by_period l p false e = by_month_lem e

  placed_by_bits : no_limit f.positions ≡ false → Places f k n
      → placed f (day_of k n)
      ≡ (bit (positions_in f counts k).front (bits_below (days_in f k) (n + 1)) || bit (positions_in f counts k).back (bits_from (days_in f k) n))
  unfolding placed
  placed_by_bits l p = rw (l, placed) (rw (month_of_day k n i) (by_period l p (is_yearly f) refl))

  picked_day : no_limit f.positions ≡ false → (b : Bool) → in_set f (day_of k n) ≡ b
      → place_wanted (positions_in f counts k) (days_in f k) n ≡ (in_set f (day_of k n) && placed f (day_of k n))
  picked_day l true t = rw (month_bit (λ j. in_set f (day_of k j)) k n i, t, placed_by_bits l (places_in f k n i t))
  picked_day l false t = rw (month_bit (λ j. in_set f (day_of k j)) k n i, t)

  -- what a rule says of a day by the month is what it says of the day
  by_positions : (start : ℕ) (b : Bool) → no_limit f.positions ≡ b
      → rule_part f start counts k n ≡ (month_counts f start k && (in_set f (day_of k n) && placed f (day_of k n)))
  unfolding rule_part placed
  by_positions start true l = rw (l, placed) (rw (and-true (in_set f (day_of k n))))
  by_positions start false l = rw (l, picked_day l (in_set f (day_of k n)) refl)

  pub rule_part_day : (start : ℕ) → rule_part f start counts k n ≡ (month_counts f start k && (in_set f (day_of k n) && placed f (day_of k n)))
  rule_part_day start = by_positions start (no_limit f.positions) refl

-- a daily frame without positions has its whole day set in every month
counts_all : (f : Rule) (k : ℕ) → is_daily f ≡ true → month_counts f 0 k ≡ true
unfolding month_counts
counts_all f k e = rw e refl

pub bare_set : (l : List ℕ) → Bare l → (k : ℕ) → month_set l 0 0 k ≡ days_in (rule_of l) k
unfolding month_set month_part rule_part
bare_set l b k =
    let c : is_kind cron_kind l ≡ false = ne_eqb (kind_in l) cron_kind (λ e. omega (arith, e, eqb-true (kind_in l) rule_kind b.kind)) in
    month_same _ _ k _ refl (λ n i. rw (c, b.kind, counts_all (rule_of l) k b.daily, b.free) refl)

-- and it is that of the frame itself
module _ (l : List ℕ) where
  kept : (i : ℕ) → (i ≡ 1 → ⊥) → (i ≡ 10 → ⊥) → (i ≡ 11 → ⊥) → get_or (bared l) i 0 ≡ get_or l i 0
  unfolding bared
  kept i a b c =
      get_or-set_other (set (set l 1 daily_number) 10 0) 11 i 0 0 c ∙ get_or-set_other (set l 1 daily_number) 10 i 0 0 b ∙ get_or-set_other l 1 i daily_number 0 a

  same_days : (d : ℕ) → in_set (rule_of (bared l)) d ≡ in_set (rule_of l) d
  unfolding in_set month_day_allowed weekday_allowed
  same_days d =
      rw (
        kept 12 (λ e. omega (arith, e)) (λ e. omega (arith, e)) (λ e. omega (arith, e)),
        kept 6 (λ e. omega (arith, e)) (λ e. omega (arith, e)) (λ e. omega (arith, e)),
        kept 7 (λ e. omega (arith, e)) (λ e. omega (arith, e)) (λ e. omega (arith, e)),
        kept 5 (λ e. omega (arith, e)) (λ e. omega (arith, e)) (λ e. omega (arith, e)),
        kept 8 (λ e. omega (arith, e)) (λ e. omega (arith, e)) (λ e. omega (arith, e)),
        kept 9 (λ e. omega (arith, e)) (λ e. omega (arith, e)) (λ e. omega (arith, e)),
      )

  pub bare_counts : day_count (rule_of (bared l)) ≡ day_count (rule_of l)
  unfolding day_count
  bare_counts = fun_ext (λ k. count_same (in_set (rule_of (bared l))) (in_set (rule_of l)) (month_days k) (month_first k) (λ j a b. same_days j))

  pub bared_is : length (bared l) ≡ row_numbers → is_kind rule_kind l ≡ true → Bare (bared l)
  unfolding bared
  bared_is long q =
      let n : length l ≡ row_numbers = simp length-set at long in
      let m = length-set l 1 daily_number in
      let o = length-set (set l 1 daily_number) 10 0 in
      record {
        kind = rw (kept 0 (λ e. omega (arith, e)) (λ e. omega (arith, e)) (λ e. omega (arith, e))) q;
        daily = eq-eqb _ daily_number
            (get_or-set_other (set (set l 1 daily_number) 10 0) 11 1 0 0 (λ e. omega (arith, e))
            ∙ get_or-set_other (set l 1 daily_number) 10 1 0 0 (λ e. omega (arith, e))
            ∙ get_or-set_same l 1 daily_number 0 (omega (arith, n)));
        free = rw (
          get_or-set_other (set (set l 1 daily_number) 10 0) 11 10 0 0 (λ e. omega (arith, e)) ∙ get_or-set_same (set l 1 daily_number) 10 0 0 (omega (arith, n)),
          get_or-set_same (set (set l 1 daily_number) 10 0) 11 0 0 (omega (arith, n)),
        )
            refl;
      }

-- places count from 1: where no higher bit is left, no day is picked
module _ (positions : Ends) (s n : ℕ) (front : positions.front < 2) (back : positions.back < 2) (h : n ≤ 31) where
  by_bit : (b : Bool) → bit s n ≡ b → place_wanted positions s n ≡ false
  by_bit false e = rw e refl
  by_bit true e =
      let p : bits_below s (n + 1) ≡ bits_below s n + 1 = bits_below_next s n (omega arith) ∙ rw e refl in
      let a = bits_in_two s n (omega arith) in
      let b = bits_in_two s (n + 1) (omega arith) in
      rw (
        bit_above positions.front 1 (bits_below s (n + 1)) front (omega (arith, p)),
        bit_above positions.back 1 (bits_from s n) back (omega (arith, p)),
      )
      (and-false (bit s n))

  none_wanted : place_wanted positions s n ≡ false
  none_wanted = by_bit (bit s n) refl

-- as where no day of a month was counted
pub none_counted_placed : (f : Rule) (counts k : ℕ) → none_counted f counts k ≡ true
    → (ltb (positions_in f counts k).front 2 && ltb (positions_in f counts k).back 2) ≡ true
unfolding none_counted positions_in
none_counted_placed f counts k e =
    let p = both_true (is_yearly f) _ e in
    let z : counts / 32 ^ (k % 12) % 32 ≡ 0 = eqb-true _ 0 p.1 in
    rw (p.0, z)
    (both
    (lt-ltb (f.positions.front / 2 ^ packed_sum (k % 12) counts % 2) 2 (omega arith))
    (lt-ltb (f.positions.back / 2 ^ packed_sum (11 - k % 12) (counts / 32 ^ (k % 12 + 1)) % 2) 2 (omega arith)))

-- so where a month has none of the positions, no day of it is picked
pub none_placed_lem : (f : Rule) (start counts k n : ℕ) → none_placed f counts k ≡ true → n ≤ 31 → rule_part f start counts k n ≡ false
unfolding none_placed rule_part
none_placed_lem f start counts k n e h =
    let p = both_true (not (no_limit f.positions)) _ e in
    let q = both_true (ltb (positions_in f counts k).front 2) _ p.1 in
    let w = none_wanted (positions_in f counts k) (days_in f k) n (ltb-true _ _ q.0) (ltb-true _ _ q.1) h in
    simp (not-true (no_limit f.positions) p.0, w, and-false)
