-- A day's place in its month's day set, counted over days and over the bits of the set.
use mathlib.Core.Bool.{Bool, true, false, ◌&&◌, ◌||◌}
use mathlib.Core.Path.{◌≡◌, refl, sym, ap, ◌∙◌}
use Prim.Native.Nat.{ℕ, zero, suc, ◌+◌, ◌-◌, ◌^◌, ◌<◌, ◌≤◌, min}
use native.Mathlib.Nat.{add-suc, add_comm}
use native.Mathlib.Omega.{arith}
use Rattle.calendar.proofs.Windows.{month_days_range, month_first_next, month_first_mono}
use Rattle.calendar.specs.Below.{count_from}
use Rattle.calendar.specs.Window.{month_first, month_days}
use Rattle.masks.proofs.Bits.{bit_above}
use Rattle.masks.proofs.Counts.{count_same, count_at_most, count_parts, bits_below_next, bits_in_two}
use Rattle.masks.proofs.MaskFroms.{bit_in_mask, bit_below_mask, bit_above_mask}
use Rattle.masks.specs.Masks.{bit, mask_from, bits_from, bits_below}
use Rattle.frames.specs.Months.{day_of, InMonth, place_wanted}
use Rattle.frames.specs.declared.Ends.{Ends}

-- days counted from a month's first on, and by their day of month from 1 on
days_counted : (t : ℕ → Bool) (base c e : ℕ) → count_from (λ j. t (base + (j - 1))) c (suc e) ≡ count_from t c (base + e)
days_counted t base zero e = refl
days_counted t base (suc c) e =
    let g : suc e - 1 ≡ e = omega arith in
    rw (g, days_counted t base c (suc e), add-suc base e)

pub none_counted_lem : (t : ℕ → Bool) (c i : ℕ) → ((j : ℕ) → i ≤ j → j < i + c → t j ≡ false) → count_from t c i ≡ 0
none_counted_lem t zero i f = refl
none_counted_lem t (suc c) i f = rw (f i (omega arith) (omega arith), none_counted_lem t c (suc i) (λ j h u. f j (omega arith) (omega arith)))

module _ (t : ℕ → Bool) (base len n : ℕ) (h : n ≤ len) (short : len ≤ 31) where
  unfoldable pub set : ℕ
  set = mask_from (λ j. t (base + (j - 1))) len 1

  bits_counted : (c e : ℕ) → e + c ≤ len → count_from (bit set) c (suc e) ≡ count_from t c (base + e)
  unfolding set
  bits_counted c e b =
      count_same (bit set) (λ j. t (base + (j - 1))) c (suc e)
      (λ j l g. bit_in_mask (λ i. t (base + (i - 1))) len 1 j (omega arith) (omega arith))
      ∙ days_counted t base c e

  -- a place from the front: the days of the set up to day n
  pub place_front : count_from t n base ≡ bits_below set (n + 1)
  unfolding set bits_below
  place_front =
      let e : min (n + 1) 64 ≡ suc n = omega arith in
      let b : base + 0 ≡ base = omega arith in
      let z : bit (mask_from (λ j. t (base + (j - 1))) len 1) 0 ≡ false = bit_below_mask (λ j. t (base + (j - 1))) len 1 0 (omega arith) in
      let a : count_from (bit (mask_from (λ j. t (base + (j - 1))) len 1)) n 1 ≡ count_from t n base =
      bits_counted n 0 (omega arith) ∙ ap (count_from t n) b in
      rw e (rw z (omega (arith, a)))

  -- and from the end: those from day n on
  pub place_back : 1 ≤ n → count_from t (len + 1 - n) (base + (n - 1)) ≡ bits_from set n
  unfolding set bits_from
  place_back l =
      let e : 64 - n ≡ (len + 1 - n) + (63 - len) = omega arith in
      let g : suc (n - 1) ≡ n = omega arith in
      let z : count_from (bit set) (63 - len) (n + (len + 1 - n)) ≡ 0 =
      none_counted_lem (bit set) (63 - len) (n + (len + 1 - n)) (λ j a b. bit_above_mask (λ i. t (base + (i - 1))) len 1 j (omega arith)) in
      let a : count_from (bit set) (len + 1 - n) (suc (n - 1)) ≡ count_from t (len + 1 - n) (base + (n - 1)) =
      bits_counted (len + 1 - n) (n - 1) (omega arith) in
      let b : count_from (bit set) (len + 1 - n) (suc (n - 1)) ≡ count_from (bit set) (len + 1 - n) n =
      ap (count_from (bit set) (len + 1 - n)) g in
      let c : count_from (bit set) (64 - n) n ≡ count_from (bit set) (len + 1 - n) n + count_from (bit set) (63 - len) (n + (len + 1 - n)) =
      ap (λ (x : ℕ). count_from (bit set) x n) e ∙ count_parts (bit set) (len + 1 - n) (63 - len) n in
      omega (arith, a, b, c, z)

-- a day's places among the days of the months from `low` up to `high`: the days of the other months, and its place in its own
module _ (t : ℕ → Bool) (k n low high : ℕ) (i : InMonth k n) (from : low ≤ k) (to : k < high) (top : high ≤ 1200) where
  short : month_days k ≤ 31
  short = (month_days_range k i.month).1

  abbrev own : ℕ
  own = mask_from (λ j. t (day_of k j)) (month_days k) 1

  pub counted_front : count_from t (day_of k n + 1 - month_first low) (month_first low)
      ≡ count_from t (month_first k - month_first low) (month_first low) + bits_below own (n + 1)
  unfolding set
  counted_front =
      let m = month_first_mono low k from (omega arith) in
      let c : day_of k n + 1 - month_first low ≡ (month_first k - month_first low) + n = omega (arith, i.low) in
      let b : month_first low + (month_first k - month_first low) ≡ month_first k = omega arith in
      ap (λ (x : ℕ). count_from t x (month_first low)) c
      ∙ count_parts t (month_first k - month_first low) n (month_first low)
      ∙ rw (b, place_front t (month_first k) (month_days k) n i.high short)

  pub counted_back : count_from t (month_first high - day_of k n) (day_of k n)
      ≡ count_from t (month_first high - month_first (k + 1)) (month_first (k + 1)) + bits_from own n
  unfolding set
  counted_back =
      let m = month_first_mono (k + 1) high (omega arith) top in
      let e = month_first_next k i.month in
      let c : month_first high - day_of k n ≡ (month_days k + 1 - n) + (month_first high - month_first (k + 1)) = omega (arith, i.low, i.high) in
      let b : day_of k n + (month_days k + 1 - n) ≡ month_first (k + 1) = omega (arith, i.low, i.high) in
      ap (λ (x : ℕ). count_from t x (day_of k n)) c
      ∙ count_parts t (month_days k + 1 - n) (month_first high - month_first (k + 1)) (day_of k n)
      ∙ rw (b, place_back t (month_first k) (month_days k) n i.high short i.low)
      (add_comm (bits_from own n) (count_from t (month_first high - month_first (k + 1)) (month_first (k + 1))))

-- a walk over a set's days: those passed and those left are the places of day n
module _ (s n passed : ℕ) (small : n ≤ 31) (so_far : passed ≡ bits_below s n) where
  pub few_passed : passed ≤ 31
  unfolding bits_below
  few_passed = omega (arith, so_far, count_at_most (bit s) (min n 64) 0)

  pub passed_on : bit s n ≡ true → passed + 1 ≡ bits_below s (n + 1)
  passed_on t = ap (λ (x : ℕ). x + 1) so_far ∙ sym (bits_below_next s n (omega arith) ∙ rw t refl)

  pub passed_by : bit s n ≡ false → passed ≡ bits_below s (n + 1)
  passed_by f = so_far ∙ sym (bits_below_next s n (omega arith) ∙ rw f (omega arith))

-- a set of days 1 to 31 has no more of them
module _ (s len : ℕ) (short : len ≤ 31) where
  few_below : bit s 0 ≡ false → bits_below s (1 + len) ≤ 31
  unfolding bits_below
  few_below z =
      let e : min (1 + len) 64 ≡ suc len = omega arith in
      rw e (rw z (omega (arith, count_at_most (bit s) len 1)))

  none_above : s < 2 ^ (1 + len) → bits_from s (1 + len) ≡ 0
  unfolding bits_from
  none_above below = none_counted_lem (bit s) (64 - (1 + len)) (1 + len) (λ j h u. bit_above s (1 + len) j below h)

  pub few_days : bit s 0 ≡ false → s < 2 ^ (1 + len) → bits_from s 0 ≤ 31
  few_days z below = omega (arith, bits_in_two s (1 + len) (omega arith), few_below z, none_above below)

-- the wanted places, counted from both ends of the set
module _ (positions : Ends) (s all wanted : ℕ) (whole : all ≡ bits_from s 0)
    (both : (p : ℕ) → 1 ≤ p → p ≤ all → bit wanted p ≡ (bit positions.front p || bit positions.back (all + 1 - p))) where
  place_of : (n : ℕ) → n ≤ 31 → (b : Bool) → bit s n ≡ b → (bit s n && bit wanted (bits_below s (n + 1))) ≡ place_wanted positions s n
  place_of n h false f = rw f refl
  place_of n h true t =
      let p : ℕ = bits_below s (n + 1) in
      let g : p ≡ bits_below s n + 1 = bits_below_next s n (omega arith) ∙ rw t refl in
      let a = bits_in_two s n (omega arith) in
      let b = bits_in_two s (n + 1) (omega arith) in
      let e : all + 1 - p ≡ bits_from s n = omega (arith, g, a, whole) in
      rw t (both p (omega (arith, g)) (omega (arith, b, whole)) ∙ ap (λ (x : ℕ). bit positions.front p || bit positions.back x) e)

  pub place_wanted_lem : (n : ℕ) → n ≤ 31 → (bit s n && bit wanted (bits_below s (n + 1))) ≡ place_wanted positions s n
  place_wanted_lem n h = place_of n h (bit s n) refl

pub in_set_lem : (s n : ℕ) (b : Bool) → bit s n ≡ true → (bit s n && b) ≡ b
in_set_lem s n b t = rw t refl

pub not_in_set : (s n : ℕ) (b : Bool) → bit s n ≡ false → (bit s n && b) ≡ false
not_in_set s n b f = rw f refl
