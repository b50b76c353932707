-- Ordinal weekdays: the masks of their bytes, and the seven days that each is counted in.
use mathlib.Core.Bool.{Bool, true, false, ◌&&◌, ◌||◌, and-false, or-false}
use mathlib.Core.Logic.{dite}
use mathlib.Core.Path.{◌≡◌, refl, sym, ap, ap₂, ◌∙◌}
use Prim.Native.Nat.{ℕ, zero, suc, ◌+◌, ◌-◌, ◌*◌, ◌/◌, ◌%◌, ◌^◌, ◌<◌, ◌≤◌}
use native.Mathlib.Decide.{dec_lt}
use native.Mathlib.Omega.{arith}
use borrow.Author.Tests.{lt-ltb, le-ltb, le-leb, lt-leb, eq-eqb, ne_eqb, eqb-true, eqb-false}
use lib.Dec.{T, leb, ltb, eqb}
use lib.Pow.{shl_exact}
use Rattle.calendar.proofs.Every.{decided, regrouped, every}
use Rattle.calendar.specs.Below.{every_below}
use Rattle.masks.proofs.Bits.{bit_above, bit_of_quotient, bit_of_rest, bit_of_multiple}
use Rattle.masks.specs.Masks.{bit}
use Rattle.frames.specs.Months.{ordinal_at}
use Rattle.frames.specs.Rule.{ordinal_mask, ordinal_allowed}
use Rattle.frames.specs.declared.Ends.{Ends}
use Rattle.frames.proofs.MonthSets.{is_true}

bytes_are_bits : (j : ℕ) → j ≤ 4 → 256 ^ j ≡ 2 ^ (8 * j)
bytes_are_bits zero h = refl
bytes_are_bits (suc zero) h = refl
bytes_are_bits (suc (suc zero)) h = refl
bytes_are_bits (suc (suc (suc zero))) h = refl
bytes_are_bits (suc (suc (suc (suc zero)))) h = refl
bytes_are_bits (suc (suc (suc (suc (suc j))))) h = absurd (omega arith)

-- a group moved down has its byte's bits first
pub byte_bit : (g j w : ℕ) → j ≤ 4 → w < 8 → bit (g / 2 ^ (8 * j)) w ≡ bit (g / 256 ^ j % 256) w
byte_bit g j w h l = sym (ap (λ (k : ℕ). bit (g / k % 256) w) (bytes_are_bits j h) ∙ bit_of_rest (g / 2 ^ (8 * j)) 8 w l)

-- the bits of seven days from s on
seven : ℕ → Bool
seven j = bit 127 j

all_seven : T (every_below seven 7)
unfolding seven
all_seven = tt

seven_bits : (j : ℕ) → bit 127 j ≡ ltb j 7
unfolding seven
seven_bits j =
    dite (dec_lt j 7) (λ (h : j < 7). is_true (bit 127 j) (every seven 7 all_seven j h) ∙ sym (lt-ltb j 7 h))
    (λ (g : j < 7 → ⊥). bit_above 127 7 j (omega arith) (omega arith) ∙ sym (le-ltb j 7 (omega arith)))

week_bits : (s i : ℕ) → bit (127 * 2 ^ s) i ≡ (leb s i && ltb (i - s) 7)
week_bits s i = bit_of_multiple 127 s i ∙ ap (λ (b : Bool). leb s i && b) (seven_bits (i - s))

-- they are those that have a number x of weeks before them
in_week : (s i x n : ℕ) → (x ≡ n → (s ≤ i) × (i - s < 7)) → ((x ≡ n → ⊥) → s ≤ i → 7 ≤ i - s) → (leb s i && ltb (i - s) 7) ≡ eqb x n
in_week s i x n there elsewhere =
    decided (eqb x n)
    (λ (t : eqb x n ≡ true). let p = there (eqb-true x n t) in rw (t, le-leb s i p.0, lt-ltb (i - s) 7 p.1) refl)
    (λ (f : eqb x n ≡ false).
    dite (dec_lt i s) (λ (l : i < s). rw (f, lt-leb s i l) refl)
    (λ (g : i < s → ⊥). rw (f, le-ltb (i - s) 7 (elsewhere (eqb-false x n f) (omega arith))) (and-false (leb s i))))

-- counted from the front, and from the end
pub front_week : (n d : ℕ) → n < 5 → 1 ≤ d → bit (127 * 2 ^ (7 * n + 1) % 2 ^ 64) d ≡ eqb ((d - 1) / 7) n
front_week n d h l =
    ap (λ (x : ℕ). bit x d) (shl_exact {a = 127} 7 (7 * n + 1) 64 (omega arith) (omega arith))
    ∙ week_bits (7 * n + 1) d
    ∙ in_week (7 * n + 1) d ((d - 1) / 7) n (λ e. (omega arith, omega arith)) (λ e g. omega arith)

pub back_week : (n d len : ℕ) → n < 5 → 28 ≤ len → len ≤ 31 → 1 ≤ d → d ≤ len
    → bit (127 * 2 ^ (len - 7 * n) % 2 ^ 64 / 2 ^ 6) d ≡ eqb ((len - d) / 7) n
back_week n d len h a b l u =
    ap (λ (x : ℕ). bit (x / 2 ^ 6) d) (shl_exact {a = 127} 7 (len - 7 * n) 64 (omega arith) (omega arith))
    ∙ bit_of_quotient (127 * 2 ^ (len - 7 * n)) 6 d
    ∙ week_bits (len - 7 * n) (6 + d)
    ∙ in_week (len - 7 * n) (6 + d) ((len - d) / 7) n (λ e. (omega arith, omega arith)) (λ e g. omega arith)

-- one ordinal more
one_more_lem : (a : ℕ → Bool) (x n : ℕ) → (ltb x n && a x || eqb x n && a n) ≡ (ltb x (n + 1) && a x)
one_more_lem a x n =
    dite (dec_lt x n)
    (λ (l : x < n). rw (lt-ltb x n l, lt-ltb x (n + 1) (omega arith), ne_eqb x n (omega arith)) (or-false (a x)))
    (λ (g : x < n → ⊥).
    dite (dec_lt n x)
    (λ (l : n < x). rw (le-ltb x n (omega arith), le-ltb x (n + 1) (omega arith), ne_eqb x n (omega arith)) refl)
    (λ (f : n < x → ⊥). let e : x ≡ n = omega arith in rw (e, le-ltb n n (omega arith), lt-ltb n (n + 1) (omega arith), eq-eqb n n refl) refl))

-- the days of the ordinals up to n
module _ (e : Ends) (first len d : ℕ) where
  abbrev weekday : ℕ
  weekday = (first + (d - 1)) % 7

  abbrev pub below : ℕ → Bool
  below n =
      ltb ((d - 1) / 7) n && bit (ordinal_mask e.front ((d - 1) / 7 + 1)) weekday
      || ltb ((len - d) / 7) n && bit (ordinal_mask e.back ((len - d) / 7 + 1)) weekday

  pub below_none : below 0 ≡ false
  below_none = rw (le-ltb ((d - 1) / 7) 0 (omega arith), le-ltb ((len - d) / 7) 0 (omega arith)) refl

  pub below_grown : (n : ℕ) → (below n || ordinal_at e first len n d) ≡ below (n + 1)
  below_grown n =
      let a : ℕ → Bool = λ m. bit (ordinal_mask e.front (m + 1)) weekday in
      let b : ℕ → Bool = λ m. bit (ordinal_mask e.back (m + 1)) weekday in
      let x : ℕ = (d - 1) / 7 in
      let y : ℕ = (len - d) / 7 in
      regrouped (ltb x n && a x) (ltb y n && b y) (eqb x n && a n) (eqb y n && b n)
      ∙ ap₂ ◌||◌ (one_more_lem (λ m. bit (ordinal_mask e.front (m + 1)) weekday) x n)
      (one_more_lem (λ m. bit (ordinal_mask e.back (m + 1)) weekday) y n)

  pub below_all : d ≤ len → len ≤ 31 → below 5 ≡ ordinal_allowed e d (len + 1 - d) weekday
  below_all h l =
      let g : len - d ≡ len + 1 - d - 1 = omega arith in
      rw (lt-ltb ((d - 1) / 7) 5 (omega arith), lt-ltb ((len - d) / 7) 5 (omega arith))
      (ap (λ (m : ℕ). bit (ordinal_mask e.front ((d - 1) / 7 + 1)) weekday || bit (ordinal_mask e.back (m / 7 + 1)) weekday) g)
