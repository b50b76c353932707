-- The readers of signed numbers, times and offsets against the forms of whole pieces.
use Rattle.std.specs.Prelude.{Option, None, Some}
use mathlib.Core.Bool.{Bool, true, false, cond, ◌&&◌, ◌||◌, and-true, and-false}
use mathlib.Core.List.{List, [], ◌∷◌, ◌++◌, append_assoc}
use mathlib.Core.Path.{◌≡◌, refl, sym, ap, ◌∙◌}
use Prim.Native.Nat.{ℕ, suc, ◌+◌, ◌-◌, ◌<◌, ◌≤◌}
use native.Mathlib.Omega.{arith}
use borrow.Author.Tests.{eq-eqb, ne_eqb, eqb-true}
use lib.Dec.{eqb}
use lib.ListN.{length, get_or, take, drop, length-drop, length-take, drop_of_length-le, get_or-append, get_or-eq_default}
use lib.Seq.{split_at, drop-drop, get_or-drop, drop-append-le, take-append-le, take_all}
use Rattle.calendar.proofs.Every.{both_true}
use Rattle.calendar.specs.Below.{all_of}
use Rattle.zone.proofs.Good.{by_order}
use Rattle.sheet.specs.Form.{Shift, shift_of, Time, clock_digits, time_of}
use Rattle.sheet.specs.Words.{is_digit, decimal, number_of, Signed, signed_of}
use Rattle.words.specs.Answers.{number_read, signed_read, shift_read, time_read}
use Rattle.words.specs.Reads.{digits_in, decimal_at, cursor, number_at, sign_at, with_sign, signed_at, shift_at, time_bytes, time_of as time_at_bytes, time_at}
use Rattle.words.specs.declared.cursor.Cursor.{Cursor}
use Rattle.words.proofs.Counting.{clock_digits_lem}
use Rattle.words.proofs.Listing.{first_byte}
use Rattle.words.proofs.Tied.{all_digits, some_digits, digits_inside, whole_read, Tied, tied_by, tied_none, number_tied}

-- what may stand after a number or an offset: no digit, no sign
pub record Stops (tail : List ℕ) : Type 0 where
  pub digits : digits_in tail ≡ 0
  pub plus : eqb (get_or tail 0 0) 43 ≡ false
  pub minus : eqb (get_or tail 0 0) 45 ≡ false

-- ---- a number with a sign or none
abbrev signed_by : Bool → Option ℕ → Option Signed
signed_by m None = None
signed_by m (Some n) = Some (record { minus = m; number = n })

-- a sign before what was read
signed_whole : (m : Bool) (r : Option (ℕ × Cursor)) (end : ℕ) → whole_read (signed_read (with_sign m r)) end ≡ signed_by m (whole_read (number_read r) end)
unfolding whole_read
signed_whole m (Some (v, c)) end = by_place (eqb c.at end)
  where
    by_place : (b : Bool) → cond b (Some (record { minus = m; number = v })) None ≡ signed_by m (cond b (Some v) None)
    by_place true = refl
    by_place false = refl
signed_whole m None end = refl

signed_place : (m : Bool) (r : Option (ℕ × Cursor)) (x : Signed × ℕ) → signed_read (with_sign m r) ≡ Some x → number_read r ≡ Some (x.0.number, x.1)
signed_place m (Some (v, c)) x e = ap back e
  where
    back : Option (Signed × ℕ) → Option (ℕ × ℕ)
    back None = None
    back (Some y) = Some (y.0.number, y.1)
signed_place m None x e = let z : ◌≡◌ {A = ℕ} 0 1 = cc in absurd (omega arith)

module _ (s : List ℕ) (at : ℕ) (tail : List ℕ) (stops : Stops tail) where
  next_bytes : (c : ℕ) (p : List ℕ) → drop at s ≡ (c ∷ p) ++ tail → drop (at + 1) s ≡ p ++ tail
  next_bytes c p here = sym (drop-drop 1 at s) ∙ ap (drop 1) here

  -- with the sign that was read
  signed_by_lem : (p : List ℕ) (m : Bool) (next : ℕ) (whole : List ℕ) → sign_at s at ≡ (m, cursor next)
      → drop next s ≡ p ++ tail
      → next + length p ≡ at + length whole → at ≤ next → signed_of whole ≡ signed_by m (number_of p)
      → Tied (signed_of whole) (signed_read (signed_at s at)) at (at + length whole)
  unfolding signed_at
  signed_by_lem p m next whole sign here end low form =
      let t = number_tied s next p tail here stops.digits in
      rw sign
      (record {
        whole = form
            ∙ ap (signed_by m) (t.whole ∙ ap (whole_read (number_read (number_at s next))) end)
            ∙ sym (signed_whole m (number_at s next) (at + length whole));
        inside = λ x e. let i = t.inside (x.0.number, x.1) (signed_place m (number_at s next) x e) in (omega (arith, i), omega (arith, i));
      })

  pub signed_tied : (p : List ℕ) → drop at s ≡ p ++ tail → Tied (signed_of p) (signed_read (signed_at s at)) at (at + length p)
  unfolding sign_at signed_of number_of
  signed_tied [] here =
      signed_by_lem [] false at [] (rw (first_byte s at tail here, stops.minus, stops.plus) refl) here (omega arith) (omega arith) refl
  signed_tied (c ∷ p) here = by_minus (eqb c 45) refl
    where
      byte : get_or s at 0 ≡ c
      byte = first_byte s at ((c ∷ p) ++ tail) here

      by_plus : (b : Bool) → eqb c 43 ≡ b → eqb c 45 ≡ false → Tied (signed_of (c ∷ p)) (signed_read (signed_at s at)) at (at + length (c ∷ p))
      by_plus true e f =
          signed_by_lem p false (at + 1) (c ∷ p) (rw (byte, f, e) refl) (next_bytes c p here) (omega arith) (omega arith) (rw e refl)
      by_plus false e f = signed_by_lem (c ∷ p) false at (c ∷ p) (rw (byte, f, e) refl) here refl (omega arith) (rw (e, f) refl)

      by_minus : (b : Bool) → eqb c 45 ≡ b → Tied (signed_of (c ∷ p)) (signed_read (signed_at s at)) at (at + length (c ∷ p))
      by_minus true e =
          let q : eqb c 43 ≡ false = rw (eqb-true c 45 e) refl in
          signed_by_lem p true (at + 1) (c ∷ p) (rw (byte, e) refl) (next_bytes c p here) (omega arith) (omega arith) (rw (q, e) refl)
      by_minus false e = by_plus (eqb c 43) refl e

-- ---- parts of a piece
module _ (s : List ℕ) (at : ℕ) (p tail : List ℕ) (here : drop at s ≡ p ++ tail) where
  pub part_drop : (k : ℕ) → k ≤ length p → drop (at + k) s ≡ drop k p ++ tail
  part_drop k h = sym (drop-drop k at s) ∙ ap (drop k) here ∙ drop-append-le k p tail h

  part_decimal : (k n : ℕ) → k + n ≤ length p → decimal_at s (at + k) n ≡ decimal 0 (take n (drop k p))
  unfolding decimal_at
  part_decimal k n h = rw (part_drop k (omega arith)) (ap (decimal 0) (take-append-le n (drop k p) tail (omega (arith, length-drop k p))))

  part_byte : (k : ℕ) → k < length p → get_or s (at + k) 0 ≡ get_or p k 0
  part_byte k h = sym (get_or-drop at s k 0) ∙ ap (λ (l : List ℕ). get_or l k 0) here ∙ get_or-append p tail 0 k h

-- exactly n digits of a piece: as many stand there, and the piece has no more
exactly : (p tail : List ℕ) (n : ℕ) → digits_in tail ≡ 0 → eqb (length p) n ≡ true → eqb (digits_in (p ++ tail)) n ≡ all_of is_digit p
exactly p tail n stops l = by_digits (all_of is_digit p) refl
  where
    by_digits : (b : Bool) → all_of is_digit p ≡ b → eqb (digits_in (p ++ tail)) n ≡ b
    by_digits true a = eq-eqb _ _ (all_digits p tail a stops ∙ eqb-true (length p) n l)
    by_digits false a = ne_eqb _ _ (λ (e : digits_in (p ++ tail) ≡ n). omega (arith, some_digits p tail a, eqb-true (length p) n l))

-- ---- an offset
shift_read_lem : (b : Bool) (m : Bool) (h n e : ℕ)
    → shift_read (cond b (Some (record { minus = m; hours = h; minutes = n }, cursor e)) None) ≡ cond b (Some (record { minus = m; hours = h; minutes = n }, e)) None
shift_read_lem true m h n e = refl
shift_read_lem false m h n e = refl

-- the form after a sign
shift_form : Bool → List ℕ → Option Shift
shift_form m p =
    cond (eqb (length p) 4 && all_of is_digit p) (Some (record { minus = m; hours = decimal 0 (take 2 p); minutes = decimal 0 (drop 2 p) }))
    None

shift_plus : (c : ℕ) (p : List ℕ) → eqb c 43 ≡ true → shift_of (c ∷ p) ≡ shift_form false p
unfolding shift_of shift_form
shift_plus c p e = rw e refl

shift_minus : (c : ℕ) (p : List ℕ) → eqb c 43 ≡ false → eqb c 45 ≡ true → shift_of (c ∷ p) ≡ shift_form true p
unfolding shift_of shift_form
shift_minus c p e f = rw (e, f) refl

shift_empty : shift_of [] ≡ None
unfolding shift_of
shift_empty = refl

shift_neither : (c : ℕ) (p : List ℕ) → eqb c 43 ≡ false → eqb c 45 ≡ false → shift_of (c ∷ p) ≡ None
unfolding shift_of
shift_neither c p e f = rw (e, f) refl

-- four digits after a sign
module _ (s : List ℕ) (at : ℕ) (p tail : List ℕ) (m : Bool) (stops : digits_in tail ≡ 0) (here : drop (at + 1) s ≡ p ++ tail) where
  four : Shift
  four = record { minus = m; hours = decimal_at s (at + 1) 2; minutes = decimal_at s (at + 3) 2 }

  shift_digits : Tied (shift_form m p) (cond (eqb (digits_in (drop (at + 1) s)) 4) (Some (four, at + 5)) None) at (at + suc (length p))
  unfolding shift_form four
  shift_digits =
      tied_by (shift_form m p) four (at + 5) at (at + suc (length p)) (omega arith) (eqb (digits_in (drop (at + 1) s)) 4)
      (λ b. omega (arith, eqb-true (digits_in (drop (at + 1) s)) 4 b, digits_inside s (at + 1) p tail here stops))
      (λ b e.
      let l : length p ≡ 4 = omega arith in
      let d : all_of is_digit p ≡ true = sym (count l) ∙ b in
      let h : decimal_at s (at + 1) 2 ≡ decimal 0 (take 2 p) =
      ap (λ (n : ℕ). decimal_at s n 2) {x = at + 1} {y = at + 1 + 0} (omega arith) ∙ part_decimal s (at + 1) p tail here 0 2 (omega arith) in
      let n : decimal_at s (at + 3) 2 ≡ decimal 0 (drop 2 p) =
      ap (λ (n : ℕ). decimal_at s n 2) {x = at + 3} {y = at + 1 + 2} (omega arith)
      ∙ part_decimal s (at + 1) p tail here 2 2 (omega arith)
      ∙ ap (decimal 0) (take_all 2 (drop 2 p) (omega (arith, length-drop 2 p))) in
      rw (eq-eqb _ _ l, d, h, n) refl)
      (λ b e. let l : length p ≡ 4 → ⊥ = λ q. e (omega arith) in rw (ne_eqb _ _ l) refl)
      (λ b. by_length (eqb (length p) 4) refl b)
    where
      count : length p ≡ 4 → eqb (digits_in (drop (at + 1) s)) 4 ≡ all_of is_digit p
      count l = ap (λ (t : List ℕ). eqb (digits_in t) 4) here ∙ exactly p tail 4 stops (eq-eqb _ _ l)

      by_length : (b : Bool) → eqb (length p) 4 ≡ b → eqb (digits_in (drop (at + 1) s)) 4 ≡ false → shift_form m p ≡ None
      by_length true e b = rw (e, sym (count (eqb-true _ _ e)) ∙ b) refl
      by_length false e b = rw e refl

module _ (s : List ℕ) (at : ℕ) (tail : List ℕ) (stops : Stops tail) where
  pub shift_tied : (p : List ℕ) → drop at s ≡ p ++ tail → Tied (shift_of p) (shift_read (shift_at s at)) at (at + length p)
  unfolding shift_at four
  shift_tied [] here = rw (shift_empty, first_byte s at tail here, stops.plus, stops.minus) (tied_none _ _)
  shift_tied (c ∷ p) here = by_plus (eqb c 43) refl
    where
      byte : get_or s at 0 ≡ c
      byte = first_byte s at ((c ∷ p) ++ tail) here

      signed : (m : Bool) → (eqb c 43 || eqb c 45) ≡ true → eqb c 45 ≡ m → shift_of (c ∷ p) ≡ shift_form m p
          → Tied (shift_of (c ∷ p)) (shift_read (shift_at s at)) at (at + suc (length p))
      signed m e f g =
          rw (g, byte, e, f, shift_read_lem (eqb (digits_in (drop (at + 1) s)) 4) m (decimal_at s (at + 1) 2) (decimal_at s (at + 3) 2) (at + 5))
          (shift_digits s at p tail m stops.digits (next_bytes s at tail stops c p here))

      by_minus : (b : Bool) → eqb c 45 ≡ b → eqb c 43 ≡ false → Tied (shift_of (c ∷ p)) (shift_read (shift_at s at)) at (at + suc (length p))
      by_minus true e f = signed true (rw (e, f) refl) e (shift_minus c p f e)
      by_minus false e f = rw (shift_neither c p f e, byte, e, f) (tied_none _ _)

      by_plus : (b : Bool) → eqb c 43 ≡ b → Tied (shift_of (c ∷ p)) (shift_read (shift_at s at)) at (at + suc (length p))
      by_plus true e = let f : eqb c 45 ≡ false = rw (eqb-true c 43 e) refl in signed false (rw e refl) f (shift_plus c p e)
      by_plus false e = by_minus (eqb c 45) refl e

-- ---- a time
-- digits up to a byte that is none
digits_up_to : (p tail : List ℕ) (n : ℕ) → n < length p → is_digit (get_or p n 0) ≡ false
    → eqb (digits_in (p ++ tail)) n ≡ all_of is_digit (take n p)
unfolding digits_in
digits_up_to p tail n h e =
    let rest : List ℕ = get_or p n 0 ∷ (drop (suc n) p ++ tail) in
    let z : digits_in rest ≡ 0 = rw (digits_in, e) refl in
    let q : p ++ tail ≡ take n p ++ rest =
    ap (λ (l : List ℕ). l ++ tail) (split_at p n 0 h) ∙ append_assoc (take n p) (get_or p n 0 ∷ drop (suc n) p) tail in
    rw q (exactly (take n p) rest n z (eq-eqb (length (take n p)) n (omega (arith, length-take n p))))

-- after a time: no digit and no T
module _ (s : List ℕ) (at : ℕ) (p tail : List ℕ) (stops : digits_in tail ≡ 0) (no_letter : eqb (get_or tail 0 0) 84 ≡ false) (here : drop at s ≡ p ++ tail) where
  -- the digits that follow the T
  clock : ℕ
  clock = digits_in (drop (at + 9) s)

  time_test : Bool
  time_test = eqb (digits_in (drop at s)) 8 && (eqb (get_or s (at + 8) 0) 84 && clock_digits clock)

  form_test : Bool
  form_test = all_of is_digit (take 8 p) && (eqb (get_or p 8 0) 84 && (clock_digits (length (drop 9 p)) && all_of is_digit (drop 9 p)))

  form_none : form_test ≡ false → time_of p ≡ None
  unfolding time_of form_test
  form_none e = rw e refl

  -- the digits are the piece's last bytes, or another byte comes after them
  module _ (nine : 9 ≤ length p) where
    clock_all : all_of is_digit (drop 9 p) ≡ true → clock ≡ length (drop 9 p)
    unfolding clock
    clock_all a = ap digits_in (part_drop s at p tail here 9 nine) ∙ all_digits (drop 9 p) tail a stops

    clock_some : all_of is_digit (drop 9 p) ≡ false → clock < length (drop 9 p)
    unfolding clock
    clock_some a = rw (part_drop s at p tail here 9 nine) (some_digits (drop 9 p) tail a)

    test_whole : all_of is_digit (drop 9 p) ≡ true → time_test ≡ form_test
    unfolding time_test form_test
    test_whole a =
        rw (here, part_byte s at p tail here 8 (omega arith), clock_all a, a) (by_letter (eqb (get_or p 8 0) 84) refl)
      where
        by_letter : (b : Bool) → eqb (get_or p 8 0) 84 ≡ b
            → eqb (digits_in (p ++ tail)) 8 && (eqb (get_or p 8 0) 84 && clock_digits (length (drop 9 p))) ≡ all_of is_digit (take 8 p) && (eqb (get_or p 8 0) 84 && (clock_digits (length (drop 9 p)) && true))
        by_letter true e = rw (digits_up_to p tail 8 (omega arith) (rw (eqb-true (get_or p 8 0) 84 e) refl), and-true) refl
        by_letter false e = simp (e, and-false)

  -- all of it lies in the piece
  test_inside : time_test ≡ true → 9 + clock ≤ length p
  unfolding time_test clock
  test_inside b =
      let x = both_true (eqb (digits_in (drop at s)) 8) _ b in
      let y = both_true (eqb (get_or s (at + 8) 0) 84) _ x.1 in
      let m : 8 ≤ length p = omega (arith, digits_inside s at p tail here stops, eqb-true (digits_in (drop at s)) 8 x.0) in
      let n : length p ≡ 8 → ⊥ = letter y.0 in
      let d : digits_in (drop (at + 9) s) ≤ length (drop 9 p) =
      digits_inside s (at + 9) (drop 9 p) tail (part_drop s at p tail here 9 (omega arith)) stops in
      omega (arith, d, length-drop 9 p)
    where
      letter : eqb (get_or s (at + 8) 0) 84 ≡ true → length p ≡ 8 → ⊥
      letter e l =
          let f : drop (at + 8) s ≡ drop 8 p ++ tail = part_drop s at p tail here 8 (omega arith) in
          let g : drop 8 p ≡ [] = drop_of_length-le p {i = 8} (omega arith) in
          let k : at + 8 + 0 ≡ at + 8 = omega arith in
          let q : get_or s (at + 8) 0 ≡ get_or tail 0 0 =
          ap (λ (n : ℕ). get_or s n 0) (sym k)
          ∙ sym (get_or-drop (at + 8) s 0 0)
          ∙ ap (λ (l : List ℕ). get_or l 0 0) (f ∙ ap (λ (l : List ℕ). l ++ tail) g) in
          let z : ◌≡◌ {A = Bool} true false = sym e ∙ ap (λ (n : ℕ). eqb n 84) q ∙ no_letter in
          let y : ◌≡◌ {A = ℕ} 0 1 = cc in omega arith

  time_there : Time
  time_there =
      record {
        year = decimal_at s at 4;
        month = decimal_at s (at + 4) 2;
        day = decimal_at s (at + 6) 2;
        hour = decimal_at s (at + 9) 2;
        minute = decimal_at s (at + 11) 2;
        second = decimal_at s (at + 13) (9 + clock - 13);
      }

  time_there_lem : time_test ≡ true → length p ≡ 9 + clock → all_of is_digit (drop 9 p) ≡ true → time_of p ≡ Some time_there
  unfolding time_of time_there time_test form_test
  time_there_lem b l a =
      let n = clock_digits_lem clock (both_true (eqb (get_or s (at + 8) 0) 84) _ (both_true (eqb (digits_in (drop at s)) 8) _ b).1).1 in
      let y : decimal_at s at 4 ≡ decimal 0 (take 4 p) =
      ap (λ (n : ℕ). decimal_at s n 4) {x = at} {y = at + 0} (omega arith) ∙ part_decimal s at p tail here 0 4 (omega (arith, n)) in
      let x : decimal_at s (at + 13) (9 + clock - 13) ≡ decimal 0 (drop 13 p) =
      part_decimal s at p tail here 13 (9 + clock - 13) (omega (arith, n))
      ∙ ap (decimal 0) (take_all (9 + clock - 13) (drop 13 p) (omega (arith, length-drop 13 p))) in
      rw (
        sym (test_whole (omega arith) a) ∙ b,
        y,
        part_decimal s at p tail here 4 2 (omega (arith, n)),
        part_decimal s at p tail here 6 2 (omega (arith, n)),
        part_decimal s at p tail here 9 2 (omega (arith, n)),
        part_decimal s at p tail here 11 2 (omega (arith, n)),
        x,
      ) refl

  time_digits : Tied (time_of p) (cond time_test (Some (time_there, at + (9 + clock))) None) at (at + length p)
  unfolding form_test
  time_digits =
      tied_by (time_of p) time_there (at + (9 + clock)) at (at + length p) (omega arith) time_test
      (λ b. omega (arith, test_inside b))
      (λ b e. by_digits (all_of is_digit (drop 9 p)) refl (λ a. time_there_lem b (omega arith) a) (λ a. absurd (omega (arith, clock_some (omega arith) a, length-drop 9 p))))
      (λ b e.
      by_digits (all_of is_digit (drop 9 p)) refl (λ a. absurd (e (omega (arith, clock_all (omega (arith, test_inside b)) a, length-drop 9 p, test_inside b)))) not_all)
      (λ b.
      by_digits (all_of is_digit (drop 9 p)) refl (λ a. by_order (length p) 9 (λ l. too_short l) (λ l. form_none (sym (test_whole l a) ∙ b))) not_all)
    where
      by_digits : {A : Type 0} (c : Bool) → all_of is_digit (drop 9 p) ≡ c → (all_of is_digit (drop 9 p) ≡ true → A) → (all_of is_digit (drop 9 p) ≡ false → A) → A
      by_digits true e f g = f e
      by_digits false e f g = g e

      not_all : all_of is_digit (drop 9 p) ≡ false → time_of p ≡ None
      not_all a = form_none (simp (a, and-false))

      too_short : length p < 9 → time_of p ≡ None
      too_short l = form_none (simp (get_or-eq_default p 0 {n = 8} (omega arith), and-false))

  pub time_tied : Tied (time_of p) (time_read (time_at s at)) at (at + length p)
  unfolding time_at time_bytes time_test time_there clock
  time_tied = rw (there time_test) time_digits
    where
      there : (b : Bool) → time_read (time_at_bytes s at (cond b (Some (9 + clock)) None)) ≡ cond b (Some (time_there, at + (9 + clock))) None
      there true = refl
      there false = refl
