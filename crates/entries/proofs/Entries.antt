-- An entry of BYDAY: the reader against the form of a whole piece.
use Rattle.std.specs.Prelude.{Option, None, Some}
use mathlib.Core.Bool.{Bool, true, false, not, ◌&&◌}
use mathlib.Core.List.{List, [], ◌∷◌, ◌++◌}
use mathlib.Core.Path.{◌≡◌, refl, sym, ap, ◌∙◌}
use Prim.Native.Nat.{ℕ, ◌+◌, ◌-◌, ◌<◌, ◌≤◌}
use native.Mathlib.Omega.{arith}
use borrow.Author.Tests.{eq-eqb, ne_eqb, eqb-true, lt-ltb, not-true}
use lib.Dec.{eqb}
use lib.ListN.{length, get_or, take, drop, length-take, length-drop, take-append-drop}
use Rattle.calendar.proofs.Every.{both_true}
use Rattle.calendar.specs.Below.{all_of}
use Rattle.zone.proofs.Good.{by_order}
use Rattle.sheet.specs.Form.{plain, ordinal, weekday_words, ordinal_entry, entry_of}
use Rattle.sheet.specs.Words.{Signed, is_digit, number_of, signed_of, pieces, each_of}
use Rattle.words.proofs.Choices.{word_of, prefix_free, without, one_tied}
use Rattle.words.proofs.Ends.{End, comma, end_byte, end_digits, end_stops}
use Rattle.words.proofs.Forms.{Stops, signed_tied, part_drop}
use Rattle.words.proofs.Listing.{all_tied}
use Rattle.words.proofs.Named.{one_found, word_tested, word_place}
use Rattle.words.proofs.Pieces.{cut_here}
use Rattle.words.proofs.Tied.{whole_none, whole_all, whole_part, made, Tied, tied_made, tied_by, tied_none, number_tied}
use Rattle.words.specs.Answers.{number_read, signed_read, one_at}
use Rattle.words.specs.Reads.{digits_in, starts_with, number_at, signed_at}
use Rattle.entries.specs.Lists.{entry_read, days_read, numbers_read, months_read}
use Rattle.entries.proofs.Places.{entry_plain, entry_ordinal, entry_not}

-- ---- two bytes, of which the first is no digit and no sign
weekday_like : List ℕ → Bool
weekday_like q = eqb (length q) 2 && (not (is_digit (get_or q 0 0)) && (not (eqb (get_or q 0 0) 43) && not (eqb (get_or q 0 0) 45)))

weekdays_like : all_of weekday_like weekday_words ≡ true
unfolding weekday_like weekday_words
weekdays_like = refl

weekdays_apart : prefix_free weekday_words ≡ true
unfolding prefix_free starts_with weekday_words
weekdays_apart = refl

like_length : (q : List ℕ) → weekday_like q ≡ true → length q ≡ 2
unfolding weekday_like
like_length q e = eqb-true (length q) 2 (both_true (eqb (length q) 2) _ e).0

like_stops : (q tail : List ℕ) → weekday_like q ≡ true → Stops (q ++ tail)
unfolding weekday_like digits_in
like_stops [] tail e = let z : ◌≡◌ {A = ℕ} 0 1 = cc in absurd (omega arith)
like_stops (c ∷ q) tail e =
    let a = both_true (eqb (length (c ∷ q)) 2) _ e in
    let b = both_true (not (is_digit c)) _ a.1 in
    let d = both_true (not (eqb c 43)) _ b.1 in
    record { digits = rw (digits_in, not-true (is_digit c) b.0) refl; plus = not-true (eqb c 43) d.0; minus = not-true (eqb c 45) d.1 }

-- no byte of a weekday stands after it
pub end_weekdays : {tail : List ℕ} → End tail → without (get_or tail 0 0) weekday_words ≡ true
unfolding weekday_words
end_weekdays = end_byte (λ c. without c weekday_words ≡ true) refl refl refl refl refl

-- ---- the form of a piece by its last two bytes
abbrev front : List ℕ → List ℕ
front p = take (length p - 2) p

abbrev back : List ℕ → List ℕ
back p = drop (length p - 2) p

module _ (p : List ℕ) where
  form_not : word_of weekday_words (back p) ≡ None → entry_of p ≡ None
  unfolding entry_of weekday_words
  form_not e = rw (word_place weekday_words (back p) None e) refl

  front_length : length (front p) ≡ length p - 2
  front_length = omega (arith, length-take (length p - 2) p)

  back_all : length p ≡ 2 → back p ≡ p
  back_all l = let n : length p - 2 ≡ 0 = omega arith in rw n refl

  module _ (w : ℕ) (e : word_of weekday_words (back p) ≡ Some w) where
    last_like : weekday_like (back p) ≡ true
    last_like = (word_tested weekday_like weekday_words (back p) w weekdays_like e).0

    last_below : w < 7
    unfolding weekday_words
    last_below = (word_tested weekday_like weekday_words (back p) w weekdays_like e).1

    last_fits : 2 ≤ length p
    last_fits = omega (arith, like_length (back p) last_like, length-drop (length p - 2) p)

    form_plain : length p ≡ 2 → entry_of p ≡ Some (plain w)
    unfolding entry_of
    form_plain l =
        rw (word_place weekday_words (back p) (Some w) e, lt-ltb w 7 last_below, eq-eqb (length (front p)) 0 (omega (arith, front_length)))
        refl

    form_ordinal : 2 < length p → entry_of p ≡ made (λ n. ordinal n w) (signed_of (front p))
    unfolding entry_of ordinal_entry
    form_ordinal l =
        rw (
          word_place weekday_words (back p) (Some w) e,
          lt-ltb w 7 last_below,
          ne_eqb (length (front p)) 0 (λ (z : length (front p) ≡ 0). omega (arith, front_length)),
        ) (by_signed (signed_of (front p)))
      where
        by_signed : (o : Option Signed) → ordinal_entry o w ≡ made (λ n. ordinal n w) o
        by_signed None = refl
        by_signed (Some n) = refl

signed_empty : signed_of [] ≡ None
unfolding signed_of
signed_empty = refl

-- where no number may go on, none is read
no_number : (s : List ℕ) (at : ℕ) → Stops (drop at s) → signed_read (signed_at s at) ≡ None
no_number s at stops = by_read (signed_read (signed_at s at)) (signed_tied s at (drop at s) stops [] refl)
  where
    by_read : (o : Option (Signed × ℕ)) → Tied (signed_of []) o at (at + 0) → o ≡ None
    by_read None t = refl
    by_read (Some r) t =
        let i = t.inside r refl in
        let e : Some r.0 ≡ None = sym (whole_all r (at + 0) (omega (arith, i))) ∙ sym t.whole ∙ signed_empty in
        let z : ◌≡◌ {A = ℕ} 0 1 = cc in absurd (omega arith)

-- ---- the reader
module _ (s : List ℕ) (at : ℕ) (p tail : List ℕ) (here : drop at s ≡ p ++ tail) (ends : End tail) where
  word_here : Tied (word_of weekday_words p) (one_at weekday_words s at) at (at + length p)
  word_here = one_tied s at p tail here weekday_words weekdays_apart (end_weekdays ends)

  word_from : (e : ℕ) → at ≤ e → e ≤ at + length p → Tied (word_of weekday_words (drop (e - at) p)) (one_at weekday_words s e) e (at + length p)
  word_from e a b =
      let f : at + (e - at) ≡ e = omega arith in
      let g : drop e s ≡ drop (e - at) p ++ tail = rw f at (part_drop s at p tail here (e - at) (omega arith)) in
      let n : e + length (drop (e - at) p) ≡ at + length p = omega (arith, length-drop (e - at) p) in
      rw n at (one_tied s e (drop (e - at) p) tail g weekday_words weekdays_apart (end_weekdays ends))

  -- before a weekday at the end
  front_tied : (w : ℕ) → word_of weekday_words (back p) ≡ Some w
      → Tied (signed_of (front p)) (signed_read (signed_at s at)) at (at + (length p - 2))
  front_tied w e =
      let f : drop at s ≡ front p ++ (back p ++ tail) = cut_here (front p) (back p) tail here (sym (take-append-drop (length p - 2) p)) in
      rw (front_length p) at (signed_tied s at (back p ++ tail) (like_stops (back p) tail (last_like p w e)) (front p) f)

  -- no number is read, and the piece is longer than a weekday
  longer : signed_read (signed_at s at) ≡ None → 2 < length p → (o : Option ℕ) → word_of weekday_words (back p) ≡ o → entry_of p ≡ None
  longer z l None e = form_not p e
  longer z l (Some w) e =
      let t = rw z at (front_tied w e) in
      form_ordinal p w e l ∙ ap (made (λ n. ordinal n w)) (t.whole ∙ whole_none (at + (length p - 2)))

  plain_case : (k e : ℕ) → one_at weekday_words s at ≡ Some (k, e) → Tied (entry_of p) (entry_read s at) at (at + length p)
  plain_case k e q =
      let f = one_found weekday_like weekday_words s at weekdays_like k e q in
      let l : e ≡ at + 2 = omega (arith, f.place, like_length f.word f.tested) in
      let t : Tied (word_of weekday_words p) (Some (k, e)) at (at + length p) = rw q at word_here in
      let i = t.inside (k, e) refl in
      let z : signed_read (signed_at s at) ≡ None = no_number s at (rw f.text (like_stops f.word _ f.tested)) in
      rw (entry_plain s at k e q)
      (tied_by (entry_of p) (plain k) e at (at + length p) i.0 true (λ b. i.1)
      (λ b (g : e ≡ at + length p). let n : length p ≡ 2 = omega arith in form_plain p k (ap (word_of weekday_words) (back_all p n) ∙ t.whole ∙ whole_all (k, e) _ g) n)
      (λ b g. longer z (by_order 2 (length p) (λ m. m) (λ m. absurd (g (omega (arith, i))))) (word_of weekday_words (back p)) refl)
      (λ b. let y : ◌≡◌ {A = ℕ} 0 1 = cc in absurd (omega arith)))

  not_case : one_at weekday_words s at ≡ None → signed_read (signed_at s at) ≡ None → Tied (entry_of p) (entry_read s at) at (at + length p)
  not_case q z = rw (entry_not s at q z, by_last (word_of weekday_words (back p)) refl) (tied_none at _)
    where
      by_last : (o : Option ℕ) → word_of weekday_words (back p) ≡ o → entry_of p ≡ None
      by_last None e = form_not p e
      by_last (Some w) e =
          by_order 2 (length p) (λ l. longer z l (Some w) e)
          (λ l.
          let n : length p ≡ 2 = omega (arith, last_fits p w e) in
          let t : Tied (word_of weekday_words p) None at (at + length p) = rw q at word_here in
          let c : Some w ≡ None = sym e ∙ ap (word_of weekday_words) (back_all p n) ∙ t.whole ∙ whole_none _ in
          let y : ◌≡◌ {A = ℕ} 0 1 = cc in absurd (omega arith))

  -- a number, and a weekday or None where it ends
  module _ (n : Signed) (e : ℕ) (g : signed_read (signed_at s at) ≡ Some (n, e)) where
    inside : (at ≤ e) × (e ≤ at + length p)
    inside = (signed_tied s at tail (end_stops ends) p here).inside (n, e) g

    before_last : (w : ℕ) → word_of weekday_words (back p) ≡ Some w → Tied (signed_of (front p)) (Some (n, e)) at (at + (length p - 2))
    before_last w f = rw g at (front_tied w f)

    -- the weekday stands where the number ends
    at_last : e ≡ at + (length p - 2) → drop (e - at) p ≡ back p
    at_last m = let d : e - at ≡ length p - 2 = omega arith in rw d refl

    ordinal_form : (o : Option ℕ) → word_of weekday_words (drop (e - at) p) ≡ o → entry_of p ≡ made (ordinal n) o
    ordinal_form None f = by_last (word_of weekday_words (back p)) refl
      where
        by_last : (o : Option ℕ) → word_of weekday_words (back p) ≡ o → entry_of p ≡ None
        by_last None h = form_not p h
        by_last (Some w) h =
            let t = before_last w h in
            let i = t.inside (n, e) refl in
            let d : e ≡ at + (length p - 2) → ⊥ =
            λ m. let c : Some w ≡ None = sym h
            ∙ ap (word_of weekday_words) (sym (at_last m))
            ∙ f in let y : ◌≡◌ {A = ℕ} 0 1 = cc in omega arith in
            form_ordinal p w h (by_order 2 (length p) (λ l. l) (λ l. absurd (d (omega (arith, i, last_fits p w h)))))
            ∙ ap (made (λ n. ordinal n w)) (t.whole ∙ whole_part (n, e) _ d)
    ordinal_form (Some w) f =
        let d = word_tested weekday_like weekday_words (drop (e - at) p) w weekdays_like f in
        let m : e ≡ at + (length p - 2) = omega (arith, inside, like_length (drop (e - at) p) d.0, length-drop (e - at) p) in
        let h : word_of weekday_words (back p) ≡ Some w = ap (word_of weekday_words) (sym (at_last m)) ∙ f in
        let r : signed_of (front p) ≡ Some n = (before_last w h).whole ∙ whole_all (n, e) _ m in
        form_ordinal p w h (by_order 2 (length p) (λ l. l) (λ l. absurd (empty r (omega (arith, front_length p)))))
        ∙ ap (made (λ n. ordinal n w)) r
      where
        empty : signed_of (front p) ≡ Some n → length (front p) ≡ 0 → ⊥
        empty r l = by_list (front p) l r
          where
            by_list : (q : List ℕ) → length q ≡ 0 → signed_of q ≡ Some n → ⊥
            by_list [] l r = let c : None ≡ Some n = sym signed_empty ∙ r in let y : ◌≡◌ {A = ℕ} 0 1 = cc in omega arith
            by_list (x ∷ q) l r = omega arith

    ordinal_case : one_at weekday_words s at ≡ None → Tied (entry_of p) (entry_read s at) at (at + length p)
    ordinal_case q =
        rw (entry_ordinal s at n e q g, ordinal_form (word_of weekday_words (drop (e - at) p)) refl)
        (tied_made (ordinal n) _ _ at e (at + length p) inside.0 (word_from e inside.0 inside.1))

  pub entry_tied : Tied (entry_of p) (entry_read s at) at (at + length p)
  entry_tied = by_plain (one_at weekday_words s at) refl
    where
      by_signed : (o : Option (Signed × ℕ)) → signed_read (signed_at s at) ≡ o → one_at weekday_words s at ≡ None
          → Tied (entry_of p) (entry_read s at) at (at + length p)
      by_signed None g q = not_case q g
      by_signed (Some r) g q = ordinal_case r.0 r.1 g q

      by_plain : (o : Option (ℕ × ℕ)) → one_at weekday_words s at ≡ o → Tied (entry_of p) (entry_read s at) at (at + length p)
      by_plain None q = by_signed (signed_read (signed_at s at)) refl q
      by_plain (Some r) q = plain_case r.0 r.1 q

-- ---- the lists
module _ (s : List ℕ) (at : ℕ) (p tail : List ℕ) (here : drop at s ≡ p ++ tail) (ends : End tail) (other : eqb (get_or tail 0 0) 44 ≡ false) where
  pub days_tied : Tied (each_of entry_of (pieces 44 p)) (days_read s at) at (at + length p)
  unfolding days_read
  days_tied = all_tied s (entry_read s) 44 entry_of End comma (entry_tied s) at p tail here ends other

  pub numbers_tied : Tied (each_of signed_of (pieces 44 p)) (numbers_read s at) at (at + length p)
  unfolding numbers_read
  numbers_tied =
      all_tied s (λ (e : ℕ). signed_read (signed_at s e)) 44 signed_of End comma (λ at p tail here ends. signed_tied s at tail (end_stops ends) p here) at p tail here ends other

  pub months_tied : Tied (each_of number_of (pieces 44 p)) (months_read s at) at (at + length p)
  unfolding months_read
  months_tied =
      all_tied s (λ (e : ℕ). number_read (number_at s e)) 44 number_of End comma (λ at p tail here ends. number_tied s at p tail here (end_digits ends)) at p tail here ends other
