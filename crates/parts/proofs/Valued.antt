-- The value of a part: the readers by the part's name against the forms of a whole piece.
use Rattle.std.specs.Prelude.{Option, None, Some}
use mathlib.Core.Bool.{true, false}
use mathlib.Core.List.{List, ◌++◌}
use mathlib.Core.Path.{◌≡◌, refl}
use Prim.Native.Nat.{ℕ, zero, suc, ◌+◌, ◌<◌}
use native.Mathlib.Omega.{arith}
use lib.Dec.{eqb}
use lib.ListN.{length, get_or, drop}
use Rattle.entries.proofs.Entries.{days_tied, numbers_tied, months_tied}
use Rattle.sheet.specs.Form.{time_of, entry_of, frequency_words, frequency_at, Part, freq, interval, count, until, by_day, by_month_day, by_set_pos, by_month, part_by, value_of}
use Rattle.sheet.specs.Words.{word_in, number_of, signed_of, pieces, each_of}
use Rattle.words.proofs.Choices.{word_of, prefix_free, without, one_tied}
use Rattle.words.proofs.Ends.{End, end_byte, end_digits, end_letter}
use Rattle.words.proofs.Forms.{time_tied}
use Rattle.words.proofs.Named.{word_tested, word_place}
use Rattle.words.proofs.Tied.{made, Tied, tied_made, number_tied}
use Rattle.words.specs.Answers.{made_read}
use Rattle.words.specs.Reads.{starts_with}
use Rattle.parts.specs.Values.{frequency_of, value_read}

-- no byte of a frequency stands after it
pub end_frequencies : {tail : List ℕ} → End tail → without (get_or tail 0 0) frequency_words ≡ true
unfolding frequency_words
end_frequencies = end_byte (λ c. without c frequency_words ≡ true) refl refl refl refl refl

-- ---- the forms of values
part_made : {A : Type 0} (part : A → Part) (o : Option A) → part_by part o ≡ made part o
unfolding part_by
part_made part None = refl
part_made part (Some a) = refl

frequencies_apart : prefix_free frequency_words ≡ true
unfolding prefix_free starts_with frequency_words
frequencies_apart = refl

frequency_form : (p : List ℕ) → frequency_at (word_in frequency_words p) ≡ made (λ (f : ℕ). freq (frequency_of f)) (word_of frequency_words p)
unfolding frequency_words frequency_at
frequency_form p = by_word (word_of frequency_words p) refl
  where
    by_place : (k : ℕ) → k < 4 → frequency_at k ≡ Some (freq (frequency_of k))
    by_place zero h = refl
    by_place (suc zero) h = refl
    by_place (suc (suc zero)) h = refl
    by_place (suc (suc (suc zero))) h = refl
    by_place (suc (suc (suc (suc k)))) h = absurd (omega arith)

    by_word : (o : Option ℕ) → word_of frequency_words p ≡ o
        → frequency_at (word_in frequency_words p) ≡ made (λ (f : ℕ). freq (frequency_of f)) o
    by_word None e = rw (word_place frequency_words p None e) refl
    by_word (Some k) e = rw (word_place frequency_words p (Some k) e) (by_place k (word_tested (λ w. true) frequency_words p k refl e).1)

module _ (s : List ℕ) (at : ℕ) (p tail : List ℕ) (here : drop at s ≡ p ++ tail) (ends : End tail) (other : eqb (get_or tail 0 0) 44 ≡ false) where
  value_by : {A : Type 0} (part : A → Part) (o : Option A) (r : Option (A × ℕ)) → Tied o r at (at + length p)
      → Tied (made part o) (made_read part r) at (at + length p)
  value_by part o r t = tied_made part o r at at (at + length p) (omega arith) t

  pub value_tied : (k : ℕ) → k < 8 → Tied (value_of k p) (value_read k s at) at (at + length p)
  unfolding value_of value_read
  value_tied zero h =
      rw (frequency_form p)
      (value_by (λ (f : ℕ). freq (frequency_of f)) _ _ (one_tied s at p tail here frequency_words frequencies_apart (end_frequencies ends)))
  value_tied (suc zero) h = rw (part_made interval (number_of p)) (value_by interval _ _ (number_tied s at p tail here (end_digits ends)))
  value_tied (suc (suc zero)) h = rw (part_made count (number_of p)) (value_by count _ _ (number_tied s at p tail here (end_digits ends)))
  value_tied (suc (suc (suc zero))) h =
      rw (part_made until (time_of p)) (value_by until _ _ (time_tied s at p tail (end_digits ends) (end_letter ends) here))
  value_tied (suc (suc (suc (suc zero)))) h =
      rw (part_made by_day (each_of entry_of (pieces 44 p))) (value_by by_day _ _ (days_tied s at p tail here ends other))
  value_tied (suc (suc (suc (suc (suc zero))))) h =
      rw (part_made by_month_day (each_of signed_of (pieces 44 p))) (value_by by_month_day _ _ (numbers_tied s at p tail here ends other))
  value_tied (suc (suc (suc (suc (suc (suc zero)))))) h =
      rw (part_made by_set_pos (each_of signed_of (pieces 44 p))) (value_by by_set_pos _ _ (numbers_tied s at p tail here ends other))
  value_tied (suc (suc (suc (suc (suc (suc (suc zero))))))) h =
      rw (part_made by_month (each_of number_of (pieces 44 p))) (value_by by_month _ _ (months_tied s at p tail here ends other))
  value_tied (suc (suc (suc (suc (suc (suc (suc (suc k)))))))) h = absurd (omega arith)
