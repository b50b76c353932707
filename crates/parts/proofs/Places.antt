-- A part ends no earlier than it begins, whatever the line.
use Rattle.std.specs.Prelude.{Option, None, Some}
use mathlib.Core.List.{List}
use mathlib.Core.Path.{◌≡◌, refl}
use Prim.Native.Nat.{ℕ, ◌≤◌}
use native.Mathlib.Omega.{arith}
use lib.Dec.{eqb}
use Rattle.entries.proofs.Places.{days_after, numbers_after, months_after}
use Rattle.sheet.specs.Form.{frequency_words, Part, freq, interval, count, until, by_day, by_month_day, by_set_pos, by_month}
use Rattle.words.proofs.Afters.{Reads, read_none, read_made, read_cond, one_after, number_after, time_after}
use Rattle.words.specs.Answers.{number_read, one_at}
use Rattle.words.specs.Reads.{number_at}
use Rattle.parts.specs.Values.{part_heads, frequency_of, value_read, part_read}

-- ---- a part, by its name
pub part_value : (s : List ℕ) (at k e : ℕ) → one_at part_heads s at ≡ Some (k, e) → part_read s at ≡ value_read k s e
unfolding part_read
part_value s at k e q = rw (part_read, q) refl

pub part_not : (s : List ℕ) (at : ℕ) → one_at part_heads s at ≡ None → part_read s at ≡ None
unfolding part_read
part_not s at q = rw (part_read, q) refl

pub value_after : (k : ℕ) (s : List ℕ) (at : ℕ) (x : Part) (e : ℕ) → value_read k s at ≡ Some (x, e) → at ≤ e
unfolding value_read
value_after k s at =
    let P : Part → ℕ → Type 0 = λ x e. at ≤ e in
    read_cond P (eqb k 0) _ _ (read_made (λ (f : ℕ). freq (frequency_of f)) P _ (one_after frequency_words s at))
    (read_cond P (eqb k 1) _ _ (read_made interval P (number_read (number_at s at)) (λ n e q. omega (arith, number_after s at n e q)))
    (read_cond P (eqb k 2) _ _ (read_made count P (number_read (number_at s at)) (λ n e q. omega (arith, number_after s at n e q)))
    (read_cond P (eqb k 3) _ _ (read_made until P _ (time_after s at))
    (read_cond P (eqb k 4) _ _ (read_made by_day P _ (days_after s at))
    (read_cond P (eqb k 5) _ _ (read_made by_month_day P _ (numbers_after s at))
    (read_cond P (eqb k 6) _ _ (read_made by_set_pos P _ (numbers_after s at)) (read_made by_month P _ (months_after s at))))))))

pub part_after : (s : List ℕ) (at : ℕ) (x : Part) (e : ℕ) → part_read s at ≡ Some (x, e) → at ≤ e
part_after s at = by_head (one_at part_heads s at) refl
  where
    by_head : (o : Option (ℕ × ℕ)) → one_at part_heads s at ≡ o → Reads (λ x e. at ≤ e) (part_read s at)
    by_head None q = rw (part_not s at q) (read_none (λ (x : Part) (e : ℕ). at ≤ e))
    by_head (Some r) q =
        rw (part_value s at r.0 r.1 q)
        (λ x e p. omega (arith, one_after part_heads s at r.0 r.1 q, value_after r.0 s r.1 x e p))
