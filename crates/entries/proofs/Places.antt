-- A list of a rule ends no earlier than it begins, and its weekdays are below 7, whatever the line.
use Rattle.std.specs.Prelude.{Option, None, Some}
use mathlib.Core.List.{List}
use mathlib.Core.Path.{◌≡◌, refl}
use Prim.Native.Nat.{ℕ, ◌+◌, ◌<◌, ◌≤◌}
use native.Mathlib.Omega.{arith}
use lib.ListN.{length}
use Rattle.framed.proofs.Ordinals.{entry_weekday}
use Rattle.sheet.specs.Form.{Entry, plain, ordinal, weekday_words}
use Rattle.sheet.specs.Words.{Signed}
use Rattle.words.proofs.Afters.{Reads, read_none, read_some, read_made, one_after, one_below, number_after, signed_after, Every, list_read_lem}
use Rattle.words.specs.Answers.{made_read, number_read, signed_read, one_at}
use Rattle.words.specs.Reads.{number_at, signed_at}
use Rattle.entries.specs.Lists.{entry_read, days_read, numbers_read, months_read}

-- ---- an entry, by what stands there
module _ (s : List ℕ) (at : ℕ) where
  pub entry_plain : (k e : ℕ) → one_at weekday_words s at ≡ Some (k, e) → entry_read s at ≡ Some (plain k, e)
  unfolding entry_read
  entry_plain k e q = rw (entry_read, q) refl

  pub entry_ordinal : (n : Signed) (e : ℕ) → one_at weekday_words s at ≡ None → signed_read (signed_at s at) ≡ Some (n, e)
      → entry_read s at ≡ made_read (ordinal n) (one_at weekday_words s e)
  unfolding entry_read
  entry_ordinal n e q g = rw (entry_read, q, g) refl

  pub entry_not : one_at weekday_words s at ≡ None → signed_read (signed_at s at) ≡ None → entry_read s at ≡ None
  unfolding entry_read
  entry_not q g = rw (entry_read, q, g) refl

module _ (s : List ℕ) (at : ℕ) where
  EntryRead : Entry → ℕ → Type 0
  EntryRead x e = (at ≤ e) × (entry_weekday x < 7)

  weekday : (from k e : ℕ) → at ≤ from → one_at weekday_words s from ≡ Some (k, e) → (at ≤ e) × (k < 7)
  unfolding weekday_words
  weekday from k e h q = (omega (arith, one_after weekday_words s from k e q), one_below weekday_words s from k e q)

  entry_read_lem : Reads EntryRead (entry_read s at)
  unfolding EntryRead
  entry_read_lem = by_plain (one_at weekday_words s at) refl
    where
      by_signed : one_at weekday_words s at ≡ None → (o : Option (Signed × ℕ)) → signed_read (signed_at s at) ≡ o
          → Reads EntryRead (entry_read s at)
      by_signed q None g = rw (entry_not s at q g) (read_none EntryRead)
      by_signed q (Some r) g =
          rw (entry_ordinal s at r.0 r.1 q g)
          (read_made (ordinal r.0) EntryRead (one_at weekday_words s r.1) (λ k e p. weekday r.1 k e (signed_after s at r.0 r.1 g) p))

      by_plain : (o : Option (ℕ × ℕ)) → one_at weekday_words s at ≡ o → Reads EntryRead (entry_read s at)
      by_plain None q = by_signed q (signed_read (signed_at s at)) refl
      by_plain (Some r) q =
          rw (entry_plain s at r.0 r.1 q) (read_some EntryRead (plain r.0) r.1 (weekday at r.0 r.1 (omega arith) q))

pub entry_after : (s : List ℕ) (at : ℕ) (x : Entry) (e : ℕ) → entry_read s at ≡ Some (x, e) → at ≤ e
unfolding EntryRead
entry_after s at x e q = (entry_read_lem s at x e q).0

-- ---- the lists
days_read_lem : (s : List ℕ) (at : ℕ) (es : List Entry) (e : ℕ) → days_read s at ≡ Some (es, e) → (at ≤ e) × Every (λ x. entry_weekday x < 7) es
unfolding days_read EntryRead
days_read_lem s at = list_read_lem (λ x. entry_weekday x < 7) (entry_read s) 44 s (λ f. entry_read_lem s f) (length s + 1) at

pub days_after : (s : List ℕ) (at : ℕ) (es : List Entry) (e : ℕ) → days_read s at ≡ Some (es, e) → at ≤ e
days_after s at es e q = (days_read_lem s at es e q).0

pub days_weekdays : (s : List ℕ) (at : ℕ) (es : List Entry) (e : ℕ) → days_read s at ≡ Some (es, e) → Every (λ x. entry_weekday x < 7) es
days_weekdays s at es e q = (days_read_lem s at es e q).1

pub numbers_after : (s : List ℕ) (at : ℕ) (ns : List Signed) (e : ℕ) → numbers_read s at ≡ Some (ns, e) → at ≤ e
unfolding numbers_read
numbers_after s at ns e q =
    (list_read_lem (λ n. Unit {0}) (λ (f : ℕ). signed_read (signed_at s f)) 44 s (λ f x e q. (signed_after s f x e q, tt)) (length s + 1) at ns e q).0

pub months_after : (s : List ℕ) (at : ℕ) (ms : List ℕ) (e : ℕ) → months_read s at ≡ Some (ms, e) → at ≤ e
unfolding months_read
months_after s at ms e q =
    (list_read_lem (λ n. Unit {0}) (λ (f : ℕ). number_read (number_at s f)) 44 s (λ f x e q. (omega (arith, number_after s f x e q), tt)) (length s + 1) at ms e q).0
