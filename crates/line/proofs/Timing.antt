-- The lines T and R: a time, a space, and one more value.
use Rattle.std.specs.Prelude.{Option, None, Some}
use mathlib.Core.Bool.{Bool, true, false, cond}
use mathlib.Core.List.{List, [], ◌∷◌, ◌++◌}
use mathlib.Core.Path.{◌≡◌, refl}
use Prim.Native.Nat.{ℕ, ◌+◌}
use native.Mathlib.Omega.{arith}
use lib.Dec.{eqb}
use lib.ListN.{length, get_or, drop}
use Rattle.sheet.specs.Form.{Time, time_of, Form}
use Rattle.sheet.specs.Words.{pieces}
use Rattle.words.proofs.Ends.{End, nothing, space as after-space, end_digits, end_stops, end_letter}
use Rattle.words.proofs.Forms.{Stops, time_tied}
use Rattle.words.proofs.Sequence.{only, only_tied, then_tied}
use Rattle.words.proofs.Tied.{made, Tied, tied_made}
use Rattle.words.specs.Answers.{made_read, time_as, time_read, then_at}
use Rattle.words.specs.Reads.{cursor, time_at}
use Rattle.words.specs.declared.cursor.Cursor.{Cursor}
use Rattle.words.specs.declared.cursor.Time.{Time as ReadTime}
use Rattle.line.specs.Lined.{spaced}
use Rattle.line.proofs.Reading.{all_of_it, to_end}

-- what may stand after a value of a line: a space, or the line's end
pub data Stop : List ℕ → Type 0 where
  over : Stop []
  space : (rest : List ℕ) → Stop (32 ∷ rest)

stop_end : {tail : List ℕ} → Stop tail → End tail
stop_end over = nothing
stop_end (space rest) = after-space rest

pub stop_signs : {tail : List ℕ} → Stop tail → Stops tail
stop_signs stop = end_stops (stop_end stop)

pub time_here : (s : List ℕ) (at : ℕ) (p tail : List ℕ) → drop at s ≡ p ++ tail → Stop tail
    → Tied (time_of p) (time_read (time_at s at)) at (at + length p)
time_here s at p tail here stop = time_tied s at p tail (end_digits (stop_end stop)) (end_letter (stop_end stop)) here

-- the value by its form and its reader, and the line that it makes with the time
module _ {A : Type 0} (s : List ℕ) (form : List ℕ → Option A) (read : ℕ → Option (A × ℕ)) (line : Time → A → Form) where
  unfoldable pub timed_read : Option (Form × ℕ)
  timed_read = then_at 32 s (λ (t : Time) (from : ℕ). made_read (line t) (read from)) (time_read (time_at s 0))

  -- by the time with the space behind it
  abbrev pub on_time : Option (ReadTime × Cursor) → Option (Form × ℕ)
  on_time None = None
  on_time (Some r) = made_read (line (time_as r.0)) (read r.1.at)

  pub timed_spaced : timed_read ≡ on_time (spaced s (time_at s 0))
  unfolding timed_read
  timed_spaced = by_time (time_at s 0)
    where
      by_time : (o : Option (ReadTime × Cursor)) → then_at 32 s (λ (t : Time) (from : ℕ). made_read (line t) (read from)) (time_read o) ≡ on_time (spaced s o)
      by_time None = refl
      by_time (Some r) = by_space (eqb (get_or s r.1.at 0) 32)
        where
          by_space : (b : Bool) → cond b (made_read (line (time_as r.0)) (read (r.1.at + 1))) None ≡ on_time (cond b (Some (r.0, cursor (r.1.at + 1))) None)
          by_space true = refl
          by_space false = refl

  -- the form of the line after its time
  unfoldable pub after_time : Time → List (List ℕ) → Option Form
  after_time t ps = made (line t) (only form ps)

  after_none : (t : Time) → after_time t [] ≡ None
  unfolding after_time
  after_none t = refl

  pub timed_tied : (whole : List (List ℕ) → Option Form) → ((q : List ℕ) (ps : List (List ℕ)) → time_of q ≡ None → whole (q ∷ ps) ≡ None)
      → ((q : List ℕ) (ps : List (List ℕ)) (t : Time) → time_of q ≡ Some t → whole (q ∷ ps) ≡ after_time t ps)
      → ((at : ℕ) (p tail : List ℕ) → drop at s ≡ p ++ tail → Stop tail → Tied (form p) (read at) at (at + length p))
      → Tied (whole (pieces 32 s)) timed_read 0 (length s)
  unfolding timed_read after_time
  timed_tied whole no_time with_time tie =
      to_end s _ _
      (then_tied 32 s time_of (λ (at : ℕ). time_read (time_at s at)) Stop space (time_here s) [] over whole after_time (λ (t : Time) (from : ℕ). made_read (line t) (read from))
      no_time with_time after_none again refl 0 s (all_of_it s))
    where
      again : (t : Time) (from : ℕ) (rest : List ℕ) → drop from s ≡ rest ++ []
          → Tied (after_time t (pieces 32 rest)) (made_read (line t) (read from)) from (from + length rest)
      again t from rest here =
          tied_made (line t) _ _ from from _ (omega arith) (only_tied 32 s form read Stop space tie [] over from rest here)
