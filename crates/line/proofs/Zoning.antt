-- The lines Z, T, D and X: their forms as they are read.
use Rattle.std.specs.Prelude.{Option, None, Some}
use mathlib.Core.List.{List, [], ◌∷◌, ◌++◌}
use mathlib.Core.Path.{◌≡◌, refl}
use Prim.Native.Nat.{ℕ, ◌+◌}
use native.Mathlib.Omega.{arith}
use lib.ListN.{length, drop}
use Rattle.sheet.specs.Form.{Time, time_of, Shift, shift_of, Form, zone, change, form_by, change_by, change_of}
use Rattle.sheet.specs.Words.{pieces}
use Rattle.words.proofs.Forms.{shift_tied}
use Rattle.words.proofs.Tied.{made, Tied, tied_made}
use Rattle.words.specs.Answers.{made_read, shift_read, time_read}
use Rattle.words.specs.Reads.{shift_at, time_at}
use Rattle.line.proofs.Reading.{all_of_it, to_end}
use Rattle.line.proofs.Timing.{Stop, over, stop_signs, time_here, timed_read, after_time, timed_tied}

form_by_lem : {A : Type 0} (form : A → Form) (o : Option A) → form_by form o ≡ made form o
unfolding form_by
form_by_lem form None = refl
form_by_lem form (Some a) = refl

module _ (s : List ℕ) where
  abbrev pub shift_here : ℕ → Option (Shift × ℕ)
  shift_here at = shift_read (shift_at s at)

  shift_here_lem : (at : ℕ) (p tail : List ℕ) → drop at s ≡ p ++ tail → Stop tail → Tied (shift_of p) (shift_here at) at (at + length p)
  shift_here_lem at p tail here stop = shift_tied s at tail (stop_signs stop) p here

  no_time : (q : List ℕ) (ps : List (List ℕ)) → time_of q ≡ None → change_of (q ∷ ps) ≡ None
  unfolding change_of change_by
  no_time q [] e = refl
  no_time q (p ∷ []) e = rw e refl
  no_time q (p ∷ r ∷ ps) e = refl

  with_time : (q : List ℕ) (ps : List (List ℕ)) (t : Time) → time_of q ≡ Some t
      → change_of (q ∷ ps) ≡ after_time s shift_of shift_here change t ps
  unfolding change_of change_by after_time
  with_time q [] t e = refl
  with_time q (p ∷ []) t e = rw e (by_shift (shift_of p))
    where
      by_shift : (o : Option Shift) → change_by (Some t) o ≡ made (change t) o
      by_shift None = refl
      by_shift (Some x) = refl
  with_time q (p ∷ r ∷ ps) t e = refl

  -- Z
  pub zone_tied : Tied (form_by zone (shift_of s)) (made_read zone (shift_here 0)) 0 (length s)
  zone_tied = rw (form_by_lem zone (shift_of s)) (to_end s _ _ (tied_made zone _ _ 0 0 _ (omega arith) (shift_here_lem 0 s [] (all_of_it s) over)))

  -- D and X
  pub moment_tied : (form : Time → Form) → Tied (form_by form (time_of s)) (made_read form (time_read (time_at s 0))) 0 (length s)
  moment_tied form =
      rw (form_by_lem form (time_of s)) (to_end s _ _ (tied_made form _ _ 0 0 _ (omega arith) (time_here s 0 s [] (all_of_it s) over)))

  -- T
  pub change_tied : Tied (change_of (pieces 32 s)) (timed_read s shift_of shift_here change) 0 (length s)
  change_tied = timed_tied s shift_of shift_here change change_of no_time with_time shift_here_lem
