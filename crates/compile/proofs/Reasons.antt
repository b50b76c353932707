-- Reasons and their numbers.
use mathlib.Core.Path.{◌≡◌, refl}
use Prim.Native.Nat.{ℕ}
use Rattle.line.specs.Lined.{number_of, refusal_with}
use Rattle.line.specs.declared.Refusal.{Refusal}
use Rattle.compile.specs.Reasons.{reason_number, reason_with}
use Rattle.compile.specs.declared.Reason.{Reason}

-- a line's refusal is the reason with its number
pub reason_of_line : (refusal : Refusal) → reason_with (number_of refusal) ≡ Reason.Line refusal
unfolding reason_with refusal_with
reason_of_line Refusal.Bytes = refl
reason_of_line Refusal.Form = refl
reason_of_line Refusal.Place = refl
reason_of_line Refusal.Range = refl
reason_of_line Refusal.Parts = refl
reason_of_line Refusal.Limits = refl
reason_of_line Refusal.Start = refl

-- a number that some reason has
abbrev pub Numbered : ℕ → Type 0
Numbered n = reason_number (reason_with n) ≡ n

pub line_numbered : (refusal : Refusal) → Numbered (number_of refusal)
unfolding reason_with refusal_with
line_numbered Refusal.Bytes = refl
line_numbered Refusal.Form = refl
line_numbered Refusal.Place = refl
line_numbered Refusal.Range = refl
line_numbered Refusal.Parts = refl
line_numbered Refusal.Limits = refl
line_numbered Refusal.Start = refl

pub one_numbered : Numbered 1
unfolding reason_with
one_numbered = refl

pub nine_numbered : Numbered 9
unfolding reason_with
nine_numbered = refl
