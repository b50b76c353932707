-- A refusal's number: "1: sheet over 16,448 bytes or over 64 lines", 2 to 8 of its first bad line, "9: .. the plan is longer than the lent buffer".
use Rattle.std.specs.Prelude.{cond, ℕ, eqb}
use Rattle.line.specs.Lined.{number_of, refusal_with}
use Rattle.compile.specs.declared.Reason.{Reason}
use Rattle.compile.specs.declared.Refusal.{Refusal}

abbrev pub reason_number : Reason → ℕ
reason_number Reason.TooLong = 1
reason_number Reason.NoRoom = 9
reason_number (Reason.Line refusal) = number_of refusal

-- the reason with one of these numbers
unfoldable pub reason_with : ℕ → Reason
reason_with n = cond (eqb n 1) Reason.TooLong (cond (eqb n 9) Reason.NoRoom (Reason.Line (refusal_with n)))

abbrev pub refusal_as : ℕ → ℕ → ℕ → ℕ → Refusal
refusal_as number line at size = record { reason = reason_with number; line = line; at = at; length = size }
