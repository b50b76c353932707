-- What C is answered of a sheet: "A refusal answers its number, its line or 0, and zeros for every other number", and "for 2 to 8 an entry also
-- shows the bad line as a part of the lent sheet".
use Rattle.std.specs.Prelude.{ℕ, length, Result, Ok, Err}
use Rattle.compile.specs.Compiled.{Compiled, plan, refusal}
use Rattle.compile.specs.Reasons.{reason_number}
use Rattle.compile.specs.declared.Refusal.{Refusal}
use Rattle.evandrusk.specs.declared.answers.EvkCompiled.{EvkCompiled}

-- a plan is answered with 0 and its length
abbrev pub compiled_for : Result ℕ Refusal → EvkCompiled
compiled_for (Ok n) = record { number = 0; line = 0; length = n; bad_at = 0; bad_length = 0 }
compiled_for (Err r) = record { number = reason_number r.reason; line = r.line; length = 0; bad_at = r.at; bad_length = r.length }

abbrev pub compile_answer : Compiled → EvkCompiled
compile_answer (plan p) = record { number = 0; line = 0; length = length p; bad_at = 0; bad_length = 0 }
compile_answer (refusal number line at size) = record { number = number; line = line; length = 0; bad_at = at; bad_length = size }
