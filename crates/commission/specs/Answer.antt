-- "writes its plan, or the refusal number, a space, the line number and LF"
use Rattle.std.specs.Prelude.{cond, List, [], ◌∷◌, ◌++◌, ℕ, zero, suc, ◌+◌, ◌/◌, ◌%◌, ltb}
use Rattle.compile.specs.Compiled.{Compiled, plan, refusal}
use Rattle.lines.specs.Bytes.{byte}

-- a number's decimal digits, of which there are at most as many as the first argument says
unfoldable pub decimal_within : ℕ → ℕ → List ℕ
decimal_within zero n = []
decimal_within (suc more) n = cond (ltb n 10) ((byte "0" + n) ∷ []) (decimal_within more (n / 10) ++ ((byte "0" + n % 10) ∷ []))

unfoldable pub decimal : ℕ → List ℕ
unfolding decimal_within
decimal n = decimal_within (suc n) n

unfoldable pub refusal_text : ℕ → ℕ → List ℕ
refusal_text number line = decimal number ++ (byte " " ∷ []) ++ decimal line ++ (10 ∷ [])

abbrev pub answer_of : Compiled → List ℕ
answer_of (plan p) = p
answer_of (refusal number line at size) = refusal_text number line
