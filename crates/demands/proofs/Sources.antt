-- The sheet behind a plan; a refusal's number.
use mathlib.Core.List.{List}
use mathlib.Core.Path.{◌≡◌, refl, subst}
use Prim.Native.Nat.{ℕ, ◌<◌, ◌≤◌}
use native.Mathlib.Omega.{arith}
use lib.ListN.{length}
use Rattle.compile.proofs.Compiling.{compile_cases}
use Rattle.compile.specs.Compiled.{Compiled, plan, refusal, compiled_text, compile}
use Rattle.sheet.specs.Form.{Form}
use Rattle.sheet.specs.Refusals.{taken, read_sheet}
use Rattle.demands.proofs.Read.{refusal_number}

pub record Source (text p : List ℕ) : Type 0 where
  pub forms : List Form
  pub sheet : read_sheet text ≡ taken forms
  pub written : p ≡ compiled_text forms

module _ (text : List ℕ) (room : ℕ) where
  abbrev pub Sourced : Compiled → Type 0
  Sourced (plan p) = Source text p × (length p ≤ room)
  Sourced (refusal number line at size) = 0 < number

  -- a plan comes out only of a sheet that is taken, and fits; the number of a refusal is never 0
  pub sourced : Sourced (compile text room)
  sourced =
      compile_cases text room Sourced (refusal_number text) (λ fs e h. omega arith) (λ fs e h. (record { forms = fs; sheet = e; written = refl }, h))

  pub plan_source : (p : List ℕ) → compile text room ≡ plan p → Source text p
  plan_source p e = (subst Sourced e sourced).0
