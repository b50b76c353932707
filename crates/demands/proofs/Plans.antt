-- What C holds of a compiled sheet: where `evk_compile` answers 0, the first bytes of the buffer, as many as it answers, are the plan.
use mathlib.Core.List.{List}
use mathlib.Core.Path.{◌≡◌, refl, sym, ap, ap₂, ◌∙◌}
use Prim.Native.Nat.{ℕ, ◌≤◌}
use native.Mathlib.Omega.{arith}
use lib.ListN.{length, take}
use Rattle.compile.proofs.Compiling.{plan_left}
use Rattle.compile.specs.Answers.{left_in}
use Rattle.compile.specs.Compiled.{Compiled, plan, refusal, compile}
use Rattle.evandrusk.specs.Plans.{check_answer}
use Rattle.evandrusk.specs.Sheets.{compile_answer}
use Rattle.evandrusk.specs.declared.answers.EvkCompiled.{EvkCompiled}
use Rattle.demands.proofs.Allowed.{plan_taken}
use Rattle.demands.proofs.Sources.{Sourced, sourced, plan_source}

-- a plan that fits, of a sheet that is answered with 0
pub record Planned (text : List ℕ) (room : ℕ) : Type 0 where
  pub bytes : List ℕ
  pub compiled : compile text room ≡ plan bytes
  pub size : (compile_answer (compile text room)).length ≡ length bytes
  pub fits : length bytes ≤ room

module _ (text : List ℕ) (room : ℕ) where
  by_compiled : (c : Compiled) → compile text room ≡ c → Sourced text room c → (compile_answer c).number ≡ 0 → Planned text room
  by_compiled (plan p) e s z = record { bytes = p; compiled = e; size = ap (λ (c : Compiled). (compile_answer c).length) e; fits = s.1 }
  by_compiled (refusal number line at size) e s z = absurd (omega arith)

  pub planned : (compile_answer (compile text room)).number ≡ 0 → Planned text room
  planned = by_compiled (compile text room) refl (sourced text room)

-- the two promises of `evk_compile`: its answer, and the buffer that it leaves
module _ (text buffer left : List ℕ) (made : EvkCompiled) (answer : made ≡ compile_answer (compile text (length buffer)))
    (kept : left ≡ left_in buffer (compile text (length buffer))) where
  pub compiled_bytes : made.number ≡ 0 → compile text (length buffer) ≡ plan (take made.length left)
  compiled_bytes z =
      let p = planned text (length buffer) (ap (λ (r : EvkCompiled). r.number) (sym answer) ∙ z) in
      let n : made.length ≡ length p.bytes = ap (λ (r : EvkCompiled). r.length) answer ∙ p.size in
      let l : left ≡ left_in buffer (plan p.bytes) = kept ∙ ap (left_in buffer) p.compiled in
      p.compiled ∙ ap plan (sym (ap₂ take n l ∙ plan_left buffer p.bytes))

  -- and `evk_check` takes them
  pub compiled_checked : made.number ≡ 0 → check_answer (take made.length left) ≡ record { number = 0; line = 0 }
  unfolding check_answer
  compiled_checked z =
      rw (plan_taken text (take made.length left) (plan_source text (length buffer) (take made.length left) (compiled_bytes z))) refl
