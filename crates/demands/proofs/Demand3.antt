-- Demand 3: "The plan alone, asked from any instant, gives the next and the previous instant that the sheet's text means."
use mathlib.Core.List.{List}
use mathlib.Core.Path.{◌≡◌}
use Prim.Native.Nat.{ℕ}
use lib.IntN.{ℤ}
use lib.ListN.{length, take}
use lib.Signed.{lt_z}
use Rattle.compile.specs.Answers.{left_in}
use Rattle.compile.specs.Compiled.{plan, compile}
use Rattle.evandrusk.proofs.Nearests.{later_unique, earlier_unique}
use Rattle.evandrusk.specs.Plans.{NearestFound, NextAnswer, PreviousAnswer, later}
use Rattle.evandrusk.specs.Sheets.{compile_answer}
use Rattle.evandrusk.specs.declared.answers.EvkCompiled.{EvkCompiled}
use Rattle.evandrusk.specs.declared.answers.EvkFound.{EvkFound}
use Rattle.demands.specs.Meant.{MeantInstant}
use Rattle.demands.proofs.Answers.{answer_means, meant_answer}
use Rattle.demands.proofs.Plans.{compiled_bytes}
use Rattle.demands.proofs.Sources.{plan_source}

module _ (text : List ℕ) (room : ℕ) (p : List ℕ) (compiled : compile text room ≡ plan p) (asked : ℤ) (r : EvkFound) where
  -- what meets the promise of `evk_next` is the nearest later instant of the text's meaning, or 11 where there is none; and nothing else is
  pub next_means : NextAnswer p asked r → NearestFound lt_z (MeantInstant text) asked r
  unfolding NextAnswer
  next_means = answer_means text p (plan_source text room p compiled) lt_z asked r

  pub next_meant : NearestFound lt_z (MeantInstant text) asked r → NextAnswer p asked r
  unfolding NextAnswer
  next_meant = meant_answer text p (plan_source text room p compiled) lt_z asked r

  -- and of `evk_previous` the nearest earlier one
  pub previous_means : PreviousAnswer p asked r → NearestFound later (MeantInstant text) asked r
  unfolding PreviousAnswer
  previous_means = answer_means text p (plan_source text room p compiled) later asked r

  pub previous_meant : NearestFound later (MeantInstant text) asked r → PreviousAnswer p asked r
  unfolding PreviousAnswer
  previous_meant = meant_answer text p (plan_source text room p compiled) later asked r

-- at most one answer fits a text's meaning, whatever the text
module _ (text : List ℕ) (asked : ℤ) (r s : EvkFound) where
  pub next_meant_unique : NearestFound lt_z (MeantInstant text) asked r → NearestFound lt_z (MeantInstant text) asked s → r ≡ s
  next_meant_unique = later_unique (MeantInstant text) asked r s

  pub previous_meant_unique : NearestFound later (MeantInstant text) asked r → NearestFound later (MeantInstant text) asked s → r ≡ s
  previous_meant_unique = earlier_unique (MeantInstant text) asked r s

-- of what C holds: where `evk_compile` answers `made` with 0 and leaves the buffer as `left`, its first bytes, `made.length` of them, are such a plan
module _ (text buffer left : List ℕ) (made : EvkCompiled) (answer : made ≡ compile_answer (compile text (length buffer)))
    (kept : left ≡ left_in buffer (compile text (length buffer))) (taken : made.number ≡ 0) (asked : ℤ) (r : EvkFound) where
  pub next_of_compiled : NextAnswer (take made.length left) asked r → NearestFound lt_z (MeantInstant text) asked r
  next_of_compiled =
      next_means text (length buffer) (take made.length left) (compiled_bytes text buffer left made answer kept taken) asked r

  pub previous_of_compiled : PreviousAnswer (take made.length left) asked r → NearestFound later (MeantInstant text) asked r
  previous_of_compiled =
      previous_means text (length buffer) (take made.length left) (compiled_bytes text buffer left made answer kept taken) asked r
