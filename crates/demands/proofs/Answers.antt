-- What a plan answers is what the text that it was compiled from means.
use mathlib.Core.Bool.{Bool}
use mathlib.Core.List.{List, map}
use mathlib.Core.Path.{◌≡◌, subst}
use Prim.Native.Nat.{ℕ}
use lib.IntN.{ℤ}
use Rattle.evandrusk.specs.Plans.{SignedInstant, NearestFound, NearestBy}
use Rattle.evandrusk.specs.Plans.NearestFound.{found, none}
use Rattle.evandrusk.specs.declared.answers.EvkFound.{EvkFound}
use Rattle.framed.specs.Framed.{frame_of}
use Rattle.plan.specs.Taken.{taken, load}
use Rattle.sheet.specs.Form.{Form}
use Rattle.sheet.specs.Meaning.{SheetInstant}
use Rattle.demands.specs.Meant.{MeantInstant}
use Rattle.demands.proofs.Allowed.{plan_taken}
use Rattle.demands.proofs.Sources.{Source}
use Rattle.demands.proofs.Instants.{plan_of_sheet, sheet_of_plan}

-- the nearest of some instants is the nearest of the same instants
nearest_same : (before : ℤ → ℤ → Bool) (A B : ℤ → Type 0) (asked : ℤ) (r : EvkFound) → ((z : ℤ) → A z → B z) → ((z : ℤ) → B z → A z)
    → NearestFound before A asked r → NearestFound before B asked r
nearest_same before A B asked r to from (found z n e) =
    found z (record { is = to z n.is; beyond = n.beyond; nearest = λ y b. n.nearest y (from y b) }) e
nearest_same before A B asked r to from (none n e) = none (λ z b. n z (from z b)) e

module _ (text p : List ℕ) (source : Source text p) where
  abbrev fs : List Form
  fs = source.forms

  text_means : (z : ℤ) → SignedInstant (map frame_of fs) z → MeantInstant text z
  text_means z s =
      record {
        forms = fs;
        taken = source.sheet;
        inside = s.inside;
        is = sheet_of_plan text fs source.sheet s.inside s.is;
        becomes = s.becomes;
      }

  plan_means : (z : ℤ) → MeantInstant text z → SignedInstant (map frame_of fs) z
  plan_means z m =
      let same : m.forms ≡ fs = cc in
      record {
        inside = m.inside;
        is = plan_of_sheet text fs source.sheet m.inside (subst (λ (gs : List Form). SheetInstant gs m.inside) same m.is);
        becomes = m.becomes;
      }

  -- either direction of time
  module _ (before : ℤ → ℤ → Bool) (asked : ℤ) (r : EvkFound) where
    pub answer_means : NearestBy before (load p) asked r → NearestFound before (MeantInstant text) asked r
    unfolding NearestBy
    answer_means a =
        nearest_same before (SignedInstant (map frame_of fs)) (MeantInstant text) asked r text_means plan_means
        (rw (plan_taken text p source) at a)

    pub meant_answer : NearestFound before (MeantInstant text) asked r → NearestBy before (load p) asked r
    unfolding NearestBy
    meant_answer n =
        rw (plan_taken text p source)
        (nearest_same before (MeantInstant text) (SignedInstant (map frame_of fs)) asked r plan_means text_means n)
