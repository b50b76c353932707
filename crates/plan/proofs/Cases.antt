-- The plans hold what the document says: the definitions are computed.
use mathlib.Core.Bool.{true}
use mathlib.Core.Path.{◌≡◌, refl}
use Rattle.plan.specs.Cases.{case_example, case_thirds, case_workdays, case_fridays}
use Rattle.plan.specs.Open.{opened}

pub example : case_example ≡ true
unfolding case_example opened
example = refl

pub thirds : case_thirds ≡ true
unfolding case_thirds opened
thirds = refl

pub workdays : case_workdays ≡ true
unfolding case_workdays opened
workdays = refl

pub fridays : case_fridays ≡ true
unfolding case_fridays opened
fridays = refl
