-- What a sheet's text means, as C gets it.
use Rattle.std.specs.Prelude.{List, ◌≡◌, ℕ, ℤ}
use Rattle.sheet.specs.Form.{Form}
use Rattle.sheet.specs.Meaning.{SheetInstant}
use Rattle.sheet.specs.Refusals.{Sheet, read_sheet}
use Rattle.signed.specs.Bias.{unbias_instant}

-- z is an instant of the sheet's meaning: the text is taken, and an instant of its lines becomes z
pub record MeantInstant (text : List ℕ) (z : ℤ) : Type 0 where
  pub forms : List Form
  pub taken : read_sheet text ≡ Sheet.taken forms
  pub inside : ℕ
  pub is : SheetInstant forms inside
  pub becomes : unbias_instant inside ≡ z
