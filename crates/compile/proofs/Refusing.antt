-- A refusal shows the bad line.
use mathlib.Core.List.{List}
use mathlib.Core.Path.{◌≡◌, refl, subst}
use Prim.Native.Nat.{ℕ}
use lib.ListN.{take, drop}
use Rattle.lines.specs.Lines.{lines_of}
use Rattle.sheet.proofs.BadLines.{bad_line_shown}
use Rattle.sheet.specs.Refusals.{bad_line}
use Rattle.compile.specs.Compiled.{Compiled, plan, refusal, compile}
use Rattle.compile.specs.Reasons.{reason_number, refusal_as}
use Rattle.compile.proofs.Compiling.{compile_cases}
use Rattle.compile.proofs.Framing.{sheet_named}
use Rattle.compile.proofs.Reasons.{Numbered, nine_numbered}

module _ (text : List ℕ) where
  -- "the bad line as a part of the lent sheet": the bytes at its place, as many as its length
  abbrev Shown : Compiled → Type 0
  Shown (plan p) = Unit {0}
  Shown (refusal number line at size) = take size (drop at text) ≡ bad_line line (lines_of text).whole (lines_of text).tail

  shown : (room : ℕ) → Shown (compile text room)
  unfolding bad_line
  shown room = compile_cases text room Shown (λ number line e. bad_line_shown text line) (λ fs e h. refl) (λ fs e h. tt)

  pub refusal_shows : (room number line at size : ℕ) → compile text room ≡ refusal number line at size
      → take size (drop at text) ≡ bad_line line (lines_of text).whole (lines_of text).tail
  refusal_shows room number line at size e = subst Shown e (shown room)

  abbrev NumberedIn : Compiled → Type 0
  NumberedIn (plan p) = Unit {0}
  NumberedIn (refusal number line at size) = Numbered number

  -- a refusal's number is the one that its reason has
  pub refusal_numbered : (room number line at size : ℕ) → compile text room ≡ refusal number line at size
      → reason_number (refusal_as number line at size).reason ≡ number
  refusal_numbered room number line at size e =
      subst NumberedIn e (compile_cases text room NumberedIn (λ number line e. sheet_named text number line e) (λ fs e h. nine_numbered) (λ fs e h. tt))
