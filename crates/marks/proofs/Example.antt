-- Document 01's whole example is compiled where its plan just fits, and refused with 9 in a buffer that is a byte too short.
-- The plan's offset changes at the first minute of a transition.
use mathlib.Core.Path.{◌≡◌, refl}
use lib.IntN.{pos, negsuc}
use Rattle.compile.specs.Compiled.{plan, refusal, compile}
use Rattle.evandrusk.specs.Plans.{offset_answer, offset_with}
use Rattle.lines.specs.Bytes.{bytes}
use Rattle.sheet.specs.Cases.{example_text}
use Rattle.marks.specs.Example.{example_plan}
use Rattle.marks.specs.Open.{opened}

pub example_compiled : compile (bytes example_text) 85 ≡ plan example_plan
unfolding example_plan opened
example_compiled = refl

pub example_no_room : compile (bytes example_text) 84 ≡ refusal 9 0 0 0
unfolding opened
example_no_room = refl

-- a minute before 2000-01-01 00:00 UTC
pub example_offset_first : offset_answer example_plan (negsuc 0) ≡ offset_with 0 0 (pos 60)
unfolding example_plan opened
example_offset_first = refl

-- 2026-03-29 00:59 UTC and a minute later
pub example_offset_before : offset_answer example_plan (pos 13801019) ≡ offset_with 0 0 (pos 60)
unfolding example_plan opened
example_offset_before = refl

pub example_offset_from : offset_answer example_plan (pos 13801020) ≡ offset_with 0 0 (pos 120)
unfolding example_plan opened
example_offset_from = refl
