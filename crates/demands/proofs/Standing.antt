-- A line in its place has its frame in its place.
use Rattle.std.specs.Prelude.{Some}
use mathlib.Core.Bool.{true, false≢true}
use mathlib.Core.Path.{◌≡◌, refl}
use Prim.Native.Nat.{ℕ}
use Rattle.framed.proofs.Lines.{taken}
use Rattle.framed.specs.Framed.{frame_of}
use Rattle.plan.specs.Taken.{Before as Standing, start as bare, zoned as zoned_by, lines as others, place}
use Rattle.sheet.specs.Form.{Form, zone, change, cron, rule, extra, except}
use Rattle.sheet.specs.Place.{Before, start, zoned, lines, in_place}
use Rattle.sheet.specs.Refusals.{Context, context_after, limits_kept, form_refusal}

-- what the lines before a line leave, as the load check has it of their frames
abbrev standing_of : Before → ℕ → ℕ → Standing
standing_of start low offset = bare
standing_of (zoned k) low offset = zoned_by k low offset
standing_of lines low offset = others

abbrev pub standing : Context → Standing
standing c = standing_of c.before c.low c.offset

abbrev context : Before → ℕ → ℕ → Context
context b low offset = record { before = b; low = low; offset = offset }

module _ (low offset : ℕ) where
  placed_after : (b : Before) (f : Form) → in_place b f ≡ true → limits_kept (context b low offset) f ≡ true
      → place (standing_of b low offset) (frame_of f) ≡ Some (standing (context_after (context b low offset) f))
  unfolding in_place limits_kept place frame_of context_after
  placed_after start (zone s) p l = refl
  placed_after start (change t s) p l = absurd (false≢true p)
  placed_after start (cron m h d mo w) p l = absurd (false≢true p)
  placed_after start (rule t ps) p l = absurd (false≢true p)
  placed_after start (extra t) p l = absurd (false≢true p)
  placed_after start (except t) p l = absurd (false≢true p)
  placed_after (zoned k) (zone s) p l = absurd (false≢true p)
  placed_after (zoned k) (change t s) p l = rw (p, l) refl
  placed_after (zoned k) (cron m h d mo w) p l = refl
  placed_after (zoned k) (rule t ps) p l = refl
  placed_after (zoned k) (extra t) p l = refl
  placed_after (zoned k) (except t) p l = refl
  placed_after lines (zone s) p l = absurd (false≢true p)
  placed_after lines (change t s) p l = absurd (false≢true p)
  placed_after lines (cron m h d mo w) p l = refl
  placed_after lines (rule t ps) p l = refl
  placed_after lines (extra t) p l = refl
  placed_after lines (except t) p l = refl

pub frame_placed : (c : Context) (f : Form) → form_refusal c f ≡ 0 → place (standing c) (frame_of f) ≡ Some (standing (context_after c f))
frame_placed c f e = let a = taken c f e in placed_after c.low c.offset c.before f a.place a.limits
