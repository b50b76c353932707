-- Every compiled plan is taken.
use Rattle.std.specs.Prelude.{Option, None, Some}
use mathlib.Core.Bool.{Bool, true, false, not, ◌&&◌}
use mathlib.Core.List.{List, [], ◌∷◌, map}
use mathlib.Core.Path.{◌≡◌, refl, ap, ◌∙◌}
use Prim.Native.Nat.{ℕ, ◌+◌, ◌<◌}
use native.Mathlib.Omega.{arith}
use borrow.Author.Tests.{lt-ltb}
use lib.ListN.{length, length-map}
use Rattle.compile.specs.Compiled.{compiled_text}
use Rattle.framed.specs.Framed.{frame_of}
use Rattle.plan.proofs.Loading.{written_plan}
use Rattle.plan.specs.Allowed.{allowed_from, frames_allowed}
use Rattle.plan.specs.Taken.{Before as Standing, taken as taken_frames, frame_good, place, number_good, is_end, load}
use Rattle.sheet.specs.Form.{Time, Shift, Form, zone, change, cron, rule, extra, except}
use Rattle.sheet.specs.Place.{Before, start, zoned, lines, after}
use Rattle.sheet.specs.Refusals.{Context, context_after, taken, read_sheet, first}
use Rattle.compile.proofs.Compiling.{compiled_frames_lem}
use Rattle.demands.proofs.FrameGoods.{line_frame_good, frame_not_end}
use Rattle.demands.proofs.Read.{Line, Lines, TakenSheet, taken_sheet}
use Rattle.demands.proofs.Sources.{Source}
use Rattle.demands.proofs.Standing.{standing, frame_placed}

number_good_lem : (n : ℕ) (f : Form) → n < 64 → number_good n (frame_of f) ≡ true
unfolding number_good frame_of
number_good_lem n (zone s) h = lt-ltb n 64 h
number_good_lem n (change t s) h = lt-ltb n 64 h
number_good_lem n (cron m hr d mo w) h = lt-ltb n 64 h
number_good_lem n (rule t ps) h = lt-ltb n 64 h
number_good_lem n (extra t) h = lt-ltb n 64 h
number_good_lem n (except t) h = lt-ltb n 64 h

-- the end frame may stand after any line
end_after_change : (n low offset : ℕ) (t : Time) (s : Shift) (b : Before)
    → allowed_from n (standing (record { before = after b (change t s); low = low; offset = offset })) [] ≡ true
unfolding allowed_from place
end_after_change n low offset t s start = refl
end_after_change n low offset t s (zoned k) = refl
end_after_change n low offset t s lines = refl

end_after : (n : ℕ) (c : Context) (f : Form) → allowed_from n (standing (context_after c f)) [] ≡ true
unfolding context_after allowed_from place
end_after n c (zone s) = refl
end_after n c (change t s) = end_after_change n _ _ t s c.before
end_after n c (cron m h d mo w) = refl
end_after n c (rule t ps) = refl
end_after n c (extra t) = refl
end_after n c (except t) = refl

module _ (n : ℕ) (c : Context) (f : Form) (fs : List Form) where
  abbrev on_place : Option Standing → Bool
  on_place o =
      elim o [
        | None ↦ false
        | Some after ↦ not (is_end (frame_of f)) && (frame_good (frame_of f) && (number_good n (frame_of f) && allowed_from (n + 1) after (map frame_of fs)))
      ]

  line_allowed : n < 64 → Line c f → allowed_from (n + 1) (standing (context_after c f)) (map frame_of fs) ≡ true
      → allowed_from n (standing c) (map frame_of (f ∷ fs)) ≡ true
  unfolding allowed_from
  line_allowed h l others =
      ap on_place (frame_placed c f l.fine)
      ∙ rw (frame_not_end f, line_frame_good l.bytes f l.form c l.fine, number_good_lem n f h) others

lines_allowed : (fs : List Form) (n : ℕ) (c : Context) (f : Form) → n + length fs < 64 → Line c f → Lines (context_after c f) fs
    → allowed_from n (standing c) (map frame_of (f ∷ fs)) ≡ true
lines_allowed [] n c f h l ls = line_allowed n c f [] (omega arith) l (end_after (n + 1) c f)
lines_allowed (g ∷ gs) n c f h l ls =
    line_allowed n c f (g ∷ gs) (omega arith) l (lines_allowed gs (n + 1) (context_after c f) g (omega arith) ls.0 ls.1)

-- the frames of a sheet that is taken may stand in a plan
frames_allowed_lem : (fs : List Form) → TakenSheet fs → frames_allowed (map frame_of fs) ≡ true
unfolding frames_allowed
frames_allowed_lem [] t = absurd (omega (arith, t.least))
frames_allowed_lem (f ∷ fs) t = lines_allowed fs 0 first f (omega (arith, t.most)) t.each.0 t.each.1

pub compiled_taken : (text : List ℕ) (fs : List Form) → read_sheet text ≡ taken fs → load (compiled_text fs) ≡ taken_frames (map frame_of fs)
unfolding compiled_text
compiled_taken text fs e =
    rw (compiled_frames_lem fs, ← length-map fs frame_of) (written_plan (map frame_of fs) (frames_allowed_lem fs (taken_sheet text fs e)))

pub plan_taken : (text p : List ℕ) (s : Source text p) → load p ≡ taken_frames (map frame_of s.forms)
plan_taken text p s = ap load s.written ∙ compiled_taken text s.forms s.sheet
