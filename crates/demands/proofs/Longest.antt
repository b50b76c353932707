-- No plan is longer than that of a zone line and 63 rules: 5,241 bytes.
use mathlib.Core.Bool.{true, false≢true}
use mathlib.Core.List.{List, [], ◌∷◌, map}
use mathlib.Core.Path.{◌≡◌, refl, sym, ap, ◌∙◌}
use Prim.Native.Nat.{ℕ, ◌+◌, ◌*◌, ◌≤◌}
use native.Mathlib.Omega.{arith}
use lib.ListN.{length, length-append, length-map}
use Rattle.compile.proofs.Compiling.{compiled_length}
use Rattle.compile.specs.Compiled.{plan, compile, compiled_text}
use Rattle.framed.proofs.Lines.{taken}
use Rattle.framed.specs.Framed.{frame_of}
use Rattle.hex_lines.specs.Hex.{hex_of}
use Rattle.plan.proofs.Placing.{whole_length, line_short, text_cons}
use Rattle.plan.specs.Text.{frame_line, whole_line, plan_text}
use Rattle.plan.specs.declared.Frame.{Frame}
use Rattle.sheet.specs.Form.{Form, zone, change, cron, rule, extra, except}
use Rattle.sheet.specs.Place.{start, in_place}
use Rattle.demands.proofs.Read.{TakenSheet, taken_sheet}
use Rattle.demands.proofs.Sources.{plan_source}

longer_by : (f : Frame) (fs : List Frame) → length (plan_text (f ∷ fs)) ≡ length (whole_line f) + length (plan_text fs)
longer_by f fs = ap length (sym (text_cons f fs)) ∙ length-append (whole_line f) (plan_text fs)

frames_long : (fs : List Frame) → length (plan_text fs) ≤ 83 * length fs
unfolding plan_text
frames_long [] = omega arith
frames_long (f ∷ fs) = omega (arith, longer_by f fs, whole_length f, line_short f, frames_long fs)

-- the first line is a zone's
zone_long : (f : Form) → in_place start f ≡ true → length (frame_line (frame_of f)) ≡ 6
unfolding in_place frame_of frame_line hex_of
zone_long (zone s) p = refl
zone_long (change t s) p = absurd (false≢true p)
zone_long (cron m h d mo w) p = absurd (false≢true p)
zone_long (rule t ps) p = absurd (false≢true p)
zone_long (extra t) p = absurd (false≢true p)
zone_long (except t) p = absurd (false≢true p)

end_long : (n : ℕ) → length (frame_line (Frame.End n)) ≡ 4
unfolding frame_line hex_of
end_long n = refl

sheet_long : (fs : List Form) → TakenSheet fs → length (compiled_text fs) ≤ 5241
sheet_long [] t = absurd (omega (arith, t.least))
sheet_long (f ∷ fs) t =
    let z = zone_long f (taken _ f t.each.0.fine).place in
    let n : ℕ = length (f ∷ fs) in
    omega (
      arith,
      t.most,
      compiled_length (f ∷ fs),
      longer_by (frame_of f) (map frame_of fs),
      whole_length (frame_of f),
      z,
      frames_long (map frame_of fs),
      length-map fs frame_of,
      whole_length (Frame.End n),
      end_long n,
    )

pub plan_longest : (text : List ℕ) (room : ℕ) (p : List ℕ) → compile text room ≡ plan p → length p ≤ 5241
plan_longest text room p e =
    let s = plan_source text room p e in
    omega (arith, ap length s.written, sheet_long s.forms (taken_sheet text s.forms s.sheet))
