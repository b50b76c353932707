-- Too long, refused, no room, or the plan.
use Rattle.std.specs.Prelude.{Result, Ok, Err}
use Rattle.std.specs.Result.{IsErrAnd}
use mathlib.Core.Bool.{false}
use mathlib.Core.List.{List, map}
use mathlib.Core.Path.{◌≡◌, refl, sym, ap, ◌∙◌}
use Prim.Native.Nat.{ℕ, ◌+◌, ◌≤◌}
use native.Mathlib.Omega.{arith}
use borrow.Author.Tests.{leb-true}
use lib.Dec.{leb}
use lib.ListN.{length}
use lib.Seq.{sets}
use Rattle.calendar.proofs.Every.{both_true}
use Rattle.plan.proofs.Placing.{whole_length, line_short}
use Rattle.plan.specs.Rows.{row_of}
use Rattle.plan.specs.declared.Frame.{Frame}
use Rattle.sheet.specs.Refusals.{too_long}
use Rattle.compile.specs.Reading.{sheet_frames, frames_read, read_as}
use Rattle.compile.specs.Reasons.{reason_with}
use Rattle.compile.specs.declared.Refusal.{Refusal}
use Rattle.compile.proofs.Compiling.{compile_long, compile_refused, short, no_room, Made, plan_made}
use Rattle.compile.proofs.compile.Goals as goal
use Rattle.compile.proofs.compile.Goals.{After-length_of}

passed_on : (r : Result ℕ Refusal) (x : Refusal) → IsErrAnd r (λ y. y ≡ x) → r ≡ Err x
passed_on (Err y) x g = ap Err g
passed_on (Ok n) x g = absurd g

pub returns-then-too_long : goal.returns-then-too_long
unfolding reason_with
returns-then-too_long c =
    let a = c.args in
    rw (compile_long a.sheet.now (length a.plan.now) (sym c.too_long.ensures ∙ c.if-too_long.true))
    (record { answer = ap Err c.whole.ensures; plan = refl })

pub read-requires : goal.read-requires
read-requires c = short c.args.sheet.now (sym c.too_long.ensures ∙ c.if-too_long.false)

pub returns-in_err-frames : goal.returns-in_err-frames
returns-in_err-frames c =
    let a = c.args in
    let f = compile_refused a.sheet.now (length a.plan.now) (sym c.too_long.ensures ∙ c.if-too_long.false) _ c.in_err-frames.ensures.answer in
    rw f.compiled (record { answer = passed_on _ _ c.from_residual.ensures.1 ∙ ap Err f.same; plan = refl })

-- ---- the sheet is taken: what was read of it
module _ (c : After-length_of) where
  abbrev text : List ℕ
  text = c.args.sheet.now

  abbrev buffer : List ℕ
  buffer = c.args.plan.now

  abbrev count : ℕ
  count = c.in_ok-frames.frames

  abbrev bytes : ℕ
  bytes = c.in_ok-frames.bytes

  abbrev fresh : List (List ℕ)
  fresh = c.fresh_rows-rows.result

  not_long : too_long text ≡ false
  not_long = sym c.too_long.ensures ∙ c.if-too_long.false

  is_read : Ok (count, bytes) ≡ read_as (sheet_frames text)
  is_read = c.in_ok-frames.ensures.answer

  few : (count ≤ 64) × (bytes ≤ 5312)
  few = let s = both_true (leb count 64) _ c.in_ok-frames.ensures.small in (leb-true count 64 s.0, leb-true bytes 5312 s.1)

  places : length fresh ≡ 64
  places = ap length c.fresh_rows-rows.ensures

  made : bytes + c.length_of.result ≤ length buffer → (rows : List (List ℕ)) → rows ≡ sets fresh 0 (map row_of (frames_read text))
      → Made text buffer rows count (bytes + c.length_of.result)
  made fits rows kept =
      plan_made text buffer not_long count bytes c.length_of.result is_read c.length_of.ensures fresh rows kept places few.0 fits

pub overflow_add-size : goal.overflow_add-size
overflow_add-size c = omega (arith, c.length_of.ensures, whole_length (Frame.End (count c)), line_short (Frame.End (count c)), few c)

pub returns-then-plan-size : goal.returns-then-plan-size
unfolding reason_with
returns-then-plan-size c =
    let r = (goal.at.returns-then-plan-size c).After-length_of in
    rw
    (no_room (text r) (buffer r) (not_long r) (count r) (bytes r) r.length_of.result (is_read r) r.length_of.ensures (omega arith))
    (record { answer = ap Err c.whole-then-plan-size.ensures; plan = refl })

pub write-requires : goal.write-requires
write-requires c =
    let r = (goal.at.write-requires c).After-length_of in (made r (omega arith) _ c.in_ok-frames.ensures.rows).fits

pub returns : goal.returns
returns c =
    let r = (goal.at.returns c).After-length_of in
    let p = made r (omega arith) _ c.in_ok-frames.ensures.rows in
    record { answer = p.answer; plan = c.write.ensures ∙ p.left }
