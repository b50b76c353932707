-- Where the line fits it is put and then the LF; elsewhere nothing is.
use mathlib.Core.Path.{sym}
use Prim.Native.Nat.{◌+◌, ◌<◌, ◌≤◌}
use native.Mathlib.Omega.{arith}
use borrow.Author.Tests.{le-leb, lt-leb}
use lib.ListN.{length}
use Rattle.hex_lines.proofs.Puts.{put_outside}
use Rattle.plan.specs.Text.{frame_line, whole_line}
use Rattle.plan.proofs.Placing.{row_line, row_size, line_end_put, whole_length}
use Rattle.plan.proofs.text.write.Goals as goal

pub returns-then-saturating_sub-n : goal.returns-then-saturating_sub-n
returns-then-saturating_sub-n c =
    let a = c.args in
    let l = a.buf.now in
    let h : length l < a.at + length (whole_line a.frame) =
    omega (arith, whole_length a.frame, c.size_of-n.ensures, c.saturating_sub.ensures) in
    (rw (lt-leb _ _ h), sym (put_outside l a.at (whole_line a.frame) h))

pub put_row-requires : goal.put_row-requires
put_row-requires c = rw
    (c.widths_of-sizes.ensures, c.row_of-row.ensures, c.moved_frame.ensures, row_size c.args.frame)
    (omega (arith, c.size_of-n.ensures, c.saturating_sub.ensures))

pub returns : goal.returns
returns c =
    let a = c.args in
    let l = a.buf.now in
    let n = c.size_of-n.ensures in
    let e : a.at + length (frame_line a.frame) < length l = omega (arith, n, c.saturating_sub.ensures) in
    let h : a.at + length (whole_line a.frame) ≤ length l = omega (arith, whole_length a.frame) in (
      rw (le-leb _ _ h, whole_length a.frame, ← n) (omega arith),
      rw
          (c.put_row.ensures, c.widths_of-sizes.ensures, c.row_of-row.ensures, c.moved_frame.ensures, row_line a.frame, n)
          (line_end_put a.frame l a.at e),
    )
