-- The loop's invariant: the word is there if what is left of it is.
use mathlib.Core.Path.{◌≡◌}
use Prim.Native.Nat.{◌+◌, ◌-◌, ◌≤◌}
use lib.ListN.{length, drop}
use Rattle.words.specs.Reads.{starts_with}
use Rattle.words.proofs.cursor.Cursor.word.Given as goal

abbrev pub invariant-loop-i : goal.invariant-loop-i
invariant-loop-i l = (l.i ≤ length l.w) × ((l.i ≤ length l.s - l.at) × (starts_with l.w (drop (l.at) l.s) ≡ starts_with (drop l.i l.w) (drop (l.at + l.i) l.s)))

abbrev pub decreases-loop-i : goal.decreases-loop-i
decreases-loop-i l = length l.w - l.i
