-- The loop's invariant: the word is there if what is left of it is.
use mathlib.Core.Path.{◌≡◌, refl, ◌∙◌}
use Prim.Native.Nat.{◌+◌}
use native.Mathlib.Omega.{arith}
use borrow.Author.Rules.{rules}
use lib.ListN.{length}
use Rattle.words.specs.Reads.{word_at}
use Rattle.words.proofs.Starting.{word_done, word_short, word_differs, word_same}
use Rattle.words.proofs.cursor.Cursor.word.Goals as goal

pub loop-i-init : goal.loop-i-init
loop-i-init c = let a = c.args in
    (search rules, (search rules, let e : a.self.at + 0 ≡ a.self.at = omega arith in rw e refl))

pub returns-then-s-at : goal.returns-then-s-at
unfolding word_at
returns-then-s-at c = let l = c in
    let a = l.args in
    rw (l.loop-i.invariant.1.1 ∙ word_short a.w.now a.s.now a.self.at l.loop-i.i (omega arith) (omega arith)) refl

pub returns-then-s-at-2 : goal.returns-then-s-at-2
unfolding word_at
returns-then-s-at-2 c = let l = c in
    let a = l.args in
    rw (l.loop-i.invariant.1.1 ∙ word_short a.w.now a.s.now a.self.at l.loop-i.i (omega arith) (omega arith)) refl

pub returns-then-s-at-3 : goal.returns-then-s-at-3
unfolding word_at
returns-then-s-at-3 c = let l = c in
    let a = l.args in
    rw (l.loop-i.invariant.1.1 ∙ word_differs a.w.now a.s.now a.self.at l.loop-i.i (omega arith) (omega arith) c.if-s-at-3.true) refl

pub loop-i-preserved : goal.loop-i-preserved
loop-i-preserved c = let l = c in
    let a = l.args in
    (search rules, (search rules, l.loop-i.invariant.1.1 ∙ word_same a.w.now a.s.now a.self.at l.loop-i.i (omega arith) (omega arith) c.if-s-at-3.false))

pub returns : goal.returns
unfolding word_at
returns c = let l = c in
    let a = l.args in
    let e : l.loop-i.i ≡ length a.w.now = omega arith in
    rw (l.loop-i.invariant.1.1 ∙ word_done a.w.now a.s.now a.self.at l.loop-i.i (omega arith), ← e) refl
