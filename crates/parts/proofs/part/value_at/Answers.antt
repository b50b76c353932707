-- A frequency is the document's number.
use mathlib.Core.Path.{◌≡◌, refl}
use Prim.Native.Nat.{ℕ, zero, suc, ◌+◌, ◌<◌}
use native.Mathlib.Omega.{arith}
use borrow.Author.Rules.{rules}
use Rattle.framed.specs.Framed.{frequency_number}
use Rattle.sheet.specs.Form.{frequency_words}
use Rattle.words.proofs.Afters.{one_below}
use Rattle.words.proofs.Named.{named_is}
use Rattle.parts.specs.Values.{frequency_of, value_read, part_as}
use Rattle.parts.proofs.part.value_at.Goals as goal

number : (k : ℕ) → k < 4 → frequency_number (frequency_of k) ≡ k + 1
number zero h = refl
number (suc zero) h = refl
number (suc (suc zero)) h = refl
number (suc (suc (suc zero))) h = refl
number (suc (suc (suc (suc k)))) h = absurd (omega arith)

pub overflow_add-result : goal.overflow_add-result
unfolding frequency_words
overflow_add-result c =
    let l : c.in_ok-k-in-0.k < 4 = one_below frequency_words c.args.s.now c.args.c.at _ _ (named_is _ _ _ c.in_ok-k-in-0.ensures) in
    search rules

pub returns-in_ok-k-in-0 : goal.returns-in_ok-k-in-0
unfolding value_read part_as frequency_words
returns-in_ok-k-in-0 c =
    let w = named_is _ _ _ c.in_ok-k-in-0.ensures in
    rw (c.in-0.is, w, number c.in_ok-k-in-0.k (one_below frequency_words c.args.s.now c.args.c.at _ _ w)) refl
