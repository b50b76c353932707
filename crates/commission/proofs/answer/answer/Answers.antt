-- Too long, or the refusal.
use mathlib.Core.List.{◌++◌}
use mathlib.Core.Path.{◌≡◌, sym, ap, ◌∙◌}
use Prim.Native.Nat.{ℕ, ◌<◌}
use native.Mathlib.Omega.{arith}
use borrow.Author.Tests.{eqb-true, eqb-false}
use lib.ListN.{length, length-append}
use Rattle.commission.specs.Answer.{refusal_text}
use Rattle.commission.proofs.Answering.{too_long_lem, refused}
use Rattle.commission.proofs.answer.answer.Goals as goal

pub returns-then-not-is_empty-clause-text : goal.returns-then-not-is_empty-clause-text
returns-then-not-is_empty-clause-text c =
    let sheet = c.args.sheet.now in
    let more = c.args.more.now in
    let some : length more ≡ 0 → ⊥ = eqb-false (length more) 0 (sym c.if-not-is_empty.ensures) in
    let came : 0 < length more = omega arith in
    let long : 16448 < length (sheet ++ more) = omega (arith, length-append sheet more, c.requires came, came) in
    c.refuse.ensures.text ∙ ap (λ (n : ℕ). refusal_text n 0) c.number.ensures ∙ sym (too_long_lem (sheet ++ more) 16448 long)

pub returns-in-Err-clause-text : goal.returns-in-Err-clause-text
returns-in-Err-clause-text c =
    let a = c.args in
    let none : length a.more.now ≡ 0 = eqb-true (length a.more.now) 0 (sym c.if-not-is_empty.ensures) in
    c.refuse-in-Err.ensures.text
    ∙ ap (λ (n : ℕ). refusal_text n c.in-Err.refusal.line) c.number-in-Err.ensures
    ∙ refused a.sheet.now a.more.now a.out.now (omega (arith, none)) (omega arith) c.in-Err.refusal c.in-Err.ensures.answer
