-- All bytes of a number of five are below 128.
use mathlib.Core.Bool.{true, false}
use mathlib.Core.Path.{◌≡◌, ◌∙◌}
use borrow.Author.Rules.{rules}
use lib.Dec.{ltb}
use Rattle.std.proofs.Common.{tests}
use Rattle.std.proofs.lemmas.Iterator.{cases_from_all, YieldsList-from_slice}
use Rattle.good.proofs.Goods.{by_test, ordinals_by_bytes}
use Rattle.good.proofs.rule.ordinals_good.Goals as goal

pub returns-then-g-lt-ORDINALS_END : goal.returns-then-g-lt-ORDINALS_END
returns-then-g-lt-ORDINALS_END c =
    let bytes = c.to_be_bytes.result in
    by_test (λ b. ltb b 128) _ bytes
    (cases_from_all _ _ _ (λ b. ltb b 128 ≡ true) (λ b. ltb b 128 ≡ false) c.all.ensures.ran (YieldsList-from_slice bytes cc) (λ x q k. search (rules, tests)) (λ x q k. search (rules, tests)))
    ∙ rw c.to_be_bytes.ensures (ordinals_by_bytes c.args.g c.if-g-lt-ORDINALS_END.true)
