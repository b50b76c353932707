-- An element, then, after a comma, the list of the bytes that are left: they fall.
use Rattle.std.proofs.Common.{ℕ, ◌-◌, ◌∙◌, sym, ap, arith, rules}
use borrow.Author.Tests.{ne_eqb}
use lib.Dec.{eqb}
use Rattle.words.proofs.Counting.{byte_within}
use Rattle.fields.proofs.Marking.{ended_is, list_not, list_last_lem, list_next, place_after}
use Rattle.fields.proofs.list.+rest_from.Goals as goal

pub returns-in_default : goal.returns-in_default
returns-in_default g t c = λ left h. list_not _ _ _ _ _ left (sym c.in_default.ensures)

pub rest_from-requires : goal.rest_from-requires
rest_from-requires g t c =
    let a = c.args in
    let w = byte_within a.t.now.now _ 44 (omega arith) (sym c.byte.ensures ∙ c.if-byte-eq-COMMA.true) in
    λ κs i. (omega (arith, w, place_after a.t.now.now a.at _ _ (sym c.in-Some.ensures)), (i, search rules))

pub returns-then-byte-eq-COMMA : goal.returns-then-byte-eq-COMMA
returns-then-byte-eq-COMMA g t c =
    let a = c.args in
    let b = sym c.byte.ensures ∙ c.if-byte-eq-COMMA.true in
    let w = byte_within a.t.now.now _ 44 (omega arith) b in
    let r = sym c.in-Some.ensures in
    λ left h. c.rest_from.ensures (left - 1) (omega (arith, w, place_after a.t.now.now a.at _ _ r))
    ∙ rw c.with_element.ensures (list_next _ _ _ _ _ _ _ r left (omega arith) b)

pub returns : goal.returns
returns g t c =
    let a = c.args in
    let r = sym c.in-Some.ensures in
    let other = ap (λ (x : ℕ). eqb x 44) (sym c.byte.ensures) ∙ ne_eqb _ _ c.if-byte-eq-COMMA.false in
    λ left h. ended_is _ _ (omega (arith, place_after a.t.now.now a.at _ _ r))
    ∙ rw c.with_element.ensures (list_last_lem _ _ _ _ _ _ _ r left (omega arith) other)
