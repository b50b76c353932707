-- The byte of an ordinal is a shifted part of the group.
use mathlib.Core.Path.{◌≡◌, ap, ◌∙◌}
use Prim.Native.Nat.{ℕ, ◌+◌, ◌-◌, ◌/◌, ◌%◌, ◌^◌}
use native.Mathlib.Omega.{arith}
use Rattle.masks.specs.Masks.{bit}
use Rattle.frames.proofs.Ordinals.{byte_bit}
use Rattle.frames.proofs.limits.ordinal_week.Goals as goal

pub returns : goal.returns
returns c =
    let a = c.args in
    λ d l h.
    let e : 4 - a.n ≡ 5 - (a.n + 1) = omega arith in
    let w : ℕ = (a.month.first + (d - 1)) % 7 in
    c.week_days.ensures d l h
    ∙ byte_bit a.group (4 - a.n) w (omega arith) (omega arith)
    ∙ ap (λ (j : ℕ). bit (a.group / 256 ^ j % 256) w) e
