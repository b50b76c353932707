-- A line where it stands: when it is allowed, and when not.
use Rattle.std.specs.Prelude.{Option, None, Some}
use mathlib.Core.Bool.{true, false, cond, ◌&&◌, and-false}
use mathlib.Core.List.{List}
use mathlib.Core.Path.{◌≡◌, refl, sym, ap, ◌∙◌}
use Prim.Native.Nat.{ℕ, suc, ◌+◌, ◌<◌, ◌≤◌}
use native.Mathlib.Omega.{arith}
use borrow.Author.Tests.{lt-ltb, le-ltb}
use Rattle.plan.specs.Read.{line_read}
use Rattle.plan.specs.Taken.{Before, zoned, frame_good, place, number_good, allowed}
use Rattle.plan.specs.Text.{line_frame}
use Rattle.plan.specs.declared.Frame.{Frame}
use Rattle.zone.specs.Zone.{under_limits}
use Rattle.zone.specs.declared.Transition.{Transition}

-- a transition after a zone of k, the last but `low` and the offset after it
module _ (k low offset : ℕ) (t : Transition) where
  pub change_past : 31 < k → None ≡ place (zoned k low offset) (Frame.Change t)
  unfolding place
  change_past h = simp (le-ltb k 32 h)

  pub change_broken : under_limits low offset t ≡ false → None ≡ place (zoned k low offset) (Frame.Change t)
  unfolding place
  change_broken e = rw e (simp and-false)

  pub change_good : k ≤ 31 → under_limits low offset t ≡ true
      → Some (zoned (k + 1) (t.at + 2880) t.offset) ≡ place (zoned k low offset) (Frame.Change t)
  unfolding place
  change_good a u =
      let e : k + 1 ≡ suc k = omega arith in
      rw (e, lt-ltb k 32 (omega arith), u) refl

module _ (n : ℕ) (before : Before) where
  at_place : Frame → Option Before → Option (Frame × Before)
  at_place f None = None
  at_place f (Some after) = cond (frame_good f && number_good n f) (Some (f, after)) None

  at_frame : Option Frame → Option (Frame × Before)
  at_frame None = None
  at_frame (Some f) = at_place f (place before f)

  module _ (line : List ℕ) where
    opened : (o : Option Frame) → line_frame line ≡ o → allowed n before line ≡ at_frame o
    unfolding allowed at_frame at_place
    opened o e = by_line o e
      where
        by_line : (o : Option Frame) → line_frame line ≡ o → allowed n before line ≡ at_frame o
        by_line None e = rw (allowed, e) refl
        by_line (Some f) e = rw (allowed, e) (by_place (place before f) refl)
          where
            by_place : (o : Option Before) → place before f ≡ o
                → elim (place before f) [ None ↦ None | Some after ↦ cond (frame_good f && number_good n f) (Some (f, after)) None ] ≡ at_place f (place before f)
            by_place None e = rw e refl
            by_place (Some after) e = rw e refl

    pub allowed_unread : line_read line ≡ None → None ≡ allowed n before line
    unfolding line_read at_frame
    allowed_unread e = sym (opened None e)

    module _ (f : Frame) (r : line_read line ≡ Some f) where
      placed : (o : Option Before) → place before f ≡ o → allowed n before line ≡ at_place f o
      unfolding line_read at_frame
      placed o e = opened (Some f) r ∙ ap (at_place f) e

      pub allowed_bad : (frame_good f && number_good n f) ≡ false → None ≡ allowed n before line
      unfolding at_place
      allowed_bad b = sym (by_case (place before f) refl)
        where
          by_case : (o : Option Before) → place before f ≡ o → allowed n before line ≡ None
          by_case None e = placed None e
          by_case (Some after) e = placed (Some after) e ∙ rw b refl

      pub allowed_not_placed : None ≡ place before f → None ≡ allowed n before line
      unfolding at_place
      allowed_not_placed p = sym (placed None (sym p))

      pub allowed_placed : (after : Before) → Some after ≡ place before f → frame_good f ≡ true → number_good n f ≡ true
          → Some (f, after) ≡ allowed n before line
      unfolding at_place
      allowed_placed after p g m = sym (placed (Some after) (sym p) ∙ rw (g, m) refl)
