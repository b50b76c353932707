-- Runs of a mask's bits that come round again, kept one after the other.
use mathlib.Core.Bool.{Bool, false, ◌&&◌, ◌||◌, and-true, and-false, or-false}
use mathlib.Core.Logic.{dite}
use mathlib.Core.Path.{◌≡◌, sym, ap, ap₂, ◌∙◌}
use Prim.Native.Nat.{ℕ, ◌+◌, ◌-◌, ◌%◌, ◌<◌, ◌≤◌}
use native.Mathlib.Decide.{dec_lt}
use native.Mathlib.Nat.{mod-add-mod, mod-eq_of_lt, mod_self, add-mod_right}
use native.Mathlib.Omega.{arith}
use borrow.Author.Tests.{lt-ltb, le-ltb}
use lib.Bits.{bit_or}
use lib.Dec.{ltb}
use Rattle.masks.proofs.MaskFroms.{bit_in_mask, bit_below_mask, bit_above_mask}
use Rattle.masks.proofs.WithBits.{bit_of_both}
use Rattle.masks.specs.Masks.{bit, mask_from}
use Rattle.count.specs.Runs.{in_run, Within, Runs}

-- what is kept of the bits below `at`, where a run begins
pub record Kept (mask n x width turn at kept : ℕ) : Type 0 where
  pub later : n ≤ at
  pub begins : (x + (at - n)) % turn ≡ 0
  pub before : (j : ℕ) → j < n → bit kept j ≡ false
  pub decides : (j : ℕ) → n ≤ j → j < at → bit kept j ≡ (bit mask j && in_run n x width turn j)
  pub after : (j : ℕ) → at ≤ j → bit kept j ≡ false

module _ (mask n x width turn len : ℕ) (w : Within mask n x width turn len) where
  in_run_lem : (j p : ℕ) → (x + (j - n)) % turn ≡ p → p < width → bit mask j ≡ (bit mask j && in_run n x width turn j)
  in_run_lem j p e h =
      sym (ap (λ (y : ℕ). bit mask j && ltb y width) e ∙ ap (λ (b : Bool). bit mask j && b) (lt-ltb p width h) ∙ and-true (bit mask j))

  not_in_run : (j p : ℕ) → (x + (j - n)) % turn ≡ p → width ≤ p → false ≡ (bit mask j && in_run n x width turn j)
  not_in_run j p e h =
      sym (ap (λ (y : ℕ). bit mask j && ltb y width) e ∙ ap (λ (b : Bool). bit mask j && b) (le-ltb p width h) ∙ and-false (bit mask j))

  pub kept_first : Kept mask n x width turn (n + (turn - x)) (mask_from (bit mask) (width - x) n)
  kept_first =
      let s : x + (n + (turn - x) - n) ≡ turn = omega (arith, w.place) in
      record {
        later = omega arith;
        begins = ap (λ (y : ℕ). y % turn) s ∙ mod_self turn;
        before = λ j h. bit_below_mask (bit mask) (width - x) n j h;
        decides = λ j l h.
            let p : (x + (j - n)) % turn ≡ x + (j - n) = mod-eq_of_lt (omega (arith, w.place)) in
            dite (dec_lt j (n + (width - x)))
            (λ (g : j < n + (width - x)). bit_in_mask (bit mask) (width - x) n j l g ∙ in_run_lem j (x + (j - n)) p (omega arith))
            (λ (g : j < n + (width - x) → ⊥). bit_above_mask (bit mask) (width - x) n j (omega arith) ∙ not_in_run j (x + (j - n)) p (omega arith));
        after = λ j h. bit_above_mask (bit mask) (width - x) n j (omega (arith, w.room));
      }

  module _ (at kept : ℕ) (k : Kept mask n x width turn at kept) where
    place_in : (j : ℕ) → at ≤ j → j < at + turn → (x + (j - n)) % turn ≡ j - at
    place_in j l h =
        let s : x + (j - n) ≡ x + (at - n) + (j - at) = omega (arith, k.later) in
        let z : 0 + (j - at) ≡ j - at = omega arith in
        ap (λ (y : ℕ). y % turn) s
        ∙ sym (mod-add-mod (x + (at - n)) turn (j - at))
        ∙ ap (λ (y : ℕ). (y + (j - at)) % turn) k.begins
        ∙ ap (λ (y : ℕ). y % turn) z
        ∙ mod-eq_of_lt (omega arith)

    both : (j : ℕ) {a b : Bool} → bit kept j ≡ a → bit (mask_from (bit mask) width at) j ≡ b
        → bit (bit_or kept (mask_from (bit mask) width at)) j ≡ (a || b)
    both j p q = bit_of_both kept (mask_from (bit mask) width at) j ∙ ap₂ ◌||◌ p q

    pub kept_next : Kept mask n x width turn (at + turn) (bit_or kept (mask_from (bit mask) width at))
    kept_next =
        let s : x + (at + turn - n) ≡ x + (at - n) + turn = omega (arith, k.later) in
        record {
          later = omega (arith, k.later);
          begins = ap (λ (y : ℕ). y % turn) s ∙ add-mod_right (x + (at - n)) turn ∙ k.begins;
          before = λ j h. both j (k.before j h) (bit_below_mask (bit mask) width at j (omega (arith, k.later)));
          decides = λ j l h.
              dite (dec_lt j at) (λ (g : j < at). both j (k.decides j l g) (bit_below_mask (bit mask) width at j g) ∙ or-false _)
              (λ (g : j < at → ⊥).
              let p = place_in j (omega arith) h in
              dite (dec_lt j (at + width))
              (λ (b : j < at + width). both j (k.after j (omega arith)) (bit_in_mask (bit mask) width at j (omega arith) b) ∙ in_run_lem j (j - at) p (omega arith))
              (λ (b : j < at + width → ⊥). both j (k.after j (omega arith)) (bit_above_mask (bit mask) width at j (omega arith)) ∙ not_in_run j (j - at) p (omega arith)));
          after = λ j h. both j (k.after j (omega arith)) (bit_above_mask (bit mask) width at j (omega (arith, w.room)));
        }

    pub kept_whole : len < at → Runs mask n x width turn len kept
    kept_whole h =
        record {
          before = k.before;
          decides = λ j l g. k.decides j l (omega arith);
          after = λ j g.
              dite (dec_lt j at)
              (λ (b : j < at). k.decides j (omega (arith, w.high)) b ∙ ap (λ (y : Bool). y && in_run n x width turn j) (w.none j g))
              (λ (b : j < at → ⊥). k.after j (omega arith));
        }
