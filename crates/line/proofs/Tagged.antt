-- The form of a line by its first two bytes.
use Rattle.std.specs.Prelude.{None, Err}
use mathlib.Core.Bool.{true, false, cond}
use mathlib.Core.List.{List, [], ◌∷◌}
use mathlib.Core.Path.{◌≡◌, refl}
use Prim.Native.Nat.{ℕ, ◌-◌, ◌<◌, ◌≤◌}
use native.Mathlib.Omega.{arith}
use borrow.Author.Tests.{eq-eqb, ne_eqb}
use lib.Dec.{eqb}
use lib.ListN.{length, get_or, take, drop, length-drop}
use lib.Seq.{take_all}
use Rattle.sheet.specs.Form.{form_of, tagged}
use Rattle.sheet.specs.Refusals.{Context, bytes_good}
use Rattle.line.specs.Lined.{lined_form, lined}
use Rattle.line.specs.declared.Refusal.{Refusal}

no_tag : (s : List ℕ) → length s < 2 → form_of s ≡ None
unfolding form_of
no_tag [] h = refl
no_tag (a ∷ []) h = refl
no_tag (a ∷ b ∷ s) h = absurd (omega arith)

tag_and_space : (s : List ℕ) → 2 ≤ length s → form_of s ≡ cond (eqb (get_or s 1 0) 32) (tagged (get_or s 0 0) (drop 2 s)) None
unfolding form_of
tag_and_space [] h = absurd (omega arith)
tag_and_space (a ∷ []) h = absurd (omega arith)
tag_and_space (a ∷ b ∷ s) h = refl

pub other_tag : (tag : ℕ) (s : List ℕ) → (tag ≡ 90 → ⊥) → (tag ≡ 84 → ⊥) → (tag ≡ 67 → ⊥) → (tag ≡ 82 → ⊥) → (tag ≡ 68 → ⊥) → (tag ≡ 88 → ⊥)
    → tagged tag s ≡ None
unfolding tagged
other_tag tag s z t c r d x = rw (ne_eqb tag 90 z, ne_eqb tag 84 t, ne_eqb tag 67 c, ne_eqb tag 82 r, ne_eqb tag 68 d, ne_eqb tag 88 x) refl

-- ---- a line by its bytes, its tag and the space
module _ (c : Context) (s : List ℕ) where
  pub bad_bytes : bytes_good s ≡ false → Err Refusal.Bytes ≡ lined c s
  unfolding lined
  bad_bytes b = rw b refl

  module _ (b : bytes_good s ≡ true) where
    pub too_short : length s < 2 → Err Refusal.Form ≡ lined c s
    unfolding lined lined_form
    too_short h = rw (b, no_tag s h) refl

    pub no_space : (get_or s 1 0 ≡ 32 → ⊥) → 2 ≤ length s → Err Refusal.Form ≡ lined c s
    unfolding lined lined_form
    no_space n h = rw (b, tag_and_space s h, ne_eqb (get_or s 1 0) 32 n) refl

    pub by_its_tag : get_or s 1 0 ≡ 32 → 2 ≤ length s → lined_form c (tagged (get_or s 0 0) (take (length s - 2) (drop 2 s))) ≡ lined c s
    unfolding lined
    by_its_tag e h = rw (b, tag_and_space s h, eq-eqb (get_or s 1 0) 32 e, take_all (length s - 2) (drop 2 s) (omega (arith, length-drop 2 s))) refl
