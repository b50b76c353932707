-- Tests joined and compared; and a test that antt computes for every number below a limit, as a rule at each of them.
use mathlib.Core.Bool.{Bool, true, false, ◌&&◌, ◌||◌, false≢true}
use mathlib.Core.Logic.{dite}
use mathlib.Core.Path.{◌≡◌, refl, sym, ap₂, subst, ◌∙◌}
use Prim.Native.Nat.{ℕ, zero, suc, ◌<◌, ◌≤◌}
use native.Mathlib.Decide.{dec_lt, ℕ_discrete}
use native.Mathlib.Omega.{arith}
use borrow.Author.Tests.{ne_eqb, leb-true, le-leb}
use lib.Dec.{T, leb, eqb}
use Rattle.calendar.specs.Below.{every_below, within}

pub left : (a b : Bool) → T (a && b) → T a
left true b t = tt
left false b t = t

pub right : (a b : Bool) → T (a && b) → T b
right true b t = t
right false b t = absurd t

-- two tests that both hold
pub both_true : (a b : Bool) → (a && b) ≡ true → (a ≡ true) × (b ≡ true)
both_true true b e = (refl, e)
both_true false b e = absurd (false≢true e)

pub both : {a b : Bool} → a ≡ true → b ≡ true → (a && b) ≡ true
both e f = ap₂ ◌&&◌ e f

-- two that both fail
pub neither : (a b : Bool) → (a || b) ≡ false → (a ≡ false) × (b ≡ false)
neither true b e = absurd (false≢true (sym e))
neither false b e = (refl, e)

-- a Bool by its two cases
pub decided : {A : Type 0} (b : Bool) → (b ≡ true → A) → (b ≡ false → A) → A
decided true t f = t refl
decided false t f = f refl

pub within_range : (low high n : ℕ) → within low high n ≡ true → (low ≤ n) × (n ≤ high)
within_range low high n e = let r = both_true (leb low n) (leb n high) e in (leb-true low n r.0, leb-true n high r.1)

pub range_within : (low high n : ℕ) → low ≤ n → n ≤ high → within low high n ≡ true
range_within low high n l h = both (le-leb low n l) (le-leb n high h)

-- the order of a test does not matter, nor that of four
pub same_either_way : (a b : ℕ) → eqb a b ≡ eqb b a
same_either_way a b =
    dite (ℕ_discrete a b) (λ (e : a ≡ b). rw e)
    (λ (n : a ≡ b → ⊥). ne_eqb a b n ∙ sym (ne_eqb b a (λ (e : b ≡ a). n (sym e))))

pub regrouped : (a b c d : Bool) → (a || b || (c || d)) ≡ (a || c || (b || d))
regrouped true b c d = refl
regrouped false true true d = refl
regrouped false true false d = refl
regrouped false false true d = refl
regrouped false false false d = refl

pub every : (f : ℕ → Bool) (n : ℕ) → T (every_below f n) → (k : ℕ) → k < n → T (f k)
every f zero t k h = absurd (omega arith)
every f (suc n) t k h =
    dite (dec_lt k n) (λ (l : k < n). every f n (right (f n) (every_below f n) t) k l)
    (λ (g : k < n → ⊥). let e : n ≡ k = omega arith in subst (λ (m : ℕ). T (f m)) e (left (f n) (every_below f n) t))
