-- The nearest of some instants, in either direction.
use mathlib.Core.Logic.{◌⊎◌, inl, inr, ⊎_elim}
use mathlib.Core.Path.{◌≡◌, refl, sym, subst}
use Prim.Native.Nat.{ℕ, ◌≤◌}
use native.Mathlib.Omega.{arith}
use Rattle.next.specs.Nearest.{Nearest, Before, After, Earliest, Latest, Earlier}

-- none at all
pub nearest_start : (nearer : ℕ → ℕ → Type 0) (instants : ℕ → Type 0) (bound : ℕ) → ((j : ℕ) → instants j → nearer j bound → ⊥)
    → Nearest nearer instants bound bound
nearest_start nearer instants bound h = record { none = h; found = inl refl }

-- the same instants
pub nearest_same : (nearer : ℕ → ℕ → Type 0) (p q : ℕ → Type 0) (bound r : ℕ)
    → ((j : ℕ) → p j → q j) → ((j : ℕ) → q j → p j) → Nearest nearer p bound r → Nearest nearer q bound r
nearest_same nearer p q bound r f g a =
    record {
      none = λ j h n. a.none j (g j h) n;
      found = ⊎_elim (λ e. inl e) (λ w. inr (f r w.0, w.1)) a.found;
    }

-- the nearest of some, and the nearest of others where one is nearer than that, is the nearest of all
module _ (nearer : ℕ → ℕ → Type 0) (through : (i j k : ℕ) → nearer i j → nearer j k → nearer i k) where
  as_near : (q : ℕ → Type 0) (j b r : ℕ) → (r ≡ b) ⊎ (q r × nearer r b) → nearer j r → nearer j b
  as_near q j b r f n = ⊎_elim (λ e. subst (nearer j) e n) (λ w. through j r b n w.1) f

  pub nearest_joined : (p q all : ℕ → Type 0) (bound b r : ℕ)
      → ((j : ℕ) → all j → p j ⊎ q j) → ((j : ℕ) → p j → all j) → ((j : ℕ) → q j → all j)
      → Nearest nearer p bound b → Nearest nearer q b r → Nearest nearer all bound r
  nearest_joined p q all bound b r split f g a c =
      record {
        none = λ j h n. ⊎_elim (λ u. a.none j u (as_near q j b r c.found n)) (λ u. c.none j u n) (split j h);
        found =
            ⊎_elim
            (λ e. subst (λ (s : ℕ). (s ≡ bound) ⊎ (all s × nearer s bound)) (sym e) (⊎_elim (λ d. inl d) (λ w. inr (f b w.0, w.1)) a.found))
            (λ w. inr (g r w.0, as_near p r bound b a.found w.1)) c.found;
      }

pub before_through : (i j k : ℕ) → Before i j → Before j k → Before i k
before_through i j k a b = omega arith

pub after_through : (i j k : ℕ) → After i j → After j k → After i k
after_through i j k a b = omega arith

-- the earliest is never above its bound, and the latest before an instant below that
pub earliest_top : (instants : ℕ → Type 0) (bound r : ℕ) → Earliest instants bound r → r ≤ bound
earliest_top instants bound r a = ⊎_elim (λ e. omega arith) (λ w. omega (arith, w.1)) a.found

pub latest_top : (instants : ℕ → Type 0) (asked r : ℕ) → Latest (Earlier asked instants) 0 r → r ≤ asked
latest_top instants asked r a = ⊎_elim (λ e. omega arith) (λ w. omega (arith, w.0.1)) a.found
