-- What reading counts.
use Rattle.std.specs.Prelude.{Option, None, Some}
use mathlib.Core.List.{List}
use mathlib.Core.Path.{◌≡◌, subst}
use Prim.Native.Nat.{ℕ, ◌<◌, ◌≤◌}
use native.Mathlib.Omega.{arith}
use lib.ListN.{length, take}
use lib.Seq.{length-take-le}
use Rattle.commission.specs.Read.{Within, Past}

pub full : (r : Option ℕ) (n : ℕ) → 16448 ≤ n → Past r n
full (Some k) n h = λ _. h
full None n h = tt

module _ (r : Option ℕ) (k : ℕ) (e : r ≡ Some k) where
  pub counted : (most : ℕ) → Within r most → k ≤ most
  counted most w = subst (λ (x : Option ℕ). Within x most) e w

  pub behind : (n : ℕ) → Past r n → 0 < k → 16448 ≤ n
  behind n p = subst (λ (x : Option ℕ). Past x n) e p

-- the two parts that are lent
pub lent : (sheet more : List ℕ) (n k : ℕ) → n ≤ length sheet → k ≤ length more → (0 < k → 16448 ≤ n) → 0 < length (take k more)
    → 16448 ≤ length (take n sheet)
lent sheet more n k s m p h = omega (arith, length-take-le n sheet s, p (omega (arith, h, length-take-le k more m)))
