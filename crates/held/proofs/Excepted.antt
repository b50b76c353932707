-- A search that passes excepted minutes: what it has passed, and where it ends.
use mathlib.Core.Bool.{true, false, and-false}
use mathlib.Core.List.{List}
use mathlib.Core.Logic.{dite}
use mathlib.Core.Path.{◌≡◌}
use Prim.Native.Nat.{ℕ, ◌+◌, ◌-◌, ◌<◌, ◌≤◌}
use native.Mathlib.Decide.{dec_lt}
use native.Mathlib.Omega.{arith}
use Rattle.calendar.proofs.Leasts.{Least, Last, least_none, last_none}
use Rattle.held.specs.Lists.{any_held, any_excepts, list_held}

-- a minute that some frame holds is held unless it is excepted
not_any : (fs : List (List ℕ)) (m : ℕ) → any_held fs m ≡ false → list_held fs m ≡ false
unfolding list_held
not_any fs m h = rw h

except_out : (fs : List (List ℕ)) (m : ℕ) → any_excepts fs m ≡ true → list_held fs m ≡ false
unfolding list_held
except_out fs m h = rw h (and-false (any_held fs m))

held_in : (fs : List (List ℕ)) (m : ℕ) → any_held fs m ≡ true → any_excepts fs m ≡ false → list_held fs m ≡ true
unfolding list_held
held_in fs m h x = rw (h, x)

module _ (fs : List (List ℕ)) (low at high m : ℕ) (passed : (j : ℕ) → low ≤ j → j < at → list_held fs j ≡ false) (a : Least (any_held fs) at high m) where
  passed_on : (j : ℕ) → low ≤ j → j < m → list_held fs j ≡ false
  passed_on j l h =
      dite (dec_lt j at) (λ (g : j < at). passed j l g) (λ (g : j < at → ⊥). not_any fs j (a.fails j (omega arith) h))

  pub nothing_left : low ≤ high → high ≤ m → Least (list_held fs) low high high
  nothing_left l h = least_none (list_held fs) low high l (λ j b c. passed_on j b (omega arith))

  pub found_least : low ≤ at → m < high → any_excepts fs m ≡ false → Least (list_held fs) low high m
  found_least l h x =
      record { from = omega (arith, a.from); to = omega arith; passes = λ g. held_in fs m (a.passes h) x; fails = passed_on }

  pub past_excepted : any_excepts fs m ≡ true → (j : ℕ) → low ≤ j → j < m + 1 → list_held fs j ≡ false
  past_excepted x j l h =
      dite (dec_lt j m) (λ (g : j < m). passed_on j l g)
      (λ (g : j < m → ⊥). let e : j ≡ m = omega arith in rw e (except_out fs m x))

-- the same downwards
module _ (fs : List (List ℕ)) (low at high m : ℕ) (passed : (j : ℕ) → at ≤ j → j < high → list_held fs j ≡ false) (a : Last (any_held fs) low at m) where
  passed_down : (j : ℕ) → m ≤ j → j < high → list_held fs j ≡ false
  passed_down j l h =
      dite (dec_lt j at) (λ (g : j < at). not_any fs j (a.fails j l g)) (λ (g : j < at → ⊥). passed j (omega arith) h)

  pub nothing_below : low ≤ high → m ≤ low → Last (list_held fs) low high low
  nothing_below l h = last_none (list_held fs) low high l (λ j b c. passed_down j (omega arith) c)

  pub found_last : at ≤ high → low < m → any_excepts fs (m - 1) ≡ false → Last (list_held fs) low high m
  found_last l h x =
      record { from = omega arith; to = omega (arith, a.to); passes = λ g. held_in fs (m - 1) (a.passes h) x; fails = passed_down }

  pub before_excepted : any_excepts fs (m - 1) ≡ true → (j : ℕ) → m - 1 ≤ j → j < high → list_held fs j ≡ false
  before_excepted x j l h =
      dite (dec_lt j m) (λ (g : j < m). let e : j ≡ m - 1 = omega arith in rw e (except_out fs (m - 1) x))
      (λ (g : j < m → ⊥). passed_down j (omega arith) h)
