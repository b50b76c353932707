-- The bias and back are the identity on the ranges. `low` is one less than what a number is moved up by.
use mathlib.Core.Bool.{false}
use mathlib.Core.Logic.{dite}
use mathlib.Core.Path.{◌≡◌, refl, ap}
use Prim.Native.Nat.{ℕ, suc, ◌+◌, ◌-◌, ◌<◌, ◌≤◌}
use native.Mathlib.Decide.{dec_lt}
use native.Mathlib.Omega.{arith}
use borrow.Author.Tests.{ltb-false, lt-ltb, le-ltb}
use lib.IntN.{ℤ, pos, negsuc, sub_ℕ}
use lib.Signed.{lt_z}
use Rattle.signed.specs.Bias.{lift, bias_day, unbias_day, bias_instant, unbias_instant}

-- a number that is not past the top
lift_top : (low top : ℕ) (z : ℤ) → lt_z (pos top) z ≡ false → lift (suc low) z ≤ top + suc low
lift_top low top (pos n) h = omega (arith, ltb-false top n h)
lift_top low top (negsuc n) h = omega arith

-- down and up
lift_of_down : (n up : ℕ) → lift up (sub_ℕ n up) ≡ n
lift_of_down n up =
    dite (dec_lt n up)
    (λ (l : n < up). rw (lt-ltb n up l) (omega arith))
    (λ (g : n < up → ⊥). rw (le-ltb n up (omega arith)) (omega arith))

-- up and down
down_of_lift : (low : ℕ) (z : ℤ) → lt_z z (negsuc low) ≡ false → sub_ℕ (lift (suc low) z) (suc low) ≡ z
down_of_lift low (pos n) l = rw (le-ltb (n + suc low) (suc low) (omega arith)) (ap pos (omega arith))
down_of_lift low (negsuc n) l =
    let h : n ≤ low = ltb-false low n l in
    rw (lt-ltb (suc low - suc n) (suc low) (omega arith)) (ap negsuc (omega arith))

-- where a number that was moved down lies
not_below : (n low : ℕ) → lt_z (sub_ℕ n (suc low)) (negsuc low) ≡ false
not_below n low =
    dite (dec_lt n (suc low))
    (λ (l : n < suc low). rw (lt-ltb n (suc low) l) (le-ltb low (suc low - suc n) (omega arith)))
    (λ (g : n < suc low → ⊥). rw (le-ltb n (suc low) (omega arith)) refl)

not_above : (n low top : ℕ) → n ≤ top + suc low → lt_z (pos top) (sub_ℕ n (suc low)) ≡ false
not_above n low top h =
    dite (dec_lt n (suc low))
    (λ (l : n < suc low). rw (lt-ltb n (suc low) l) refl)
    (λ (g : n < suc low → ⊥). rw (le-ltb n (suc low) (omega arith)) (le-ltb top (n - suc low) (omega arith)))

pub bias_of_unbias_day : (n : ℕ) → n ≤ 3652058 → bias_day (unbias_day n) ≡ n
unfolding bias_day unbias_day
bias_of_unbias_day n h =
    simp (le-ltb 3652058 n h, not_below n 719161, not_above n 719161 2932896 h)
    (lift_of_down n 719162)

pub unbias_of_bias_day : (z : ℤ) → lt_z z (negsuc 719161) ≡ false → lt_z (pos 2932896) z ≡ false → unbias_day (bias_day z) ≡ z
unfolding bias_day unbias_day
unbias_of_bias_day z l h =
    simp (l, h, le-ltb 3652058 (lift 719162 z) (lift_top 719161 2932896 z h))
    (down_of_lift 719161 z l)

pub bias_of_unbias_instant : (n : ℕ) → n ≤ 52598880 → bias_instant (unbias_instant n) ≡ n
unfolding bias_instant unbias_instant
bias_of_unbias_instant n h =
    simp (le-ltb 52598880 n h, not_below n 1439, not_above n 1439 52597440 h)
    (lift_of_down n 1440)

pub unbias_of_bias_instant : (z : ℤ) → lt_z z (negsuc 1439) ≡ false → lt_z (pos 52597440) z ≡ false → unbias_instant (bias_instant z) ≡ z
unfolding bias_instant unbias_instant
unbias_of_bias_instant z l h =
    simp (l, h, le-ltb 52598880 (lift 1440 z) (lift_top 1439 52597440 z h))
    (down_of_lift 1439 z l)
