-- The order of signed instants is that of the inside: the asked instant is held to a day around the window, and no plan's instant sees that.
use mathlib.Core.Bool.{false, true≢false}
use mathlib.Core.Path.{◌≡◌, sym, ap, ◌∙◌}
use Prim.Native.Nat.{ℕ, ◌+◌, ◌-◌, ◌<◌, ◌≤◌, min}
use native.Mathlib.Omega.{arith}
use borrow.Author.Tests.{ltb-false, lt-ltb, le-ltb, le-leb, lt-leb}
use lib.Dec.{leb, ltb}
use lib.IntN.{ℤ, pos, negsuc}
use lib.Signed.{lt_z, le_z}
use Rattle.signed.proofs.Laws.{bias_of_unbias_instant}
use Rattle.signed.specs.Bias.{bias_instant, unbias_instant}
use Rattle.zone.proofs.Good.{by_order}
use Rattle.evandrusk.specs.Plans.{moved_down}

-- two tests of the same outcome
same_test : (a b c d : ℕ) → (a < b → c < d) → (b ≤ a → d ≤ c) → ltb a b ≡ ltb c d
same_test a b c d f g =
    by_order a b (λ l. lt-ltb a b l ∙ sym (lt-ltb c d (f l))) (λ l. le-ltb a b l ∙ sym (le-ltb c d (g l)))

-- the instant of the inside, by the sign
unbias_low : (i : ℕ) → i < 1440 → unbias_instant i ≡ negsuc (1439 - i)
unfolding unbias_instant
unbias_low i l = simp (le-ltb 52598880 i (omega arith), lt-ltb i 1440 l) (ap negsuc (omega arith))

unbias_high : (i : ℕ) → 1440 ≤ i → i ≤ 52598880 → unbias_instant i ≡ pos (i - 1440)
unfolding unbias_instant
unbias_high i l h = simp (le-ltb 52598880 i h, le-ltb i 1440 l)

-- the asked instant, held to a day around the window
bias_up : (n : ℕ) → bias_instant (pos n) ≡ min n 52597440 + 1440
unfolding bias_instant
bias_up n =
    by_order 52597440 n (λ l. simp (lt-ltb 52597440 n l) (omega arith)) (λ l. simp (le-ltb 52597440 n l) (omega arith))

bias_down : (n : ℕ) → bias_instant (negsuc n) ≡ 1439 - n
unfolding bias_instant
bias_down n =
    by_order 1439 n (λ l. simp (lt-ltb 1439 n l) (omega arith)) (λ l. simp (le-ltb 1439 n l) (omega arith))

-- an instant strictly within the bounds is later than the asked one exactly if it is so inside
pub signed_later : (z : ℤ) (i : ℕ) → 0 < i → i < 52598880 → lt_z z (unbias_instant i) ≡ ltb (bias_instant z) i
signed_later (pos n) i l h =
    by_order i 1440 (λ s. rw (unbias_low i s, bias_up n) (sym (le-ltb (min n 52597440 + 1440) i (omega arith))))
    (λ s. rw (unbias_high i s (omega arith), bias_up n) (same_test n (i - 1440) (min n 52597440 + 1440) i (λ m. omega arith) (λ m. omega arith)))
signed_later (negsuc n) i l h =
    by_order i 1440 (λ s. rw (unbias_low i s, bias_down n) (same_test (1439 - i) n (1439 - n) i (λ m. omega arith) (λ m. omega arith)))
    (λ s. rw (unbias_high i s (omega arith), bias_down n) (sym (lt-ltb (1439 - n) i (omega arith))))

-- and so with earlier
pub signed_earlier : (z : ℤ) (i : ℕ) → 0 < i → i < 52598880 → lt_z (unbias_instant i) z ≡ ltb i (bias_instant z)
signed_earlier (pos n) i l h =
    by_order i 1440 (λ s. rw (unbias_low i s, bias_up n) (sym (lt-ltb i (min n 52597440 + 1440) (omega arith))))
    (λ s. rw (unbias_high i s (omega arith), bias_up n) (same_test (i - 1440) n i (min n 52597440 + 1440) (λ m. omega arith) (λ m. omega arith)))
signed_earlier (negsuc n) i l h =
    by_order i 1440 (λ s. rw (unbias_low i s, bias_down n) (same_test n (1439 - i) i (1439 - n) (λ m. omega arith) (λ m. omega arith)))
    (λ s. rw (unbias_high i s (omega arith), bias_down n) (sym (le-ltb i (1439 - n) (omega arith))))

-- two instants within the bounds are in order exactly if they are so inside
pub signed_order : (i j : ℕ) → 0 < i → i < 52598880 → j ≤ 52598880 → lt_z (unbias_instant i) (unbias_instant j) ≡ ltb i j
signed_order i j l h g = signed_earlier (unbias_instant j) i l h ∙ rw (bias_of_unbias_instant j g)

-- an instant of the window is at or before the asked one exactly if it is so inside
pub signed_until : (z : ℤ) (i : ℕ) → 1440 ≤ i → i < 52597440 → le_z (moved_down i) z ≡ leb i (bias_instant z)
signed_until (pos n) i l h =
    by_order (min n 52597440 + 1440) i
    (λ s. rw (le-ltb i 1440 l, bias_up n) (lt-leb (i - 1440) n (omega arith) ∙ sym (lt-leb i (min n 52597440 + 1440) s)))
    (λ s. rw (le-ltb i 1440 l, bias_up n) (le-leb (i - 1440) n (omega arith) ∙ sym (le-leb i (min n 52597440 + 1440) s)))
signed_until (negsuc n) i l h = rw (le-ltb i 1440 l, bias_down n) (sym (lt-leb i (1439 - n) (omega arith)))

-- two signed numbers of which neither is below the other are equal
pub neither_below : (a b : ℤ) → lt_z a b ≡ false → lt_z b a ≡ false → a ≡ b
neither_below (pos m) (pos n) p q = ap pos (omega (arith, ltb-false m n p, ltb-false n m q))
neither_below (negsuc m) (negsuc n) p q = ap negsuc (omega (arith, ltb-false n m p, ltb-false m n q))
neither_below (pos m) (negsuc n) p q = absurd (true≢false q)
neither_below (negsuc m) (pos n) p q = absurd (true≢false p)
