-- Bits in the opposite order.
use mathlib.Core.Logic.{dite}
use mathlib.Core.Path.{◌≡◌, ap, ◌∙◌}
use Prim.Native.Nat.{ℕ, zero, suc, ◌+◌, ◌-◌, ◌*◌, ◌/◌, ◌%◌, ◌<◌, ◌≤◌}
use native.Mathlib.Decide.{dec_lt}
use native.Mathlib.Omega.{arith}
use Rattle.std.specs.Int.{reverse_bits_onto}
use Rattle.masks.proofs.Bits.{bit_high, bit_low, bit_of_quotient, bit_of_rest}
use Rattle.masks.specs.Masks.{bit}

-- what stood in front has moved up
before : (k n a i : ℕ) → k ≤ i → bit (reverse_bits_onto k n a) i ≡ bit a (i - k)
unfolding reverse_bits_onto
before zero n a i h = let e : i ≡ i - 0 = omega arith in ap (bit a) e
before (suc k) n a i h =
    let e : i - k - 1 ≡ i - suc k = omega arith in
    before k (n / 2) (a * 2 + n % 2) i (omega arith) ∙ bit_high a 1 (n % 2) (i - k) (omega arith) (omega arith) ∙ ap (bit a) e

-- and below it the lowest k bits stand in the opposite order
opposite : (k n a i : ℕ) → i < k → bit (reverse_bits_onto k n a) i ≡ bit n (k - 1 - i)
unfolding reverse_bits_onto
opposite zero n a i h = absurd (omega arith)
opposite (suc k) n a i h =
    dite (dec_lt i k)
    (λ (l : i < k).
    let e : 1 + (k - 1 - i) ≡ suc k - 1 - i = omega arith in
    opposite k (n / 2) (a * 2 + n % 2) i l ∙ bit_of_quotient n 1 (k - 1 - i) ∙ ap (bit n) e)
    (λ (g : i < k → ⊥).
    let e : i - k ≡ 0 = omega arith in
    let f : 0 ≡ suc k - 1 - i = omega arith in
    before k (n / 2) (a * 2 + n % 2) i (omega arith)
    ∙ ap (bit (a * 2 + n % 2)) e
    ∙ bit_low a 1 (n % 2) 0 (omega arith) (omega arith)
    ∙ bit_of_rest n 1 0 (omega arith)
    ∙ ap (bit n) f)

pub reversed_bit : (n i : ℕ) → i < 32 → bit (reverse_bits_onto 32 n 0) i ≡ bit n (31 - i)
reversed_bit n i h = opposite 32 n 0 i h
