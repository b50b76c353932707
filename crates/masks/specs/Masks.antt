-- "Bit n of a mask stands for n."
use Rattle.std.specs.Prelude.{Bool, cond, not, ◌&&◌, ℕ, zero, suc, ◌+◌, ◌-◌, ◌/◌, ◌%◌, ◌^◌, min, leb, ltb, eqb}
use Rattle.calendar.specs.Below.{count_from, least_from, last_from}

abbrev pub bit : ℕ → ℕ → Bool
bit mask n = eqb (mask / 2 ^ n % 2) 1

-- the mask of those of the k numbers from n on that pass the test
unfoldable pub mask_from : (ℕ → Bool) → ℕ → ℕ → ℕ
mask_from test zero n = 0
mask_from test (suc k) n = cond (test n) (2 ^ n) 0 + mask_from test k (suc n)

-- the mask with bit n set; past bit 63 as it was
unfoldable pub with_bit : ℕ → ℕ → ℕ
with_bit mask n = cond (ltb n 64 && not (bit mask n)) (mask + 2 ^ n) mask

-- the least set bit at or above n; 64 where there is none
unfoldable pub next_bit : ℕ → ℕ → ℕ
next_bit mask n = cond (leb n 64) (least_from (bit mask) (64 - n) n) 64

-- one more than the greatest set bit below n; 0 where there is none
unfoldable pub previous_bit : ℕ → ℕ → ℕ
previous_bit mask n = last_from (bit mask) (min n 64) 0

-- how many bits at or above n are set
unfoldable pub bits_from : ℕ → ℕ → ℕ
bits_from mask n = count_from (bit mask) (64 - n) n

-- how many bits below n are set
unfoldable pub bits_below : ℕ → ℕ → ℕ
bits_below mask n = count_from (bit mask) (min n 64) 0
