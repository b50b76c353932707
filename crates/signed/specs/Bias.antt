-- Signed numbers at the C boundary, naturals inside: a day counts from 0001-01-01, an instant from a day before 2000-01-01 00:00 UTC.
use Rattle.std.specs.Prelude.{cond, ℕ, suc, ◌+◌, ◌-◌, ltb, ℤ, pos, negsuc}
use Rattle.std.proofs.Math.IntN.{sub_ℕ}
use Rattle.std.specs.Int.Signed.{lt_z}

-- z moved up, where that is not below 0
abbrev pub lift : ℕ → ℤ → ℕ
lift up (pos n) = n + up
lift up (negsuc n) = up - suc n

-- years, months, weeks and days of a month count from 1: 0 stands for every number below, and is none of them
abbrev pub natural_of : ℤ → ℕ
natural_of (pos n) = n
natural_of (negsuc n) = 0

-- a natural as C gets it; the inside has none that 63 bits do not hold, and 0 would stand for it
unfoldable pub whole_of : ℕ → ℤ
whole_of n = cond (ltb n 9223372036854775808) (pos n) (pos 0)

-- "The range is −719,162 to 2,932,896": so many days, and moved up so far
abbrev pub first_day : ℤ
first_day = negsuc 719161

abbrev pub last_day : ℤ
last_day = pos 2932896

abbrev pub all_days : ℕ
all_days = 3652059

abbrev pub day_bias : ℕ
day_bias = 719162

-- instants are moved up by a day: the earliest and the latest of C that are told apart, and the latest moved up
abbrev pub instant_bias : ℕ
instant_bias = 1440

abbrev pub earliest : ℤ
earliest = negsuc 1439

abbrev pub latest : ℤ
latest = pos 52597440

abbrev pub last_instant : ℕ
last_instant = 52598880

-- "Day 0 is 1970-01-01; earlier days are negative. The range is −719,162 to 2,932,896."
-- Every number outside becomes the first day past the range.
unfoldable pub bias_day : ℤ → ℕ
bias_day z = cond (lt_z z first_day) all_days (cond (lt_z last_day z) all_days (lift day_bias z))

-- the day number of a day of the range; 0 for what is past it
unfoldable pub unbias_day : ℕ → ℤ
unbias_day n = cond (ltb (all_days - 1) n) (pos 0) (sub_ℕ n day_bias)

-- "Instants count from 2000-01-01 00:00 UTC and may be negative." Every local minute's instant lies within a day of the window, so an
-- instant further out is asked as the one a day before the window or a day after it.
unfoldable pub bias_instant : ℤ → ℕ
bias_instant z = cond (lt_z z earliest) 0 (cond (lt_z latest z) last_instant (lift instant_bias z))

-- the instant of a number of the inside; 0 for what is past them
unfoldable pub unbias_instant : ℕ → ℤ
unbias_instant n = cond (ltb last_instant n) (pos 0) (sub_ℕ n instant_bias)
