-- A number read from digits is the number of the bytes that they spell.
use Rattle.std.specs.Prelude.{Option, Some}
use mathlib.Core.Bool.{Bool, true, false, cond, ◌&&◌, and-false}
use mathlib.Core.List.{List, [], ◌∷◌}
use mathlib.Core.Path.{◌≡◌, refl, ap, ◌∙◌}
use Prim.Native.Nat.{ℕ, zero, suc, ◌+◌, ◌-◌, ◌*◌, ◌/◌, ◌^◌, ◌<◌, ◌≤◌}
use native.Mathlib.Nat.{add-zero, pow-le-pow_right, one-le-pow, min-le_left}
use native.Mathlib.Numerals.{add-one}
use native.Mathlib.Omega.{arith}
use borrow.Author.Tests.{le-leb, lt-leb}
use lib.Dec.{leb}
use lib.ListN.{length, get_or, take, drop, length-take, length-drop, drop_of_length-le}
use Rattle.std.specs.List.{slice_range}
use lib.Seq.{drop-cons}
use Rattle.hex_lines.specs.Hex.{digit_value, digit_bits, line_bytes, bytes_number, field, digits_number, number_at}
use Rattle.hex_lines.proofs.Digits.{bits_are_value, bits_below_lem}
use Rattle.hex_lines.proofs.Spelt.{Spelt, spelt, one_digit, no_digits}

-- a line has two digits for each of its bytes
pub two_digits : (line bytes : List ℕ) → line_bytes line ≡ Some bytes → length line ≡ 2 * length bytes
two_digits [] bytes e = rw (no_digits bytes e)
two_digits (a ∷ []) bytes e = one_digit a bytes e
two_digits (a ∷ b ∷ cs) bytes e =
    let s : Spelt a b cs bytes = spelt a b cs bytes e in
    let h : length cs ≡ 2 * length s.rest = two_digits cs s.rest s.more in
    rw s.made (omega arith)

pub twice_suc : (k : ℕ) → 2 * suc k ≡ suc (suc (2 * k))
twice_suc k = omega arith

-- past two digits a byte is past
pub bytes_from : (at : ℕ) (line bytes : List ℕ) → line_bytes line ≡ Some bytes → line_bytes (drop (2 * at) line) ≡ Some (drop at bytes)
bytes_from zero line bytes e = e
bytes_from (suc at) [] bytes e = rw (no_digits bytes e, twice_suc at) (e ∙ ap {B = Option (List ℕ)} Some (no_digits bytes e))
bytes_from (suc at) (a ∷ []) bytes e = one_digit a bytes e
bytes_from (suc at) (a ∷ b ∷ cs) bytes e =
    let s : Spelt a b cs bytes = spelt a b cs bytes e in
    rw (twice_suc at, s.made) (bytes_from at cs s.rest s.more)

front_number : (k v : ℕ) (line bytes : List ℕ) → line_bytes line ≡ Some bytes → k ≤ length bytes
    → digits_number v (take (2 * k) line) ≡ bytes_number v (take k bytes)
unfolding digits_number bytes_number
front_number zero v line bytes e h = refl
front_number (suc k) v [] bytes e h = let z : bytes ≡ [] = no_digits bytes e in absurd (omega (arith, ap length z))
front_number (suc k) v (a ∷ []) bytes e h = one_digit a bytes e
front_number (suc k) v (a ∷ b ∷ cs) bytes e h =
    let s : Spelt a b cs bytes = spelt a b cs bytes e in
    let w : 16 * (16 * v + digit_value a) + digit_value b ≡ 256 * v + (16 * digit_value a + digit_value b) = omega arith in
    let l : k ≤ length s.rest = omega (arith, ap length s.made) in
    let d : digits_number (16 * (16 * v + digit_bits a) + digit_bits b) (take (2 * k) cs)
    ≡ bytes_number (256 * v + (16 * digit_value a + digit_value b)) (take k s.rest)
    = rw (bits_are_value a s.high, bits_are_value b s.low, w) (front_number k _ cs s.rest s.more l) in
    rw (twice_suc k, s.made) d

-- `number` of a line of digits: the field of its bytes
pub number_is_field : (line bytes : List ℕ) → line_bytes line ≡ Some bytes → (at k : ℕ) → at + k ≤ length bytes → k ≤ 8
    → number_at line at k ≡ field bytes at k
unfolding number_at
number_is_field line bytes e at k h l =
    let t : at + k ≤ length line / 2 = omega (arith, two_digits line bytes e) in
    let r : k ≤ length (drop at bytes) = rw length-drop (omega arith) in
    rw (le-leb k 8 l, le-leb (at + k) (length line / 2) t)
    (front_number k 0 (drop (2 * at) line) (drop at bytes) (bytes_from at line bytes e) r)

cond_below : (t : Bool) (x n : ℕ) → x < n → 1 ≤ n → cond t x 0 < n
cond_below true x n h o = h
cond_below false x n h o = o

-- one digit more, and none
pub digits_step : (l : List ℕ) (v i : ℕ) → i < length l → digits_number v (drop i l) ≡ digits_number (16 * v + digit_bits (get_or l i 0)) (drop (i + 1) l)
unfolding digits_number
digits_step l v i h = rw (drop-cons l i 0 h, add-one i)

pub digits_end : (l : List ℕ) (v i : ℕ) → length l ≤ i → digits_number v (drop i l) ≡ v
unfolding digits_number
digits_end l v i h = rw (drop_of_length-le l h)

pub more_fits : (v d n : ℕ) → v < 16 ^ n → d < 16 → 16 * v + d < 16 ^ (n + 1)
more_fits v d n a b = rw add-one (omega arith)

digits_below : (v n : ℕ) (l : List ℕ) → v < 16 ^ n → digits_number v l < 16 ^ (n + length l)
unfolding digits_number
digits_below v n [] h = rw add-zero h
digits_below v n (c ∷ cs) h =
    let e : n + suc (length cs) ≡ n + 1 + length cs = omega arith in
    rw e (digits_below (16 * v + digit_bits c) (n + 1) cs (more_fits v (digit_bits c) n h (bits_below_lem c)))

-- a number of k bytes fits them
pub number_fits : (line : List ℕ) (at k : ℕ) → number_at line at k < 16 ^ (2 * k)
unfolding number_at
number_fits line at k =
    let ds = take (2 * k) (drop (2 * at) line) in
    let l : length ds ≤ 2 * k = rw length-take (omega (arith, min-le_left (2 * k) (length (drop (2 * at) line)))) in
    let top : 16 ^ (0 + length ds) ≤ 16 ^ (2 * k) = pow-le-pow_right {n = 16} (omega arith) (omega arith) in
    let low : digits_number 0 ds < 16 ^ (0 + length ds) = digits_below 0 0 ds (omega arith) in
    let one : 1 ≤ 16 ^ (2 * k) = one-le-pow (2 * k) 16 (omega arith) in
    cond_below (leb k 8 && leb (at + k) (length line / 2)) (digits_number 0 ds) (16 ^ (2 * k)) (omega arith) one

-- the cases of `number_at`, and the room for one digit more
pub number_over : (line : List ℕ) (at k : ℕ) → 8 < k → 0 ≡ number_at line at k
unfolding number_at
number_over line at k h = rw (lt-leb k 8 h)

pub number_outside : (line : List ℕ) (at k : ℕ) → length line / 2 < at + k → 0 ≡ number_at line at k
unfolding number_at
number_outside line at k h = rw (lt-leb (at + k) (length line / 2) h, and-false)

pub number_inside : (line : List ℕ) (at k : ℕ) → k ≤ 8 → at + k ≤ length line / 2
    → digits_number 0 (slice_range line (2 * at) (2 * (at + k))) ≡ number_at line at k
unfolding number_at
number_inside line at k l h =
    let e : 2 * (at + k) - 2 * at ≡ 2 * k = omega arith in rw (le-leb k 8 l, le-leb (at + k) (length line / 2) h, e)

pub room : (v i : ℕ) → v < 16 ^ i → i < 16 → v < 1152921504606846976
room v i a h =
    let top : 16 ^ i ≤ 16 ^ 15 = pow-le-pow_right {n = 16} (omega arith) {i = i} {j = 15} (omega arith) in
    omega arith
