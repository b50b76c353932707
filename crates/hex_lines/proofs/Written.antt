-- Numbers written as digits and read again, and digits read and written again.
use Rattle.std.specs.Prelude.{Some}
use mathlib.Core.List.{List, [], ◌∷◌, ◌++◌, append_assoc}
use mathlib.Core.Path.{◌≡◌, refl, ap, ◌∙◌}
use Prim.Native.Nat.{ℕ, zero, suc, ◌+◌, ◌*◌, ◌/◌, ◌%◌, ◌^◌, ◌<◌, ◌≤◌}
use native.Mathlib.Nat.{pow-suc, div-lt_iff_lt-mul}
use native.Mathlib.Numerals.{add-one}
use native.Mathlib.Omega.{arith}
use lib.ListN.{length, get_or, take, length-append}
use lib.Seq.{take-suc}
use Rattle.hex_lines.specs.Hex.{hex_digit, hex_of, digit_value, line_bytes, bytes_number}
use Rattle.hex_lines.proofs.Digits.{byte_of_value, value_of_byte}
use Rattle.hex_lines.proofs.Numbers.{two_digits, twice_suc}
use Rattle.hex_lines.proofs.Spelt.{Spelt, spelt, spelt_back, nothing_spells, one_digit, no_digits}

-- a number as k bytes
unfoldable pub bytes_of : ℕ → ℕ → List ℕ
bytes_of zero v = []
bytes_of (suc k) v = bytes_of k (v / 256) ++ (v % 256 ∷ [])

pub length_bytes : (k v : ℕ) → length (bytes_of k v) ≡ k
unfolding bytes_of
length_bytes zero v = refl
length_bytes (suc k) v = length-append (bytes_of k (v / 256)) (v % 256 ∷ []) ∙ rw (length_bytes k (v / 256)) (add-one k)

pub number_append : (s : ℕ) (a b : List ℕ) → bytes_number s (a ++ b) ≡ bytes_number (bytes_number s a) b
unfolding bytes_number
number_append s [] b = refl
number_append s (x ∷ a) b = number_append (256 * s + x) a b

pub number_of_bytes : (k v : ℕ) → v < 256 ^ k → bytes_number 0 (bytes_of k v) ≡ v
unfolding bytes_of bytes_number
number_of_bytes zero v h = omega arith
number_of_bytes (suc k) v h =
    let l : v / 256 < 256 ^ k = (div-lt_iff_lt-mul {k = 256} {x = v} {y = 256 ^ k} (omega arith)).1 (rw pow-suc at h) in
    number_append 0 (bytes_of k (v / 256)) (v % 256 ∷ []) ∙ rw (number_of_bytes k (v / 256) l) (omega arith)

pub spelt_append : (a b x y : List ℕ) → line_bytes a ≡ Some x → line_bytes b ≡ Some y → line_bytes (a ++ b) ≡ Some (x ++ y)
spelt_append [] b x y p q = rw (no_digits x p) q
spelt_append (c ∷ []) b x y p q = one_digit c x p
spelt_append (c ∷ d ∷ cs) b x y p q =
    let s : Spelt c d cs x = spelt c d cs x p in
    rw s.made (spelt_back c d (cs ++ b) (s.rest ++ y) s.high s.low (spelt_append cs b s.rest y s.more q))

two_spelt : (v : ℕ) → line_bytes (hex_digit (v / 16 % 16) ∷ hex_digit (v % 16) ∷ []) ≡ Some (v % 256 ∷ [])
two_spelt v =
    let a : digit_value (hex_digit (v / 16 % 16)) ≡ v / 16 % 16 = value_of_byte (v / 16 % 16) (omega arith) in
    let b : digit_value (hex_digit (v % 16)) ≡ v % 16 = value_of_byte (v % 16) (omega arith) in
    let e : 16 * digit_value (hex_digit (v / 16 % 16)) + digit_value (hex_digit (v % 16)) ≡ v % 256 = omega arith in
    spelt_back _ _ [] [] (omega arith) (omega arith) nothing_spells ∙ rw e

-- what is written spells the number's bytes
pub hex_spells : (k v : ℕ) → line_bytes (hex_of k v) ≡ Some (bytes_of k v)
unfolding hex_of bytes_of
hex_spells zero v = nothing_spells
hex_spells (suc k) v = spelt_append _ _ _ _ (hex_spells k (v / 256)) (two_spelt v)

-- the two digits of byte k
pub record DigitsAt (line bytes : List ℕ) (k : ℕ) : Type 0 where
  pub high : digit_value (get_or line (2 * k) 0) < 16
  pub low : digit_value (get_or line (2 * k + 1) 0) < 16
  pub byte : get_or bytes k 0 ≡ 16 * digit_value (get_or line (2 * k) 0) + digit_value (get_or line (2 * k + 1) 0)

twice_suc_one : (k : ℕ) → 2 * suc k + 1 ≡ suc (suc (2 * k + 1))
twice_suc_one k = omega arith

pub digits_at : (k : ℕ) (line bytes : List ℕ) → line_bytes line ≡ Some bytes → k < length bytes → DigitsAt line bytes k
digits_at k [] bytes e h = absurd (omega (arith, ap length (no_digits bytes e)))
digits_at k (a ∷ []) bytes e h = one_digit a bytes e
digits_at zero (a ∷ b ∷ cs) bytes e h =
    let s : Spelt a b cs bytes = spelt a b cs bytes e in
    record { high = s.high; low = s.low; byte = rw s.made }
digits_at (suc k) (a ∷ b ∷ cs) bytes e h =
    let s : Spelt a b cs bytes = spelt a b cs bytes e in
    let d : DigitsAt cs s.rest k = digits_at k cs s.rest s.more (omega (arith, ap length s.made)) in
    record {
      high = rw (twice_suc k) d.high;
      low = rw (twice_suc_one k) d.low;
      byte = rw (twice_suc_one k, twice_suc k, s.made) d.byte;
    }

two_more : (l : List ℕ) (n : ℕ) → n + 1 < length l → take (suc (suc n)) l ≡ take n l ++ (get_or l n 0 ∷ get_or l (n + 1) 0 ∷ [])
two_more l n h =
    let a : n < length l = omega arith in
    let b : suc n < length l = omega arith in
    rw (take-suc l (suc n) 0 b, take-suc l n 0 a, add-one n) (append_assoc (take n l) (get_or l n 0 ∷ []) (get_or l (suc n) 0 ∷ []))

-- digits read and written again
pub written_front : (k : ℕ) (line bytes : List ℕ) → line_bytes line ≡ Some bytes → k ≤ length bytes
    → hex_of k (bytes_number 0 (take k bytes)) ≡ take (2 * k) line
unfolding hex_of bytes_number
written_front zero line bytes e h = refl
written_front (suc k) line bytes e h =
    let d : DigitsAt line bytes k = digits_at k line bytes e (omega arith) in
    let n = bytes_number 0 (take k bytes) in
    let v = bytes_number 0 (take (suc k) bytes) in
    let w : v ≡ 256 * n + get_or bytes k 0 = rw (take-suc bytes k 0 (omega arith)) (number_append 0 (take k bytes) (get_or bytes k 0 ∷ [])) in
    let q : v / 256 ≡ n = omega (arith, d.byte, d.high, d.low) in
    let a : v / 16 % 16 ≡ digit_value (get_or line (2 * k) 0) = omega (arith, d.byte, d.high, d.low) in
    let b : v % 16 ≡ digit_value (get_or line (2 * k + 1) 0) = omega (arith, d.byte, d.high, d.low) in
    let l : length line ≡ 2 * length bytes = two_digits line bytes e in
    let x = two_more line (2 * k) (omega arith) in
    rw (q, a, b, byte_of_value _ d.high, byte_of_value _ d.low, twice_suc k, x, written_front k line bytes e (omega arith))
