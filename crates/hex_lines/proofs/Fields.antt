-- A line of fields, each a number of so many bytes: written and read, read and written.
use Rattle.std.specs.Prelude.{Some}
use mathlib.Core.Bool.{true, and-eq-true_iff}
use mathlib.Core.List.{List, [], ◌∷◌, ◌++◌, append-nil, append_assoc}
use mathlib.Core.Path.{◌≡◌, refl, sym, ◌∙◌}
use Prim.Native.Nat.{ℕ, ◌+◌, ◌*◌, ◌≤◌}
use native.Mathlib.Omega.{arith}
use borrow.Author.Tests.{ltb-true}
use lib.ListN.{length, take, drop, take-append-drop, length-append, length-drop, drop_of_length-le}
use lib.Seq.{take_at, drop-append_seam, drop-drop}
use Rattle.calendar.specs.Below.{all_of}
use Rattle.hex_lines.specs.Hex.{Field, fits, hex_of, line_bytes, field, put_at}
use Rattle.hex_lines.proofs.Numbers.{two_digits, bytes_from}
use Rattle.hex_lines.proofs.Puts.{length_hex, put_nothing, put_then}
use Rattle.hex_lines.proofs.Spelt.{nothing_spells}
use Rattle.hex_lines.proofs.Written.{bytes_of, length_bytes, number_of_bytes, spelt_append, hex_spells, written_front}

abbrev pub hexes : List Field → List ℕ
hexes [] = []
hexes (f ∷ []) = hex_of f.0 f.1
hexes (f ∷ g ∷ fs) = hex_of f.0 f.1 ++ hexes (g ∷ fs)

abbrev pub widths : List Field → List ℕ
widths [] = []
widths (f ∷ fs) = f.0 ∷ widths fs

abbrev pub total : List ℕ → ℕ
total [] = 0
total (k ∷ ks) = k + total ks

-- fields of these widths from a place on
abbrev pub valued : (ℕ → ℕ → ℕ) → ℕ → List ℕ → List Field
valued get at [] = []
valued get at (k ∷ ks) = (k, get at k) ∷ valued get (at + k) ks

hexes_cons : (f : Field) (fs : List Field) → hexes (f ∷ fs) ≡ hex_of f.0 f.1 ++ hexes fs
hexes_cons f [] = sym (append-nil (hex_of f.0 f.1))
hexes_cons f (g ∷ fs) = refl

fields_from : (ks : List ℕ) (at : ℕ) (line bytes : List ℕ) → line_bytes line ≡ Some bytes → at + total ks ≡ length bytes
    → hexes (valued (field bytes) at ks) ≡ drop (2 * at) line
fields_from [] at line bytes e h = sym (drop_of_length-le line {i = 2 * at} (omega (arith, two_digits line bytes e)))
fields_from (k ∷ ks) at line bytes e h =
    let r : k ≤ length (drop at bytes) = rw length-drop (omega arith) in
    let a : hex_of k (field bytes at k) ≡ take (2 * k) (drop (2 * at) line)
    = written_front k (drop (2 * at) line) (drop at bytes) (bytes_from at line bytes e) r in
    let n : 2 * (at + k) ≡ 2 * at + 2 * k = omega arith in
    let b : hexes (valued (field bytes) (at + k) ks) ≡ drop (2 * k) (drop (2 * at) line)
    = fields_from ks (at + k) line bytes e (omega arith) ∙ rw (n, drop-drop) in
    hexes_cons (k, field bytes at k) (valued (field bytes) (at + k) ks) ∙ rw (a, b) (take-append-drop (2 * k) (drop (2 * at) line))

-- the fields read from a line write that line
pub read_and_written : (ks : List ℕ) (line bytes : List ℕ) → line_bytes line ≡ Some bytes → total ks ≡ length bytes
    → hexes (valued (field bytes) 0 ks) ≡ line
read_and_written ks line bytes e h = fields_from ks 0 line bytes e (omega arith)

unfoldable pub all_bytes : List Field → List ℕ
all_bytes [] = []
all_bytes (f ∷ fs) = bytes_of f.0 f.1 ++ all_bytes fs

pub length_all : (fs : List Field) → length (all_bytes fs) ≡ total (widths fs)
unfolding all_bytes
length_all [] = refl
length_all (f ∷ fs) = length-append (bytes_of f.0 f.1) (all_bytes fs) ∙ rw (length_bytes f.0 f.1, length_all fs)

pub fields_spell : (fs : List Field) → line_bytes (hexes fs) ≡ Some (all_bytes fs)
unfolding all_bytes
fields_spell [] = nothing_spells
fields_spell (f ∷ fs) =
    rw (hexes_cons f fs) (spelt_append _ _ _ _ (hex_spells f.0 f.1) (fields_spell fs))

written_from : (x : List ℕ) (fs : List Field) → all_of fits fs ≡ true → valued (field (x ++ all_bytes fs)) (length x) (widths fs) ≡ fs
unfolding all_bytes
written_from x [] h = refl
written_from x (f ∷ fs) h =
    let k = f.0 in
    let v = f.1 in
    let b = bytes_of k v in
    let t = (and-eq-true_iff (fits f) (all_of fits fs)).0 h in
    let n : length (x ++ b) ≡ length x + k = length-append x b ∙ rw (length_bytes k v) in
    let a : field (x ++ (b ++ all_bytes fs)) (length x) k ≡ v
    = rw (drop-append_seam, take_at b (all_bytes fs) k (length_bytes k v)) (number_of_bytes k v (ltb-true _ _ t.0)) in
    let r : valued (field (x ++ (b ++ all_bytes fs))) (length x + k) (widths fs) ≡ fs
    = rw (n, append_assoc x b (all_bytes fs)) at (written_from (x ++ b) fs t.1) in
    rw (a, r)

-- the fields of a line that was written
pub written_and_read : (fs : List Field) → all_of fits fs ≡ true → valued (field (all_bytes fs)) 0 (widths fs) ≡ fs
written_and_read fs h = written_from [] fs h

-- fields put one after the other
abbrev pub put_all : List ℕ → ℕ → List Field → List ℕ
put_all l at [] = l
put_all l at (f ∷ fs) = put_all (put_at l at (hex_of f.0 f.1)) (at + 2 * f.0) fs

put_after : (fs : List Field) (l : List ℕ) (at n : ℕ) (s : List ℕ) → at + length s ≡ n → n + 2 * total (widths fs) ≤ length l
    → put_all (put_at l at s) n fs ≡ put_at l at (s ++ hexes fs)
put_after [] l at n s e h = rw (append-nil s)
put_after (f ∷ fs) l at n s e h =
    let k = f.0 in
    let x = hex_of k f.1 in
    let w : length x ≡ 2 * k = length_hex k f.1 in
    let first : put_at (put_at l at s) n x ≡ put_at l at (s ++ x) = rw (← e) (put_then l at s x (omega arith)) in
    let past : at + length (s ++ x) ≡ n + 2 * k = rw (length-append s x, w) (omega arith) in
    rw (first, hexes_cons f fs, ← append_assoc s x (hexes fs)) (put_after fs l at (n + 2 * k) (s ++ x) past (omega arith))

pub all_put : (fs : List Field) (l : List ℕ) (at : ℕ) → at + 2 * total (widths fs) ≤ length l → put_all l at fs ≡ put_at l at (hexes fs)
all_put fs l at h =
    rw (put_nothing l at (omega arith)) at (put_after fs l at at [] (omega arith) h)
