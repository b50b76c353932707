-- Digits put into a buffer.
use mathlib.Core.List.{List, [], ◌∷◌, ◌++◌, append_assoc}
use mathlib.Core.Logic.{dite}
use mathlib.Core.Path.{◌≡◌, refl, sym, ap, ◌∙◌}
use Prim.Native.Nat.{ℕ, zero, suc, ◌+◌, ◌*◌, ◌/◌, ◌%◌, ◌<◌, ◌≤◌}
use native.Mathlib.Decide.{dec_le}
use native.Mathlib.Nat.{add-zero}
use native.Mathlib.Numerals.{add-one}
use native.Mathlib.Omega.{arith}
use borrow.Author.Tests.{le-leb, lt-leb}
use lib.ListN.{length, take, drop, set, length-append, length-drop, take-append-drop}
use lib.Seq.{length-take-le, set_split, take-set-le, take_at, drop_at, drop-drop}
use Rattle.hex_lines.specs.Hex.{hex_digit, hex_of, put_at}

pub length_hex : (k v : ℕ) → length (hex_of k v) ≡ 2 * k
unfolding hex_of
length_hex zero v = refl
length_hex (suc k) v =
    length-append (hex_of k (v / 256)) (hex_digit (v / 16 % 16) ∷ hex_digit (v % 16) ∷ []) ∙ rw (length_hex k (v / 256)) (omega arith)

-- a part of a list replaced
abbrev pub replaced : List ℕ → ℕ → List ℕ → List ℕ
replaced l at s = take at l ++ (s ++ drop (at + length s) l)

pub put_inside : (l : List ℕ) (at : ℕ) (s : List ℕ) → at + length s ≤ length l → put_at l at s ≡ replaced l at s
unfolding put_at
put_inside l at s h = rw (le-leb (at + length s) (length l) h)

pub put_outside : (l : List ℕ) (at : ℕ) (s : List ℕ) → length l < at + length s → put_at l at s ≡ l
unfolding put_at
put_outside l at s h = rw (lt-leb (at + length s) (length l) h)

length_replaced : (l : List ℕ) (at : ℕ) (s : List ℕ) → at + length s ≤ length l → length (replaced l at s) ≡ length l
length_replaced l at s h =
    simp (length-append, length-drop, length-take-le at l (omega arith)) (omega arith)

pub nothing_replaced : (l : List ℕ) (at : ℕ) → replaced l at [] ≡ l
nothing_replaced l at = rw add-zero (take-append-drop at l)

two_set : (n : ℕ) (l : List ℕ) (a b : ℕ) → suc n < length l → drop n (set (set l n a) (suc n) b) ≡ a ∷ b ∷ drop (suc (suc n)) l
two_set n [] a b h = absurd (omega arith)
two_set n (x ∷ []) a b h = absurd (omega arith)
two_set zero (x ∷ y ∷ l) a b h = refl
two_set (suc n) (x ∷ y ∷ l) a b h = two_set n (y ∷ l) a b (omega arith)

-- the last two digits put, and the others left to do
pub last_digits : (l : List ℕ) (at i v : ℕ) → at + 2 * i + 1 < length l
    → replaced (set (set l (at + 2 * i) (hex_digit (v / 16 % 16))) (at + 2 * i + 1) (hex_digit (v % 16))) at (hex_of i (v / 256))
    ≡ replaced l at (hex_of (suc i) v)
unfolding hex_of
last_digits l at i v h =
    let a = hex_digit (v / 16 % 16) in
    let b = hex_digit (v % 16) in
    let s = hex_of i (v / 256) in
    let n = at + 2 * i in
    let m = set (set l n a) (n + 1) b in
    let len : length s ≡ 2 * i = length_hex i (v / 256) in
    let front : take at m ≡ take at l = take-set-le at (set l n a) (n + 1) b (omega arith) ∙ take-set-le at l n a (omega arith) in
    let back : drop n m ≡ a ∷ b ∷ drop (suc (suc n)) l = rw add-one (two_set n l a b (omega arith)) in
    let past : at + length (s ++ (a ∷ b ∷ [])) ≡ suc (suc n) = rw (length-append s (a ∷ b ∷ []), len) (omega arith) in
    rw (past, front, len, back) (ap (λ (r : List ℕ). take at l ++ r) (sym (append_assoc s (a ∷ b ∷ []) (drop (suc (suc n)) l))))

-- nothing left to do
pub all_done : (l : List ℕ) (at k v : ℕ) → k ≡ 0 → replaced l at (hex_of k v) ≡ l
unfolding hex_of
all_done l at k v e = rw (e, hex_of) (nothing_replaced l at)

pub put_nothing : (l : List ℕ) (at : ℕ) → at ≤ length l → put_at l at [] ≡ l
put_nothing l at h = put_inside l at [] (omega arith) ∙ nothing_replaced l at

pub length_put : (l : List ℕ) (at : ℕ) (s : List ℕ) → length (put_at l at s) ≡ length l
length_put l at s =
    dite (dec_le (at + length s) (length l)) (λ (h : at + length s ≤ length l). ap length (put_inside l at s h) ∙ length_replaced l at s h)
    (λ (h : at + length s ≤ length l → ⊥). ap length (put_outside l at s (omega arith)))

-- bytes put after bytes
pub put_then : (l : List ℕ) (at : ℕ) (s t : List ℕ) → at + length s + length t ≤ length l
    → put_at (put_at l at s) (at + length s) t ≡ put_at l at (s ++ t)
put_then l at s t h =
    let n = at + length s in
    let rest = drop n l in
    let m = replaced l at s in
    let head : length (take at l ++ s) ≡ n = length-append (take at l) s ∙ rw (length-take-le at l (omega arith)) in
    let apart : m ≡ take at l ++ s ++ rest = sym (append_assoc (take at l) s rest) in
    let front : take n m ≡ take at l ++ s = rw apart (take_at (take at l ++ s) rest n head) in
    let past : drop n m ≡ rest = rw apart (drop_at (take at l ++ s) rest n head) in
    let back : drop (n + length t) m ≡ drop (n + length t) l = sym (drop-drop (length t) n m) ∙ (rw past (drop-drop (length t) n l)) in
    let both : at + length (s ++ t) ≡ n + length t = rw (length-append s t) (omega arith) in
    let inner : n + length t ≤ length m = rw (length_replaced l at s (omega arith)) h in
    rw (put_inside l at s (omega arith), put_inside m n t inner, put_inside l at (s ++ t) (omega arith), front, back, both)
    (append_assoc (take at l) s (t ++ drop (n + length t) l) ∙ ap (λ (r : List ℕ). take at l ++ r) (sym (append_assoc s t (drop (n + length t) l))))

pub set_is_put : (l : List ℕ) (n x : ℕ) → n < length l → set l n x ≡ put_at l n (x ∷ [])
set_is_put l n x h = set_split l n x h ∙ sym (put_inside l n (x ∷ []) (omega arith) ∙ rw add-one)
