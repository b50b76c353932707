-- The bad line by its place and its length.
use mathlib.Core.List.{List, [], ◌∷◌}
use mathlib.Core.Path.{◌≡◌, refl, sym, ap, ◌∙◌}
use Prim.Native.Nat.{ℕ, zero, suc, ◌+◌}
use native.Mathlib.Omega.{arith}
use lib.ListN.{length, take, drop}
use lib.Seq.{take-length, take-append_seam, drop-append-add}
use Rattle.lines.proofs.Joined.{joined, lines_joined}
use Rattle.lines.specs.Lines.{lines_of}
use Rattle.sheet.specs.Refusals.{bad_line, bad_at, bad_length}

in_joined : (k : ℕ) (ls : List (List ℕ)) (tail : List ℕ)
    → take (bad_length k ls tail) (drop (bad_at k ls) (joined ls tail)) ≡ bad_line k ls tail
unfolding bad_line bad_at bad_length
in_joined zero ls tail = refl
in_joined (suc zero) [] tail = take-length tail
in_joined (suc (suc k)) [] tail = refl
in_joined (suc zero) (l ∷ ls) tail = take-append_seam l (10 ∷ joined ls tail)
in_joined (suc (suc k)) (l ∷ ls) tail =
    let at : ℕ = bad_at (suc k) ls in
    let e : length l + 1 + at ≡ length l + suc at = omega arith in
    rw (e, drop-append-add l (10 ∷ joined ls tail) (suc at)) (in_joined (suc k) ls tail)

-- "the bad line as a part of the lent sheet without LF": that part of a text is its line k
pub bad_line_shown : (text : List ℕ) (k : ℕ)
    → take (bad_length k (lines_of text).whole (lines_of text).tail) (drop (bad_at k (lines_of text).whole) text) ≡ bad_line k (lines_of text).whole (lines_of text).tail
bad_line_shown text k =
    ap (λ (t : List ℕ). take (bad_length k (lines_of text).whole (lines_of text).tail) (drop (bad_at k (lines_of text).whole) t))
    (sym (lines_joined text))
    ∙ in_joined k (lines_of text).whole (lines_of text).tail
