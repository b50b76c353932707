-- Lines counted byte by byte.
use Rattle.std.specs.Prelude.{Option, Some, None}
use Rattle.std.specs.List.{count_by, slice_get}
use Rattle.std.proofs.lemmas.List.Sums.{sum_by-cons}
use mathlib.Core.Bool.{Bool, true, false, cond, not}
use mathlib.Core.List.{List, [], ◌∷◌}
use mathlib.Core.Path.{◌≡◌, refl, ap, ◌∙◌}
use Prim.Native.Nat.{ℕ, suc, ◌+◌, ◌-◌}
use native.Mathlib.Omega.{arith}
use borrow.Author.Tests.{ne_eqb}
use lib.Dec.{eqb}
use lib.ListN.{length}
use Rattle.lines.specs.Lines.{before, lines_of, begun_by, lines_in}

-- the lines of what is left, where p says whether a line has begun
unfoldable pub counted_from : ℕ → List ℕ → ℕ
counted_from p [] = p
counted_from p (c ∷ cs) = cond (eqb c 10) (suc (counted_from 0 cs)) (counted_from 1 cs)

abbrev begun : ℕ → List (List ℕ) → List ℕ → ℕ
begun p whole tail = length whole + cond (eqb (length tail) 0) (cond (eqb (length whole) 0) p 0) 1

no_line_begun : (b c : Bool) → ◌≡◌ {A = ℕ} (cond b (cond c 0 0) 1) (cond b 0 1)
no_line_begun true true = refl
no_line_begun true false = refl
no_line_begun false c = refl

counted_begun : (p : ℕ) (t : List ℕ) → counted_from p t ≡ begun p (lines_of t).whole (lines_of t).tail
unfolding counted_from lines_of
counted_begun p [] = omega arith
counted_begun p (c ∷ cs) = by_byte (eqb c 10) refl (counted_begun 0 cs) (counted_begun 1 cs)
  where
    first_byte : (whole : List (List ℕ)) (tail : List ℕ)
        → begun 1 whole tail ≡ begun p (before c whole tail).whole (before c whole tail).tail
    first_byte [] tail = rw (ne_eqb (suc (length tail)) 0 (λ (z : suc (length tail) ≡ 0). omega (arith, z))) (either (eqb (length tail) 0))
      where
        either : (b : Bool) → ◌≡◌ {A = ℕ} (0 + cond b 1 1) (0 + 1)
        either true = refl
        either false = refl
    first_byte (line ∷ more) tail = rw (ne_eqb (suc (length more)) 0 (λ (z : suc (length more) ≡ 0). omega (arith, z))) refl

    by_byte : (b : Bool) → eqb c 10 ≡ b → counted_from 0 cs ≡ begun 0 (lines_of cs).whole (lines_of cs).tail
        → counted_from 1 cs ≡ begun 1 (lines_of cs).whole (lines_of cs).tail
        → counted_from p (c ∷ cs) ≡ begun p (lines_of (c ∷ cs)).whole (lines_of (c ∷ cs)).tail
    by_byte true e none one =
        rw (counted_from, lines_of, e)
        (rw (ne_eqb (suc (length (lines_of cs).whole)) 0 (λ (z : suc (length (lines_of cs).whole) ≡ 0). omega (arith, z)))
        (omega (arith, none ∙ ap (λ (k : ℕ). length (lines_of cs).whole + k) (no_line_begun (eqb (length (lines_of cs).tail) 0) (eqb (length (lines_of cs).whole) 0)))))
    by_byte false e none one = rw (counted_from, lines_of, e) (one ∙ first_byte (lines_of cs).whole (lines_of cs).tail)

pub counted_all : (t : List ℕ) → counted_from 0 t ≡ lines_in t
unfolding lines_in
counted_all t =
    counted_begun 0 t
    ∙ ap (λ (k : ℕ). length (lines_of t).whole + k) (no_line_begun (eqb (length (lines_of t).tail) 0) (eqb (length (lines_of t).whole) 0))

-- the lines are the LFs, and one more where the last byte is none
abbrev pub begins_line : Option ℕ → Bool
begins_line None = false
begins_line (Some c) = not (eqb c 10)

-- whether a line has begun and not ended, p before the text
begun_after : ℕ → List ℕ → ℕ
begun_after p [] = p
begun_after p (c ∷ cs) = begun_after (begun_by c) cs

abbrev Ends : ℕ → List ℕ → Type 0
Ends p t = counted_from p t ≡ count_by (λ c. eqb c 10) t + begun_after p t

counted_ends : (p : ℕ) (t : List ℕ) → Ends p t
unfolding counted_from begun_after
counted_ends p [] = omega arith
counted_ends p (c ∷ cs) =
    let e = sum_by-cons (λ c. cond (eqb c 10) 1 0) c cs in
    rw e (by_byte (eqb c 10) (counted_ends 0 cs) (counted_ends 1 cs))
  where
    by_byte : (b : Bool) → Ends 0 cs → Ends 1 cs
        → cond b (suc (counted_from 0 cs)) (counted_from 1 cs) ≡ cond b 1 0 + count_by (λ c. eqb c 10) cs + begun_after (cond b 0 1) cs
    by_byte true none one = omega (arith, none)
    by_byte false none one = omega (arith, one)

begun_last : (c : ℕ) (cs : List ℕ) → begun_after (begun_by c) cs ≡ cond (begins_line (slice_get (c ∷ cs) (length cs))) 1 0
unfolding begun_after
begun_last c [] = by_byte (eqb c 10)
  where
    by_byte : (b : Bool) → ◌≡◌ {A = ℕ} (cond b 0 1) (cond (not b) 1 0)
    by_byte true = refl
    by_byte false = refl
begun_last c (d ∷ ds) = begun_last d ds

pub counted : (t : List ℕ) → count_by (λ c. eqb c 10) t + cond (begins_line (slice_get t (length t - 1))) 1 0 ≡ lines_in t
unfolding begun_after counted_from
counted [] = counted_all []
counted (c ∷ cs) =
    let e : length (c ∷ cs) - 1 ≡ length cs = omega arith in
    rw e (omega (arith, begun_last c cs, counted_ends 0 (c ∷ cs), counted_all (c ∷ cs)))
