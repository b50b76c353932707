-- A name and its `=` as one word, against a name that is a whole piece before `=`.
use Rattle.std.specs.Prelude.{Option, None, Some}
use mathlib.Core.Bool.{Bool, true, false, cond, not, and-false}
use mathlib.Core.List.{List, [], ◌∷◌, ◌++◌}
use mathlib.Core.Path.{◌≡◌, refl, sym, ap, ◌∙◌}
use Prim.Native.Nat.{ℕ, suc, ◌+◌}
use native.Mathlib.Omega.{arith}
use borrow.Author.Tests.{eq-eqb, ne_eqb, eqb-false, not-true}
use lib.Dec.{eqb}
use lib.ListN.{length, get_or, drop, length-append}
use Rattle.calendar.proofs.Every.{both_true}
use Rattle.calendar.specs.Below.{all_of}
use Rattle.sheet.specs.Words.{same_bytes}
use Rattle.words.proofs.Choices.{word_of, without, starts_front, same_is}
use Rattle.words.proofs.Pieces.{Whole}
use Rattle.words.proofs.Tied.{made}
use Rattle.words.specs.Answers.{made_read, one_at}
use Rattle.words.specs.Reads.{starts_with}

module _ (c : ℕ) where
  after_first : (y : ℕ) (q : List ℕ) → Whole c (y ∷ q) → Whole c q
  after_first y q w k l = w (suc k) (omega arith)

  first_differs : (y : ℕ) (q : List ℕ) → Whole c (y ∷ q) → eqb c y ≡ false
  first_differs y q w = ne_eqb c y (λ (e : c ≡ y). eqb-false y c (w 0 (omega arith)) (sym e))

  -- a name and its separator begin a piece and its separator exactly if the name is the piece
  pub head_same : (name q rest : List ℕ) → all_of (λ x. not (eqb x c)) name ≡ true → Whole c q
      → starts_with (name ++ (c ∷ [])) (q ++ (c ∷ rest)) ≡ same_bytes name q
  unfolding starts_with same_bytes
  head_same [] [] rest a w = rw (eq-eqb c c refl) refl
  head_same [] (y ∷ q) rest a w = rw (first_differs y q w) refl
  head_same (x ∷ name) [] rest a w = rw (not-true (eqb x c) (both_true (not (eqb x c)) _ a).0) refl
  head_same (x ∷ name) (y ∷ q) rest a w = rw (head_same name q rest (both_true (not (eqb x c)) _ a).1 (after_first y q w)) refl

  -- and they begin no piece without a separator
  pub head_never : (name q : List ℕ) → Whole c q → starts_with (name ++ (c ∷ [])) q ≡ false
  unfolding starts_with
  head_never [] [] w = refl
  head_never [] (y ∷ q) w = rw (first_differs y q w) refl
  head_never (x ∷ name) [] w = refl
  head_never (x ∷ name) (y ∷ q) w = rw (head_never name q (after_first y q w)) (and-false (eqb x y))

  -- the same for a list of names
  abbrev pub heads : List (List ℕ) → List (List ℕ)
  heads [] = []
  heads (name ∷ names) = (name ++ (c ∷ [])) ∷ heads names

-- a name's place, and the place after what was read
abbrev pub placed : ℕ → Option ℕ → Option (ℕ × ℕ)
placed e None = None
placed e (Some k) = Some (k, e)

module _ (c : ℕ) (s : List ℕ) (at : ℕ) (q : List ℕ) (whole : Whole c q) where
  pub heads_same : (rest : List ℕ) → drop at s ≡ q ++ (c ∷ rest) → (names : List (List ℕ)) → without c names ≡ true
      → one_at (heads c names) s at ≡ placed (at + length q + 1) (word_of names q)
  unfolding one_at word_of
  heads_same rest here [] a = refl
  heads_same rest here (name ∷ names) a =
      by_same (same_bytes name q) refl (heads_same rest here names (both_true (all_of (λ x. not (eqb x c)) name) _ a).1)
    where
      starts : starts_with (name ++ (c ∷ [])) (drop at s) ≡ same_bytes name q
      starts = ap (starts_with (name ++ (c ∷ []))) here ∙ head_same c name q rest (both_true (all_of (λ x. not (eqb x c)) name) _ a).0 whole

      next : (o : Option ℕ) → made_read suc (placed (at + length q + 1) o) ≡ placed (at + length q + 1) (made suc o)
      next None = refl
      next (Some k) = refl

      by_same : (b : Bool) → same_bytes name q ≡ b → one_at (heads c names) s at ≡ placed (at + length q + 1) (word_of names q)
          → cond (starts_with (name ++ (c ∷ [])) (drop at s)) (Some (0, at + length (name ++ (c ∷ [])))) (made_read suc (one_at (heads c names) s at))
          ≡ placed (at + length q + 1) (cond (same_bytes name q) (Some 0) (made suc (word_of names q)))
      by_same true e again =
          let n : at + length (name ++ (c ∷ [])) ≡ at + length q + 1 =
          omega (arith, length-append name (c ∷ []), ap length (same_is name q e)) in
          rw (starts, e, n) refl
      by_same false e again = rw (starts, e, again) (next (word_of names q))

  pub heads_never : (tail : List ℕ) → drop at s ≡ q ++ tail → (names : List (List ℕ)) → without (get_or tail 0 0) (heads c names) ≡ true
      → one_at (heads c names) s at ≡ None
  unfolding one_at
  heads_never tail here [] a = refl
  heads_never tail here (name ∷ names) a =
      let b = both_true (all_of (λ x. not (eqb x (get_or tail 0 0))) (name ++ (c ∷ []))) _ a in
      let f : starts_with (name ++ (c ∷ [])) (drop at s) ≡ false =
      ap (starts_with (name ++ (c ∷ []))) here ∙ starts_front (name ++ (c ∷ [])) q tail b.0 ∙ head_never c name q whole in
      rw (f, heads_never tail here names b.1) refl
