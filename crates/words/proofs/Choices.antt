-- One of some words at a place, against a whole piece that is one of them.
use Rattle.std.specs.Prelude.{Option, None, Some, unwrap_or}
use mathlib.Core.Bool.{Bool, true, false, cond, not, ◌&&◌}
use mathlib.Core.List.{List, [], ◌∷◌, ◌++◌}
use mathlib.Core.Path.{◌≡◌, refl, sym, ap, ◌∙◌}
use Prim.Native.Nat.{ℕ, suc, ◌+◌, ◌≤◌}
use native.Mathlib.Omega.{arith}
use borrow.Author.Tests.{eqb-true, not-true}
use lib.Dec.{eqb}
use lib.ListN.{length, get_or, drop}
use Rattle.calendar.proofs.Every.{both_true}
use Rattle.calendar.specs.Below.{all_of}
use Rattle.sheet.specs.Words.{same_bytes, word_in}
use Rattle.words.specs.Answers.{made_read, one_at}
use Rattle.words.specs.Reads.{starts_with}
use Rattle.words.proofs.Tied.{made, Tied, tied_by, tied_made, tied_none}

-- the place of a word among some
unfoldable pub word_of : List (List ℕ) → List ℕ → Option ℕ
word_of [] p = None
word_of (w ∷ ws) p = cond (same_bytes w p) (Some 0) (made suc (word_of ws p))

-- no word begins with one before it
unfoldable pub prefix_free : List (List ℕ) → Bool
prefix_free [] = true
prefix_free (w ∷ ws) = all_of (λ v. not (starts_with w v)) ws && prefix_free ws

-- no word has the byte
abbrev pub without : ℕ → List (List ℕ) → Bool
without c ws = all_of (all_of (λ x. not (eqb x c))) ws

-- a word lies in the piece where its bytes do not follow it
pub starts_front : (w p tail : List ℕ) → all_of (λ x. not (eqb x (get_or tail 0 0))) w ≡ true → starts_with w (p ++ tail) ≡ starts_with w p
unfolding starts_with
starts_front [] p tail a = refl
starts_front (x ∷ w) [] [] a = refl
starts_front (x ∷ w) [] (c ∷ tail) a = rw (not-true (eqb x c) (both_true (not (eqb x c)) _ a).0) refl
starts_front (x ∷ w) (c ∷ p) tail a = rw (starts_front w p tail (both_true (not (eqb x (get_or tail 0 0))) _ a).1) refl

-- a piece that is a word, and one that begins with it
pub same_starts : (w p : List ℕ) → same_bytes w p ≡ true → starts_with w p ≡ true
unfolding same_bytes starts_with
same_starts [] [] e = refl
same_starts [] (y ∷ p) e = refl
same_starts (x ∷ w) [] e = e
same_starts (x ∷ w) (y ∷ p) e = let b = both_true (eqb x y) _ e in rw (b.0, same_starts w p b.1) refl

pub same_is : (w p : List ℕ) → same_bytes w p ≡ true → w ≡ p
unfolding same_bytes
same_is [] [] e = refl
same_is [] (y ∷ p) e = let z : ◌≡◌ {A = ℕ} 0 1 = cc in absurd (omega arith)
same_is (x ∷ w) [] e = let z : ◌≡◌ {A = ℕ} 0 1 = cc in absurd (omega arith)
same_is (x ∷ w) (y ∷ p) e = let b = both_true (eqb x y) _ e in rw (eqb-true x y b.0, same_is w p b.1) refl

-- all of a piece that begins with a word, or more
starts_all : (w p : List ℕ) → starts_with w p ≡ true → length w ≡ length p → same_bytes w p ≡ true
unfolding same_bytes starts_with
starts_all [] [] e l = refl
starts_all [] (y ∷ p) e l = absurd (omega arith)
starts_all (x ∷ w) [] e l = e
starts_all (x ∷ w) (y ∷ p) e l = let b = both_true (eqb x y) _ e in rw (b.0, starts_all w p b.1 (omega arith)) refl

starts_length : (w p : List ℕ) → starts_with w p ≡ true → length w ≤ length p
unfolding starts_with
starts_length [] p e = omega arith
starts_length (x ∷ w) [] e = let z : ◌≡◌ {A = ℕ} 0 1 = cc in absurd (omega arith)
starts_length (x ∷ w) (y ∷ p) e = omega (arith, starts_length w p (both_true (eqb x y) _ e).1)

-- a piece that begins with a word is none of those that do not
none_of : (w p : List ℕ) (ws : List (List ℕ)) → starts_with w p ≡ true → all_of (λ v. not (starts_with w v)) ws ≡ true → word_of ws p ≡ None
unfolding word_of
none_of w p [] e a = refl
none_of w p (v ∷ ws) e a = by_same (same_bytes v p) refl (none_of w p ws e (both_true (not (starts_with w v)) _ a).1)
  where
    by_same : (b : Bool) → same_bytes v p ≡ b → word_of ws p ≡ None → cond (same_bytes v p) (Some 0) (made suc (word_of ws p)) ≡ None
    by_same true f g =
        let h : true ≡ false = sym e ∙ ap (starts_with w) (sym (same_is v p f)) ∙ not-true _ (both_true _ _ a).0 in
        let z : ◌≡◌ {A = ℕ} 0 1 = cc in absurd (omega arith)
    by_same false f g = rw (f, g) refl

module _ (s : List ℕ) (at : ℕ) (p tail : List ℕ) (here : drop at s ≡ p ++ tail) where
  pub one_tied : (ws : List (List ℕ)) → prefix_free ws ≡ true → without (get_or tail 0 0) ws ≡ true
      → Tied (word_of ws p) (one_at ws s at) at (at + length p)
  unfolding word_of one_at prefix_free
  one_tied [] f a = tied_none _ _
  one_tied (w ∷ ws) f a = by_start (starts_with w p) refl (one_tied ws apart.1 bytes.1)
    where
      apart : (all_of (λ v. not (starts_with w v)) ws ≡ true) × (prefix_free ws ≡ true)
      apart = both_true _ _ f

      bytes : (all_of (λ x. not (eqb x (get_or tail 0 0))) w ≡ true) × (without (get_or tail 0 0) ws ≡ true)
      bytes = both_true _ _ a

      starts : starts_with w (drop at s) ≡ starts_with w p
      starts = ap (starts_with w) here ∙ starts_front w p tail bytes.0

      not_whole : (b : Bool) → same_bytes w p ≡ b → (length w ≡ length p → ⊥) → word_of ws p ≡ None
          → cond (same_bytes w p) (Some 0) (made suc (word_of ws p)) ≡ None
      not_whole true e n g = absurd (n (ap length (same_is w p e)))
      not_whole false e n g = rw (e, g) refl

      not_same : (b : Bool) → same_bytes w p ≡ b → starts_with w p ≡ false
          → cond (same_bytes w p) (Some 0) (made suc (word_of ws p)) ≡ made suc (word_of ws p)
      not_same true e n = let g : true ≡ false = sym (same_starts w p e) ∙ n in let z : ◌≡◌ {A = ℕ} 0 1 = cc in absurd (omega arith)
      not_same false e n = rw e refl

      by_start : (b : Bool) → starts_with w p ≡ b → Tied (word_of ws p) (one_at ws s at) at (at + length p)
          → Tied (cond (same_bytes w p) (Some 0) (made suc (word_of ws p))) (cond (starts_with w (drop at s)) (Some (0, at + length w)) (made_read suc (one_at ws s at))) at (at + length p)
      by_start true e t =
          rw (starts ∙ e)
          (tied_by _ 0 (at + length w) at (at + length p) (omega arith) true
          (λ g. omega (arith, starts_length w p e))
          (λ g (q : at + length w ≡ at + length p). rw (starts_all w p e (omega arith)) refl)
          (λ g q. not_whole (same_bytes w p) refl (λ (l : length w ≡ length p). q (omega arith)) (none_of w p ws e apart.0))
          (λ g. let z : ◌≡◌ {A = ℕ} 0 1 = cc in absurd (omega arith)))
      by_start false e t = rw (starts ∙ e, not_same (same_bytes w p) refl e) (tied_made suc _ _ at at _ (omega arith) t)

-- the sheet's way of saying it: past the end of the words where it is none of them
pub word_in_lem : (ws : List (List ℕ)) (p : List ℕ) → word_in ws p ≡ unwrap_or (word_of ws p) (length ws)
unfolding word_in word_of
word_in_lem [] p = refl
word_in_lem (w ∷ ws) p = by_same (same_bytes w p) (word_of ws p) (word_in_lem ws p)
  where
    by_same : (b : Bool) (o : Option ℕ) → word_in ws p ≡ unwrap_or o (length ws)
        → cond b 0 (suc (word_in ws p)) ≡ unwrap_or (cond b (Some 0) (made suc o)) (suc (length ws))
    by_same true o e = refl
    by_same false None e = ap suc e
    by_same false (Some k) e = ap suc e
