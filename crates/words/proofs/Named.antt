-- What holds of words that are read, and of their answers.
use Rattle.std.specs.Prelude.{Option, None, Some, unwrap_or, map}
use Rattle.std.proofs.Common.{Bor}
use mathlib.Core.Bool.{Bool, true, false, cond}
use mathlib.Core.List.{List, [], ◌∷◌, ◌++◌}
use mathlib.Core.Path.{◌≡◌, refl, sym, ap, ap₂, ◌∙◌}
use Prim.Native.Nat.{ℕ, suc, ◌+◌, ◌<◌, ◌≤◌}
use native.Mathlib.Omega.{arith}
use borrow.Author.Tests.{eqb-true}
use lib.Dec.{eqb}
use lib.ListN.{length, get_or, drop, drop_of_length-le}
use lib.Seq.{drop-cons}
use Rattle.calendar.proofs.Every.{both_true}
use Rattle.calendar.specs.Below.{all_of}
use Rattle.sheet.specs.Words.{same_bytes, word_in}
use Rattle.words.specs.Answers.{made_read, one_at, named_as}
use Rattle.words.specs.Reads.{starts_with, word_at}
use Rattle.words.specs.declared.cursor.Cursor.{Cursor}
use Rattle.words.proofs.Afters.{Reads, read_none, read_some, read_made}
use Rattle.words.proofs.Choices.{word_of, same_is, word_in_lem}
use Rattle.words.proofs.Starting.{word_is, word_not}
use Rattle.words.proofs.Tied.{made}

-- ---- a text that begins with a word
pub starts_is : (w t : List ℕ) → starts_with w t ≡ true → t ≡ w ++ drop (length w) t
unfolding starts_with
starts_is [] t e = refl
starts_is (x ∷ w) [] e = let z : ◌≡◌ {A = ℕ} 0 1 = cc in absurd (omega arith)
starts_is (x ∷ w) (y ∷ t) e =
    let b = both_true (eqb x y) _ e in
    let f : x ≡ y = eqb-true x y b.0 in
    rw f (ap (λ (l : List ℕ). y ∷ l) (starts_is w t b.1))

-- ---- what all words of a list have
module _ (test : List ℕ → Bool) where
  -- one of them that stands at a place
  pub record Found (s : List ℕ) (at e : ℕ) : Type 0 where
    pub word : List ℕ
    pub tested : test word ≡ true
    pub text : drop at s ≡ word ++ drop (length word) (drop at s)
    pub place : e ≡ at + length word

  pub one_found : (ws : List (List ℕ)) (s : List ℕ) (at : ℕ) → all_of test ws ≡ true → (k e : ℕ) → one_at ws s at ≡ Some (k, e) → Found s at e
  unfolding one_at
  one_found [] s at a = read_none (λ k e. Found s at e)
  one_found (w ∷ ws) s at a = by_start (starts_with w (drop at s)) refl (one_found ws s at (both_true (test w) _ a).1)
    where
      P : ℕ → ℕ → Type 0
      P k e = Found s at e

      by_start : (b : Bool) → starts_with w (drop at s) ≡ b → Reads P (one_at ws s at)
          → Reads P (cond b (Some (0, at + length w)) (made_read suc (one_at ws s at)))
      by_start true f again =
          read_some P 0 (at + length w)
          (record { word = w; tested = (both_true (test w) _ a).0; text = starts_is w (drop at s) f; place = refl })
      by_start false f again = read_made suc P (one_at ws s at) again

  -- a piece that is one of them
  pub word_tested : (ws : List (List ℕ)) (q : List ℕ) (k : ℕ) → all_of test ws ≡ true → word_of ws q ≡ Some k
      → (test q ≡ true) × (k < length ws)
  unfolding word_of
  word_tested [] q k a e = let z : ◌≡◌ {A = ℕ} 0 1 = cc in absurd (omega arith)
  word_tested (w ∷ ws) q k a e = by_same (same_bytes w q) refl (word_of ws q) refl (λ j. word_tested ws q j (both_true (test w) _ a).1) e
    where
      by_same : (b : Bool) → same_bytes w q ≡ b → (o : Option ℕ) → word_of ws q ≡ o
          → ((j : ℕ) → word_of ws q ≡ Some j → (test q ≡ true) × (j < length ws)) → cond b (Some 0) (made suc o) ≡ Some k
          → (test q ≡ true) × (k < suc (length ws))
      by_same true f o g again e = let z : 0 ≡ k = cc in (rw (same_is w q f) at (both_true (test w) _ a).0, omega arith)
      by_same false f None g again e = let z : ◌≡◌ {A = ℕ} 0 1 = cc in absurd (omega arith)
      by_same false f (Some j) g again e = let z : suc j ≡ k = cc in let h = again j g in (h.0, omega (arith, h))

-- the sheet's place of a word among some
pub word_place : (ws : List (List ℕ)) (q : List ℕ) (o : Option ℕ) → word_of ws q ≡ o → word_in ws q ≡ unwrap_or o (length ws)
word_place ws q o e = word_in_lem ws q ∙ ap (λ (x : Option ℕ). unwrap_or x (length ws)) e

-- ---- the answer
number_in : Option (ℕ × Cursor) → ℕ
number_in (Some (k, c)) = k
number_in None = 0

after_in : Option (ℕ × Cursor) → ℕ
after_in (Some (k, c)) = c.at
after_in None = 0

pub named_is : (o : Option (ℕ × ℕ)) (k : ℕ) (c : Cursor) → Some (k, c) ≡ named_as o → o ≡ Some (k, c.at)
unfolding number_in after_in
named_is None k c e = let z : ◌≡◌ {A = ℕ} 0 1 = cc in absurd (omega arith)
named_is (Some r) k c e = ap₂ (λ (a b : ℕ). Some (a, b)) (sym (ap number_in e)) (sym (ap after_in e))

pub named_not : (o : Option (ℕ × ℕ)) → None ≡ named_as o → o ≡ None
named_not None e = refl
named_not (Some r) e = let z : ◌≡◌ {A = ℕ} 0 1 = cc in absurd (omega arith)

-- ---- words of a table tried one after the other
module _ (s : List ℕ) (at : ℕ) (ws : List (Bor (List ℕ))) where
  -- those from the i-th on
  abbrev pub one_from : ℕ → Option (ℕ × ℕ)
  one_from i = one_at (map (λ w. w.now) (drop i ws)) s at

  -- the i-th word
  module _ (i : ℕ) (d : Bor (List ℕ)) (l : i < length ws) (before : one_from 0 ≡ made_read (λ (j : ℕ). i + j) (one_from i)) where
    abbrev word : List ℕ
    word = (get_or ws i d).now

    one_step : one_from i ≡ cond (starts_with word (drop at s)) (Some (0, at + length word)) (made_read suc (one_from (i + 1)))
    unfolding one_at
    one_step = let e : suc i ≡ i + 1 = omega arith in rw (drop-cons ws i d, ← e) refl

    pub one_here : (c : Cursor) → word_at word s at ≡ Some c → Some (i, c) ≡ named_as (one_from 0)
    one_here c e =
        let b = word_is word s at c e in
        let z : i + 0 ≡ i = omega arith in
        rw (before, one_step, b.0, b.1, z) refl

    pub one_later : word_at word s at ≡ None → one_from 0 ≡ made_read (λ (j : ℕ). i + 1 + j) (one_from (i + 1))
    one_later e = before ∙ ap (made_read (λ (j : ℕ). i + j)) (one_step ∙ rw (word_not word s at e) refl) ∙ later (one_from (i + 1))
      where
        later : (o : Option (ℕ × ℕ)) → made_read (λ (j : ℕ). i + j) (made_read suc o) ≡ made_read (λ (j : ℕ). i + 1 + j) o
        later None = refl
        later (Some r) = let e : i + suc r.0 ≡ i + 1 + r.0 = omega arith in rw e refl

  pub one_past : (i : ℕ) → length ws ≤ i → one_from 0 ≡ made_read (λ (j : ℕ). i + j) (one_from i) → None ≡ named_as (one_from 0)
  unfolding one_at
  one_past i l before = rw (before, drop_of_length-le ws) refl
