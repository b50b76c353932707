-- A part of a rule, and all parts: the readers against the forms of a whole piece.
use Rattle.std.specs.Prelude.{Option, None, Some}
use mathlib.Core.Bool.{true, false}
use mathlib.Core.List.{List, [], ◌∷◌, ◌++◌}
use mathlib.Core.Path.{◌≡◌, refl, ap, ◌∙◌}
use Prim.Native.Nat.{ℕ, ◌+◌, ◌<◌}
use native.Mathlib.Omega.{arith}
use lib.Dec.{eqb}
use lib.ListN.{length, get_or, drop, length-append}
use Rattle.sheet.specs.Form.{part_words, value_of, named, part_of}
use Rattle.sheet.specs.Words.{word_in, pieces, each_of}
use Rattle.words.proofs.Choices.{word_of, without}
use Rattle.words.proofs.Ends.{End, nothing, space, semicolon, equals, end_byte}
use Rattle.words.proofs.Listing.{after_rest, all_tied}
use Rattle.words.proofs.Named.{word_tested, word_place}
use Rattle.words.proofs.Pieces.{After, ended, more, cut_here, Whole, Cut, cut_of}
use Rattle.words.proofs.Sequence.{only, only_tied}
use Rattle.words.proofs.Tied.{Tied, tied_from, tied_none}
use Rattle.words.specs.Answers.{one_at}
use Rattle.parts.specs.Given.{parts_read}
use Rattle.parts.specs.Values.{part_heads, value_read, part_read}
use Rattle.parts.proofs.Heads.{heads, placed, heads_same, heads_never}
use Rattle.parts.proofs.Places.{part_value, part_not}
use Rattle.parts.proofs.Valued.{value_tied}

-- what may stand after a part: nothing, a space or `;`
pub record PartStops (tail : List ℕ) : Type 0 where
  pub ends : End tail
  pub comma : eqb (get_or tail 0 0) 44 ≡ false
  pub equals : eqb (get_or tail 0 0) 61 ≡ false

pub stops_nothing : PartStops []
stops_nothing = record { ends = nothing; comma = refl; equals = refl }

pub stops_space : (rest : List ℕ) → PartStops (32 ∷ rest)
stops_space rest = record { ends = space rest; comma = refl; equals = refl }

pub stops_semicolon : (rest : List ℕ) → PartStops (59 ∷ rest)
stops_semicolon rest = record { ends = semicolon rest; comma = refl; equals = refl }

-- ---- the names
heads_are : part_heads ≡ heads 61 part_words
unfolding part_heads part_words
heads_are = refl

words_without : without 61 part_words ≡ true
unfolding part_words
words_without = refl

stops_heads : {tail : List ℕ} → PartStops tail → without (get_or tail 0 0) (heads 61 part_words) ≡ true
unfolding part_words
stops_heads stops =
    end_byte (λ c. eqb c 61 ≡ false → without c (heads 61 part_words) ≡ true) (λ e. refl) (λ e. refl) (λ e. refl) (λ e. refl)
    (λ e. let z : ◌≡◌ {A = ℕ} 0 1 = cc in absurd (omega arith)) stops.ends stops.equals

-- ---- the form of a part by its name
module _ (p q : List ℕ) where
  part_alone : pieces 61 p ≡ q ∷ [] → part_of p ≡ None
  unfolding part_of
  part_alone e = rw e refl

  module _ (rest : List ℕ) (e : pieces 61 p ≡ q ∷ pieces 61 rest) where
    part_form : (k : ℕ) → word_in part_words q ≡ k → part_of p ≡ only (value_of k) (pieces 61 rest)
    unfolding part_of
    part_form k f = by_cut (cut_of 61 rest)
      where
        by_others : (v : List ℕ) (others : List (List ℕ)) → named (q ∷ v ∷ others) ≡ only (value_of k) (v ∷ others)
        by_others v [] = rw f refl
        by_others v (o ∷ others) = refl

        by_cut : Cut 61 rest → part_of p ≡ only (value_of k) (pieces 61 rest)
        by_cut c = rw (e, c.cut) (by_others c.piece c.others)

    part_unnamed : word_of part_words q ≡ None → part_of p ≡ None
    unfolding part_words value_of
    part_unnamed f = part_form 8 (word_place part_words q None f) ∙ by_cut (cut_of 61 rest)
      where
        by_others : (v : List ℕ) (others : List (List ℕ)) → only (value_of 8) (v ∷ others) ≡ None
        by_others v [] = refl
        by_others v (o ∷ others) = refl

        by_cut : Cut 61 rest → only (value_of 8) (pieces 61 rest) ≡ None
        by_cut c = rw c.cut (by_others c.piece c.others)

-- ---- the readers
ValueStop : List ℕ → Type 0
ValueStop tail = End tail × (eqb (get_or tail 0 0) 44 ≡ false)

module _ (s : List ℕ) (at : ℕ) (p tail : List ℕ) (here : drop at s ≡ p ++ tail) (stops : PartStops tail) where
  -- no `=` in the piece
  alone : (q : List ℕ) → p ≡ q ++ [] → pieces 61 p ≡ q ∷ [] → Whole 61 q → Tied (part_of p) (part_read s at) at (at + length p)
  alone q e d whole =
      let f : drop at s ≡ q ++ tail = cut_here q [] tail here e in
      let g : one_at part_heads s at ≡ None = rw heads_are (heads_never 61 s at q whole tail f part_words (stops_heads stops)) in
      rw (part_not s at g, part_alone p q d) (tied_none at (at + length p))

  -- a name, `=`, and the text of the value
  module _ (q rest : List ℕ) (e : p ≡ q ++ (61 ∷ rest)) (d : pieces 61 p ≡ q ∷ pieces 61 rest) (whole : Whole 61 q) where
    text : drop at s ≡ q ++ (61 ∷ (rest ++ tail))
    text = cut_here q (61 ∷ rest) tail here e

    head : (o : Option ℕ) → word_of part_words q ≡ o → one_at part_heads s at ≡ placed (at + length q + 1) o
    head o f = rw heads_are (heads_same 61 s at q whole (rest ++ tail) text part_words words_without ∙ ap (placed (at + length q + 1)) f)

    value_here : (k : ℕ) → k < 8 → Tied (only (value_of k) (pieces 61 rest)) (value_read k s (at + length q + 1)) at (at + length p)
    unfolding ValueStop
    value_here k h =
        let n : at + length q + 1 + length rest ≡ at + length p = omega (arith, ap length e, length-append q (61 ∷ rest)) in
        let t = only_tied 61 s (value_of k) (value_read k s) ValueStop (λ r. (equals r, refl)) (λ at p tail here stop. value_tied s at p tail here stop.0 stop.1 k h) tail (stops.ends, stops.comma)
        (at + length q + 1) rest (after_rest s at q (61 ∷ (rest ++ tail)) (at + length q) text refl) in
        tied_from _ _ at (at + length q + 1) (at + length p) (omega arith) (rw n at t)

    by_name : (o : Option ℕ) → word_of part_words q ≡ o → Tied (part_of p) (part_read s at) at (at + length p)
    unfolding part_words
    by_name None f = rw (part_not s at (head None f), part_unnamed p q rest d f) (tied_none at (at + length p))
    by_name (Some k) f =
        rw (part_value s at k (at + length q + 1) (head (Some k) f), part_form p q rest d k (word_place part_words q (Some k) f))
        (value_here k (word_tested (λ w. true) part_words q k refl f).1)

  pub part_tied : Tied (part_of p) (part_read s at) at (at + length p)
  part_tied = by_cut (cut_of 61 p)
    where
      by_after : (q t : List ℕ) (others : List (List ℕ)) → p ≡ q ++ t → pieces 61 p ≡ q ∷ others → Whole 61 q → After 61 t others
          → Tied (part_of p) (part_read s at) at (at + length p)
      by_after q t others e d whole ended = alone q e d whole
      by_after q t others e d whole (more rest) = by_name q rest e d whole (word_of part_words q) refl

      by_cut : Cut 61 p → Tied (part_of p) (part_read s at) at (at + length p)
      by_cut c = by_after c.piece c.tail c.others c.text c.cut c.whole c.after

pub parts_tied : (s : List ℕ) (at : ℕ) (p tail : List ℕ) → drop at s ≡ p ++ tail → PartStops tail → eqb (get_or tail 0 0) 59 ≡ false
    → Tied (each_of part_of (pieces 59 p)) (parts_read s at) at (at + length p)
unfolding parts_read
parts_tied s = all_tied s (part_read s) 59 part_of PartStops stops_semicolon (part_tied s)
