-- Where a line ends, and the lines of what stands from a place on.
use Rattle.std.specs.Prelude.{Some, None}
use Rattle.std.specs.List.{position, position_or_len, slice_range}
use Rattle.std.specs.Option.{unwrap_or}
use Rattle.std.proofs.lemmas.List.Sums.{position_or_len_is}
use mathlib.Core.Bool.{false, cond}
use mathlib.Core.Logic.{dite}
use native.Mathlib.Decide.{dec_lt}
use mathlib.Core.List.{List, [], ◌∷◌}
use mathlib.Core.Path.{◌≡◌, refl, ap, ◌∙◌}
use Prim.Native.Nat.{ℕ, zero, suc, ◌+◌, ◌-◌, ◌<◌, ◌≤◌}
use native.Mathlib.Omega.{arith}
use borrow.Author.Tests.{eq-eqb, ne_eqb, eqb-true, lt-ltb, le-ltb}
use lib.Dec.{eqb, ltb}
use lib.ListN.{length, get_or, take, drop, length-drop}
use lib.Seq.{get_or-drop, drop-drop, take_all}
use Rattle.calendar.proofs.Leasts.{Least, least_from_lem}
use Rattle.calendar.specs.Below.{least_from}
use Rattle.lines.specs.Lines.{lines_of, line_end}

pub end_here : (text : List ℕ) (i : ℕ) → i < length text → get_or text i 0 ≡ 10 → line_end text i ≡ i
unfolding line_end least_from
end_here text i h e =
    let n : length text - i ≡ suc (length text - i - 1) = omega arith in
    rw (n, least_from, eq-eqb _ _ e) refl

pub end_later : (text : List ℕ) (i : ℕ) → i < length text → (get_or text i 0 ≡ 10 → ⊥) → line_end text i ≡ line_end text (i + 1)
unfolding line_end least_from
end_later text i h e =
    let n : length text - i ≡ suc (length text - (i + 1)) = omega arith in
    let m : suc i ≡ i + 1 = omega arith in
    rw (n, least_from, ne_eqb _ _ e, m) refl

pub end_past : (text : List ℕ) (i : ℕ) → length text ≤ i → line_end text i ≡ i
unfolding line_end least_from
end_past text i h =
    let n : length text - i ≡ 0 = omega arith in
    rw (n, least_from) refl

-- the end is the least of its kind
pub end_least : (text : List ℕ) (at : ℕ) → at ≤ length text → Least (λ i. eqb (get_or text i 0) 10) at (length text) (line_end text at)
unfolding line_end
end_least text at h =
    let e : at + (length text - at) ≡ length text = omega arith in
    rw e at (least_from_lem (λ i. eqb (get_or text i 0) 10) (length text - at) at)

-- and what a search from there on finds
pub end_place : (text : List ℕ) (at : ℕ) (rest : List ℕ) → at ≤ length text → rest ≡ slice_range text at (length text)
    → at + unwrap_or (position (λ c. eqb c 10) rest) (length rest) ≡ line_end text at
end_place text at rest h r =
    let a = end_least text at h in
    let k : ℕ = line_end text at - at in
    let e : at + k ≡ line_end text at = omega (arith, a.from) in
    let n : position_or_len (λ c. eqb c 10) (drop at text) ≡ k =
    position_or_len_is (λ c. eqb c 10) (drop at text) k 0 (omega (arith, length-drop at text, a.to))
    (λ i l. ap (λ (c : ℕ). eqb c 10) (get_or-drop at text i 0) ∙ a.fails (at + i) (omega arith) (omega (arith, e)))
    (λ l. ap (λ (c : ℕ). eqb c 10) (get_or-drop at text _ 0 ∙ ap (λ (i : ℕ). get_or text i 0) e) ∙ a.passes (omega (arith, length-drop at text, e))) in
    rw (r ∙ take_all (length text - at) (drop at text) (omega (arith, length-drop at text)), n)
    (either k (length (drop at text)) (omega (arith, length-drop at text, a.to)) e)
  where
    either : (k len : ℕ) → k ≤ len → at + k ≡ line_end text at → at + unwrap_or (cond (ltb k len) (Some k) None) len ≡ line_end text at
    either k len l e =
        dite (dec_lt k len) (λ (b : k < len). rw (lt-ltb k len b) e)
        (λ (b : k < len → ⊥). rw (le-ltb k len (omega arith)) (omega (arith, e)))

-- the first line of a text that has one, and a text that has none
first_line : (t : List ℕ) (k : ℕ) → k < length t → get_or t k 0 ≡ 10 → ((j : ℕ) → j < k → eqb (get_or t j 0) 10 ≡ false)
    → lines_of t ≡ record { whole = take k t ∷ (lines_of (drop (suc k) t)).whole; tail = (lines_of (drop (suc k) t)).tail }
unfolding lines_of
first_line [] k h e n = absurd (omega arith)
first_line (c ∷ cs) zero h e n = rw (lines_of, eq-eqb c 10 e) refl
first_line (c ∷ cs) (suc k) h e n =
    rw (lines_of, n 0 (omega arith), first_line cs k (omega arith) e (λ j l. n (suc j) (omega arith))) refl

no_line : (t : List ℕ) → ((j : ℕ) → j < length t → eqb (get_or t j 0) 10 ≡ false) → lines_of t ≡ record { whole = []; tail = t }
unfolding lines_of
no_line [] n = refl
no_line (c ∷ cs) n = rw (lines_of, n 0 (omega arith), no_line cs (λ j l. n (suc j) (omega arith))) refl

-- from a place on: a line up to its end and the lines after it, or no line
module _ (text : List ℕ) (at : ℕ) (h : at ≤ length text) where
  pub lines_at : line_end text at < length text
      → lines_of (drop at text)
      ≡ record { whole = take (line_end text at - at) (drop at text) ∷ (lines_of (drop (line_end text at + 1) text)).whole; tail = (lines_of (drop (line_end text at + 1) text)).tail }
  lines_at l =
      let a = end_least text at h in
      let k : ℕ = line_end text at - at in
      let e : at + k ≡ line_end text at = omega (arith, a.from) in
      let g : at + suc k ≡ line_end text at + 1 = omega (arith, e) in
      let d : drop (suc k) (drop at text) ≡ drop (line_end text at + 1) text = drop-drop (suc k) at text ∙ ap (λ (n : ℕ). drop n text) g in
      first_line (drop at text) k (omega (arith, length-drop at text, e))
      (get_or-drop at text k 0 ∙ ap (λ (n : ℕ). get_or text n 0) e ∙ eqb-true (get_or text (line_end text at) 0) 10 (a.passes l))
      (λ j b. ap (λ (n : ℕ). eqb n 10) (get_or-drop at text j 0) ∙ a.fails (at + j) (omega arith) (omega (arith, e)))
      ∙ ap (λ (t : List ℕ). record { whole = take k (drop at text) ∷ (lines_of t).whole; tail = (lines_of t).tail }) d

  pub lines_none : length text ≤ line_end text at → lines_of (drop at text) ≡ record { whole = []; tail = drop at text }
  lines_none l =
      let a = end_least text at h in
      no_line (drop at text)
      (λ j b. ap (λ (n : ℕ). eqb n 10) (get_or-drop at text j 0) ∙ a.fails (at + j) (omega arith) (omega (arith, length-drop at text)))
