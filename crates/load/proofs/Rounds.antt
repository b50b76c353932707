-- The loop over a plan's lines: what is left to do makes what was to do at first.
use Rattle.std.specs.Prelude.{Option, None, Some, Result, Ok}
use mathlib.Core.Bool.{Bool, true, false, cond, ◌&&◌}
use mathlib.Core.List.{List, [], ◌∷◌, map}
use mathlib.Core.Path.{◌≡◌, refl, sym, ap, ◌∙◌}
use Prim.Native.Nat.{ℕ, zero, suc, ◌+◌, ◌-◌, ◌<◌, ◌≤◌}
use native.Mathlib.Omega.{arith}
use borrow.Author.Tests.{ne_eqb}
use lib.Dec.{eqb}
use lib.ListN.{length, take, drop, set, length-drop}
use lib.Seq.{sets}
use Rattle.lines.proofs.Ends.{lines_at, lines_none}
use Rattle.lines.specs.Lines.{Lines, before, lines_of, line_end}
use Rattle.plan.proofs.Loading.{on_rest, on_end, on_allowed, line_allowed, among}
use Rattle.plan.specs.Rows.{row_of}
use Rattle.plan.specs.Taken.{Before, start, is_end, allowed, Loaded, taken, refused, load_from, load}
use Rattle.plan.specs.declared.Frame.{Frame}
use Rattle.load.specs.Loads.{not_taken, ended_as, loaded_as, read_from, read_frames}
use Rattle.load.specs.declared.NotTaken.{NotTaken}

-- the answer of what is left after n frames
abbrev pub loaded_from : ℕ → Loaded → Result ℕ NotTaken
loaded_from n (taken fs) = Ok (n + length fs)
loaded_from n (refused k) = not_taken k

pub record Left (text : List ℕ) (rows₀ rows : List (List ℕ)) (n at : ℕ) (b : Before) : Type 0 where
  pub within : at ≤ length text
  pub places : n ≤ 64
  pub answer : loaded_from n (load_from n b (lines_of (drop at text)).whole (lines_of (drop at text)).tail) ≡ loaded_as (load text)
  pub stored : sets rows n (map row_of (read_from n b (lines_of (drop at text)).whole)) ≡ sets rows₀ 0 (map row_of (read_frames text))

whole_answer : (l : Loaded) → loaded_from 0 l ≡ loaded_as l
whole_answer (taken fs) = let e : 0 + length fs ≡ length fs = omega arith in ap Ok e
whole_answer (refused k) = refl

pub left_first : (text : List ℕ) (rows : List (List ℕ)) → Left text rows rows 0 0 start
unfolding load read_frames
left_first text rows =
    record { within = omega arith; places = omega arith; answer = whole_answer (load_from 0 start (lines_of text).whole (lines_of text).tail); stored = refl }

-- the frames read of a line and of those after it
abbrev pub on_read_end : ℕ → Frame × Before → List (List ℕ) → Bool → List Frame
on_read_end n r more t = elim t [ true ↦ [] | false ↦ r.0 ∷ read_from (n + 1) r.1 more ]

abbrev pub on_read : ℕ → List (List ℕ) → Option (Frame × Before) → List Frame
on_read n more o = elim o [ None ↦ [] | Some r ↦ on_read_end n r more (is_end r.0) ]

-- nothing stands after a text's end, and something after any other place
rest_none : (t : List ℕ) → length t ≡ 0 → (eqb (length (lines_of t).whole) 0 && eqb (length (lines_of t).tail) 0) ≡ true
unfolding lines_of
rest_none [] e = refl
rest_none (c ∷ cs) e = absurd (omega arith)

rest_some : (t : List ℕ) → 0 < length t → (eqb (length (lines_of t).whole) 0 && eqb (length (lines_of t).tail) 0) ≡ false
unfolding lines_of
rest_some [] h = absurd (omega arith)
rest_some (c ∷ cs) h = by_byte (eqb c 10) refl
  where
    some_byte : (whole : List (List ℕ)) (tail : List ℕ)
        → (eqb (length (before c whole tail).whole) 0 && eqb (length (before c whole tail).tail) 0) ≡ false
    some_byte [] tail = ne_eqb (suc (length tail)) 0 (λ (z : suc (length tail) ≡ 0). omega (arith, z))
    some_byte (line ∷ more) tail = rw (ne_eqb (suc (length more)) 0 (λ (z : suc (length more) ≡ 0). omega (arith, z))) refl

    by_byte : (b : Bool) → eqb c 10 ≡ b → (eqb (length (lines_of (c ∷ cs)).whole) 0 && eqb (length (lines_of (c ∷ cs)).tail) 0) ≡ false
    by_byte true e =
        rw (lines_of, e)
        (rw (ne_eqb (suc (length (lines_of cs).whole)) 0 (λ (z : suc (length (lines_of cs).whole) ≡ 0). omega (arith, z))) refl)
    by_byte false e = rw (lines_of, e) (some_byte (lines_of cs).whole (lines_of cs).tail)

more_frames : (n : ℕ) (f : Frame) (l : Loaded) → loaded_from (n + 1) l ≡ loaded_from n (on_rest f l)
more_frames n f (taken fs) = let e : n + 1 + length fs ≡ n + suc (length fs) = omega arith in ap Ok e
more_frames n f (refused k) = refl

module _ (text : List ℕ) (rows₀ rows : List (List ℕ)) (n at : ℕ) (b : Before) (left : Left text rows₀ rows n at b) where
  -- no line is left
  pub left_none : length text ≤ line_end text at
      → (not_taken (n + 1) ≡ loaded_as (load text)) × (rows ≡ sets rows₀ 0 (map row_of (read_frames text)))
  unfolding load_from read_from
  left_none h =
      let e = lines_none text at left.within h in (
        ap (λ (ls : Lines). loaded_from n (load_from n b ls.whole ls.tail)) (sym e) ∙ left.answer,
        ap (λ (ls : Lines). sets rows n (map row_of (read_from n b ls.whole))) (sym e) ∙ left.stored,
      )

  -- a line is left
  module _ (h : line_end text at < length text) where
    answered : (o : Option (Frame × Before)) → o ≡ allowed n b (take (line_end text at - at) (drop at text))
        → loaded_from n (on_allowed n (lines_of (drop (line_end text at + 1) text)).whole (lines_of (drop (line_end text at + 1) text)).tail o) ≡ loaded_as (load text)
    unfolding load_from
    answered o e =
        ap
        (λ (x : Option (Frame × Before)). loaded_from n (on_allowed n (lines_of (drop (line_end text at + 1) text)).whole (lines_of (drop (line_end text at + 1) text)).tail x))
        e
        ∙ ap (λ (ls : Lines). loaded_from n (load_from n b ls.whole ls.tail)) (sym (lines_at text at left.within h))
        ∙ left.answer

    read : (o : Option (Frame × Before)) → o ≡ allowed n b (take (line_end text at - at) (drop at text))
        → sets rows n (map row_of (on_read n (lines_of (drop (line_end text at + 1) text)).whole o)) ≡ sets rows₀ 0 (map row_of (read_frames text))
    unfolding read_from
    read o e =
        ap (λ (x : Option (Frame × Before)). sets rows n (map row_of (on_read n (lines_of (drop (line_end text at + 1) text)).whole x))) e
        ∙ ap (λ (ls : Lines). sets rows n (map row_of (read_from n b ls.whole))) (sym (lines_at text at left.within h))
        ∙ left.stored

    pub left_not : None ≡ allowed n b (take (line_end text at - at) (drop at text))
        → (not_taken (n + 1) ≡ loaded_as (load text)) × (rows ≡ sets rows₀ 0 (map row_of (read_frames text)))
    left_not e = (answered None e, read None e)

    module _ (f : Frame) (after : Before) (e : Some (f, after) ≡ allowed n b (take (line_end text at - at) (drop at text))) where
      pub left_end : is_end f ≡ true
          → (ended_as n (length text - (line_end text at + 1)) ≡ loaded_as (load text)) × (rows ≡ sets rows₀ 0 (map row_of (read_frames text)))
      left_end t = (
        by_rest (length text - (line_end text at + 1)) refl
            ∙ ap
            (λ (x : Bool). loaded_from n (on_end n (f, after) (lines_of (drop (line_end text at + 1) text)).whole (lines_of (drop (line_end text at + 1) text)).tail x))
            (sym t)
            ∙ answered (Some (f, after)) e,
        ap (λ (x : Bool). sets rows n (map row_of (on_read_end n (f, after) (lines_of (drop (line_end text at + 1) text)).whole x))) (sym t) ∙ read (Some (f, after)) e,
      )
        where
          by_rest : (k : ℕ) → length text - (line_end text at + 1) ≡ k
              → ended_as n k ≡ loaded_from n (cond (eqb (length (lines_of (drop (line_end text at + 1) text)).whole) 0 && eqb (length (lines_of (drop (line_end text at + 1) text)).tail) 0) (taken []) (refused (n + 2)))
          by_rest zero k =
              let z : n ≡ n + 0 = omega arith in
              rw (rest_none (drop (line_end text at + 1) text) (length-drop (line_end text at + 1) text ∙ k)) (ap Ok z)
          by_rest (suc j) k =
              rw (rest_some (drop (line_end text at + 1) text) (omega (arith, length-drop (line_end text at + 1) text, k))) refl

      pub left_room : is_end f ≡ false → n < 64
      left_room t = among n f t (line_allowed n b (take (line_end text at - at) (drop at text)) (f, after) (sym e)).number

      pub left_on : is_end f ≡ false → Left text rows₀ (set rows n (row_of f)) (n + 1) (line_end text at + 1) after
      left_on t =
          let s : n + 1 ≡ suc n = omega arith in
          record {
            within = omega arith;
            places = omega (arith, left_room t);
            answer =
                more_frames n f
                (load_from (n + 1) after (lines_of (drop (line_end text at + 1) text)).whole (lines_of (drop (line_end text at + 1) text)).tail)
                ∙ ap
                (λ (x : Bool). loaded_from n (on_end n (f, after) (lines_of (drop (line_end text at + 1) text)).whole (lines_of (drop (line_end text at + 1) text)).tail x))
                (sym t)
                ∙ answered (Some (f, after)) e;
            stored =
                ap
                (λ (k : ℕ). sets (set rows n (row_of f)) k (map row_of (read_from (n + 1) after (lines_of (drop (line_end text at + 1) text)).whole)))
                s
                ∙ ap (λ (x : Bool). sets rows n (map row_of (on_read_end n (f, after) (lines_of (drop (line_end text at + 1) text)).whole x)))
                (sym t)
                ∙ read (Some (f, after)) e;
          }
