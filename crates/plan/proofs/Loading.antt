-- A plan's text and its frames belong to each other: what is taken is the text of its frames, and the text of allowed frames is taken.
use Rattle.std.specs.Prelude.{Option, None, Some}
use mathlib.Core.Bool.{Bool, true, false, cond, not, ◌&&◌}
use mathlib.Core.List.{List, [], ◌∷◌, ◌++◌, map}
use mathlib.Core.Path.{◌≡◌, refl, sym, ap, subst, ◌∙◌}
use Prim.Native.Nat.{ℕ, suc, ◌+◌, ◌%◌, ◌<◌, ◌≤◌}
use native.Mathlib.Nat.{add-zero}
use native.Mathlib.Omega.{arith}
use borrow.Author.Tests.{eqb-true, eq-eqb, ne_eqb, ltb-true, not-true}
use lib.Dec.{eqb}
use lib.ListN.{length}
use Rattle.calendar.proofs.Every.{both_true}
use Rattle.calendar.specs.Below.{all_of}
use Rattle.hex_lines.proofs.Digits.{no_line_end}
use Rattle.hex_lines.proofs.Spelt.{is_some, spells_some}
use Rattle.hex_lines.specs.Hex.{is_digit, spells}
use Rattle.lines.proofs.Joined.{joined, lines_joined}
use Rattle.lines.specs.Lines.{lines_of}
use Rattle.plan.specs.Allowed.{allowed_from, frames_allowed}
use Rattle.plan.specs.Taken.{Before, start, Loaded, taken, refused, frame_good, place, number_good, is_end, allowed, load_from, load}
use Rattle.plan.specs.Text.{frame_line, plan_text, line_frame}
use Rattle.plan.specs.declared.Frame.{Frame}
use Rattle.plan.proofs.Fitting.{good_fits, end_fits}
use Rattle.plan.proofs.Frames.{frame_spells, written_is_read, read_is_written}

-- a frame's line is digits
digits_alone : (f : Frame) → all_of is_digit (frame_line f) ≡ true
unfolding spells
digits_alone f =
    (both_true (eqb (length (frame_line f) % 2) 0) _ (spells_some (frame_line f) ∙ ap is_some (frame_spells f))).1

-- a line of digits before a text is one line more
line_first : (line text : List ℕ) → all_of is_digit line ≡ true
    → lines_of (line ++ (10 ∷ text)) ≡ record { whole = line ∷ (lines_of text).whole; tail = (lines_of text).tail }
unfolding lines_of
line_first [] text h = refl
line_first (c ∷ cs) text h =
    let d : is_digit c ≡ true = (both_true (is_digit c) _ h).0 in
    let n : eqb c 10 ≡ false = ne_eqb c 10 (no_line_end c (ltb-true _ _ d)) in
    let r = line_first cs text (both_true (is_digit c) _ h).1 in
    rw (n, lines_of, r)

-- the lines of a plan's text
pub lines_of_plan : (fs : List Frame) → lines_of (plan_text fs) ≡ record { whole = map frame_line fs; tail = [] }
unfolding plan_text lines_of
lines_of_plan [] = refl
lines_of_plan (f ∷ fs) = line_first (frame_line f) (plan_text fs) (digits_alone f) ∙ rw (lines_of_plan fs)

pub plan_joined : (fs : List Frame) → joined (map frame_line fs) [] ≡ plan_text fs
unfolding plan_text
plan_joined [] = refl
plan_joined (f ∷ fs) = rw (plan_joined fs)

-- what a line that is allowed says
pub record Allows (n : ℕ) (before : Before) (line : List ℕ) (f : Frame) (after : Before) : Type 0 where
  pub frame : line_frame line ≡ Some f
  pub placed : place before f ≡ Some after
  pub good : frame_good f ≡ true
  pub number : number_good n f ≡ true

abbrev on_place : ℕ → Frame → Option Before → Option (Frame × Before)
on_place n f o = elim o [ None ↦ None | Some after ↦ cond (frame_good f && number_good n f) (Some (f, after)) None ]

abbrev on_frame : ℕ → Before → Option Frame → Option (Frame × Before)
on_frame n before o = elim o [ None ↦ None | Some f ↦ on_place n f (place before f) ]

allowed_line : (n : ℕ) (before : Before) (line : List ℕ) (f : Frame) (after : Before) → Allows n before line f after
    → allowed n before line ≡ Some (f, after)
unfolding allowed
allowed_line n before line f after a =
    ap (on_frame n before) a.frame ∙ (ap (on_place n f) a.placed ∙ rw (a.good, a.number))

nothing : {A : Type 0} (r : Frame × Before) → None ≡ Some r → A
nothing r e = let z : ◌≡◌ {A = ℕ} 0 1 = cc in absurd (omega arith)

module _ (n : ℕ) (before : Before) (line : List ℕ) (r : Frame × Before) where
  by_test : (f : Frame) (after : Before) (t : Bool) → line_frame line ≡ Some f → place before f ≡ Some after
      → (frame_good f && number_good n f) ≡ t → cond t (Some (f, after)) None ≡ Some r → Allows n before line r.0 r.1
  by_test f after true e p g h =
      let s : (f, after) ≡ r = cc in
      subst (λ (q : Frame × Before). Allows n before line q.0 q.1) s
      (record { frame = e; placed = p; good = (both_true (frame_good f) _ g).0; number = (both_true (frame_good f) _ g).1 })
  by_test f after false e p g h = nothing r h

  by_place : (f : Frame) (o : Option Before) → line_frame line ≡ Some f → place before f ≡ o → on_place n f o ≡ Some r
      → Allows n before line r.0 r.1
  by_place f None e p h = nothing r h
  by_place f (Some after) e p h = by_test f after (frame_good f && number_good n f) e p refl h

  by_frame : (o : Option Frame) → line_frame line ≡ o → on_frame n before o ≡ Some r → Allows n before line r.0 r.1
  by_frame None e h = nothing r h
  by_frame (Some f) e h = by_place f (place before f) e refl h

  pub line_allowed : allowed n before line ≡ Some r → Allows n before line r.0 r.1
  unfolding allowed
  line_allowed h = by_frame (line_frame line) refl h

-- one line of a plan
abbrev pub on_rest : Frame → Loaded → Loaded
on_rest f l = elim l [ taken fs ↦ taken (f ∷ fs) | refused k ↦ refused k ]

abbrev pub on_end : ℕ → Frame × Before → List (List ℕ) → List ℕ → Bool → Loaded
on_end n r more tail t =
    elim t [
      | true ↦ cond (eqb (length more) 0 && eqb (length tail) 0) (taken []) (refused (n + 2))
      | false ↦ on_rest r.0 (load_from (n + 1) r.1 more tail)
    ]

abbrev pub on_allowed : ℕ → List (List ℕ) → List ℕ → Option (Frame × Before) → Loaded
on_allowed n more tail o = elim o [ None ↦ refused (n + 1) | Some r ↦ on_end n r more tail (is_end r.0) ]

module _ (n : ℕ) (before : Before) (line : List ℕ) (f : Frame) (after : Before) (a : Allows n before line f after) where
  line_more : (more : List (List ℕ)) (tail : List ℕ) (fs : List Frame) → is_end f ≡ false → load_from (n + 1) after more tail ≡ taken fs
      → load_from n before (line ∷ more) tail ≡ taken (f ∷ fs)
  unfolding load_from
  line_more more tail fs e l =
      ap (on_allowed n more tail) (allowed_line n before line f after a)
      ∙ (ap (on_end n (f, after) more tail) e ∙ ap (on_rest f) l)

  line_last : is_end f ≡ true → load_from n before (line ∷ []) [] ≡ taken []
  unfolding load_from
  line_last e = ap (on_allowed n [] []) (allowed_line n before line f after a) ∙ ap (on_end n (f, after) [] []) e

-- a frame that is not the end frame stands among the first 64
pub among : (n : ℕ) (f : Frame) → is_end f ≡ false → number_good n f ≡ true → n < 64
unfolding number_good
among n (Frame.Offset o) e h = ltb-true n 64 h
among n (Frame.Change t) e h = ltb-true n 64 h
among n (Frame.Cron f) e h = ltb-true n 64 h
among n (Frame.Rule f) e h = ltb-true n 64 h
among n (Frame.Extra m) e h = ltb-true n 64 h
among n (Frame.Excepted m) e h = ltb-true n 64 h
among n (Frame.End k) e h = let z : ◌≡◌ {A = ℕ} 0 1 = cc in absurd (omega arith)

-- the frames and the end frame that counts them
abbrev pub with_end : ℕ → List Frame → List Frame
with_end n fs = fs ++ (Frame.End (n + length fs) ∷ [])

end_allows : (n : ℕ) (before : Before) (o : Option Before) → n ≤ 64 → place before (Frame.End n) ≡ o
    → elim o [ None ↦ false | Some after ↦ true ] ≡ true → load_from n before (frame_line (Frame.End n) ∷ []) [] ≡ taken []
unfolding frame_good number_good
end_allows n before None l p h = let z : ◌≡◌ {A = ℕ} 0 1 = cc in absurd (omega arith)
end_allows n before (Some after) l p h =
    line_last n before (frame_line (Frame.End n)) (Frame.End n) after
    (record { frame = written_is_read (Frame.End n) (end_fits n l); placed = p; good = refl; number = eq-eqb n n refl })
    refl

-- every frame that a plan may have, written and read
pub good_is_read : (f : Frame) → frame_good f ≡ true → is_end f ≡ false → line_frame (frame_line f) ≡ Some f
good_is_read f h e = written_is_read f (good_fits f h e)

-- the first of several frames, and the others
record First (n : ℕ) (before : Before) (f : Frame) (fs : List Frame) : Type 0 where
  after : Before
  placed : place before f ≡ Some after
  before_end : is_end f ≡ false
  good : frame_good f ≡ true
  number : number_good n f ≡ true
  others : allowed_from (n + 1) after fs ≡ true

abbrev on_first : ℕ → Frame → List Frame → Option Before → Bool
on_first n f fs o =
    elim o [ None ↦ false | Some after ↦ not (is_end f) && (frame_good f && (number_good n f && allowed_from (n + 1) after fs)) ]

by_first : (n : ℕ) (before : Before) (f : Frame) (fs : List Frame) (o : Option Before) → place before f ≡ o
    → on_first n f fs o ≡ true → First n before f fs
by_first n before f fs None p h = let z : ◌≡◌ {A = ℕ} 0 1 = cc in absurd (omega arith)
by_first n before f fs (Some after) p h =
    let h1 = (both_true (not (is_end f)) _ h).1 in
    let h2 = (both_true (frame_good f) _ h1).1 in
    record {
      after = after;
      placed = p;
      before_end = not-true (is_end f) (both_true (not (is_end f)) _ h).0;
      good = (both_true (frame_good f) _ h1).0;
      number = (both_true (number_good n f) _ h2).0;
      others = (both_true (number_good n f) _ h2).1;
    }

first_of : (n : ℕ) (before : Before) (f : Frame) (fs : List Frame) → allowed_from n before (f ∷ fs) ≡ true → First n before f fs
unfolding allowed_from
first_of n before f fs h = by_first n before f fs (place before f) refl h

of_first : (n : ℕ) (before : Before) (f : Frame) (fs : List Frame) → First n before f fs → allowed_from n before (f ∷ fs) ≡ true
unfolding allowed_from
of_first n before f fs a = ap (on_first n f fs) a.placed ∙ rw (a.before_end, a.good, a.number, a.others)

one_later : (n k : ℕ) → n + suc k ≡ n + 1 + k
one_later n k = omega arith

taken_from : (fs : List Frame) (n : ℕ) (before : Before) → n ≤ 64 → allowed_from n before fs ≡ true
    → load_from n before (map frame_line (with_end n fs)) [] ≡ taken fs
unfolding allowed_from
taken_from [] n before l h = rw add-zero (end_allows n before (place before (Frame.End n)) l refl h)
taken_from (f ∷ fs) n before l h =
    let a = first_of n before f fs h in
    let m : n < 64 = among n f a.before_end a.number in
    rw (one_later n (length fs))
    (line_more n before (frame_line f) f a.after
    (record { frame = good_is_read f a.good a.before_end; placed = a.placed; good = a.good; number = a.number })
    (map frame_line (with_end (n + 1) fs)) [] fs a.before_end (taken_from fs (n + 1) a.after (omega arith) a.others))

-- a plan of allowed frames and their end frame is taken, and says these frames
pub written_plan : (fs : List Frame) → frames_allowed fs ≡ true → load (plan_text (fs ++ (Frame.End (length fs) ∷ []))) ≡ taken fs
unfolding frames_allowed load
written_plan fs h =
    let z : 0 + length fs ≡ length fs = omega arith in
    rw (lines_of_plan (fs ++ (Frame.End (length fs) ∷ []))) (rw z at (taken_from fs 0 start (omega arith) h))

-- what a taken plan's lines are
record Plan (n : ℕ) (before : Before) (whole : List (List ℕ)) (tail : List ℕ) (fs : List Frame) : Type 0 where
  written : whole ≡ map frame_line (with_end n fs)
  no_tail : tail ≡ []
  allows : allowed_from n before fs ≡ true

pub no_plan : {A : Type 0} (k : ℕ) (fs : List Frame) → refused k ≡ taken fs → A
no_plan k fs e = let z : ◌≡◌ {A = ℕ} 0 1 = cc in absurd (omega arith)

empty : {A : Type 0} (l : List A) → eqb (length l) 0 ≡ true → l ≡ []
empty [] h = refl
empty (x ∷ l) h = absurd (omega (arith, eqb-true (suc (length l)) 0 h))

ended : (n : ℕ) (f : Frame) → is_end f ≡ true → number_good n f ≡ true → f ≡ Frame.End n
unfolding number_good
ended n (Frame.Offset o) e h = let z : ◌≡◌ {A = ℕ} 0 1 = cc in absurd (omega arith)
ended n (Frame.Change t) e h = let z : ◌≡◌ {A = ℕ} 0 1 = cc in absurd (omega arith)
ended n (Frame.Cron f) e h = let z : ◌≡◌ {A = ℕ} 0 1 = cc in absurd (omega arith)
ended n (Frame.Rule f) e h = let z : ◌≡◌ {A = ℕ} 0 1 = cc in absurd (omega arith)
ended n (Frame.Extra m) e h = let z : ◌≡◌ {A = ℕ} 0 1 = cc in absurd (omega arith)
ended n (Frame.Excepted m) e h = let z : ◌≡◌ {A = ℕ} 0 1 = cc in absurd (omega arith)
ended n (Frame.End k) e h = ap Frame.End (eqb-true k n h)

end_placed : (n : ℕ) (before after : Before) → place before (Frame.End n) ≡ Some after → allowed_from n before [] ≡ true
unfolding allowed_from
end_placed n before after p = ap (λ (o : Option Before). elim o [ None ↦ false | Some a ↦ true ]) p

-- the end frame's line is the last
at_end : (n : ℕ) (before : Before) (line : List ℕ) (more : List (List ℕ)) (tail : List ℕ) (f : Frame) (after : Before) (fs : List Frame) (t : Bool)
    → Allows n before line f after → is_end f ≡ true → (eqb (length more) 0 && eqb (length tail) 0) ≡ t → cond t (taken []) (refused (n + 2)) ≡ taken fs
    → Plan n before (line ∷ more) tail fs
at_end n before line more tail f after fs false a e g h = no_plan (n + 2) fs h
at_end n before line more tail f after fs true a e g h =
    let m = empty more (both_true (eqb (length more) 0) _ g).0 in
    let s = empty tail (both_true (eqb (length more) 0) _ g).1 in
    let none_left : [] ≡ fs = cc in
    let is : f ≡ Frame.End n = ended n f e a.number in
    let w : frame_line (Frame.End n) ≡ line = rw is at (read_is_written line f a.frame) in
    subst (λ (gs : List Frame). Plan n before (line ∷ more) tail gs) none_left
    (record { written = rw (add-zero, w, m); no_tail = s; allows = end_placed n before after (rw is at a.placed) })

-- any other line has a plan after it
at_more : (n : ℕ) (before : Before) (line : List ℕ) (more : List (List ℕ)) (tail : List ℕ) (f : Frame) (after : Before) (fs : List Frame) (l : Loaded)
    → Allows n before line f after → is_end f ≡ false → on_rest f l ≡ taken fs
    → ((gs : List Frame) → l ≡ taken gs → Plan (n + 1) after more tail gs) → Plan n before (line ∷ more) tail fs
at_more n before line more tail f after fs (refused k) a e h rest = no_plan k fs h
at_more n before line more tail f after fs (taken gs) a e h rest =
    let p = rest gs refl in
    let is : f ∷ gs ≡ fs = cc in
    subst (λ (hs : List Frame). Plan n before (line ∷ more) tail hs) is
    (record {
      written = rw (one_later n (length gs), read_is_written line f a.frame, p.written);
      no_tail = p.no_tail;
      allows =
          of_first n before f gs
          (record { after = after; placed = a.placed; before_end = e; good = a.good; number = a.number; others = p.allows });
    })

module _ (n : ℕ) (before : Before) (line : List ℕ) (more : List (List ℕ)) (tail : List ℕ) (fs : List Frame) where
  by_end : (f : Frame) (after : Before) (t : Bool) → Allows n before line f after → is_end f ≡ t → on_end n (f, after) more tail t ≡ taken fs
      → ((gs : List Frame) → load_from (n + 1) after more tail ≡ taken gs → Plan (n + 1) after more tail gs) → Plan n before (line ∷ more) tail fs
  by_end f after true a e h rest =
      at_end n before line more tail f after fs (eqb (length more) 0 && eqb (length tail) 0) a e refl h
  by_end f after false a e h rest = at_more n before line more tail f after fs (load_from (n + 1) after more tail) a e h rest

  by_allowed : (o : Option (Frame × Before)) → allowed n before line ≡ o → on_allowed n more tail o ≡ taken fs
      → ((after : Before) (gs : List Frame) → load_from (n + 1) after more tail ≡ taken gs → Plan (n + 1) after more tail gs)
      → Plan n before (line ∷ more) tail fs
  by_allowed None e h rest = no_plan (n + 1) fs h
  by_allowed (Some r) e h rest =
      by_end r.0 r.1 (is_end r.0) (line_allowed n before line r e) refl h (rest r.1)

plan_from : (whole : List (List ℕ)) (n : ℕ) (before : Before) (tail : List ℕ) (fs : List Frame) → load_from n before whole tail ≡ taken fs
    → Plan n before whole tail fs
unfolding load_from
plan_from [] n before tail fs h = no_plan (n + 1) fs h
plan_from (line ∷ more) n before tail fs h =
    by_allowed n before line more tail fs (allowed n before line) refl h (λ after gs g. plan_from more (n + 1) after tail gs g)

loaded : (text : List ℕ) (fs : List Frame) → load text ≡ taken fs → Plan 0 start (lines_of text).whole (lines_of text).tail fs
unfolding load
loaded text fs h = plan_from (lines_of text).whole 0 start (lines_of text).tail fs h

-- a taken plan is the text of its frames and their end frame
pub taken_plan : (text : List ℕ) (fs : List Frame) → load text ≡ taken fs → text ≡ plan_text (fs ++ (Frame.End (length fs) ∷ []))
taken_plan text fs h =
    let p = loaded text fs h in
    let z : 0 + length fs ≡ length fs = omega arith in
    sym (lines_joined text) ∙ (rw (p.written, p.no_tail, z) (plan_joined (fs ++ (Frame.End (length fs) ∷ []))))

-- and these frames are allowed
pub taken_allowed : (text : List ℕ) (fs : List Frame) → load text ≡ taken fs → frames_allowed fs ≡ true
unfolding frames_allowed
taken_allowed text fs h = (loaded text fs h).allows
