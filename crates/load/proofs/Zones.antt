-- The zone of a taken plan: what its rows hold is what its frames 01 and 02 write, and it keeps the limits.
use Rattle.std.specs.Prelude.{Option, None, Some}
use mathlib.Core.Bool.{Bool, true, false, cond, not, ◌&&◌, false≢true}
use mathlib.Core.List.{List, [], ◌∷◌, map}
use mathlib.Core.Logic.{dite}
use mathlib.Core.Path.{◌≡◌, refl, sym, ap, ◌∙◌}
use Prim.Native.Nat.{ℕ, suc, ◌+◌, ◌-◌, ◌<◌, ◌≤◌, min}
use native.Mathlib.Decide.{dec_lt}
use native.Mathlib.Omega.{arith}
use borrow.Author.Tests.{le-leb, ltb-true}
use lib.Dec.{eqb, ltb}
use lib.ListN.{length, get_or, take, drop, length-take}
use lib.Seq.{take_all, take-nil, take-take, get_or-take}
use Rattle.calendar.proofs.Every.{both_true}
use Rattle.calendar.specs.Below.{within}
use Rattle.lines.specs.Lines.{lines_of}
use Rattle.plan.proofs.Loading.{on_rest, on_end, on_allowed, no_plan, among, taken_allowed}
use Rattle.plan.specs.Allowed.{allowed_from, frames_allowed}
use Rattle.plan.specs.Plan.{changes_of, offset_of, plan_zone}
use Rattle.plan.specs.Rows.{row_of}
use Rattle.plan.specs.Taken.{Before, start, zoned, lines, frame_good, place, number_good, is_end, allowed, Loaded as Load, taken, refused, load_from, load}
use Rattle.plan.specs.declared.Frame.{Frame}
use Rattle.zone.specs.Held.{offsets_of}
use Rattle.zone.specs.Zone.{offset_in_range, under_limits, transitions_good, zone_good}
use Rattle.zone.specs.declared.Transition.{Transition}
use Rattle.load.specs.Loads.{read_from, read_frames}
use Rattle.load.specs.Zones.{changes_in, with_changes, bare, zone_of}
use Rattle.load.proofs.Rounds.{on_read_end, on_read}
use Rattle.load.proofs.ZoneRows.{changes_taken, held_changes}

-- ---- the frames of a plan that is taken
pub record First (n : ℕ) (b : Before) (f : Frame) (fs : List Frame) : Type 0 where
  pub after : Before
  pub placed : place b f ≡ Some after
  pub more : is_end f ≡ false
  pub good : frame_good f ≡ true
  pub number : number_good n f ≡ true
  pub rest : allowed_from (n + 1) after fs ≡ true

not_true : (b : Bool) → not b ≡ true → b ≡ false
not_true true e = absurd (false≢true e)
not_true false e = refl

pub first_of : (n : ℕ) (b : Before) (f : Frame) (fs : List Frame) → allowed_from n b (f ∷ fs) ≡ true → First n b f fs
unfolding allowed_from
first_of n b f fs e = by_place (place b f) refl
  where
    by_place : (o : Option Before) → place b f ≡ o → First n b f fs
    by_place None p = absurd (false≢true (rw (allowed_from, p) at e))
    by_place (Some after) p =
        let h : (not (is_end f) && (frame_good f && (number_good n f && allowed_from (n + 1) after fs))) ≡ true = rw (allowed_from, p) at e in
        let g = (both_true (not (is_end f)) _ h).1 in
        let m = (both_true (frame_good f) _ g).1 in
        record {
          after = after;
          placed = p;
          more = not_true (is_end f) (both_true (not (is_end f)) _ h).0;
          good = (both_true (frame_good f) _ g).0;
          number = (both_true (number_good n f) _ m).0;
          rest = (both_true (number_good n f) _ m).1;
        }

no_place : {A : Type 0} (b : Before) → None ≡ Some b → A
no_place b e = absurd (false≢true (ap is_some e))
  where
    is_some : Option Before → Bool
    is_some None = false
    is_some (Some x) = true

the_same : (a b : Before) → Some a ≡ Some b → a ≡ b
the_same a b e = ap inside e
  where
    inside : Option Before → Before
    inside None = a
    inside (Some x) = x

-- at most 64 of them
pub few_frames : (n : ℕ) (b : Before) (fs : List Frame) → n ≤ 64 → allowed_from n b fs ≡ true → n + length fs ≤ 64
few_frames n b [] h e = omega arith
few_frames n b (f ∷ fs) h e =
    let p = first_of n b f fs e in
    omega
    (arith, among n f p.more p.number, few_frames (n + 1) p.after fs (omega (arith, among n f p.more p.number)) p.rest)

-- among other lines no transition stands
pub no_changes : (n : ℕ) (fs : List Frame) → allowed_from n lines fs ≡ true → changes_of fs ≡ []
unfolding changes_of place
no_changes n [] e = refl
no_changes n (Frame.Offset o ∷ fs) e = let p = first_of n lines (Frame.Offset o) fs e in no_place p.after p.placed
no_changes n (Frame.Change t ∷ fs) e = let p = first_of n lines (Frame.Change t) fs e in no_place p.after p.placed
no_changes n (Frame.Cron f ∷ fs) e =
    let p = first_of n lines (Frame.Cron f) fs e in no_changes (n + 1) fs (rw (the_same p.after lines (sym p.placed)) at p.rest)
no_changes n (Frame.Rule f ∷ fs) e =
    let p = first_of n lines (Frame.Rule f) fs e in no_changes (n + 1) fs (rw (the_same p.after lines (sym p.placed)) at p.rest)
no_changes n (Frame.Extra m ∷ fs) e =
    let p = first_of n lines (Frame.Extra m) fs e in no_changes (n + 1) fs (rw (the_same p.after lines (sym p.placed)) at p.rest)
no_changes n (Frame.Excepted m ∷ fs) e =
    let p = first_of n lines (Frame.Excepted m) fs e in
    no_changes (n + 1) fs (rw (the_same p.after lines (sym p.placed)) at p.rest)
no_changes n (Frame.End k ∷ fs) e = let p = first_of n lines (Frame.End k) fs e in absurd (false≢true (sym p.more))

-- after the first frame: the transitions in the rows are those of the frames, at most 32 and under the limits
pub record Changes (k low offset : ℕ) (fs : List Frame) : Type 0 where
  pub same : changes_in (map row_of fs) ≡ changes_of fs
  pub few : k + length (changes_of fs) ≤ 32
  pub good : transitions_good low offset (changes_of fs) ≡ true

over : (k low offset : ℕ) (fs : List Frame) → k ≤ 32 → changes_in (map row_of fs) ≡ [] → changes_of fs ≡ [] → Changes k low offset fs
unfolding transitions_good
over k low offset fs h a b = record { same = a ∙ sym b; few = rw b (omega arith); good = rw b refl }

-- one transition more
one_more_lem : (k low offset : ℕ) (t : Transition) (fs : List Frame) → ltb k 32 ≡ true → under_limits low offset t ≡ true
    → frame_good (Frame.Change t) ≡ true
    → Changes (suc k) (t.at + 2880) t.offset fs → Changes k low offset (Frame.Change t ∷ fs)
unfolding changes_in changes_of row_of transitions_good frame_good
one_more_lem k low offset t fs l u g r =
    record {
      same = ap (λ (ts : List Transition). t ∷ ts) r.same;
      few = omega (arith, r.few);
      good = rw ((both_true (within 1440 52597439 t.at) _ g).0, (both_true (within 1440 52597439 t.at) _ g).1, u, r.good) refl;
    }

by_limits : (k low offset : ℕ) (t : Transition) (after : Before) (b : Bool) → (ltb k 32 && under_limits low offset t) ≡ b
    → cond b (Some (zoned (suc k) (t.at + 2880) t.offset)) None ≡ Some after → (b ≡ true) × (after ≡ zoned (suc k) (t.at + 2880) t.offset)
by_limits k low offset t after true e p = (refl, the_same after _ (sym p))
by_limits k low offset t after false e p = no_place after p

pub changes_read : (n k low offset : ℕ) (fs : List Frame) → k ≤ 32 → allowed_from n (zoned k low offset) fs ≡ true → Changes k low offset fs
unfolding changes_in changes_of row_of place
changes_read n k low offset [] h e = over k low offset [] h refl refl
changes_read n k low offset (Frame.Offset o ∷ fs) h e =
    let p = first_of n (zoned k low offset) (Frame.Offset o) fs e in no_place p.after p.placed
changes_read n k low offset (Frame.Change t ∷ fs) h e =
    let p = first_of n (zoned k low offset) (Frame.Change t) fs e in
    let q = by_limits k low offset t p.after (ltb k 32 && under_limits low offset t) refl p.placed in
    let l : ltb k 32 ≡ true = (both_true (ltb k 32) _ q.0).0 in
    one_more_lem k low offset t fs l (both_true (ltb k 32) _ q.0).1 p.good
    (changes_read (n + 1) (suc k) (t.at + 2880) t.offset fs (omega (arith, ltb-true k 32 l)) (rw q.1 at p.rest))
changes_read n k low offset (Frame.Cron f ∷ fs) h e =
    let p = first_of n (zoned k low offset) (Frame.Cron f) fs e in
    over k low offset (Frame.Cron f ∷ fs) h refl (no_changes (n + 1) fs (rw (the_same p.after lines (sym p.placed)) at p.rest))
changes_read n k low offset (Frame.Rule f ∷ fs) h e =
    let p = first_of n (zoned k low offset) (Frame.Rule f) fs e in
    over k low offset (Frame.Rule f ∷ fs) h refl (no_changes (n + 1) fs (rw (the_same p.after lines (sym p.placed)) at p.rest))
changes_read n k low offset (Frame.Extra m ∷ fs) h e =
    let p = first_of n (zoned k low offset) (Frame.Extra m) fs e in
    over k low offset (Frame.Extra m ∷ fs) h refl (no_changes (n + 1) fs (rw (the_same p.after lines (sym p.placed)) at p.rest))
changes_read n k low offset (Frame.Excepted m ∷ fs) h e =
    let p = first_of n (zoned k low offset) (Frame.Excepted m) fs e in
    over k low offset (Frame.Excepted m ∷ fs) h refl (no_changes (n + 1) fs (rw (the_same p.after lines (sym p.placed)) at p.rest))
changes_read n k low offset (Frame.End j ∷ fs) h e =
    let p = first_of n (zoned k low offset) (Frame.End j) fs e in absurd (false≢true (sym p.more))

-- ---- a plan that is taken
pub taken_few : (text : List ℕ) (fs : List Frame) → load text ≡ taken fs → length fs ≤ 64
unfolding frames_allowed
taken_few text fs e = omega (arith, few_frames 0 start fs (omega arith) (taken_allowed text fs e))

rows_after : (m : ℕ) (rows : List (List ℕ)) → take m (drop 1 rows) ≡ drop 1 (take (suc m) rows)
rows_after m [] = take-nil m
rows_after m (row ∷ rows) = refl

at_most_32 : (m : ℕ) (rows : List (List ℕ)) → take (min (suc m) 33 - 1) rows ≡ take 32 (take m rows)
at_most_32 m rows =
    dite (dec_lt 32 m)
    (λ (g : 32 < m).
    let e : min (suc m) 33 - 1 ≡ 32 = omega arith in
    ap (λ (k : ℕ). take k rows) e ∙ sym (take-take 32 m rows (omega arith)))
    (λ (g : 32 < m → ⊥).
    let e : min (suc m) 33 - 1 ≡ m = omega arith in
    ap (λ (k : ℕ). take k rows) e ∙ sym (take_all 32 (take m rows) (omega (arith, length-take m rows))))

zone_first : (o : ℕ) (fs : List Frame) (rows : List (List ℕ)) → offset_in_range o ≡ true → allowed_from 1 (zoned 0 0 o) fs ≡ true
    → take (suc (length fs)) rows ≡ row_of (Frame.Offset o) ∷ map row_of fs
    → (offsets_of (zone_of rows (suc (length fs))) ≡ plan_zone (Frame.Offset o ∷ fs)) × (zone_good (plan_zone (Frame.Offset o ∷ fs)) ≡ true)
unfolding zone_of plan_zone offset_of changes_of zone_good row_of
zone_first o fs rows g p r =
    let c = changes_read 1 0 0 o fs (omega arith) p in
    let h : length (changes_of fs) ≤ 32 = omega (arith, c.few) in
    let f : get_or (get_or rows 0 []) 1 0 ≡ o =
    ap (λ (row : List ℕ). get_or row 1 0) (sym (get_or-take (suc (length fs)) rows 0 [] (omega arith)) ∙ ap (λ (l : List (List ℕ)). get_or l 0 []) r) in
    let t : changes_in (take (min (suc (length fs)) 33 - 1) (drop 1 rows)) ≡ changes_of fs =
    ap changes_in (at_most_32 (length fs) (drop 1 rows) ∙ ap (take 32) (rows_after (length fs) rows ∙ ap (drop 1) r))
    ∙ changes_taken 32 (map row_of fs) ∙ ap (take 32) c.same ∙ take_all 32 (changes_of fs) h in (
      (λ i. offsets_of (with_changes (bare (f i)) (t i))) ∙ held_changes o (changes_of fs) h,
      rw (g, le-leb (length (changes_of fs)) 32 h, c.good) refl,
    )

zone_read : (fs : List Frame) (rows : List (List ℕ)) → allowed_from 0 start fs ≡ true → take (length fs) rows ≡ map row_of fs
    → (offsets_of (zone_of rows (length fs)) ≡ plan_zone fs) × (zone_good (plan_zone fs) ≡ true)
unfolding place allowed_from frame_good
zone_read [] rows e r = absurd (false≢true e)
zone_read (Frame.Offset o ∷ fs) rows e r =
    let p = first_of 0 start (Frame.Offset o) fs e in
    zone_first o fs rows p.good (rw (the_same p.after (zoned 0 0 o) (sym p.placed)) at p.rest) r
zone_read (Frame.Change t ∷ fs) rows e r = let p = first_of 0 start (Frame.Change t) fs e in no_place p.after p.placed
zone_read (Frame.Cron f ∷ fs) rows e r = let p = first_of 0 start (Frame.Cron f) fs e in no_place p.after p.placed
zone_read (Frame.Rule f ∷ fs) rows e r = let p = first_of 0 start (Frame.Rule f) fs e in no_place p.after p.placed
zone_read (Frame.Extra m ∷ fs) rows e r = let p = first_of 0 start (Frame.Extra m) fs e in no_place p.after p.placed
zone_read (Frame.Excepted m ∷ fs) rows e r = let p = first_of 0 start (Frame.Excepted m) fs e in no_place p.after p.placed
zone_read (Frame.End n ∷ fs) rows e r = let p = first_of 0 start (Frame.End n) fs e in no_place p.after p.placed

pub taken_zone : (text : List ℕ) (fs : List Frame) → load text ≡ taken fs → (rows : List (List ℕ)) → take (length fs) rows ≡ map row_of fs
    → (offsets_of (zone_of rows (length fs)) ≡ plan_zone fs) × (zone_good (plan_zone fs) ≡ true)
unfolding frames_allowed
taken_zone text fs e rows r = zone_read fs rows (taken_allowed text fs e) r

-- the frames that are read of it are its frames
frames_in_lem : (gs fs : List Frame) → taken gs ≡ taken fs → gs ≡ fs
frames_in_lem gs fs e = ap inside e
  where
    inside : Load → List Frame
    inside (taken x) = x
    inside (refused k) = gs

module _ (n : ℕ) (ls : List (List ℕ)) (tail : List ℕ) (fs : List Frame) where
  end_read : (t : Bool) → cond t (taken []) (refused (n + 2)) ≡ taken fs → [] ≡ fs
  end_read true e = frames_in_lem [] fs e
  end_read false e = no_plan (n + 2) fs e

  more_read : (r : Frame × Before) → ((gs : List Frame) → load_from (n + 1) r.1 ls tail ≡ taken gs → read_from (n + 1) r.1 ls ≡ gs)
      → (l : Load) → load_from (n + 1) r.1 ls tail ≡ l → on_rest r.0 l ≡ taken fs → r.0 ∷ read_from (n + 1) r.1 ls ≡ fs
  more_read r again (taken gs) l e = ap (λ (x : List Frame). r.0 ∷ x) (again gs l) ∙ frames_in_lem (r.0 ∷ gs) fs e
  more_read r again (refused k) l e = no_plan k fs e

  line_read_lem : ((b : Before) (gs : List Frame) → load_from (n + 1) b ls tail ≡ taken gs → read_from (n + 1) b ls ≡ gs)
      → (o : Option (Frame × Before)) → on_allowed n ls tail o ≡ taken fs → on_read n ls o ≡ fs
  line_read_lem again None e = no_plan (n + 1) fs e
  line_read_lem again (Some r) e = by_end (is_end r.0) e
    where
      by_end : (t : Bool) → on_end n r ls tail t ≡ taken fs → on_read_end n r ls t ≡ fs
      by_end true e = end_read (eqb (length ls) 0 && eqb (length tail) 0) e
      by_end false e = more_read r (again r.1) (load_from (n + 1) r.1 ls tail) refl e

read_taken : (n : ℕ) (b : Before) (ls : List (List ℕ)) (tail : List ℕ) (fs : List Frame) → load_from n b ls tail ≡ taken fs
    → read_from n b ls ≡ fs
unfolding load_from read_from
read_taken n b [] tail fs e = no_plan (n + 1) fs e
read_taken n b (l ∷ ls) tail fs e = line_read_lem n ls tail fs (λ c gs. read_taken (n + 1) c ls tail gs) (allowed n b l) e

pub read_frames_of_taken : (text : List ℕ) (fs : List Frame) → load text ≡ taken fs → read_frames text ≡ fs
unfolding load read_frames
read_frames_of_taken text fs e = read_taken 0 start (lines_of text).whole (lines_of text).tail fs e
