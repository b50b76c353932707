-- What the search holds once a plan is loaded: its frames' rows in front, and its zone.
use Rattle.std.specs.Prelude.{Result, Ok, Err}
use mathlib.Core.Bool.{true}
use mathlib.Core.List.{List, map}
use mathlib.Core.Path.{◌≡◌, refl, sym, ap, ◌∙◌}
use Prim.Native.Nat.{ℕ, ◌+◌, ◌≤◌}
use native.Mathlib.Omega.{arith}
use lib.ListN.{length, take, drop, length-map}
use lib.Seq.{sets, sets-eq, take_all, take-append_seam}
use Rattle.load.proofs.Zones.{read_frames_of_taken, taken_zone, taken_few}
use Rattle.load.specs.Loads.{not_taken, loaded_as, read_frames}
use Rattle.load.specs.Zones.{zone_of}
use Rattle.load.specs.declared.NotTaken.{NotTaken}
use Rattle.plan.specs.Plan.{PlanInstant, plan_zone}
use Rattle.plan.specs.Rows.{row_of}
use Rattle.plan.specs.Taken.{Loaded, taken, refused, load}
use Rattle.plan.specs.declared.Frame.{Frame}
use Rattle.zone.proofs.Good.{Within}
use Rattle.zone.proofs.Stretches.{instants_range}
use Rattle.zone.specs.Held.{offsets_of}
use Rattle.zone.specs.Zone.{zone_good}
use Rattle.next.specs.Plans.{AnswerBy}
use Rattle.next.proofs.Planned.{row_of_plan}

pub record Ready (plan : List ℕ) (rows : List (List ℕ)) (count : ℕ) : Type 0 where
  pub frames : List Frame
  pub is : load plan ≡ taken frames
  pub fits : count ≤ 64
  pub held : take count rows ≡ map row_of frames
  pub zone : offsets_of (zone_of rows count) ≡ plan_zone frames
  pub good : zone_good (plan_zone frames) ≡ true

-- the rows in front
front : (fs : List Frame) (rows : List (List ℕ)) → length fs ≤ length rows → take (length fs) (sets rows 0 (map row_of fs)) ≡ map row_of fs
front fs rows h =
    let r = map row_of fs in
    ap (λ (k : ℕ). take k (sets rows 0 r)) (sym (length-map fs row_of))
    ∙ ap (take (length r)) (sets-eq r rows 0 (omega (arith, length-map fs row_of)))
    ∙ take-append_seam r (drop (0 + length r) rows)

-- after the load of a plan that is taken
pub ready : (plan : List ℕ) (before rows : List (List ℕ)) (count : ℕ) → length before ≡ 64 → Ok count ≡ loaded_as (load plan)
    → rows ≡ sets before 0 (map row_of (read_frames plan)) → Ready plan rows count
ready plan before rows count l a s = by_load (load plan) refl a
  where
    by_load : (o : Loaded) → load plan ≡ o → Ok count ≡ loaded_as o → Ready plan rows count
    by_load (taken fs) e q =
        let n : count ≡ length fs = cc in
        let few : length fs ≤ 64 = taken_few plan fs e in
        let r : take count rows ≡ map row_of fs =
        ap (λ (k : ℕ). take k rows) n
        ∙ ap (take (length fs)) (s ∙ ap (λ (gs : List Frame). sets before 0 (map row_of gs)) (read_frames_of_taken plan fs e))
        ∙ front fs before (omega arith) in
        let z = taken_zone plan fs e rows (ap (λ (k : ℕ). take k rows) (sym n) ∙ r) in
        record { frames = fs; is = e; fits = omega arith; held = r; zone = ap (λ (k : ℕ). offsets_of (zone_of rows k)) n ∙ z.0; good = z.1 }
    by_load (refused k) e q = let z : ◌≡◌ {A = ℕ} 0 1 = cc in absurd (omega arith)

module _ {T : Type 0} (right : List Frame → T → Type 0) (plan : List ℕ) where
  -- what is right of the frames is the answer
  pub answer_taken : (rows : List (List ℕ)) (count : ℕ) (r : Ready plan rows count) (x : T) → right r.frames x → AnswerBy right (load plan) (Ok x)
  unfolding AnswerBy
  answer_taken rows count r x a = rw r.is a

  -- and where the plan is not taken its line
  pub answer_refused : (e : NotTaken) → Err e ≡ loaded_as (load plan) → AnswerBy right (load plan) (Err e)
  unfolding AnswerBy
  answer_refused e a = by_load (load plan) a
    where
      by_load : (o : Loaded) → Err e ≡ loaded_as o → AnswerBy right o (Err e)
      by_load (taken fs) q = let z : ◌≡◌ {A = ℕ} 0 1 = cc in absurd (omega arith)
      by_load (refused k) q = let d : e ≡ record { line = k } = cc in ap Err d

-- by what is right of the frames
module _ {T : Type 0} (right : List Frame → T → Type 0) where
  pub answer_same : (other : List Frame → T → Type 0) → ((fs : List Frame) (x : T) → right fs x → other fs x)
      → (l : Loaded) (r : Result T NotTaken) → AnswerBy right l r → AnswerBy other l r
  unfolding AnswerBy
  answer_same other to (taken fs) (Ok x) a = to fs x a
  answer_same other to (taken fs) (Err e) a = a
  answer_same other to (refused k) r a = a

  pub one_answer : (by : Loaded → Result T NotTaken) → ((k : ℕ) → not_taken k ≡ by (refused k))
      → ((fs : List Frame) (x : T) → right fs x → Ok x ≡ by (taken fs)) → (l : Loaded) (r : Result T NotTaken) → AnswerBy right l r → r ≡ by l
  unfolding AnswerBy
  one_answer by out same (taken fs) (Ok x) a = same fs x a
  one_answer by out same (taken fs) (Err e) a = absurd a
  one_answer by out same (refused k) r a = a ∙ out k

-- a plan that is taken has a good zone, so its instants lie within a day of the window
pub taken_good : (plan : List ℕ) (fs : List Frame) → load plan ≡ taken fs → zone_good (plan_zone fs) ≡ true
taken_good plan fs e =
    (taken_zone plan fs e (map row_of fs) (take_all (length fs) (map row_of fs) (omega (arith, length-map fs row_of)))).1

pub plan_instants_range : (fs : List Frame) → zone_good (plan_zone fs) ≡ true → (i : ℕ) → PlanInstant fs i → Within 600 52598159 i
plan_instants_range fs g i p =
    let r = row_of_plan fs i p in
    rw r.becomes at (instants_range (plan_zone fs) g r.minute r.window)
