-- The inside's answer, asked of the asked instant moved up, is the answer over signed numbers.
use Rattle.std.specs.Prelude.{Option, Some, None, Result, Ok, Err}
use mathlib.Core.Bool.{Bool, true, false, cond}
use mathlib.Core.List.{List, [], ◌∷◌}
use mathlib.Core.Path.{◌≡◌, refl, sym, ap, ◌∙◌}
use Prim.Native.Nat.{ℕ, ◌+◌, ◌<◌}
use native.Mathlib.Omega.{arith}
use borrow.Author.Tests.{ltb-true, lt-ltb, le-ltb}
use lib.Dec.{T, leb, ltb}
use lib.IntN.{ℤ, pos, negsuc}
use lib.Signed.{lt_z}
use Rattle.compile.specs.Answers.{compiled_as}
use Rattle.compile.specs.Compiled.{Compiled, plan as made, refusal, compile}
use Rattle.compile.proofs.Refusing.{refusal_numbered}
use Rattle.load.specs.Loads.{loaded_as}
use Rattle.next.proofs.Ready.{taken_good, plan_instants_range}
use Rattle.next.specs.Instants.{Next, Previous, NextOf, PreviousOf}
use Rattle.next.specs.Plans.{AnswerBy, NextIn, PreviousIn, local_in, local_by as local_inside, offset_in, offset_by as offset_inside}
use Rattle.load.specs.declared.NotTaken.{NotTaken}
use Rattle.plan.specs.Plan.{PlanInstant, plan_zone}
use Rattle.plan.specs.Taken.{Loaded, taken, refused, load, loaded_number, loaded_line}
use Rattle.plan.specs.declared.Frame.{Frame}
use Rattle.signed.specs.Bias.{bias_instant, unbias_instant}
use Rattle.zone.proofs.Good.{good_head, good_zone, offset_range}
use Rattle.zone.specs.Stretches.{instant_of_local}
use Rattle.zone.specs.Zone.{offset_from, offset_at, transitions_good, zone_good}
use Rattle.zone.specs.declared.Transition.{Transition}
use Rattle.evandrusk.specs.Sheets.{compiled_for, compile_answer}
use Rattle.evandrusk.specs.Plans.{Nearest, NearestBy, NextAnswer, PreviousAnswer, SignedInstant, answer_as, check_answer, checked_as, later, local_answer, local_as, local_by, local_found, minute_of, offset_answer, offset_as, offset_by, offset_with, moved_down, signed_offset}
use Rattle.evandrusk.specs.Plans.NearestFound.{found, none}
use Rattle.evandrusk.proofs.Orders.{signed_earlier, signed_later, signed_order, signed_until}

module _ (fs : List Frame) (good : zone_good (plan_zone fs) ≡ true) where
  -- the asked instant against one of the plan, and two of the plan: that the asked one is held to a day around the window does not show
  pub is_later : (asked : ℤ) (i : ℕ) → PlanInstant fs i → lt_z asked (unbias_instant i) ≡ ltb (bias_instant asked) i
  is_later asked i p = let r = plan_instants_range fs good i p in signed_later asked i (omega arith) (omega arith)

  pub is_earlier : (asked : ℤ) (i : ℕ) → PlanInstant fs i → lt_z (unbias_instant i) asked ≡ ltb i (bias_instant asked)
  is_earlier asked i p = let r = plan_instants_range fs good i p in signed_earlier asked i (omega arith) (omega arith)

  pub in_order_lem : (i j : ℕ) → PlanInstant fs i → PlanInstant fs j → lt_z (unbias_instant i) (unbias_instant j) ≡ ltb i j
  in_order_lem i j p q =
      let r = plan_instants_range fs good i p in
      let s = plan_instants_range fs good j q in
      signed_order i j (omega arith) (omega arith) (omega arith)

  as_signed : (i : ℕ) → PlanInstant fs i → SignedInstant fs (unbias_instant i)
  as_signed i p = record { inside = i; is = p; becomes = refl }

  -- a signed instant later than the asked one is so inside, and so with earlier
  inside_later : (asked z : ℤ) (s : SignedInstant fs z) → lt_z asked z ≡ true → bias_instant asked < s.inside
  inside_later asked z s t = ltb-true _ _ (sym (is_later asked s.inside s.is) ∙ (rw s.becomes t))

  inside_earlier : (asked z : ℤ) (s : SignedInstant fs z) → later asked z ≡ true → s.inside < bias_instant asked
  inside_earlier asked z s t = ltb-true _ _ (sym (is_earlier asked s.inside s.is) ∙ (rw s.becomes t))

  next_signed : (asked : ℤ) (i : ℕ) → Next (PlanInstant fs) (bias_instant asked) i → Nearest lt_z (SignedInstant fs) asked (unbias_instant i)
  next_signed asked i n =
      record {
        is = as_signed i n.is;
        beyond = is_later asked i n.is ∙ lt-ltb _ _ n.later;
        nearest = λ y s a b.
            n.first s.inside s.is (inside_later asked y s a)
            (ltb-true _ _ (sym (in_order_lem s.inside i s.is n.is) ∙ (rw s.becomes b)));
      }

  previous_signed : (asked : ℤ) (i : ℕ) → Previous (PlanInstant fs) (bias_instant asked) i
      → Nearest later (SignedInstant fs) asked (unbias_instant i)
  previous_signed asked i n =
      record {
        is = as_signed i n.is;
        beyond = is_earlier asked i n.is ∙ lt-ltb _ _ n.earlier;
        nearest = λ y s a b.
            n.last s.inside s.is (inside_earlier asked y s a)
            (ltb-true _ _ (sym (in_order_lem i s.inside n.is s.is) ∙ (rw s.becomes b)));
      }

next_by : (l : Loaded) → ((fs : List Frame) → l ≡ taken fs → zone_good (plan_zone fs) ≡ true) → (asked : ℤ) (a : Result (Option ℕ) NotTaken)
    → AnswerBy (λ (fs : List Frame). NextOf (PlanInstant fs) (bias_instant asked)) l a → NearestBy lt_z l asked (answer_as a)
unfolding AnswerBy NextOf NearestBy
next_by (taken fs) good asked (Ok (Some i)) a = found (unbias_instant i) (next_signed fs (good fs refl) asked i a) refl
next_by (taken fs) good asked (Ok None) a =
    none (λ z s t. a s.inside s.is (inside_later fs (good fs refl) asked z s t)) refl
next_by (taken fs) good asked (Err e) a = absurd a
next_by (refused k) good asked a e = ap answer_as e

previous_by : (l : Loaded) → ((fs : List Frame) → l ≡ taken fs → zone_good (plan_zone fs) ≡ true) → (asked : ℤ) (a : Result (Option ℕ) NotTaken)
    → AnswerBy (λ (fs : List Frame). PreviousOf (PlanInstant fs) (bias_instant asked)) l a → NearestBy later l asked (answer_as a)
unfolding AnswerBy PreviousOf NearestBy
previous_by (taken fs) good asked (Ok (Some i)) a = found (unbias_instant i) (previous_signed fs (good fs refl) asked i a) refl
previous_by (taken fs) good asked (Ok None) a =
    none (λ z s t. a s.inside s.is (inside_earlier fs (good fs refl) asked z s t)) refl
previous_by (taken fs) good asked (Err e) a = absurd a
previous_by (refused k) good asked a e = ap answer_as e

pub next_edge : (plan : List ℕ) (asked : ℤ) (a : Result (Option ℕ) NotTaken) → NextIn plan (bias_instant asked) a → NextAnswer plan asked (answer_as a)
unfolding NextIn NextAnswer
next_edge plan asked a = next_by (load plan) (taken_good plan) asked a

pub previous_edge : (plan : List ℕ) (asked : ℤ) (a : Result (Option ℕ) NotTaken) → PreviousIn plan (bias_instant asked) a
    → PreviousAnswer plan asked (answer_as a)
unfolding PreviousIn PreviousAnswer
previous_edge plan asked a = previous_by (load plan) (taken_good plan) asked a

-- a local minute: the first past the window is outside, as the negative ones that it stands for
local_by_lem : (l : Loaded) (z : ℤ) → local_as (local_inside l (minute_of z)) ≡ local_by l z
unfolding local_inside local_by instant_of_local
local_by_lem (taken fs) (pos m) = by_instant (instant_of_local (plan_zone fs) m)
  where
    by_instant : (i : Option ℕ) → local_as (Ok i) ≡ local_found i
    by_instant (Some i) = refl
    by_instant None = refl
local_by_lem (taken fs) (negsuc n) = refl
local_by_lem (refused k) z = refl

pub local_edge : (plan : List ℕ) (z : ℤ) → local_as (local_in plan (minute_of z)) ≡ local_answer plan z
unfolding local_in local_answer
local_edge plan z = local_by_lem (load plan) z

-- the offset at an instant: no transition lies outside the window, so that the asked instant is held to a day around it does not show
signed_offset_lem : (z : ℤ) (low before offset : ℕ) (ts : List Transition) → T (transitions_good low before ts)
    → signed_offset (moved_down offset) ts z ≡ moved_down (offset_from offset ts (bias_instant z))
unfolding signed_offset offset_from
signed_offset_lem z low before offset [] g = refl
signed_offset_lem z low before offset (t ∷ ts) g =
    let h = good_head low before t ts g in
    ap (λ (b : Bool). signed_offset (cond b (moved_down t.offset) (moved_down offset)) ts z)
    (signed_until z t.at (omega (arith, h.instant.from)) (omega (arith, h.instant.upto)))
    ∙ by_test (leb t.at (bias_instant z)) (λ o. signed_offset_lem z (t.at + 2880) t.offset o ts h.rest)
  where
    by_test : (b : Bool) → ((o : ℕ) → signed_offset (moved_down o) ts z ≡ moved_down (offset_from o ts (bias_instant z)))
        → signed_offset (cond b (moved_down t.offset) (moved_down offset)) ts z ≡ moved_down (offset_from (cond b t.offset offset) ts (bias_instant z))
    by_test true rest = rest t.offset
    by_test false rest = rest offset

offset_by_lem : (l : Loaded) → ((fs : List Frame) → l ≡ taken fs → zone_good (plan_zone fs) ≡ true) → (z : ℤ)
    → offset_as (offset_inside l (bias_instant z)) ≡ offset_by l z
unfolding offset_inside offset_by offset_at unbias_instant
offset_by_lem (taken fs) good z =
    let g = good_zone (plan_zone fs) (good fs refl) in
    let o = (plan_zone fs).first in
    let ts = (plan_zone fs).changes in
    let b = offset_range 0 o ts (bias_instant z) g.range g.changes in
    ap (offset_with 0 0)
    (simp (le-ltb 52598880 (offset_from o ts (bias_instant z)) (omega (arith, b.upto))) (sym (signed_offset_lem z 0 o o ts g.changes)))
offset_by_lem (refused k) good z = refl

pub offset_edge : (plan : List ℕ) (z : ℤ) → offset_as (offset_in plan (bias_instant z)) ≡ offset_answer plan z
unfolding offset_in offset_answer
offset_edge plan z = offset_by_lem (load plan) (taken_good plan) z

-- the load check
pub check_edge : (plan : List ℕ) → checked_as (loaded_as (load plan)) ≡ check_answer plan
unfolding check_answer
check_edge plan = by_load (load plan)
  where
    by_load : (l : Loaded) → checked_as (loaded_as l) ≡ record { number = loaded_number l; line = loaded_line l }
    by_load (taken fs) = refl
    by_load (refused k) = refl

-- compiling: a refusal's number is that of its reason
pub compile_edge : (text : List ℕ) (room : ℕ) → compiled_for (compiled_as (compile text room)) ≡ compile_answer (compile text room)
compile_edge text room = by_compiled (compile text room) refl
  where
    by_compiled : (x : Compiled) → compile text room ≡ x → compiled_for (compiled_as x) ≡ compile_answer x
    by_compiled (made p) e = refl
    by_compiled (refusal number line at size) e = rw (refusal_numbered text room number line at size e)
