-- A frame's minutes: its day and its time of day, cut at a rule's *last*.
use mathlib.Core.Bool.{Bool, false, ◌&&◌, and-false, and-true}
use mathlib.Core.List.{List}
use mathlib.Core.Logic.{dite}
use mathlib.Core.Path.{◌≡◌, sym, ◌∙◌}
use Prim.Native.Nat.{ℕ, ◌+◌, ◌-◌, ◌%◌, ◌<◌, ◌≤◌}
use native.Mathlib.Decide.{dec_lt, ℕ_discrete as dec_eq}
use native.Mathlib.Omega.{arith}
use borrow.Author.Tests.{eq-eqb, ne_eqb, le-leb, lt-leb}
use lib.Dec.{leb, eqb}
use lib.ListN.{get_or}
use Rattle.calendar.proofs.Leasts.{Least, Last, least_none, last_none}
use Rattle.masks.specs.Times.{time_held}
use Rattle.frames.specs.Cron.{cron_time, cron_held}
use Rattle.held.specs.Minutes.{frame_held, minute_part, time_part, Cut}
use Rattle.frames.specs.Numbers.{day_held}
use Rattle.frames.specs.Rule.{rule_occurs, rule_held}

-- the time of day of each kind
pub cron_time_lem : (l : List ℕ) → get_or l 0 0 ≡ 3 → (t : ℕ) → time_held (get_or l 2 0) (get_or l 1 0) t ≡ time_part l t
unfolding time_held time_part cron_time
cron_time_lem l e t = rw e

pub rule_time : (l : List ℕ) → (get_or l 0 0 ≡ 3 → ⊥) → get_or l 0 0 ≡ 4 → (t : ℕ) → eqb t (get_or l 3 0 % 1440) ≡ time_part l t
unfolding time_part
rule_time l n e t = rw e

pub no_time : (l : List ℕ) → (get_or l 0 0 ≡ 3 → ⊥) → (get_or l 0 0 ≡ 4 → ⊥) → (t : ℕ) → time_part l t ≡ false
unfolding time_part
no_time l p q t = rw (ne_eqb (get_or l 0 0) 3 p, ne_eqb (get_or l 0 0) 4 q)

-- a cron frame's minute is its day and its time
pub cron_held_lem : (l : List ℕ) → get_or l 0 0 ≡ 3 → (m : ℕ) → frame_held l m ≡ minute_part l m
unfolding day_held time_part frame_held cron_held
cron_held_lem l e m = rw (eq-eqb (get_or l 0 0) 3 e)

cron_cut : (l : List ℕ) (end : ℕ) → get_or l 0 0 ≡ 3 → Cut (minute_part l) (frame_held l) end end
cron_cut l end e = record { to = omega arith; same = λ m h. sym (cron_held_lem l e m); none = λ m a b. absurd (omega arith) }

-- a rule's, and it is not after *last*
module _ (l : List ℕ) (n3 : get_or l 0 0 ≡ 3 → ⊥) (e : get_or l 0 0 ≡ 4) where
  pub rule_held_lem : (m : ℕ) → frame_held l m ≡ (minute_part l m && leb m (get_or l 4 0))
  unfolding day_held time_part frame_held rule_held rule_occurs
  rule_held_lem m = rw (ne_eqb (get_or l 0 0) 3 n3, eq-eqb (get_or l 0 0) 4 e)

  rule_same : (m : ℕ) → m ≤ get_or l 4 0 → minute_part l m ≡ frame_held l m
  rule_same m h = sym (rule_held_lem m ∙ rw (le-leb m (get_or l 4 0) h) (and-true (minute_part l m)))

  rule_past : (m : ℕ) → get_or l 4 0 < m → frame_held l m ≡ false
  rule_past m h = rule_held_lem m ∙ rw (lt-leb m (get_or l 4 0) h) (and-false (minute_part l m))

  pub rule_cut : (end : ℕ) → get_or l 4 0 < end → Cut (minute_part l) (frame_held l) end (get_or l 4 0 + 1)
  rule_cut end h =
      record { to = omega arith; same = λ m b. rule_same m (omega arith); none = λ m a b. rule_past m (omega arith) }

  pub rule_whole : (end : ℕ) → end ≤ get_or l 4 0 → Cut (minute_part l) (frame_held l) end end
  rule_whole end h = record { to = omega arith; same = λ m b. rule_same m (omega arith); none = λ m a b. absurd (omega arith) }

-- and no frame of another kind but a cron frame and an extra minute holds any: what is no rule is not cut
pub other_cut : (l : List ℕ) (end : ℕ) → (get_or l 0 0 ≡ 4 → ⊥) → (get_or l 0 0 ≡ 5 → ⊥) → Cut (minute_part l) (frame_held l) end end
unfolding day_held frame_held
other_cut l end q r =
    dite (dec_eq (get_or l 0 0) 3) (cron_cut l end)
    (λ (p : get_or l 0 0 ≡ 3 → ⊥).
    record {
      to = omega arith;
      same = λ m h. rw (ne_eqb (get_or l 0 0) 3 p, ne_eqb (get_or l 0 0) 4 q, ne_eqb (get_or l 0 0) 5 r);
      none = λ m a b. absurd (omega arith);
    })

-- an extra minute is held alone
pub extra_held : (l : List ℕ) → (get_or l 0 0 ≡ 5) → (m : ℕ) → frame_held l m ≡ eqb m (get_or l 1 0)
unfolding frame_held
extra_held l e m = rw e

-- what is found in the part before the cut is found in the whole
module _ (p held : ℕ → Bool) (low end top r : ℕ) (c : Cut p held end top) where
  pub cut_found : Least p low top r → r < top → Least held low end r
  cut_found a h =
      record {
        from = a.from;
        to = omega (arith, c.to);
        passes = λ g. sym (c.same r h) ∙ a.passes h;
        fails = λ j b g. sym (c.same j (omega arith)) ∙ a.fails j b g;
      }

  pub cut_none : low ≤ end → Least p low top r → top ≤ r → Least held low end end
  cut_none l a h =
      least_none held low end l
      (λ j b g.
      dite (dec_lt j top) (λ (s : j < top). sym (c.same j s) ∙ a.fails j b (omega arith)) (λ (s : j < top → ⊥). c.none j (omega arith) g))

  pub cut_empty : low ≤ end → top ≤ low → Least held low end end
  cut_empty l h = least_none held low end l (λ j b g. c.none j (omega arith) g)

  pub cut_last : Last p low top r → Last held low end r
  cut_last a =
      record {
        from = a.from;
        to = omega (arith, c.to, a.to);
        passes = λ g. sym (c.same (r - 1) (omega (arith, a.to))) ∙ a.passes g;
        fails = λ j b g.
            dite (dec_lt j top) (λ (s : j < top). sym (c.same j s) ∙ a.fails j b s) (λ (s : j < top → ⊥). c.none j (omega arith) g);
      }

  pub cut_last_empty : low ≤ end → top ≤ low → Last held low end low
  cut_last_empty l h = last_none held low end l (λ j b g. c.none j (omega arith) g)
