-- The zone that the rows of a plan hold, row by row.
use mathlib.Core.Bool.{Bool, true, false}
use mathlib.Core.List.{List, [], ◌∷◌}
use mathlib.Core.Path.{◌≡◌, refl, sym, ap, ◌∙◌}
use Prim.Native.Nat.{ℕ, zero, suc, ◌+◌, ◌-◌, ◌≤◌, min}
use native.Mathlib.Omega.{arith}
use borrow.Author.Tests.{eq-eqb, ne_eqb}
use lib.Dec.{eqb}
use lib.ListN.{length, get_or, take, drop, set, replicate}
use lib.Seq.{sets, sets-eq, take-append_seam}
use Rattle.std.proofs.lemmas.List.{drop_all}
use Rattle.zone.specs.Held.{offsets_of}
use Rattle.zone.specs.declared.Transition.{Transition}
use Rattle.zone.specs.declared.Zone.{Zone}
use Rattle.load.specs.Zones.{change_in, changes_in, with_changes, bare, zone_of}

-- what is left of the rows after the first, from place i on, makes the zone
pub record Rest (rows : List (List ℕ)) (count : ℕ) (changes : List (List ℕ)) (zone : Zone) (i : ℕ) : Type 0 where
  pub next : i ≡ zone.count
  pub rest : with_changes zone (changes_in (drop i changes)) ≡ zone_of rows count

pub rest_first : (rows : List (List ℕ)) (count n : ℕ) → n ≡ min count 33 - 1
    → Rest rows count (take n (drop 1 rows)) (bare (get_or (get_or rows 0 []) 1 0)) 0
unfolding zone_of
rest_first rows count n e =
    record {
      next = refl;
      rest = ap (λ (k : ℕ). with_changes (bare (get_or (get_or rows 0 []) 1 0)) (changes_in (take k (drop 1 rows)))) e;
    }

-- no transition more
unchanged : (z : Zone) → with_changes z [] ≡ z
unchanged z = let e : z.count + 0 ≡ z.count = omega arith in λ i. record { first = z.first; count = e i; changes = z.changes }

-- the rows from a place on: none, or the row there and those after it
stops : (i : ℕ) (rows : List (List ℕ)) → (get_or (get_or rows i []) 0 0 ≡ 2 → ⊥) → changes_in (drop i rows) ≡ []
unfolding changes_in
stops zero [] h = refl
stops (suc i) [] h = refl
stops zero (row ∷ rows) h = rw (changes_in, ne_eqb (get_or row 0 0) 2 h) refl
stops (suc i) (row ∷ rows) h = stops i rows h

goes_on : (i : ℕ) (rows : List (List ℕ)) → get_or (get_or rows i []) 0 0 ≡ 2
    → changes_in (drop i rows) ≡ change_in (get_or rows i []) ∷ changes_in (drop (suc i) rows)
unfolding changes_in
goes_on zero [] h = absurd (omega (arith, h))
goes_on (suc i) [] h = absurd (omega (arith, h))
goes_on zero (row ∷ rows) h = rw (changes_in, eq-eqb (get_or row 0 0) 2 h) refl
goes_on (suc i) (row ∷ rows) h = goes_on i rows h

module _ (rows : List (List ℕ)) (count : ℕ) (changes : List (List ℕ)) (zone : Zone) (i : ℕ) (r : Rest rows count changes zone i) where
  pub rest_none : length changes ≤ i → zone ≡ zone_of rows count
  unfolding changes_in
  rest_none h = sym (unchanged zone) ∙ ap (λ (l : List (List ℕ)). with_changes zone (changes_in l)) (sym (drop_all i changes h)) ∙ r.rest

  pub rest_stops : (get_or (get_or changes i []) 0 0 ≡ 2 → ⊥) → zone ≡ zone_of rows count
  rest_stops h = sym (unchanged zone) ∙ ap (with_changes zone) (sym (stops i changes h)) ∙ r.rest

  pub rest_on : get_or (get_or changes i []) 0 0 ≡ 2
      → Rest rows count changes (record { first = zone.first; count = i + 1; changes = set zone.changes i (change_in (get_or changes i [])) }) (i + 1)
  rest_on h =
      let ts : List Transition = changes_in (drop (i + 1) changes) in
      let t : Transition = change_in (get_or changes i []) in
      let s : suc i ≡ i + 1 = omega arith in
      let g : changes_in (drop i changes) ≡ t ∷ ts = goes_on i changes h ∙ ap (λ (k : ℕ). t ∷ changes_in (drop k changes)) s in
      let q : i + 1 + length ts ≡ zone.count + suc (length ts) = omega (arith, r.next) in
      let u : i + 1 ≡ suc zone.count = omega (arith, r.next) in
      record {
        next = refl;
        rest = (λ j. record { first = zone.first; count = q j; changes = sets (set zone.changes (r.next j) t) (u j) ts })
            ∙ ap (with_changes zone) (sym g) ∙ r.rest;
      }

-- ---- a zone with its transitions, and the first so many of them
pub held_changes : (offset : ℕ) (ts : List Transition) → length ts ≤ 32
    → offsets_of (with_changes (bare offset) ts) ≡ record { first = offset; changes = ts }
unfolding offsets_of
held_changes offset ts h =
    let e : 0 + length ts ≡ length ts = omega arith in
    ap (λ (l : List Transition). record { first = offset; changes = l })
    (ap (λ (k : ℕ). take k (sets (replicate 32 (record { at = 0; offset = 0 })) 0 ts)) e
    ∙ ap (take (length ts)) (sets-eq ts (replicate 32 (record { at = 0; offset = 0 })) 0 (omega arith))
    ∙ take-append_seam ts (drop (0 + length ts) (replicate 32 (record { at = 0; offset = 0 }))))

pub changes_taken : (m : ℕ) (rows : List (List ℕ)) → changes_in (take m rows) ≡ take m (changes_in rows)
unfolding changes_in
changes_taken zero rows = refl
changes_taken (suc m) [] = refl
changes_taken (suc m) (row ∷ rows) = by_kind (eqb (get_or row 0 0) 2) refl (changes_taken m rows)
  where
    by_kind : (b : Bool) → eqb (get_or row 0 0) 2 ≡ b → changes_in (take m rows) ≡ take m (changes_in rows)
        → changes_in (row ∷ take m rows) ≡ take (suc m) (changes_in (row ∷ rows))
    by_kind true e r = rw (changes_in, e) (ap (λ (ts : List Transition). change_in row ∷ ts) r)
    by_kind false e r = rw (changes_in, e) refl
