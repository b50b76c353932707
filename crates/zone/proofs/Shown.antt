-- The local minute that is shown at an instant, and the instants of local minutes near it.
use mathlib.Core.Bool.{Bool, true, false}
use mathlib.Core.List.{List, [], ◌∷◌}
use mathlib.Core.Path.{◌≡◌, refl, sym}
use Prim.Native.Nat.{ℕ, ◌+◌, ◌-◌, ◌<◌, ◌≤◌}
use native.Mathlib.Omega.{arith}
use borrow.Author.Tests.{le-leb, lt-leb, lt-ltb, le-ltb}
use lib.Dec.{T}
use Rattle.zone.specs.Stretches.{offset_after, split, stretch_instant, stretch_offset, stretch_of, stretch_in, second_pass_in, second_pass}
use Rattle.zone.specs.Zone.{Offsets, offset_from, offset_at, gap_instant, instant_of, transitions_good, zone_good}
use Rattle.zone.specs.declared.Transition.{Transition}
use Rattle.zone.proofs.Good.{by_order, Within, good_head, offset_before, offset_until, offset_since, offset_range, good_zone}
use Rattle.zone.proofs.Meaning.{instant_in, instant_until, instant_since, Becomes, becomes, instant_by_stretch}

-- ---- transitions after an offset
-- what the instant s of the minute shown at i is, where i is in a second pass or not
abbrev Pass : Bool → ℕ → ℕ → Type 0
Pass true s i = s < i
Pass false s i = s ≡ i

not_yet : (low offset x : ℕ) (ts : List Transition) (i : ℕ) → T (transitions_good low offset ts) → i < low → second_pass_in x ts i ≡ false
unfolding second_pass_in
not_yet low offset x [] i g l = refl
not_yet low offset x (t ∷ ts) i g l =
    let h = good_head low offset t ts g in
    let b : i < t.at = omega (arith, h.after) in
    rw (lt-leb _ _ b, second_pass_in) (not_yet (t.at + 2880) t.offset t.offset ts i h.rest (omega arith))

passes : (low offset : ℕ) (ts : List Transition) (i m : ℕ) → T (transitions_good low offset ts) → Within 720 2280 offset
    → i + offset_from offset ts i ≡ m + 2880
    → Pass (second_pass_in offset ts i) (instant_in offset ts m) i
unfolding second_pass_in offset_from stretch_in offset_after
passes low offset [] i m g r e = omega arith
passes low offset (t ∷ ts) i m g r e =
    let h = good_head low offset t ts g in
    by_order i t.at
    (λ b.
    let w : m + 2880 < split offset t = omega (arith, offset_until low offset t ts g i b) in
    rw (lt-leb t.at i b, not_yet (t.at + 2880) t.offset t.offset ts i h.rest (omega arith), instant_until offset t ts m w)
    (omega (arith, offset_until low offset t ts g i b)))
    (λ b.
    let q = offset_since offset t ts i b in
    by_order (i + t.offset) (t.at + offset)
    (λ d.
    let o = offset_before (t.at + 2880) t.offset t.offset ts i h.rest (omega (arith, h.change.upto)) in
    rw (le-leb t.at i b, lt-ltb (i + t.offset) (t.at + offset) d, instant_until offset t ts m (omega (arith, q, o)))
    (omega (arith, q, o)))
    (λ d.
    let f : split offset t ≤ m + 2880 = by_order i (t.at + 2880) (λ n. omega (arith, q, offset_before (t.at + 2880) t.offset t.offset ts i h.rest n))
    (λ n. omega (arith, q, r.upto, h.range.upto, (offset_range (t.at + 2880) t.offset ts i h.range h.rest).from)) in
    rw (le-leb t.at i b, le-ltb (i + t.offset) (t.at + offset) d, instant_since offset t ts m f)
    (passes (t.at + 2880) t.offset ts i m h.rest h.range (omega (arith, q)))))

-- ---- a zone
module _ (z : Offsets) (good : zone_good z ≡ true) where
  there : (m : ℕ) → Becomes z.first z.changes m (instant_of z m)
  unfolding stretch_instant stretch_offset stretch_of
  there m = rw (instant_by_stretch z good m) (becomes 0 z.first z.changes m (good_zone z good).range (good_zone z good).changes)

  -- at the instant of a local minute that minute is shown or, past a gap, one up to 180 minutes later
  pub shows_own : (m : ℕ) → Within (m + 2880) (m + 2880 + 180) (instant_of z m + offset_at z (instant_of z m))
  unfolding offset_at
  shows_own m = record { from = (there m).shown; upto = (there m).close }

  -- that minute, where any instant shows it
  pub shows_shown : (m i : ℕ) → i + offset_at z i ≡ m + 2880 → instant_of z m + offset_at z (instant_of z m) ≡ m + 2880
  unfolding offset_at
  shows_shown m i e =
      let s = instant_of z m in
      by_order (m + 2880) (s + offset_at z s) (λ l. absurd ((there m).missing l i e))
      (λ l. omega (arith, (there m).shown))

  -- a minute that no instant shows lies in a gap
  pub missing_gap : (m : ℕ) → ((i : ℕ) → i + offset_at z i ≡ m + 2880 → ⊥) → instant_of z m ≡ gap_instant z.first z.changes m
  unfolding offset_at
  missing_gap m n =
      let s = instant_of z m in
      by_order (m + 2880) (s + offset_at z s) (λ l. sym ((there m).gap l)) (λ l. absurd (n s (omega (arith, (there m).shown))))

  -- an instant before that of m shows a minute less than 180 after m, and one from it on a minute less than 180 before m
  pub shown_before : (m i : ℕ) → i < instant_of z m → i + offset_at z i < m + 2880 + 180
  unfolding offset_at
  shown_before m i l = omega (arith, (there m).close, (there m).earlier i l)

  pub shown_after : (m i : ℕ) → instant_of z m ≤ i → m + 2880 < i + offset_at z i + 180
  unfolding offset_at
  shown_after m i l = (there m).later i l

  -- a minute that is shown becomes the first instant that shows it
  shown_pass : (m i : ℕ) → i + offset_at z i ≡ m + 2880 → Pass (second_pass z i) (instant_of z m) i
  unfolding offset_at second_pass stretch_instant stretch_offset stretch_of
  shown_pass m i e =
      rw (instant_by_stretch z good m) (passes 0 z.first z.changes i m (good_zone z good).changes (good_zone z good).range e)

  pub first_pass : (m i : ℕ) → i + offset_at z i ≡ m + 2880 → second_pass z i ≡ false → instant_of z m ≡ i
  first_pass m i e f = rw f at (shown_pass m i e)

  pub second_pass_lem : (m i : ℕ) → i + offset_at z i ≡ m + 2880 → second_pass z i ≡ true → instant_of z m < i
  second_pass_lem m i e f = rw f at (shown_pass m i e)

  pub shown_least : (m i : ℕ) → i + offset_at z i ≡ m + 2880 → instant_of z m ≤ i
  shown_least m i e = least (second_pass z i) (shown_pass m i e)
    where
      least : (b : Bool) → Pass b (instant_of z m) i → instant_of z m ≤ i
      least true p = omega arith
      least false p = omega arith

  -- no local minute becomes an instant of a second pass
  pub never_second : (m : ℕ) → second_pass z (instant_of z m) ≡ false
  unfolding offset_at
  never_second m = by_pass (second_pass z (instant_of z m)) refl
    where
      n : ℕ
      n = instant_of z m + offset_at z (instant_of z m) - 2880

      by_pass : (b : Bool) → second_pass z (instant_of z m) ≡ b → second_pass z (instant_of z m) ≡ false
      by_pass true e =
          let q : instant_of z m + offset_at z (instant_of z m) ≡ n + 2880 = omega (arith, (there m).shown) in
          let l = second_pass_lem n (instant_of z m) q e in
          absurd (omega (arith, q, (there m).earlier (instant_of z n) l, (there n).shown))
      by_pass false e = e
