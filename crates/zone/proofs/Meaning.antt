-- A local minute's instant by its stretch is the least instant that shows it, and in a gap the minute less the offset before.
use mathlib.Core.Bool.{Bool, true, false}
use mathlib.Core.List.{List, [], ◌∷◌}
use mathlib.Core.Path.{◌≡◌, refl, sym, ap, ◌∙◌}
use Prim.Native.Nat.{ℕ, zero, suc, ◌+◌, ◌-◌, ◌<◌, ◌≤◌}
use native.Mathlib.Omega.{arith}
use borrow.Author.Tests.{le-leb, lt-leb, lt-ltb, le-ltb, eq-eqb, ne_eqb}
use lib.Dec.{T}
use lib.ListN.{take}
use Rattle.calendar.specs.Below.{least_from}
use Rattle.zone.specs.Stretches.{offset_after, split, stretch_offset, stretch_in, stretch_of, stretch_instant}
use Rattle.zone.specs.Zone.{Offsets, offset_from, offset_at, shows, gap_instant, instant_of, transitions_good, zone_good}
use Rattle.zone.specs.declared.Transition.{Transition}
use Rattle.zone.proofs.Good.{by_order, Within, GoodHead, good_head, offset_before, offset_until, offset_since, shown_since, offset_range, good_zone}

-- the instant by the stretch, of transitions after an offset
abbrev pub instant_in : ℕ → List Transition → ℕ → ℕ
instant_in offset ts m = m + 2880 - offset_after offset (take (stretch_in offset ts m) ts)

pub instant_until : (offset : ℕ) (t : Transition) (ts : List Transition) (m : ℕ) → m + 2880 < split offset t
    → instant_in offset (t ∷ ts) m ≡ m + 2880 - offset
unfolding stretch_in offset_after
instant_until offset t ts m l = rw (lt-leb (split offset t) (m + 2880) l, stretch_in) refl

pub instant_since : (offset : ℕ) (t : Transition) (ts : List Transition) (m : ℕ) → split offset t ≤ m + 2880
    → instant_in offset (t ∷ ts) m ≡ instant_in t.offset ts m
unfolding stretch_in offset_after
instant_since offset t ts m l = rw (le-leb (split offset t) (m + 2880) l, stretch_in) refl

-- the minute that an instant shows, and 2,880
abbrev pub shown_in : ℕ → List Transition → ℕ → ℕ
shown_in offset ts i = i + offset_from offset ts i

-- what the instant s of local minute m is
pub record Becomes (offset : ℕ) (ts : List Transition) (m s : ℕ) : Type 0 where
  -- it shows m or, past a gap, a minute up to 180 later
  pub shown : m + 2880 ≤ shown_in offset ts s
  pub close : shown_in offset ts s ≤ m + 2880 + 180
  -- every instant before it shows an earlier minute, and none from it on one that is 180 minutes earlier
  pub earlier : (i : ℕ) → i < s → shown_in offset ts i < shown_in offset ts s
  pub later : (i : ℕ) → s ≤ i → m + 2880 < shown_in offset ts i + 180
  -- where it does not show m, no instant does
  pub missing : m + 2880 < shown_in offset ts s → (i : ℕ) → shown_in offset ts i ≡ m + 2880 → ⊥
  pub gap : m + 2880 < shown_in offset ts s → gap_instant offset ts m ≡ s

nothing_after : (offset m : ℕ) → Within 720 2280 offset → Becomes offset [] m (m + 2880 - offset)
unfolding offset_from
nothing_after offset m r =
    record {
      shown = omega arith;
      close = omega arith;
      earlier = λ i l. omega arith;
      later = λ i l. omega arith;
      missing = λ l. absurd (omega arith);
      gap = λ l. absurd (omega arith);
    }

module _ (low offset : ℕ) (r : Within 720 2280 offset) (t : Transition) (ts : List Transition) (g : T (transitions_good low offset (t ∷ ts))) (m : ℕ) where
  h : GoodHead low offset t ts
  h = good_head low offset t ts g

  since_shown : (i : ℕ) → t.at ≤ i → t.at + t.offset ≤ shown_in offset (t ∷ ts) i
  since_shown i b = omega (arith, offset_since offset t ts i b, shown_since t.at t.offset ts i h.rest b)

  soon_after : (i : ℕ) → t.at ≤ i → i < t.at + 2880 → offset_from offset (t ∷ ts) i ≡ t.offset
  soon_after i b c = offset_since offset t ts i b ∙ offset_before (t.at + 2880) t.offset t.offset ts i h.rest c

  -- a minute of the stretch before the transition: no later instant shows a much earlier one
  later_shown : m + 2880 < split offset t → (i : ℕ) → m + 2880 - offset ≤ i → m + 2880 < shown_in offset (t ∷ ts) i + 180
  later_shown l i k =
      by_order i t.at (λ b. omega (arith, offset_until low offset t ts g i b))
      (λ b. omega (arith, since_shown i b, h.change.upto))

  -- it is shown there
  before : m + 2880 < t.at + offset → Becomes offset (t ∷ ts) m (m + 2880 - offset)
  before l =
      let b : m + 2880 - offset < t.at = omega (arith, r.upto) in
      let e = offset_until low offset t ts g (m + 2880 - offset) b in
      record {
        shown = omega (arith, e, r.upto);
        close = omega (arith, e, r.upto);
        earlier = λ i k. omega (arith, e, r.upto, offset_until low offset t ts g i (omega arith));
        later = later_shown (omega arith);
        missing = λ k. absurd (omega (arith, e, r.upto));
        gap = λ k. absurd (omega (arith, e, r.upto));
      }

  -- or falls into the gap
  within_gap : t.at + offset ≤ m + 2880 → m + 2880 < t.at + t.offset → Becomes offset (t ∷ ts) m (m + 2880 - offset)
  unfolding gap_instant
  within_gap f l =
      let b : t.at ≤ m + 2880 - offset = omega arith in
      let c : m + 2880 - offset < t.at + 2880 = omega (arith, h.change.upto) in
      let e = soon_after (m + 2880 - offset) b c in
      record {
        shown = omega (arith, e);
        close = omega (arith, e, h.change.upto);
        earlier = λ i k. by_order i t.at (λ n. omega (arith, e, offset_until low offset t ts g i n))
            (λ n. omega (arith, e, soon_after i n (omega arith)));
        later = later_shown (omega arith);
        missing = λ k i q. by_order i t.at (λ n. omega (arith, offset_until low offset t ts g i n))
            (λ n. omega (arith, since_shown i n));
        gap = λ k. rw (le-leb _ _ f, lt-ltb _ _ l, gap_instant) refl;
      }

  -- a minute of a stretch after the transition does not become an instant before it
  pub instant_after : (s : ℕ) → split offset t ≤ m + 2880 → Becomes t.offset ts m s → t.at ≤ s
  instant_after s f d =
      by_order s t.at
      (λ n. absurd (omega (arith, d.shown, offset_before (t.at + 2880) t.offset t.offset ts s h.rest (omega arith))))
      (λ n. n)

  beyond : (s : ℕ) → split offset t ≤ m + 2880 → Becomes t.offset ts m s → Becomes offset (t ∷ ts) m s
  unfolding gap_instant
  beyond s f d =
      let b = instant_after s f d in
      let e = offset_since offset t ts s b in
      record {
        shown = omega (arith, e, d.shown);
        close = omega (arith, e, d.close);
        earlier = λ i k. by_order i t.at (λ n. omega (arith, e, d.shown, offset_until low offset t ts g i n))
            (λ n. omega (arith, e, d.earlier i k, offset_since offset t ts i n));
        later = λ i k. omega (arith, d.later i k, offset_since offset t ts i (omega arith));
        missing = λ k i q. by_order i t.at (λ n. omega (arith, offset_until low offset t ts g i n))
            (λ n. d.missing (omega (arith, e)) i (omega (arith, offset_since offset t ts i n)));
        gap = λ k. rw (le-leb (t.at + offset) (m + 2880) (omega arith), le-ltb (m + 2880) (t.at + t.offset) (omega arith), gap_instant)
            (d.gap (omega (arith, e)));
      }

pub becomes : (low offset : ℕ) (ts : List Transition) (m : ℕ)
    → Within 720 2280 offset → T (transitions_good low offset ts) → Becomes offset ts m (instant_in offset ts m)
unfolding stretch_in offset_after
becomes low offset [] m r g = nothing_after offset m r
becomes low offset (t ∷ ts) m r g =
    by_order (m + 2880) (split offset t)
    (λ l.
    rw (instant_until offset t ts m l)
    (by_order (m + 2880) (t.at + offset) (λ b. before low offset r t ts g m b)
    (λ b. within_gap low offset r t ts g m b (omega arith))))
    (λ l.
    let k = good_head low offset t ts g in
    rw (instant_since offset t ts m l) (beyond low offset r t ts g m _ l (becomes (t.at + 2880) t.offset ts m k.range k.rest)))

-- the least number that passes a test
pub least_found : (test : ℕ → Bool) (k a s : ℕ)
    → a ≤ s → s < a + k → test s ≡ true → ((i : ℕ) → a ≤ i → i < s → test i ≡ false) → least_from test k a ≡ s
unfolding least_from
least_found test zero a s l n e f = absurd (omega arith)
least_found test (suc k) a s l n e f =
    by_order a s
    (λ b. rw (f a (omega arith) b, least_from) (least_found test k (suc a) s b (omega arith) e (λ i p q. f i (omega arith) q)))
    (λ b. let q : a ≡ s = omega arith in rw (ap test q ∙ e, least_from) q)

pub least_none : (test : ℕ → Bool) (k a : ℕ) → ((i : ℕ) → test i ≡ false) → least_from test k a ≡ a + k
unfolding least_from
least_none test zero a f = omega arith
least_none test (suc k) a f = rw (f a, least_from) (omega (arith, least_none test k (suc a) f))

module _ (z : Offsets) (good : zone_good z ≡ true) (m : ℕ) where
  there : Becomes z.first z.changes m (stretch_instant z m)
  unfolding stretch_instant stretch_offset stretch_of
  there = becomes 0 z.first z.changes m (good_zone z good).range (good_zone z good).changes

  offset_there : Within 720 2280 (offset_at z (stretch_instant z m))
  unfolding offset_at
  offset_there = offset_range 0 z.first z.changes (stretch_instant z m) (good_zone z good).range (good_zone z good).changes

  shown_there : m + 2880 ≡ stretch_instant z m + offset_at z (stretch_instant z m) → instant_of z m ≡ stretch_instant z m
  unfolding instant_of shows offset_at
  shown_there e =
      let s = stretch_instant z m in
      let l = least_found (shows z m) 1561 (m + 600) s (omega (arith, offset_there.upto)) (omega (arith, offset_there.from)) (eq-eqb _ _ (sym e))
      (λ i p q. ne_eqb _ _ (λ (d : i + offset_from z.first z.changes i ≡ m + 2880). omega (arith, there.earlier i q))) in
      rw (l, lt-ltb s (m + 2161) (omega (arith, offset_there.from)), instant_of) l

  missing_there : m + 2880 < stretch_instant z m + offset_at z (stretch_instant z m) → instant_of z m ≡ stretch_instant z m
  unfolding instant_of shows offset_at
  missing_there l =
      let n = least_none (shows z m) 1561 (m + 600) (λ i. ne_eqb _ _ (there.missing l i)) in
      rw (n, le-ltb (m + 600 + 1561) (m + 2161) (omega arith), instant_of) (there.gap l)

  -- the instant of a local minute is that by its stretch
  pub instant_by_stretch : instant_of z m ≡ stretch_instant z m
  unfolding offset_at
  instant_by_stretch =
      by_order (m + 2880) (stretch_instant z m + offset_at z (stretch_instant z m))
      (λ l. missing_there l)
      (λ l. shown_there (omega (arith, there.shown)))
