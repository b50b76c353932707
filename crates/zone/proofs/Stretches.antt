-- The stretches: each local minute of the window is in one of them, becomes an instant by its offset, and instants fall back only at a gap.
use mathlib.Core.Bool.{true}
use mathlib.Core.List.{List, [], ◌∷◌}
use mathlib.Core.Path.{◌≡◌, refl, ap}
use Prim.Native.Nat.{ℕ, zero, suc, ◌+◌, ◌-◌, ◌<◌, ◌≤◌, min}
use native.Mathlib.Nat.{le_trans}
use native.Mathlib.Numerals.{add-one}
use native.Mathlib.Omega.{arith}
use borrow.Author.Tests.{le-leb, lt-leb}
use lib.Dec.{T}
use lib.ListN.{length, take}
use Rattle.zone.specs.Stretches.{offset_after, split, boundary, stretch_offset, end_in, stretch_from, stretch_in, stretch_of, stretch_instant}
use Rattle.zone.specs.Zone.{Offsets, instant_of, apart, transitions_good, zone_good}
use Rattle.zone.specs.declared.Transition.{Transition}
use Rattle.zone.proofs.Good.{by_order, Within, good_head, GoodZone, good_zone}
use Rattle.zone.proofs.Meaning.{instant_in, instant_until, instant_since, becomes, instant_after, instant_by_stretch}

-- ---- transitions after an offset
pub stretch_until : (offset : ℕ) (t : Transition) (ts : List Transition) (m : ℕ) → m + 2880 < split offset t
    → stretch_in offset (t ∷ ts) m ≡ 0
unfolding stretch_in
stretch_until offset t ts m l = rw (lt-leb (split offset t) (m + 2880) l, stretch_in) refl

pub stretch_since : (offset : ℕ) (t : Transition) (ts : List Transition) (m : ℕ) → split offset t ≤ m + 2880
    → stretch_in offset (t ∷ ts) m ≡ suc (stretch_in t.offset ts m)
unfolding stretch_in
stretch_since offset t ts m l = rw (le-leb (split offset t) (m + 2880) l, stretch_in) refl

-- the end of a stretch, clipped to the window, tells its minutes apart as the split does
pub boundary_ahead : (offset : ℕ) (t : Transition) (m : ℕ) → m < boundary offset t → m + 2880 < split offset t
unfolding boundary
boundary_ahead offset t m l = omega arith

pub boundary_passed : (offset : ℕ) (t : Transition) (m : ℕ) → m < 52596000 → boundary offset t ≤ m → split offset t ≤ m + 2880
unfolding boundary
boundary_passed offset t m w l = omega arith

-- the ends of the stretches before a minute's own are not after it
ended : (offset : ℕ) (ts : List Transition) (m k : ℕ) → k < stretch_in offset ts m → end_in offset ts k ≤ m
unfolding end_in boundary stretch_in
ended offset [] m k l = absurd (omega arith)
ended offset (t ∷ ts) m zero l =
    by_order (m + 2880) (split offset t) (λ n. absurd (omega (arith, stretch_until offset t ts m n)))
    (λ n. omega arith)
ended offset (t ∷ ts) m (suc k) l =
    by_order (m + 2880) (split offset t) (λ n. absurd (omega (arith, stretch_until offset t ts m n)))
    (λ n. ended t.offset ts m k (omega (arith, stretch_since offset t ts m n)))

-- a minute before the end of a stretch is before the ends of those after it
still_before : (low offset : ℕ) (ts : List Transition) (m : ℕ) → T (transitions_good low offset ts) → m + 2880 < low + offset
    → stretch_in offset ts m ≡ 0
unfolding stretch_in
still_before low offset [] m g l = refl
still_before low offset (t ∷ ts) m g l = stretch_until offset t ts m (omega (arith, (good_head low offset t ts g).after))

-- and the ends of its own and those after it are
ending : (low offset : ℕ) (ts : List Transition) (m k : ℕ)
    → T (transitions_good low offset ts) → m < 52596000 → stretch_in offset ts m ≤ k → m < end_in offset ts k
unfolding end_in boundary
ending low offset [] m k g w l = w
ending low offset (t ∷ ts) m zero g w l =
    by_order (m + 2880) (split offset t) (λ n. omega arith)
    (λ n. absurd (omega (arith, stretch_since offset t ts m n)))
ending low offset (t ∷ ts) m (suc k) g w l =
    let h = good_head low offset t ts g in
    ending (t.at + 2880) t.offset ts m k h.rest w
    (by_order (m + 2880) (split offset t) (λ n. omega (arith, still_before (t.at + 2880) t.offset ts m h.rest (omega (arith, h.change.upto))))
    (λ n. omega (arith, stretch_since offset t ts m n)))

past_end : (offset : ℕ) (ts : List Transition) (k : ℕ) → length ts ≤ k → end_in offset ts k ≡ 52596000
unfolding end_in
past_end offset [] k l = refl
past_end offset (t ∷ ts) zero l = absurd (omega arith)
past_end offset (t ∷ ts) (suc k) l = past_end t.offset ts k (omega arith)

end_top : (offset : ℕ) (ts : List Transition) (k : ℕ) → end_in offset ts k ≤ 52596000
unfolding end_in boundary
end_top offset [] k = omega arith
end_top offset (t ∷ ts) zero = omega arith
end_top offset (t ∷ ts) (suc k) = end_top t.offset ts k

clipped : (a b : ℕ) → a + 2700 ≤ b → 0 < min (a - 2880) 52596000 → min (min (a - 2880) 52596000 + 2700) 52596000 ≤ min (b - 2880) 52596000
clipped a b l p = omega arith

-- a stretch that starts within the window is 2,700 minutes long, or ends with the window
end_long : (low offset : ℕ) (ts : List Transition) (k : ℕ)
    → T (transitions_good low offset ts) → 0 < end_in offset ts k → min (end_in offset ts k + 2700) 52596000 ≤ end_in offset ts (suc k)
unfolding end_in boundary
end_long low offset [] k g l = omega arith
end_long low offset (t ∷ []) zero g l = omega arith
end_long low offset (t ∷ u ∷ ts) zero g l =
    let h = good_head low offset t (u ∷ ts) g in
    clipped (split offset t) (split t.offset u)
    (omega (arith, h.change.upto, (good_head (t.at + 2880) t.offset u ts h.rest).after)) l
end_long low offset (t ∷ ts) (suc k) g l = end_long (t.at + 2880) t.offset ts k (good_head low offset t ts g).rest l

bounded : (offset : ℕ) (ts : List Transition) (m : ℕ) → stretch_in offset ts m ≤ length ts
unfolding stretch_in
bounded offset [] m = omega arith
bounded offset (t ∷ ts) m =
    by_order (m + 2880) (split offset t) (λ n. omega (arith, stretch_until offset t ts m n))
    (λ n. omega (arith, stretch_since offset t ts m n, bounded t.offset ts m))

later_stretch : (offset : ℕ) (ts : List Transition) (m n : ℕ) → m ≤ n → stretch_in offset ts m ≤ stretch_in offset ts n
unfolding stretch_in
later_stretch offset [] m n l = omega arith
later_stretch offset (t ∷ ts) m n l =
    by_order (m + 2880) (split offset t) (λ a. omega (arith, stretch_until offset t ts m a))
    (λ a.
    omega (arith, stretch_since offset t ts m a, stretch_since offset t ts n (omega arith), later_stretch t.offset ts m n l))

after_range : (low offset : ℕ) (ts : List Transition) (k : ℕ) → Within 720 2280 offset → T (transitions_good low offset ts)
    → Within 720 2280 (offset_after offset (take k ts))
unfolding offset_after
after_range low offset [] zero r g = r
after_range low offset [] (suc k) r g = r
after_range low offset (t ∷ ts) zero r g = r
after_range low offset (t ∷ ts) (suc k) r g =
    let h = good_head low offset t ts g in
    after_range (t.at + 2880) t.offset ts k h.range h.rest

after_near : (low offset : ℕ) (ts : List Transition) (k : ℕ) → T (transitions_good low offset ts)
    → apart (offset_after offset (take k ts)) (offset_after offset (take (suc k) ts)) ≤ 180
unfolding offset_after
after_near low offset [] zero g = omega arith
after_near low offset [] (suc k) g = omega arith
after_near low offset (t ∷ ts) zero g = (good_head low offset t ts g).change.upto
after_near low offset (t ∷ ts) (suc k) g = after_near (t.at + 2880) t.offset ts k (good_head low offset t ts g).rest

-- a minute past the first stretch becomes no instant before the first transition
past_first : (low offset : ℕ) (ts : List Transition) (m : ℕ)
    → T (transitions_good low offset ts) → Within 720 2280 offset → 0 < stretch_in offset ts m → low ≤ instant_in offset ts m
unfolding stretch_in
past_first low offset [] m g r l = absurd (omega arith)
past_first low offset (t ∷ ts) m g r l =
    let h = good_head low offset t ts g in
    by_order (m + 2880) (split offset t) (λ a. absurd (omega (arith, stretch_until offset t ts m a)))
    (λ a.
    rw (instant_since offset t ts m a)
    (le_trans h.after (instant_after low offset r t ts g m _ a (becomes (t.at + 2880) t.offset ts m h.range h.rest))))

soon : (offset : ℕ) (t : Transition) (m : ℕ) → apart offset t.offset ≤ 180 → m + 2880 < split offset t → m + 2880 - offset < t.at + 180
soon offset t m c l = omega arith

between : (a b c : ℕ) → a < c + 180 → c + 2880 ≤ b → a < b
between a b c l k = omega arith

-- with a stretch between them, two minutes become instants in their order
far : (low offset : ℕ) (ts : List Transition) (m n : ℕ)
    → T (transitions_good low offset ts) → Within 720 2280 offset → stretch_in offset ts m + 1 < stretch_in offset ts n → instant_in offset ts m < instant_in offset ts n
unfolding stretch_in
far low offset [] m n g r l = absurd (omega arith)
far low offset (t ∷ ts) m n g r l =
    let h = good_head low offset t ts g in
    by_order (n + 2880) (split offset t) (λ b. absurd (omega (arith, stretch_until offset t ts n b)))
    (λ f.
    let e = stretch_since offset t ts n f in
    by_order (m + 2880) (split offset t)
    (λ a.
    rw (instant_until offset t ts m a, instant_since offset t ts n f)
    (between (m + 2880 - offset) (instant_in t.offset ts n) t.at (soon offset t m h.change.upto a)
    (past_first (t.at + 2880) t.offset ts n h.rest h.range (omega (arith, e)))))
    (λ d.
    rw (instant_since offset t ts m d, instant_since offset t ts n f)
    (far (t.at + 2880) t.offset ts m n h.rest h.range (omega (arith, e, stretch_since offset t ts m d)))))

-- ---- a zone
-- how the instants of minutes of two stretches overlap: only where the later stretch is the next, the offset grows, and by less than its growth
pub record Overlap (z : Offsets) (j k m n : ℕ) : Type 0 where
  pub next : k ≡ j + 1
  pub gap : stretch_offset z j < stretch_offset z k
  pub short : instant_of z m + stretch_offset z j < instant_of z n + stretch_offset z k

-- local minute m lies in stretch k
pub record InStretch (z : Offsets) (k m : ℕ) : Type 0 where
  pub from : stretch_from z k ≤ m
  pub past : m < stretch_from z (k + 1)

pub stretch_ends : (z : Offsets) (k : ℕ) → stretch_from z (k + 1) ≡ end_in z.first z.changes k
unfolding stretch_from
stretch_ends z k = rw add-one refl

pub stretch_first : (z : Offsets) → stretch_from z 0 ≡ 0
unfolding stretch_from
stretch_first z = refl

pub stretch_past_last : (z : Offsets) (k : ℕ) → length z.changes < k → stretch_from z k ≡ 52596000
unfolding stretch_from
stretch_past_last z zero l = absurd (omega arith)
stretch_past_last z (suc k) l = past_end z.first z.changes k (omega arith)

pub stretch_within : (z : Offsets) (k : ℕ) → stretch_from z k ≤ 52596000
unfolding stretch_from
stretch_within z zero = omega arith
stretch_within z (suc k) = end_top z.first z.changes k

-- a minute's own stretch and those before it start no later
pub stretch_started : (z : Offsets) (k m : ℕ) → k ≤ stretch_of z m → stretch_from z k ≤ m
unfolding stretch_from stretch_of
stretch_started z zero m l = omega arith
stretch_started z (suc k) m l = ended z.first z.changes m k l

module _ (z : Offsets) (good : zone_good z ≡ true) where
  g : GoodZone z
  g = good_zone z good

  -- those after it start later
  pub stretch_ahead : (k m : ℕ) → m < 52596000 → stretch_of z m < k → m < stretch_from z k
  unfolding stretch_from stretch_of
  stretch_ahead zero m w l = absurd (omega arith)
  stretch_ahead (suc k) m w l = ending 0 z.first z.changes m k g.changes w (omega arith)

  -- a local minute is in one stretch only
  pub the_stretch : (k m : ℕ) → InStretch z k m → k ≡ stretch_of z m
  the_stretch k m s =
      by_order (stretch_of z m) k
      (λ l. absurd (omega (arith, s.from, s.past, stretch_within z (k + 1), stretch_ahead k m (omega (arith, s.past, stretch_within z (k + 1))) l)))
      (λ l.
      by_order k (stretch_of z m) (λ b. absurd (omega (arith, s.past, stretch_started z (k + 1) m (omega arith))))
      (λ b. omega arith))

  -- a stretch that starts within the window is 2,700 minutes long, or ends with the window
  pub stretch_long : (k : ℕ) → 0 < stretch_from z k → min (stretch_from z k + 2700) 52596000 ≤ stretch_from z (k + 1)
  unfolding stretch_from
  stretch_long zero l = absurd (omega arith)
  stretch_long (suc k) l = rw add-one (end_long 0 z.first z.changes k g.changes l)

  -- so stretches rise
  pub stretch_mono : (j k : ℕ) → j ≤ k → stretch_from z j ≤ stretch_from z k
  stretch_mono j zero l = let e : j ≡ 0 = omega arith in rw e (omega arith)
  stretch_mono j (suc k) l =
      by_order k j (λ b. let e : j ≡ suc k = omega arith in rw e (omega arith))
      (λ b. rw (← add-one) (step (stretch_mono j k (omega arith))))
    where
      step : stretch_from z j ≤ stretch_from z k → stretch_from z j ≤ stretch_from z (k + 1)
      step h =
          by_order 0 (stretch_from z k) (λ b. omega (arith, stretch_long k b, stretch_within z k))
          (λ b. omega arith)

  pub stretch_offset_range : (k : ℕ) → Within 720 2280 (stretch_offset z k)
  unfolding stretch_offset
  stretch_offset_range k = after_range 0 z.first z.changes k g.range g.changes

  pub stretch_offsets_near : (k : ℕ) → apart (stretch_offset z k) (stretch_offset z (k + 1)) ≤ 180
  unfolding stretch_offset
  stretch_offsets_near k = rw add-one (after_near 0 z.first z.changes k g.changes)

  -- every local minute of stretch k becomes m less its offset, gaps and doubled hours included
  instant_of_stretch : (m : ℕ) → instant_of z m + stretch_offset z (stretch_of z m) ≡ m + 2880
  unfolding stretch_instant
  instant_of_stretch m = omega (arith, instant_by_stretch z good m, (stretch_offset_range (stretch_of z m)).upto)

  pub stretch_instant_lem : (k m : ℕ) → InStretch z k m → instant_of z m + stretch_offset z k ≡ m + 2880
  stretch_instant_lem k m s = rw (the_stretch k m s) (instant_of_stretch m)

  -- so within a stretch instants rise with the minutes
  pub stretch_rises : (k m n : ℕ) → InStretch z k m → InStretch z k n → m < n → instant_of z m < instant_of z n
  stretch_rises k m n a b l = omega (arith, stretch_instant_lem k m a, stretch_instant_lem k n b)

  later_stretch_of : (m n : ℕ) → m ≤ n → stretch_of z m ≤ stretch_of z n
  unfolding stretch_of
  later_stretch_of m n l = later_stretch z.first z.changes m n l

  far_of : (m n : ℕ) → stretch_of z m + 1 < stretch_of z n → instant_of z m < instant_of z n
  unfolding stretch_of stretch_instant stretch_offset
  far_of m n l = rw (instant_by_stretch z good m, instant_by_stretch z good n) (far 0 z.first z.changes m n g.changes g.range l)

  -- with a stretch between them too
  pub stretch_far : (j k m n : ℕ) → InStretch z j m → InStretch z k n → j + 1 < k → instant_of z m < instant_of z n
  stretch_far j k m n a b l = far_of m n (omega (arith, the_stretch j m a, the_stretch k n b))

  -- instants of two stretches overlap only at a gap
  pub stretch_overlap : (j k m n : ℕ) → InStretch z j m → InStretch z k n → j < k → instant_of z n ≤ instant_of z m → Overlap z j k m n
  stretch_overlap j k m n a b l o =
      let e : k ≡ j + 1 = by_order (j + 1) k (λ f. absurd (omega (arith, stretch_far j k m n a b f))) (λ f. omega arith) in
      let p : m < n = omega (arith, a.past, b.from, ap (stretch_from z) e) in
      let s : instant_of z m + stretch_offset z j < instant_of z n + stretch_offset z k =
      omega (arith, stretch_instant_lem j m a, stretch_instant_lem k n b) in
      record { next = e; gap = omega arith; short = s }

  -- a later minute becomes an instant at most 179 minutes before
  near_of : (m n : ℕ) → m ≤ n → stretch_of z n ≤ stretch_of z m + 1 → instant_of z m + n ≤ instant_of z n + m + 180
  near_of m n l k =
      by_order (stretch_of z m) (stretch_of z n)
      (λ b.
      let e : stretch_of z n ≡ stretch_of z m + 1 = omega arith in
      omega (arith, instant_of_stretch m, instant_of_stretch n, ap (stretch_offset z) e, stretch_offsets_near (stretch_of z m)))
      (λ b.
      let e : stretch_of z n ≡ stretch_of z m = omega (arith, later_stretch_of m n l) in
      omega (arith, instant_of_stretch m, instant_of_stretch n, ap (stretch_offset z) e))

  pub instants_close : (m n : ℕ) → m < n → instant_of z m < instant_of z n + 180
  instants_close m n l =
      by_order (stretch_of z m + 1) (stretch_of z n) (λ b. omega (arith, far_of m n b))
      (λ b. omega (arith, near_of m n (omega arith) (omega arith)))

  -- and from 181 minutes on a later one
  pub instants_rise : (m n : ℕ) → m + 180 < n → instant_of z m < instant_of z n
  instants_rise m n l =
      by_order (stretch_of z m + 1) (stretch_of z n) (λ b. far_of m n b)
      (λ b. omega (arith, near_of m n (omega arith) (omega arith)))

  pub instants_range : (m : ℕ) → m < 52596000 → Within 600 52598159 (instant_of z m)
  instants_range m w =
      let r = stretch_offset_range (stretch_of z m) in
      record { from = omega (arith, instant_of_stretch m, r.upto); upto = omega (arith, instant_of_stretch m, r.from) }
