-- The window's local minutes in parts: stretch after stretch forwards, and stretch before stretch backwards.
use mathlib.Core.Bool.{Bool, true}
use mathlib.Core.Logic.{◌⊎◌, inl, inr, ⊎_elim}
use mathlib.Core.Path.{◌≡◌}
use Prim.Native.Nat.{ℕ, ◌+◌, ◌<◌, ◌≤◌, min}
use native.Mathlib.Omega.{arith}
use Rattle.zone.proofs.Good.{by_order}
use Rattle.zone.proofs.Stretches.{stretch_mono, stretch_instant_lem, instants_range}
use Rattle.zone.specs.Stretches.{stretch_from, stretch_offset}
use Rattle.zone.specs.Zone.{Offsets, instant_of, zone_good}
use Rattle.next.specs.Instants.{InstantOf}
use Rattle.next.specs.Nearest.{Nearest, Shifted, Later, Earlier, Earliest, Latest}
use Rattle.next.proofs.Nearer.{nearest_same, nearest_joined}

-- a held local minute from low up to high becomes i
pub record InstantIn (held : ℕ → Bool) (z : Offsets) (low high i : ℕ) : Type 0 where
  pub minute : ℕ
  pub from : low ≤ minute
  pub below : minute < high
  pub holds : held minute ≡ true
  pub becomes : instant_of z minute ≡ i

module _ (held : ℕ → Bool) (z : Offsets) where
  wider : (low high a b i : ℕ) → a ≤ low → high ≤ b → InstantIn held z low high i → InstantIn held z a b i
  wider low high a b i f t s =
      record { minute = s.minute; from = omega (arith, s.from); below = omega (arith, s.below); holds = s.holds; becomes = s.becomes }

  split_at : (low mid high i : ℕ) → InstantIn held z low high i → InstantIn held z low mid i ⊎ InstantIn held z mid high i
  split_at low mid high i s =
      by_order s.minute mid (λ l. inl (record { minute = s.minute; from = s.from; below = l; holds = s.holds; becomes = s.becomes }))
      (λ l. inr (record { minute = s.minute; from = l; below = s.below; holds = s.holds; becomes = s.becomes }))

  pub no_minutes : (low i : ℕ) → InstantIn held z low low i → ⊥
  no_minutes low i s = omega (arith, s.from, s.below)

  whole_of : (i : ℕ) → InstantOf held z i → InstantIn held z 0 52596000 i
  whole_of i s = record { minute = s.minute; from = omega arith; below = s.window; holds = s.holds; becomes = s.becomes }

  of_whole : (i : ℕ) → InstantIn held z 0 52596000 i → InstantOf held z i
  of_whole i s = record { minute = s.minute; window = s.below; holds = s.holds; becomes = s.becomes }

-- of those instants, the ones that are kept
abbrev pub Kept : (ℕ → Bool) → Offsets → (ℕ → Type 0) → ℕ → ℕ → ℕ → Type 0
Kept held z kept low high i = InstantIn held z low high i × kept i

-- stretch k of a zone: its offset, its first minute, and the first past it
pub record Stretch (z : Offsets) (k offset from end : ℕ) : Type 0 where
  pub by : offset ≡ stretch_offset z k
  pub first : from ≡ stretch_from z k
  pub past : end ≡ stretch_from z (k + 1)

module _ (held : ℕ → Bool) (z : Offsets) (good : zone_good z ≡ true) where
  module _ (k offset from end : ℕ) (h : Stretch z k offset from end) where
    -- its minutes become instants by its offset
    moved : (m : ℕ) → from ≤ m → m < end → instant_of z m + offset ≡ m + 2880
    moved m f t =
        omega (arith, h.by, stretch_instant_lem z good k m (record { from = omega (arith, h.first); past = omega (arith, h.past) }))

    by_offset : (i : ℕ) → InstantIn held z from end i → Shifted held offset from end i
    by_offset i s =
        record { minute = s.minute; from = s.from; below = s.below; holds = s.holds; becomes = omega (arith, moved s.minute s.from s.below, s.becomes) }

    of_offset : (i : ℕ) → Shifted held offset from end i → InstantIn held z from end i
    of_offset i s =
        record { minute = s.minute; from = s.from; below = s.below; holds = s.holds; becomes = omega (arith, moved s.minute s.from s.below, s.becomes) }

    rise : from ≤ end
    rise = omega (arith, h.first, h.past, stretch_mono z good k (k + 1) (omega arith))

    -- searched by itself
    module _ (nearer : ℕ → ℕ → Type 0) (through : (i j k : ℕ) → nearer i j → nearer j k → nearer i k) (kept : ℕ → Type 0) (bound b r : ℕ)
        (c : Nearest nearer (λ j. Shifted held offset from end j × kept j) b r)
      where
        here : Nearest nearer (Kept held z kept from end) b r
        here = nearest_same nearer _ _ b r (λ j s. (of_offset j s.0, s.1)) (λ j s. (by_offset j s.0, s.1)) c

        -- after those before it
        pub stretch_after : (low : ℕ) → low ≤ from → Nearest nearer (Kept held z kept low from) bound b
            → Nearest nearer (Kept held z kept low end) bound r
        stretch_after low l a =
            nearest_joined nearer through _ _ _ bound b r
            (λ j s. ⊎_elim (λ u. inl (u, s.1)) (λ u. inr (u, s.1)) (split_at held z low from end j s.0))
            (λ j s. (wider held z low from low end j (omega arith) rise s.0, s.1))
            (λ j s. (wider held z from end low end j l (omega arith) s.0, s.1)) a here

        -- or before those after it
        pub stretch_before : (high : ℕ) → end ≤ high → Nearest nearer (Kept held z kept end high) bound b
            → Nearest nearer (Kept held z kept from high) bound r
        stretch_before high l a =
            nearest_joined nearer through _ _ _ bound b r
            (λ j s. ⊎_elim (λ u. inr (u, s.1)) (λ u. inl (u, s.1)) (split_at held z from end high j s.0))
            (λ j s. (wider held z end high from high j rise (omega arith) s.0, s.1))
            (λ j s. (wider held z from end from high j (omega arith) l s.0, s.1)) a here

  -- no instant lies beyond 52,598,159, so an asked one may be cut there
  top : (i : ℕ) → InstantOf held z i → i < 52598880
  top i s = omega (arith, (instants_range z good s.minute s.window).upto, s.becomes)

  module _ (asked cut r : ℕ) (e : cut ≡ min asked 52598880) where
    pub next_whole : Earliest (Later cut (InstantIn held z 0 52596000)) 52598881 r → Earliest (Later asked (InstantOf held z)) 52598881 r
    next_whole a =
        nearest_same _ _ _ 52598881 r (λ j s. let h = of_whole held z j s.0 in (h, omega (arith, s.1, top j h)))
        (λ j s. (whole_of held z j s.0, omega (arith, s.1))) a

    pub previous_whole : Latest (Earlier cut (InstantIn held z 0 52596000)) 0 r → Latest (Earlier asked (InstantOf held z)) 0 r
    previous_whole a =
        nearest_same _ _ _ 0 r (λ j s. (of_whole held z j s.0, omega (arith, s.1)))
        (λ j s. (whole_of held z j s.0, omega (arith, s.1, top j s.0))) a
