-- One stretch searched: the minutes whose instants lie between two instants are those of a range.
use mathlib.Core.Bool.{Bool, false, true≢false}
use mathlib.Core.List.{List}
use mathlib.Core.Logic.{inr}
use mathlib.Core.Path.{◌≡◌, sym, ◌∙◌}
use Prim.Native.Nat.{ℕ, ◌+◌, ◌-◌, ◌<◌, ◌≤◌, min}
use native.Mathlib.Omega.{arith}
use Rattle.calendar.proofs.Leasts.{Least, Last}
use Rattle.days.proofs.Answers.{least_of, last_of}
use Rattle.held.specs.Lists.{list_held, list_least, list_last}
use Rattle.next.specs.Nearest.{Shifted, first_after, end_at, Later, Earlier, Earliest, Latest}
use Rattle.next.proofs.Nearer.{nearest_start}

-- what a search through frames answers in a range that ends within the window
module _ (fs : List (List ℕ)) (low high m : ℕ) (h : low < high) (t : high ≤ 52596000) where
  pub list_least_is : m ≡ list_least fs low high → Least (list_held fs) low high m
  unfolding list_least
  list_least_is e =
      let d : min high 52596000 ≡ high = omega arith in
      rw (e, d) (least_of (list_held fs) low high (omega arith))

  pub list_last_is : m ≡ list_last fs low high → Last (list_held fs) low high m
  unfolding list_last
  list_last_is e =
      let d : min high 52596000 ≡ high = omega arith in
      rw (e, d) (last_of (list_held fs) low high (omega arith))

-- the instants of held minutes from low up to high by an offset
module _ (held : ℕ → Bool) (offset low high : ℕ) where
  -- where no minute of the range is held, none lies between a and b
  none_between : (a b first past : ℕ) → first ≡ first_after offset low a → past ≡ end_at offset high b
      → ((m : ℕ) → first ≤ m → m < past → held m ≡ false) → (j : ℕ) → Shifted held offset low high j → a < j → j < b → ⊥
  none_between a b first past f t h j s l n =
      true≢false (sym s.holds ∙ h s.minute (omega (arith, s.from, s.becomes)) (omega (arith, s.below, s.becomes)))

  module _ (a b first past : ℕ) (f : first ≡ first_after offset low a) (t : past ≡ end_at offset high b) where
    module _ (h : (m : ℕ) → first ≤ m → m < past → held m ≡ false) where
      pub none_earliest : Earliest (Later a (Shifted held offset low high)) b b
      none_earliest = nearest_start _ _ _ (λ j s n. none_between a b first past f t h j s.0 s.1 n)

      pub none_latest : Latest (Earlier b (Shifted held offset low high)) a a
      none_latest = nearest_start _ _ _ (λ j s n. none_between a b first past f t h j s.0 n s.1)

    -- the least minute of the range becomes the earliest of those between
    pub least_earliest : (m r : ℕ) → r + offset ≡ m + 2880 → Least held first past m → m < past
        → Earliest (Later a (Shifted held offset low high)) b r
    least_earliest m r e l g =
        record {
          none = λ j s n. none_between a r first m f (omega arith) l.fails j s.0 s.1 n;
          found = inr (
            (record { minute = m; from = omega (arith, l.from); below = omega arith; holds = l.passes g; becomes = e }, omega (arith, l.from)),
            omega arith,
          );
        }

    -- and the last becomes the latest
    pub last_latest : (p r : ℕ) → r + offset + 1 ≡ p + 2880 → Last held first past p → first < p
        → Latest (Earlier b (Shifted held offset low high)) a r
    last_latest p r e l g =
        record {
          none = λ j s n. none_between r b p past (omega arith) t l.fails j s.0 n s.1;
          found = inr (
            (record { minute = p - 1; from = omega arith; below = omega (arith, l.to); holds = l.passes g; becomes = omega arith }, omega (arith, l.to)),
            omega arith,
          );
        }
