-- The c-th of the numbers that pass a test, by how many pass up to one of them.
use mathlib.Core.Bool.{Bool, true, cond}
use mathlib.Core.Path.{◌≡◌, refl, ap, ◌∙◌}
use Prim.Native.Nat.{ℕ, zero, suc, ◌+◌, ◌-◌, ◌<◌, ◌≤◌}
use native.Mathlib.Omega.{arith}
use Rattle.calendar.specs.Below.{count_from}
use Rattle.days.proofs.Nths.{nth_here, nth_on, nth_later, by_first, nth_lies}
use Rattle.days.specs.Search.{nth_from}
use Rattle.masks.proofs.MaskFroms.{digit_at_most}
use Rattle.zone.proofs.Good.{by_order}
use Rattle.framed.proofs.Counted.{one_counted}

module _ (test : ℕ → Bool) where
  -- d is at most the c-th exactly if no more than c pass up to d
  pub record Counted (c k i d : ℕ) : Type 0 where
    pub upto : d ≤ nth_from test c k i → count_from test (d + 1 - i) i ≤ c
    pub past : nth_from test c k i < d → c < count_from test (d + 1 - i) i

  pub nth_counted : (c k i d : ℕ) → 1 ≤ c → i ≤ d → d < i + k → test d ≡ true → Counted c k i d
  nth_counted c zero i d p l h t = absurd (omega arith)
  nth_counted c (suc k) i d p l h t = by_order i d (λ b. later b (λ a q. nth_counted a k (suc i) d q (omega arith) (omega arith) t)) same
    where
      first : count_from test (d + 1 - i) i ≡ cond (test i) 1 0 + count_from test (d - i) (suc i)
      first = let e : d + 1 - i ≡ suc (d - i) = omega arith in ap (λ (x : ℕ). count_from test x i) e

      moved : count_from test (d + 1 - suc i) (suc i) ≡ count_from test (d - i) (suc i)
      moved = let e : d + 1 - suc i ≡ d - i = omega arith in ap (λ (x : ℕ). count_from test x (suc i)) e

      same : d ≤ i → Counted c (suc k) i d
      same b =
          let e : d - i ≡ 0 = omega arith in
          let n : count_from test (d - i) (suc i) ≡ 0 = ap (λ (x : ℕ). count_from test x (suc i)) e in
          record { upto = λ q. omega (arith, first, n, digit_at_most (test i)); past = λ q. absurd (omega (arith, (nth_lies test c (suc k) i).0)) }

      later : i < d → ((a : ℕ) → 1 ≤ a → Counted a k (suc i) d) → Counted c (suc k) i d
      later b rest =
          by_first test c i
          (λ t₁ e.
          let a : count_from test (d + 1 - i) i ≡ 1 + count_from test (d - i) (suc i) = first ∙ rw t₁ refl in
          record {
            upto = λ q. absurd (omega (arith, nth_here test c k i t₁ e));
            past = λ q. omega (arith, a, one_counted test (d - i) (suc i) d (omega arith) (omega arith) t);
          })
          (λ t₁ n.
          let a : count_from test (d + 1 - i) i ≡ 1 + count_from test (d - i) (suc i) = first ∙ rw t₁ refl in
          let r = rest (c - 1) (omega arith) in
          record {
            upto = λ q. omega (arith, a, moved, r.upto (omega (arith, nth_on test c k i t₁ n)));
            past = λ q. omega (arith, a, moved, r.past (omega (arith, nth_on test c k i t₁ n)));
          })
          (λ f.
          let a : count_from test (d + 1 - i) i ≡ 0 + count_from test (d - i) (suc i) = first ∙ rw f refl in
          let r = rest c p in
          record {
            upto = λ q. omega (arith, a, moved, r.upto (omega (arith, nth_later test c k i f)));
            past = λ q. omega (arith, a, moved, r.past (omega (arith, nth_later test c k i f)));
          })
