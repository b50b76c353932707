-- What the least and the last of a range of numbers are, that there is one of each, and how a search builds them up.
use mathlib.Core.Path.{◌≡◌, sym, ◌∙◌}
use mathlib.Core.Bool.{Bool, true, false, true≢false}
use mathlib.Core.Logic.{dite}
use Prim.Native.Nat.{ℕ, zero, suc, ◌+◌, ◌-◌, ◌<◌, ◌≤◌}
use native.Mathlib.Omega.{arith}
use native.Mathlib.Decide.{dec_lt}
use Rattle.calendar.specs.Below.{least_from, last_from}
use Rattle.calendar.proofs.Every.{decided}

-- r is the least of the numbers from low up to high that passes, or high
pub record Least (test : ℕ → Bool) (low high r : ℕ) : Type 0 where
  pub from : low ≤ r
  pub to : r ≤ high
  pub passes : r < high → test r ≡ true
  pub fails : (j : ℕ) → low ≤ j → j < r → test j ≡ false

-- r is one more than the greatest of them that passes, or low
pub record Last (test : ℕ → Bool) (low high r : ℕ) : Type 0 where
  pub from : low ≤ r
  pub to : r ≤ high
  pub passes : low < r → test (r - 1) ≡ true
  pub fails : (j : ℕ) → r ≤ j → j < high → test j ≡ false

pub least_from_lem : (test : ℕ → Bool) (k i : ℕ) → Least test i (i + k) (least_from test k i)
unfolding least_from
least_from_lem test zero i =
    record { from = omega arith; to = omega arith; passes = λ h. absurd (omega arith); fails = λ j a b. absurd (omega arith) }
least_from_lem test (suc k) i =
    decided (test i)
    (λ (t : test i ≡ true).
    rw (t, least_from)
    (record { from = omega arith; to = omega arith; passes = λ h. t; fails = λ j a b. absurd (omega arith) }))
    (λ (f : test i ≡ false).
    let r = least_from_lem test k (suc i) in
    rw (f, least_from)
    (record {
      from = omega (arith, r.from);
      to = omega (arith, r.to);
      passes = λ h. r.passes (omega arith);
      fails = λ j a b.
          dite (dec_lt i j) (λ (l : i < j). r.fails j l b) (λ (g : i < j → ⊥). let e : j ≡ i = omega arith in rw e f);
    }))

pub last_from_lem : (test : ℕ → Bool) (k i : ℕ) → Last test i (i + k) (last_from test k i)
unfolding last_from
last_from_lem test zero i =
    record { from = omega arith; to = omega arith; passes = λ h. absurd (omega arith); fails = λ j a b. absurd (omega arith) }
last_from_lem test (suc k) i =
    decided (test (i + k))
    (λ (t : test (i + k) ≡ true).
    let e : i + k + 1 - 1 ≡ i + k = omega arith in
    rw (t, last_from)
    (record { from = omega arith; to = omega arith; passes = λ h. rw e t; fails = λ j a b. absurd (omega arith) }))
    (λ (f : test (i + k) ≡ false).
    let r = last_from_lem test k i in
    rw (f, last_from)
    (record {
      from = r.from;
      to = omega (arith, r.to);
      passes = r.passes;
      fails = λ j a b.
          dite (dec_lt j (i + k)) (λ (l : j < i + k). r.fails j a l) (λ (g : j < i + k → ⊥). let e : j ≡ i + k = omega arith in rw e f);
    }))

earlier_least : (test : ℕ → Bool) (low high r s : ℕ) → Least test low high r → Least test low high s → r < s → ⊥
earlier_least test low high r s a b h = true≢false (sym (a.passes (omega (arith, b.to))) ∙ b.fails r a.from h)

-- two answers that are both least are equal
pub least_unique : (test : ℕ → Bool) (low high r s : ℕ) → Least test low high r → Least test low high s → r ≡ s
least_unique test low high r s a b =
    dite (dec_lt r s) (λ (l : r < s). absurd (earlier_least test low high r s a b l))
    (λ (g : r < s → ⊥).
    dite (dec_lt s r) (λ (l : s < r). absurd (earlier_least test low high s r b a l)) (λ (k : s < r → ⊥). omega arith))

later_last : (test : ℕ → Bool) (low high r s : ℕ) → Last test low high r → Last test low high s → r < s → ⊥
later_last test low high r s a b h =
    true≢false (sym (b.passes (omega (arith, a.from))) ∙ a.fails (s - 1) (omega arith) (omega (arith, b.to)))

pub last_unique : (test : ℕ → Bool) (low high r s : ℕ) → Last test low high r → Last test low high s → r ≡ s
last_unique test low high r s a b =
    dite (dec_lt r s) (λ (l : r < s). absurd (later_last test low high r s a b l))
    (λ (g : r < s → ⊥).
    dite (dec_lt s r) (λ (l : s < r). absurd (later_last test low high s r b a l)) (λ (k : s < r → ⊥). omega arith))

-- numbers that fail may stand before the least
pub least_after : (test : ℕ → Bool) (low mid high r : ℕ) → low ≤ mid → ((j : ℕ) → low ≤ j → j < mid → test j ≡ false)
    → Least test mid high r → Least test low high r
least_after test low mid high r h f a =
    record {
      from = omega (arith, a.from);
      to = a.to;
      passes = a.passes;
      fails = λ j l b. dite (dec_lt j mid) (λ (g : j < mid). f j l g) (λ (g : j < mid → ⊥). a.fails j (omega arith) b);
    }

-- and after the last
pub last_before : (test : ℕ → Bool) (low mid high r : ℕ) → mid ≤ high → ((j : ℕ) → mid ≤ j → j < high → test j ≡ false)
    → Last test low mid r → Last test low high r
last_before test low mid high r h f a =
    record {
      from = a.from;
      to = omega (arith, a.to);
      passes = a.passes;
      fails = λ j l b. dite (dec_lt j mid) (λ (g : j < mid). a.fails j l g) (λ (g : j < mid → ⊥). f j (omega arith) b);
    }

pub least_here : (test : ℕ → Bool) (low high : ℕ) → low < high → test low ≡ true → Least test low high low
least_here test low high h t =
    record { from = omega arith; to = omega arith; passes = λ l. t; fails = λ j a b. absurd (omega arith) }

pub least_none : (test : ℕ → Bool) (low high : ℕ) → low ≤ high → ((j : ℕ) → low ≤ j → j < high → test j ≡ false) → Least test low high high
least_none test low high h f = record { from = h; to = omega arith; passes = λ l. absurd (omega arith); fails = f }

pub last_here : (test : ℕ → Bool) (low r : ℕ) → low < r → test (r - 1) ≡ true → Last test low r r
last_here test low r h t =
    record { from = omega arith; to = omega arith; passes = λ l. t; fails = λ j a b. absurd (omega arith) }

pub last_none : (test : ℕ → Bool) (low high : ℕ) → low ≤ high → ((j : ℕ) → low ≤ j → j < high → test j ≡ false) → Last test low high low
last_none test low high h f = record { from = omega arith; to = h; passes = λ l. absurd (omega arith); fails = f }

-- tests that agree on the range have the same least
pub least_same : (test other : ℕ → Bool) (low high r : ℕ) → ((j : ℕ) → low ≤ j → j < high → test j ≡ other j) → Least test low high r
    → Least other low high r
least_same test other low high r e a =
    record {
      from = a.from;
      to = a.to;
      passes = λ h. sym (e r a.from h) ∙ a.passes h;
      fails = λ j l b. sym (e j l (omega (arith, a.to))) ∙ a.fails j l b;
    }

pub last_same : (test other : ℕ → Bool) (low high r : ℕ) → ((j : ℕ) → low ≤ j → j < high → test j ≡ other j) → Last test low high r
    → Last other low high r
last_same test other low high r e a =
    record {
      from = a.from;
      to = a.to;
      passes = λ h. sym (e (r - 1) (omega (arith, h)) (omega (arith, h, a.to))) ∙ a.passes h;
      fails = λ j l b. sym (e j (omega (arith, a.from)) b) ∙ a.fails j l b;
    }
