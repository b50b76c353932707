-- The c-th of the numbers that pass a test: by the first of them, by the least again and again, by the count of a part, and along another range.
use mathlib.Core.Bool.{Bool, true, false, cond}
use mathlib.Core.Path.{◌≡◌, refl, sym, ap, ap₂, ◌∙◌}
use Prim.Native.Nat.{ℕ, zero, suc, ◌+◌, ◌-◌, ◌<◌, ◌≤◌}
use native.Mathlib.Omega.{arith}
use borrow.Author.Tests.{eq-eqb, ne_eqb, eqb-true, eqb-false}
use lib.Dec.{eqb}
use Rattle.calendar.proofs.Every.{decided}
use Rattle.calendar.specs.Below.{count_from, least_from}
use Rattle.days.specs.Search.{nth_from}

module _ (test : ℕ → Bool) where
  -- the first of the numbers is the c-th, or is passed and counted, or is passed
  module _ (c k i : ℕ) where
    pub nth_here : test i ≡ true → c ≡ 1 → nth_from test c (suc k) i ≡ i
    unfolding nth_from
    nth_here t e = rw (t, nth_from) (rw (eq-eqb c 1 e, nth_from) refl)

    pub nth_on : test i ≡ true → (c ≡ 1 → ⊥) → nth_from test c (suc k) i ≡ nth_from test (c - 1) k (suc i)
    unfolding nth_from
    nth_on t n = rw (t, nth_from) (rw (ne_eqb c 1 n, nth_from) refl)

    pub nth_later : test i ≡ false → nth_from test c (suc k) i ≡ nth_from test c k (suc i)
    unfolding nth_from
    nth_later f = rw (f, nth_from) refl

  pub by_first : {A : Type 0} (c i : ℕ) → (test i ≡ true → c ≡ 1 → A) → (test i ≡ true → (c ≡ 1 → ⊥) → A) → (test i ≡ false → A) → A
  by_first c i here on later =
      decided (test i)
      (λ (t : test i ≡ true). decided (eqb c 1) (λ (e : eqb c 1 ≡ true). here t (eqb-true c 1 e)) (λ (n : eqb c 1 ≡ false). on t (eqb-false c 1 n)))
      later

  pub nth_zero : (k i : ℕ) → nth_from test 0 k i ≡ i + k
  unfolding nth_from
  nth_zero zero i = omega arith
  nth_zero (suc k) i =
      let e : suc i + k ≡ i + suc k = omega arith in
      decided (test i) (λ (t : test i ≡ true). rw (t, nth_from) (nth_zero k (suc i) ∙ e))
      (λ (f : test i ≡ false). rw (f, nth_from) (nth_zero k (suc i) ∙ e))

  -- it is one of them, or the first past them
  pub nth_lies : (c k i : ℕ) → (i ≤ nth_from test c k i) × (nth_from test c k i ≤ i + k)
  unfolding nth_from
  nth_lies c zero i = (omega arith, omega arith)
  nth_lies c (suc k) i =
      by_first c i (λ t e. let s = nth_here c k i t e in (omega (arith, s), omega (arith, s)))
      (λ t n. let s = nth_on c k i t n in let a = nth_lies (c - 1) k (suc i) in (omega (arith, s, a.0), omega (arith, s, a.1)))
      (λ f. let s = nth_later c k i f in let a = nth_lies c k (suc i) in (omega (arith, s, a.0), omega (arith, s, a.1)))

  pub nth_one : (k i : ℕ) → nth_from test 1 k i ≡ least_from test k i
  unfolding nth_from least_from
  nth_one zero i = refl
  nth_one (suc k) i =
      decided (test i) (λ (t : test i ≡ true). rw (t, nth_from, least_from))
      (λ (f : test i ≡ false). rw (f, nth_from, least_from) (nth_one k (suc i)))

  pub nth_none : (c k i : ℕ) → least_from test k i ≡ i + k → nth_from test c k i ≡ i + k
  unfolding nth_from least_from
  nth_none c zero i e = omega arith
  nth_none c (suc k) i e =
      let s : suc i + k ≡ i + suc k = omega arith in
      decided (test i)
      (λ (t : test i ≡ true). let z : i ≡ i + suc k = rw (t, least_from) at e in absurd (omega arith))
      (λ (f : test i ≡ false). rw (f, nth_from) (nth_none c k (suc i) ((rw (f, least_from) at e) ∙ sym s) ∙ s))

  pub nth_next : (c k i : ℕ) → (c ≡ 1 → ⊥) → least_from test k i < i + k
      → nth_from test c k i ≡ nth_from test (c - 1) (i + k - (least_from test k i + 1)) (least_from test k i + 1)
  unfolding nth_from least_from
  nth_next c zero i n h = absurd (omega arith)
  nth_next c (suc k) i n h =
      let s : suc i + k ≡ i + suc k = omega arith in
      decided (test i)
      (λ (t : test i ≡ true).
      let u : i + suc k - (i + 1) ≡ k = omega arith in
      let v : i + 1 ≡ suc i = omega arith in
      rw (t, nth_from, least_from) (rw (ne_eqb c 1 n, nth_from) (rw (u, v))))
      (λ (f : test i ≡ false).
      rw (f, nth_from, least_from)
      (nth_next c k (suc i) n (rw s (rw (f, least_from) at h))
      ∙ ap (λ (x : ℕ). nth_from test (c - 1) (x - (least_from test k (suc i) + 1)) (least_from test k (suc i) + 1)) s))

  -- a part that holds fewer is passed by its count
  pub nth_past : (c j k i : ℕ) → count_from test j i < c → nth_from test c (j + k) i ≡ nth_from test (c - count_from test j i) k (i + j)
  unfolding nth_from
  nth_past c zero k i h =
      let e : 0 + k ≡ k = omega arith in
      let z : i ≡ i + 0 = omega arith in
      let d : c ≡ c - 0 = omega arith in
      ap (λ (x : ℕ). nth_from test c x i) e ∙ ap₂ (λ (x y : ℕ). nth_from test x k y) d z
  nth_past c (suc j) k i h =
      let e : suc j + k ≡ suc (j + k) = omega arith in
      let s : suc i + j ≡ i + suc j = omega arith in
      let m : ℕ = count_from test j (suc i) in
      rw e
      (decided (test i)
      (λ (t : test i ≡ true).
      let g : 1 + m < c = rw t at h in
      let d : c - 1 - m ≡ c - (1 + m) = omega arith in
      rw (t, nth_from)
      (rw (ne_eqb c 1 (omega arith), nth_from) (nth_past (c - 1) j k (suc i) (omega arith) ∙ ap₂ (λ (x y : ℕ). nth_from test x k y) d s)))
      (λ (f : test i ≡ false).
      let g : 0 + m < c = rw f at h in
      let d : c - m ≡ c - (0 + m) = omega arith in
      rw (f, nth_from) (nth_past c j k (suc i) (omega arith) ∙ ap₂ (λ (x y : ℕ). nth_from test x k y) d s)))

  -- one that holds as many has it
  pub nth_within : (c j k i : ℕ) → 1 ≤ c → c ≤ count_from test j i → nth_from test c (j + k) i ≡ nth_from test c j i
  unfolding nth_from
  nth_within c zero k i l h = absurd (omega arith)
  nth_within c (suc j) k i l h =
      let e : suc j + k ≡ suc (j + k) = omega arith in
      rw e
      (by_first c i (λ t o. nth_here c (j + k) i t o ∙ sym (nth_here c j i t o))
      (λ t o.
      let g : c ≤ 1 + count_from test j (suc i) = rw t at h in
      nth_on c (j + k) i t o ∙ nth_within (c - 1) j k (suc i) (omega arith) (omega arith) ∙ sym (nth_on c j i t o))
      (λ f.
      let g : c ≤ 0 + count_from test j (suc i) = rw f at h in
      nth_later c (j + k) i f ∙ nth_within c j k (suc i) l (omega arith) ∙ sym (nth_later c j i f)))

  -- of none there is no count
  pub count_none : (k i : ℕ) → ((j : ℕ) → i ≤ j → test j ≡ false) → count_from test k i ≡ 0
  count_none zero i none = refl
  count_none (suc k) i none = rw (none i (omega arith), count_none k (suc i) (λ j h. none j (omega arith)))

-- two tests that agree along two ranges count alike, and have their c-th at the same place
module _ (test other : ℕ → Bool) where
  next_agrees : (k i j : ℕ) → ((x : ℕ) → x < suc k → test (i + x) ≡ other (j + x)) → (x : ℕ) → x < k → test (suc i + x) ≡ other (suc j + x)
  next_agrees k i j e x h =
      let a : suc i + x ≡ i + suc x = omega arith in
      let b : suc j + x ≡ j + suc x = omega arith in
      rw (a, b) (e (suc x) (omega arith))

  first_agrees : (k i j : ℕ) → ((x : ℕ) → x < suc k → test (i + x) ≡ other (j + x)) → test i ≡ other j
  first_agrees k i j e =
      let a : i + 0 ≡ i = omega arith in
      let b : j + 0 ≡ j = omega arith in
      ap test (sym a) ∙ e 0 (omega arith) ∙ ap other b

  pub count_along : (k i j : ℕ) → ((x : ℕ) → x < k → test (i + x) ≡ other (j + x)) → count_from test k i ≡ count_from other k j
  count_along zero i j e = refl
  count_along (suc k) i j e =
      ap₂ (λ (b : Bool) (x : ℕ). cond b 1 0 + x) (first_agrees k i j e) (count_along k (suc i) (suc j) (next_agrees k i j e))

  pub nth_along : (c k i j : ℕ) → ((x : ℕ) → x < k → test (i + x) ≡ other (j + x)) → nth_from test c k i + j ≡ nth_from other c k j + i
  unfolding nth_from
  nth_along c zero i j e = omega arith
  nth_along c (suc k) i j e =
      let o = first_agrees k i j e in
      let rest : (d : ℕ) → nth_from test d k (suc i) + suc j ≡ nth_from other d k (suc j) + suc i =
      λ d. nth_along d k (suc i) (suc j) (next_agrees k i j e) in
      by_first test c i (λ t n. omega (arith, nth_here test c k i t n, nth_here other c k j (sym o ∙ t) n))
      (λ t n. omega (arith, rest (c - 1), nth_on test c k i t n, nth_on other c k j (sym o ∙ t) n))
      (λ f. omega (arith, rest c, nth_later test c k i f, nth_later other c k j (sym o ∙ f)))

  -- within one range it is the same
  pub nth_same : (c k i : ℕ) → ((j : ℕ) → i ≤ j → j < i + k → test j ≡ other j) → nth_from test c k i ≡ nth_from other c k i
  nth_same c k i e = omega (arith, nth_along c k i i (λ x h. e (i + x) (omega arith) (omega arith)))
