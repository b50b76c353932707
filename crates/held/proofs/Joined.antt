-- The least and the last of two tests together, and the frames of a list one after the other.
use mathlib.Core.Bool.{Bool, false, ◌||◌, or-true, or-false, or_assoc}
use mathlib.Core.List.{List, [], ◌∷◌}
use mathlib.Core.Logic.{dite}
use mathlib.Core.Path.{◌≡◌, refl, sym, ap, ◌∙◌}
use Prim.Native.Nat.{ℕ, zero, suc, ◌+◌, ◌-◌, ◌<◌, ◌≤◌, min}
use native.Mathlib.Decide.{dec_lt}
use native.Mathlib.Omega.{arith}
use lib.ListN.{get_or, take}
use Rattle.std.specs.List.{list_any}
use Rattle.calendar.proofs.Leasts.{Least, Last}
use Rattle.calendar.specs.Below.{any_of}
use Rattle.held.specs.Lists.{frame_excepts, any_held, any_excepts}
use Rattle.held.specs.Minutes.{frame_held}
use Rattle.held.specs.Minutes.{least_minute, last_minute}
use Rattle.days.proofs.Answers.{least_of, last_of}

-- what the first answer leaves is searched by the second test
pub least_either : (t u both : ℕ → Bool) (low high b r : ℕ) → ((m : ℕ) → both m ≡ (t m || u m)) → Least t low high b → Least u low b r
    → Least both low high r
least_either t u both low high b r e p q =
    record {
      from = q.from;
      to = omega (arith, p.to, q.to);
      passes = λ h.
          dite (dec_lt r b) (λ (l : r < b). e r ∙ rw (q.passes l) (or-true (t r)))
          (λ (g : r < b → ⊥).
          let s : b ≡ r = omega (arith, q.to) in
          e r ∙ ap (λ (x : Bool). x || u r) (rw s at (p.passes (omega arith))));
      fails = λ j l h. e j ∙ rw (p.fails j l (omega (arith, q.to)), q.fails j l h);
    }

pub last_either : (t u both : ℕ → Bool) (low high b r : ℕ) → ((m : ℕ) → both m ≡ (t m || u m)) → Last t low high b → Last u b high r
    → Last both low high r
last_either t u both low high b r e p q =
    record {
      from = omega (arith, p.from, q.from);
      to = q.to;
      passes = λ h.
          dite (dec_lt b r) (λ (l : b < r). e (r - 1) ∙ rw (q.passes l) (or-true (t (r - 1))))
          (λ (g : b < r → ⊥).
          let s : b ≡ r = omega (arith, q.from) in
          e (r - 1) ∙ ap (λ (x : Bool). x || u (r - 1)) (rw s at (p.passes (omega arith))));
      fails = λ j l h. e j ∙ rw (p.fails j (omega (arith, q.from)) h, q.fails j l h);
    }

-- one frame more; a frame past the end holds nothing
pub any_next : (test : List ℕ → Bool) → test [] ≡ false → (fs : List (List ℕ)) (i : ℕ)
    → any_of test (take (suc i) fs) ≡ (any_of test (take i fs) || test (get_or fs i []))
any_next test n [] zero = sym n
any_next test n [] (suc i) = sym n
any_next test n (x ∷ xs) zero = or-false (test x)
any_next test n (x ∷ xs) (suc i) =
    ap (λ (b : Bool). test x || b) (any_next test n xs i) ∙ sym (or_assoc (test x) (any_of test (take i xs)) (test (get_or xs i [])))

-- the library's word for the same
some_is : (test : List ℕ → Bool) (fs : List (List ℕ)) → any_of test fs ≡ list_any test fs
some_is test [] = refl
some_is test (f ∷ fs) = ap (λ (b : Bool). test f || b) (some_is test fs)

pub excepts_is : (fs : List (List ℕ)) (m : ℕ) → any_excepts fs m ≡ list_any (λ (l : List ℕ). frame_excepts l m) fs
excepts_is fs m = some_is (λ (l : List ℕ). frame_excepts l m) fs

none_holds : (m : ℕ) → frame_held [] m ≡ false
unfolding frame_held
none_holds m = refl

pub held_next : (fs : List (List ℕ)) (i m : ℕ) → any_held (take (i + 1) fs) m ≡ (any_held (take i fs) m || frame_held (get_or fs i []) m)
held_next fs i m =
    let e : i + 1 ≡ suc i = omega arith in rw e (any_next (λ (l : List ℕ). frame_held l m) (none_holds m) fs i)

-- a frame's answer in a range that ends within the window
pub least_minute_least : (l : List ℕ) (low high : ℕ) → low ≤ high → high ≤ 52596000 → Least (frame_held l) low high (least_minute l low high)
unfolding least_minute
least_minute_least l low high h t =
    let e : min high 52596000 ≡ high = omega arith in
    rw e (least_of (frame_held l) low high h)

pub last_minute_last : (l : List ℕ) (low high : ℕ) → low ≤ high → high ≤ 52596000 → Last (frame_held l) low high (last_minute l low high)
unfolding last_minute
last_minute_last l low high h t =
    let e : min high 52596000 ≡ high = omega arith in
    rw e (last_of (frame_held l) low high h)
