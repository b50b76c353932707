-- A line of one kind, read from its text's front on to its end.
use Rattle.std.specs.Prelude.{Option, None, Some, Result, Ok, Err}
use mathlib.Core.Bool.{Bool, true, false, cond}
use mathlib.Core.List.{List, [], ◌++◌, append-nil}
use mathlib.Core.Path.{◌≡◌, refl, sym, ap, ◌∙◌}
use Prim.Native.Nat.{ℕ, ◌+◌}
use native.Mathlib.Nat.{zero-add}
use native.Mathlib.Omega.{arith}
use borrow.Author.Tests.{eqb-true, eqb-false}
use lib.Dec.{eqb}
use lib.ListN.{length}
use Rattle.std.specs.Option.{ok_or}
use Rattle.std.specs.Result.{IsErrAnd}
use Rattle.plan.specs.declared.Frame.{Frame}
use Rattle.sheet.specs.Form.{Form}
use Rattle.sheet.specs.Place.{in_place}
use Rattle.words.proofs.Tied.{Tied, whole_none, whole_all, whole_part}
use Rattle.line.specs.Lined.{before_as, context_as, lined_form, standing}
use Rattle.line.specs.declared.Context.{Context}
use Rattle.line.specs.declared.Refusal.{Refusal}
use Rattle.line.proofs.Refusing.{out_of_place}

-- a value and the place after it
pub read_pair : {A B : Type 0} (x y : A × B) → Some x ≡ Some y → (x.0 ≡ y.0) × (x.1 ≡ y.1)
read_pair {A} {B} x y e = let k : x ≡ y = cc in (ap (λ (p : A × B). p.0) k, ap (λ (p : A × B). p.1) k)

-- ---- `?` on what was not read, and on a refusal
pub not_read : {A : Type 0} (r : Result Frame Refusal) (x e : Refusal) (o : Option A) → IsErrAnd r (λ y. y ≡ x) → Err x ≡ ok_or o e → r ≡ Err e
not_read (Err y) x e None g h = let k : x ≡ e = cc in ap Err (g ∙ k)
not_read (Err y) x e (Some a) g h = let z : ◌≡◌ {A = ℕ} 0 1 = cc in absurd (omega arith)
not_read (Ok f) x e o g h = absurd g

pub passed_on : (r : Result Frame Refusal) (x : Refusal) → IsErrAnd r (λ y. y ≡ x) → r ≡ Err x
passed_on (Err y) x g = ap Err g
passed_on (Ok f) x g = absurd g

-- the whole text, and nothing after it
pub all_of_it : (s : List ℕ) → s ≡ s ++ []
all_of_it s = sym (append-nil s)

pub to_end : {A : Type 0} (s : List ℕ) (form : Option A) (read : Option (A × ℕ)) → Tied form read 0 (0 + length s) → Tied form read 0 (length s)
to_end s form read t = rw zero-add at t

-- what was read, as the line's form
module _ (c : Context) (form : Option Form) (read : Option (Form × ℕ)) (end : ℕ) (t : Tied form read 0 end) where
  pub lined_not : read ≡ None → Err Refusal.Form ≡ lined_form (context_as c) form
  unfolding lined_form
  lined_not e = rw (t.whole, e, whole_none {A = Form} end) refl

  module _ (f : Form) (e : ℕ) (r : read ≡ Some (f, e)) where
    lined_short : (e ≡ end → ⊥) → Err Refusal.Form ≡ lined_form (context_as c) form
    unfolding lined_form
    lined_short n = rw (t.whole, r, whole_part (f, e) end n) refl

    form_whole : e ≡ end → form ≡ Some f
    form_whole n = t.whole ∙ rw r (whole_all (f, e) end n)

    module _ (b : Bool) (p : in_place (before_as c.before) f ≡ b) where
      -- it does not end the line, or may not stand there
      pub lined_standing : (x : Refusal) → Err x ≡ standing {A = Unit {0}} end e b (Ok tt) → Err x ≡ lined_form (context_as c) form
      unfolding standing
      lined_standing x = by_end (eqb e end) refl b p
        where
          by_end : (a : Bool) → eqb e end ≡ a → (d : Bool) → in_place (before_as c.before) f ≡ d
              → Err x ≡ cond {A = Result (Unit {0}) Refusal} a (cond d (Ok tt) (Err Refusal.Place)) (Err Refusal.Form)
              → Err x ≡ lined_form (context_as c) form
          by_end true a true q h = let z : ◌≡◌ {A = ℕ} 0 1 = cc in absurd (omega arith)
          by_end true a false q h = let y : x ≡ Refusal.Place = cc in rw y (out_of_place (context_as c) form f (form_whole (eqb-true e end a)) q)
          by_end false a d q h = let y : x ≡ Refusal.Form = cc in rw y (lined_short (eqb-false e end a))

      -- it does, and may
      pub stands : Ok tt ≡ standing {A = Unit {0}} end e b (Ok tt) → (form ≡ Some f) × (in_place (before_as c.before) f ≡ true)
      unfolding standing
      stands = by_end (eqb e end) refl b p
        where
          by_end : (a : Bool) → eqb e end ≡ a → (d : Bool) → in_place (before_as c.before) f ≡ d
              → Ok tt ≡ cond {A = Result (Unit {0}) Refusal} a (cond d (Ok tt) (Err Refusal.Place)) (Err Refusal.Form)
              → (form ≡ Some f) × (in_place (before_as c.before) f ≡ true)
          by_end true a true q h = (form_whole (eqb-true e end a), q)
          by_end true a false q h = let z : ◌≡◌ {A = ℕ} 0 1 = cc in absurd (omega arith)
          by_end false a d q h = let z : ◌≡◌ {A = ℕ} 0 1 = cc in absurd (omega arith)
