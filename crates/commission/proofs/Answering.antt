-- Texts one behind the other in a buffer's front, and the answer there.
use Rattle.std.specs.Prelude.{Ok, Err}
use mathlib.Core.List.{List, [], ◌∷◌, ◌++◌, append_assoc, append-nil}
use mathlib.Core.Path.{◌≡◌, refl, sym, ap, subst, ◌∙◌}
use Prim.Native.Nat.{ℕ, ◌+◌, ◌<◌, ◌≤◌}
use native.Mathlib.Omega.{arith}
use borrow.Author.Tests.{lt-ltb}
use lib.ListN.{length, take, drop, length-append}
use lib.Seq.{take-length, take-append-add, take-append_seam, length-take-le}
use Rattle.compile.proofs.Compiling.{compile_long, plan_left}
use Rattle.compile.specs.Answers.{compiled_as, left_in}
use Rattle.compile.specs.Compiled.{Compiled, plan, refusal, compile}
use Rattle.compile.proofs.Refusing.{refusal_numbered}
use Rattle.compile.specs.Reasons.{reason_number, refusal_as}
use Rattle.compile.specs.declared.Refusal.{Refusal}
use Rattle.sheet.specs.Refusals.{too_long}
use Rattle.commission.specs.Answer.{answer_of, decimal, refusal_text}

-- "5 64" and LF
pub marked : refusal_text 5 64 ≡ 53 ∷ 32 ∷ 54 ∷ 52 ∷ 10 ∷ []
unfolding refusal_text decimal
marked = refl

module _ (out part rest post : List ℕ) (at : ℕ) where
  pub appended : at ≤ length out
      → take (at + length part) (take at out ++ ((take (length part) part ++ rest) ++ post)) ≡ take at out ++ part
  appended room =
      let whole = (take (length part) part ++ rest) ++ post in
      ap (λ (k : ℕ). take (k + length part) (take at out ++ whole)) (sym (length-take-le at out room))
      ∙ take-append-add (take at out) whole (length part)
      ∙ ap (λ (l : List ℕ). take at out ++ take (length part) ((l ++ rest) ++ post)) (take-length part)
      ∙ ap (λ (l : List ℕ). take at out ++ take (length part) l) (append_assoc part rest post)
      ∙ ap (λ (l : List ℕ). take at out ++ l) (take-append_seam part (rest ++ post))

-- "sheet over 16,448 bytes": 1, line 0
pub too_long_lem : (text : List ℕ) (room : ℕ) → 16448 < length text → answer_of (compile text room) ≡ refusal_text 1 0
unfolding too_long
too_long_lem text room h = rw (compile_long text room (rw (lt-ltb 16448 (length text) h) refl)) refl

-- what is not read of such a sheet changes nothing
pub unread : (text rest : List ℕ) (room : ℕ) → 16448 < length text → answer_of (compile (text ++ rest) room) ≡ answer_of (compile text room)
unread text rest room h = too_long_lem (text ++ rest) room (omega (arith, h, length-append text rest)) ∙ sym (too_long_lem text room h)

-- a number, a space, a number and LF one behind the other
pub refusal_joined : (number line : ℕ) {a b c d : List ℕ} → a ≡ decimal number → b ≡ a ++ (32 ∷ []) → c ≡ b ++ decimal line
    → d ≡ c ++ (10 ∷ []) → d ≡ refusal_text number line
unfolding refusal_text
refusal_joined number line e f g h = h ∙ rw (g, f, e) refl

-- what is answered and left in the buffer
plan_in : (c : Compiled) (buffer : List ℕ) (k : ℕ) → Ok k ≡ compiled_as c → take k (left_in buffer c) ≡ answer_of c
plan_in (plan p) buffer k e = let h : k ≡ length p = cc in rw h (plan_left buffer p)
plan_in (refusal number line at size) buffer k e = cc

plan_short : (c : Compiled) (buffer : List ℕ) (k : ℕ) → Ok k ≡ compiled_as c → k ≤ length (left_in buffer c)
plan_short (plan p) buffer k e = let h : k ≡ length p = cc in omega (arith, h, length-append p (drop (length p) buffer))
plan_short (refusal number line at size) buffer k e = let z : ◌≡◌ {A = ℕ} 0 1 = cc in absurd (omega arith)

refusal_in : (c : Compiled) (r : Refusal)
    → ((number line at size : ℕ) → c ≡ refusal number line at size → reason_number (refusal_as number line at size).reason ≡ number)
    → Err r ≡ compiled_as c → refusal_text (reason_number r.reason) r.line ≡ answer_of c
refusal_in (plan p) r n e = cc
refusal_in (refusal number line at size) r n e =
    let h : r ≡ refusal_as number line at size = cc in rw (h, n number line at size refl) refl

none_more : (sheet more : List ℕ) → length more ≤ 0 → sheet ≡ sheet ++ more
none_more sheet [] h = sym (append-nil sheet)
none_more sheet (x ∷ xs) h = absurd (omega (arith, h))

-- a sheet that was read whole
module _ (sheet more buffer : List ℕ) (last : length more ≤ 0) (room : 16448 ≡ length buffer) where
  whole : compile sheet (length buffer) ≡ compile (sheet ++ more) 16448
  whole = ap (λ (n : ℕ). compile sheet n) (sym room) ∙ ap (λ (l : List ℕ). compile l 16448) (none_more sheet more last)

  pub planned : (left : List ℕ) (k : ℕ) → Ok k ≡ compiled_as (compile sheet (length buffer))
      → left ≡ left_in buffer (compile sheet (length buffer)) → (k ≤ length left) × (take k left ≡ answer_of (compile (sheet ++ more) 16448))
  planned left k e f =
      let c = compile sheet (length buffer) in
      (subst (λ (l : List ℕ). k ≤ length l) (sym f) (plan_short c buffer k e), ap (take k) f ∙ plan_in c buffer k e ∙ ap answer_of whole)

  pub refused : (r : Refusal) → Err r ≡ compiled_as (compile sheet (length buffer))
      → refusal_text (reason_number r.reason) r.line ≡ answer_of (compile (sheet ++ more) 16448)
  refused r e = refusal_in (compile sheet (length buffer)) r (refusal_numbered sheet (length buffer)) e ∙ ap answer_of whole
