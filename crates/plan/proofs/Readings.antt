-- A line read digit by digit is the line read by its bytes.
use Rattle.std.specs.Prelude.{Option, None, Some}
use mathlib.Core.Bool.{Bool, true, false, cond, ◌&&◌, and-eq-true_iff}
use mathlib.Core.List.{List, [], ◌∷◌}
use mathlib.Core.Path.{◌≡◌, refl, sym, ◌∙◌}
use Prim.Native.Nat.{ℕ, ◌+◌, ◌/◌, ◌≤◌}
use native.Mathlib.Omega.{arith}
use borrow.Author.Tests.{eqb-true}
use lib.Dec.{eqb}
use lib.ListN.{length}
use Rattle.hex_lines.proofs.Numbers.{two_digits, number_is_field, number_outside}
use Rattle.hex_lines.proofs.Spelt.{is_some, spells_some}
use Rattle.hex_lines.specs.Hex.{line_bytes, spells, bytes_number, field, number_at}
use Rattle.plan.specs.Read.{line_read}
use Rattle.plan.specs.Text.{cron_from, rule_from, frame_from, bytes_frame, line_frame}
use Rattle.plan.specs.declared.Frame.{Frame}

either_way : (t : Bool) {x y z w : Option Frame} → (t ≡ true → x ≡ y) → z ≡ w → cond t x z ≡ cond t y w
either_way true a b = a refl
either_way false a b = b

sized : (kind k n size : ℕ) → (eqb kind k && eqb n size) ≡ true → n ≡ size
sized kind k n size e = eqb-true n size ((and-eq-true_iff (eqb kind k) (eqb n size)).0 e).1

-- two ways to read the fields of n bytes that agree at every field
module _ (g h : ℕ → ℕ → ℕ) (n : ℕ) (same : (at k : ℕ) → at + k ≤ n → k ≤ 8 → g at k ≡ h at k) where
  same_cron : n ≡ 21 → cron_from g ≡ cron_from h
  unfolding cron_from
  same_cron s =
      simp
      (same 1 8 (omega arith) (omega arith), same 9 4 (omega arith) (omega arith), same 13 4 (omega arith) (omega arith), same 17 2 (omega arith) (omega arith), same 19 1 (omega arith) (omega arith), same 20 1 (omega arith) (omega arith))

  same_rule : n ≡ 41 → rule_from g ≡ rule_from h
  unfolding rule_from
  same_rule s =
      simp
      (same 1 1 (omega arith) (omega arith), same 2 2 (omega arith) (omega arith), same 4 4 (omega arith) (omega arith), same 8 4 (omega arith) (omega arith), same 12 1 (omega arith) (omega arith), same 13 4 (omega arith) (omega arith), same 17 4 (omega arith) (omega arith), same 21 5 (omega arith) (omega arith), same 26 5 (omega arith) (omega arith), same 31 4 (omega arith) (omega arith), same 35 4 (omega arith) (omega arith), same 39 2 (omega arith) (omega arith))

  same_frame : g 0 1 ≡ h 0 1 → frame_from g n ≡ frame_from h n
  unfolding frame_from
  same_frame e =
      let is : ℕ → ℕ → Bool = λ kind size. eqb (h 0 1) kind && eqb n size in
      let size : (kind s : ℕ) → is kind s ≡ true → n ≡ s = λ kind s t. sized (h 0 1) kind n s t in
      rw e
      (either_way (is 1 3) (λ t. let s = size 1 3 t in rw (same 1 2 (omega arith) (omega arith)))
      (either_way (is 2 7) (λ t. let s = size 2 7 t in rw (same 1 4 (omega arith) (omega arith), same 5 2 (omega arith) (omega arith)))
      (either_way (is 3 21) (λ t. rw (same_cron (size 3 21 t)))
      (either_way (is 4 41) (λ t. rw (same_rule (size 4 41 t)))
      (either_way (is 5 5) (λ t. let s = size 5 5 t in rw (same 1 4 (omega arith) (omega arith)))
      (either_way (is 6 5) (λ t. let s = size 6 5 t in rw (same 1 4 (omega arith) (omega arith)))
      (either_way (is 255 2) (λ t. let s = size 255 2 t in rw (same 1 1 (omega arith) (omega arith))) refl)))))))

-- the empty line has no kind in either reading
first_byte : (line bytes : List ℕ) → line_bytes line ≡ Some bytes → number_at line 0 1 ≡ field bytes 0 1
unfolding bytes_number
first_byte line [] e = sym (number_outside line 0 1 (omega (arith, two_digits line [] e)))
first_byte line (b ∷ bytes) e = number_is_field line (b ∷ bytes) e 0 1 (omega arith) (omega arith)

by_digits : (line bytes : List ℕ) → line_bytes line ≡ Some bytes → frame_from (number_at line) (length line / 2) ≡ line_frame line
unfolding line_frame bytes_frame
by_digits line bytes e =
    let n : length line / 2 ≡ length bytes = omega (arith, two_digits line bytes e) in
    rw (n, e, line_frame)
    (same_frame (number_at line) (field bytes) (length bytes) (number_is_field line bytes e) (first_byte line bytes e))

any_line : (line : List ℕ) (o : Option (List ℕ)) → line_bytes line ≡ o → is_some o ≡ true
    → frame_from (number_at line) (length line / 2) ≡ line_frame line
any_line line None e h = let z : ◌≡◌ {A = ℕ} 0 1 = cc in absurd (omega arith)
any_line line (Some bytes) e h = by_digits line bytes e

-- a line of digits
pub read_digits : (line : List ℕ) → spells line ≡ true → frame_from (number_at line) (length line / 2) ≡ line_read line
unfolding line_read
read_digits line h = any_line line (line_bytes line) refl (sym (spells_some line) ∙ h)

-- any other
no_line : (line : List ℕ) (o : Option (List ℕ)) → line_bytes line ≡ o → is_some o ≡ false → line_frame line ≡ None
unfolding line_frame
no_line line None e h = rw (e, line_frame)
no_line line (Some bytes) e h = let z : ◌≡◌ {A = ℕ} 0 1 = cc in absurd (omega arith)

pub read_other : (line : List ℕ) → spells line ≡ false → line_read line ≡ None
unfolding line_read
read_other line h = no_line line (line_bytes line) refl (sym (spells_some line) ∙ h)
