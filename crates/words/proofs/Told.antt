-- Times and offsets as they were worked out: in range, or not.
use Rattle.std.specs.Prelude.{Option, None, Some}
use mathlib.Core.Bool.{Bool, true, false, cond}
use mathlib.Core.Path.{◌≡◌, refl, sym, ap}
use Prim.Native.Nat.{ℕ}
use native.Mathlib.Omega.{arith}
use Rattle.sheet.specs.Range.{time_in_range, minute_of, shift_in_range, offset_of_shift}
use Rattle.words.specs.Answers.{time_as, shift_as}
use Rattle.words.specs.Times.{local_minute, offset_from}
use Rattle.words.specs.declared.cursor.Shift.{Shift}
use Rattle.words.specs.declared.cursor.Time.{Time}

minute_in : Option ℕ → ℕ
minute_in (Some m) = m
minute_in None = 0

offset_in : Option ℕ → ℕ
offset_in (Some o) = o
offset_in None = 0

module _ (t : Time) where
  pub time_told : (m : ℕ) → Some m ≡ local_minute t → (time_in_range (time_as t) ≡ true) × (minute_of (time_as t) ≡ m)
  unfolding local_minute minute_in
  time_told m e = by_range (time_in_range (time_as t)) refl e
    where
      by_range : (b : Bool) → time_in_range (time_as t) ≡ b → Some m ≡ cond b (Some (minute_of (time_as t))) None
          → (time_in_range (time_as t) ≡ true) × (minute_of (time_as t) ≡ m)
      by_range true f e = (f, sym (ap minute_in e))
      by_range false f e = let z : ◌≡◌ {A = ℕ} 0 1 = cc in absurd (omega arith)

  pub time_outside : None ≡ local_minute t → time_in_range (time_as t) ≡ false
  unfolding local_minute
  time_outside e = by_range (time_in_range (time_as t)) refl e
    where
      by_range : (b : Bool) → time_in_range (time_as t) ≡ b → None ≡ cond b (Some (minute_of (time_as t))) None
          → time_in_range (time_as t) ≡ false
      by_range true f e = let z : ◌≡◌ {A = ℕ} 0 1 = cc in absurd (omega arith)
      by_range false f e = f

module _ (s : Shift) where
  pub shift_told : (o : ℕ) → Some o ≡ offset_from s → (shift_in_range (shift_as s) ≡ true) × (offset_of_shift (shift_as s) ≡ o)
  unfolding offset_from offset_in
  shift_told o e = by_range (shift_in_range (shift_as s)) refl e
    where
      by_range : (b : Bool) → shift_in_range (shift_as s) ≡ b → Some o ≡ cond b (Some (offset_of_shift (shift_as s))) None
          → (shift_in_range (shift_as s) ≡ true) × (offset_of_shift (shift_as s) ≡ o)
      by_range true f e = (f, sym (ap offset_in e))
      by_range false f e = let z : ◌≡◌ {A = ℕ} 0 1 = cc in absurd (omega arith)

  pub shift_outside : None ≡ offset_from s → shift_in_range (shift_as s) ≡ false
  unfolding offset_from
  shift_outside e = by_range (shift_in_range (shift_as s)) refl e
    where
      by_range : (b : Bool) → shift_in_range (shift_as s) ≡ b → None ≡ cond b (Some (offset_of_shift (shift_as s))) None
          → shift_in_range (shift_as s) ≡ false
      by_range true f e = let z : ◌≡◌ {A = ℕ} 0 1 = cc in absurd (omega arith)
      by_range false f e = f
