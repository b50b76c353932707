-- What a field and the space after it say of the five.
use Rattle.std.specs.Prelude.{Option, None, Some}
use mathlib.Core.Bool.{Bool, true, false, cond, ◌&&◌}
use mathlib.Core.List.{List}
use mathlib.Core.Path.{◌≡◌, refl, sym, ap, ◌∙◌}
use Prim.Native.Nat.{ℕ, ◌+◌, ◌-◌}
use native.Mathlib.Omega.{arith}
use lib.Dec.{eqb}
use lib.ListN.{get_or}
use Rattle.framed.specs.Framed.{cron_frame}
use Rattle.frames.specs.declared.Cron.{Cron}
use Rattle.masks.specs.Masks.{mask_from}
use Rattle.sheet.specs.Form.{Field as Form, Form as Line, cron}
use Rattle.sheet.specs.Meaning.{field_has, restricted}
use Rattle.sheet.specs.Range.{field_in_range, in_range}
use Rattle.words.specs.Answers.{made_read, then_at}
use Rattle.words.specs.Reads.{cursor}
use Rattle.words.specs.declared.cursor.Cursor.{Cursor}
use Rattle.fields.specs.Crons.{space_after, frame_as, cron_read, five_as}
use Rattle.fields.specs.Fields.{field_read, numbers_as, field_as, field_at}
use Rattle.fields.specs.declared.field.Field.{Field}

-- the last field
pub record Last (s : List ℕ) (low high at : ℕ) (numbers : Option Field) (next : Cursor) : Type 0 where
  pub form : Form
  pub numbered : numbers ≡ numbers_as low high form
  pub read : field_read s at ≡ Some (form, next.at)

-- a field and the space after it: what is read then begins there
pub record Spaced (s : List ℕ) (low high at : ℕ) (numbers : Option Field) (next : Cursor) : Type 0 where
  pub form : Form
  pub numbered : numbers ≡ numbers_as low high form
  pub read : (more : Form → ℕ → Option (Line × ℕ)) → then_at 32 s more (field_read s at) ≡ more form next.at

-- no field, or no space after it
abbrev pub NoneAt : List ℕ → ℕ → Type 0
NoneAt s at = (more : Form → ℕ → Option (Line × ℕ)) → then_at 32 s more (field_read s at) ≡ None

module _ (s : List ℕ) (low high at : ℕ) where
  pub last_not : None ≡ field_at low high s at → field_read s at ≡ None
  unfolding field_at field_as
  last_not e = by_read (field_read s at) e
    where
      by_read : (o : Option (Form × ℕ)) → None ≡ field_as low high o → o ≡ None
      by_read None e = refl
      by_read (Some r) e = let z : ◌≡◌ {A = ℕ} 0 1 = cc in absurd (omega arith)

  pub last_is : {numbers : Option Field} {next : Cursor} → Some (numbers, next) ≡ field_at low high s at → Last s low high at numbers next
  unfolding field_at field_as
  last_is {numbers} {next} e = by_read (field_read s at) refl e
    where
      by_read : (o : Option (Form × ℕ)) → field_read s at ≡ o → Some (numbers, next) ≡ field_as low high o → Last s low high at numbers next
      by_read None g e = let z : ◌≡◌ {A = ℕ} 0 1 = cc in absurd (omega arith)
      by_read (Some r) g e =
          let p : ◌≡◌ {A = Option Field × Cursor} (numbers, next) (numbers_as low high r.0, cursor r.1) = cc in
          let n : next ≡ cursor r.1 = ap (λ x. x.1) p in
          record { form = r.0; numbered = ap (λ x. x.0) p; read = rw n g }

  pub spaced_not : None ≡ space_after s (field_at low high s at) → NoneAt s at
  spaced_not e more = by_field (field_at low high s at) refl e
    where
      by_space : (b : Bool) (f : Option Field) (e : ℕ) (form : Form) → ◌≡◌ {A = Option (Option Field × Cursor)} None (cond b (Some (f, cursor (e + 1))) None) → cond b (more form (e + 1)) None ≡ None
      by_space true f e form z = let y : ◌≡◌ {A = ℕ} 0 1 = cc in absurd (omega arith)
      by_space false f e form z = refl

      by_field : (o : Option (Option Field × Cursor)) → field_at low high s at ≡ o → None ≡ space_after s o → then_at 32 s more (field_read s at) ≡ None
      by_field None g e = rw (last_not (sym g)) refl
      by_field (Some r) g e = let l = last_is (sym g) in rw l.read (by_space (eqb (get_or s r.1.at 0) 32) r.0 r.1.at l.form e)

  pub spaced_is : {numbers : Option Field} {next : Cursor} → Some (numbers, next) ≡ space_after s (field_at low high s at) → Spaced s low high at numbers next
  spaced_is {numbers} {next} e = by_field (field_at low high s at) refl e
    where
      by_space : (b : Bool) (f : Option Field) (c : Cursor) → Last s low high at f c → eqb (get_or s c.at 0) 32 ≡ b
          → ◌≡◌ {A = Option (Option Field × Cursor)} (Some (numbers, next)) (cond b (Some (f, cursor (c.at + 1))) None) → Spaced s low high at numbers next
      by_space true f c l k e =
          let p : ◌≡◌ {A = Option Field × Cursor} (numbers, next) (f, cursor (c.at + 1)) = cc in
          let i : numbers ≡ f = ap (λ x. x.0) p in
          let y : next ≡ cursor (c.at + 1) = ap (λ x. x.1) p in
          rw (i, y) (record { form = l.form; numbered = l.numbered; read = λ more. rw (l.read, k) refl })
      by_space false f c l k e = let z : ◌≡◌ {A = ℕ} 0 1 = cc in absurd (omega arith)

      by_field : (o : Option (Option Field × Cursor)) → field_at low high s at ≡ o → Some (numbers, next) ≡ space_after s o → Spaced s low high at numbers next
      by_field None g e = let z : ◌≡◌ {A = ℕ} 0 1 = cc in absurd (omega arith)
      by_field (Some r) g e = by_space (eqb (get_or s r.1.at 0) 32) r.0 r.1 (last_is (sym g)) refl e

-- the frame of five forms: all in range, or none
numbers_by : Bool → ℕ → ℕ → Form → Option Field
numbers_by b low high f = cond b (Some (record { mask = mask_from (field_has f) (high + 1 - low) low; restricted = restricted f })) None

frame_lem : (m h d mo w : Form)
    → frame_as (numbers_as 0 59 m) (numbers_as 0 23 h) (numbers_as 1 31 d) (numbers_as 1 12 mo) (numbers_as 0 6 w)
    ≡ cond (in_range (cron m h d mo w)) (Some (cron_frame m h d mo w)) None
unfolding in_range cron_frame numbers_by
frame_lem m h d mo w =
    by_range (field_in_range 0 59 m) (field_in_range 0 23 h) (field_in_range 1 31 d) (field_in_range 1 12 mo) (field_in_range 0 6 w)
  where
    by_range : (a b c e f : Bool)
        → frame_as (numbers_by a 0 59 m) (numbers_by b 0 23 h) (numbers_by c 1 31 d) (numbers_by e 1 12 mo) (numbers_by f 0 6 w)
        ≡ cond (a && (b && (c && (e && f)))) (Some (cron_frame m h d mo w)) None
    by_range true true true true true = refl
    by_range true true true true false = refl
    by_range true true true false f = refl
    by_range true true false e f = refl
    by_range true false c e f = refl
    by_range false b c e f = refl

-- ---- the five, one after the other: the first that is none, or all
module _ (s : List ℕ) (at : ℕ) where
  -- what is read after a field and its space: after four, after three, after two and after one
  abbrev after : (Form → ℕ → Option (Line × ℕ)) → ℕ → Option (Line × ℕ)
  after more e = then_at 32 s more (field_read s e)

  abbrev by_four : Form → Form → Form → Form → ℕ → Option (Line × ℕ)
  by_four m h d mo e = made_read (cron m h d mo) (field_read s e)

  abbrev by_three : Form → Form → Form → ℕ → Option (Line × ℕ)
  by_three m h d = after (by_four m h d)

  abbrev by_two : Form → Form → ℕ → Option (Line × ℕ)
  by_two m h = after (by_three m h)

  abbrev by_one : Form → ℕ → Option (Line × ℕ)
  by_one m = after (by_two m)

  pub no_minute : NoneAt s at → None ≡ five_as (cron_read s at)
  unfolding cron_read five_as
  no_minute n = sym (ap five_as (n by_one))

  module _ {minutes : Option Field} {c₁ : Cursor} (m : Spaced s 0 59 at minutes c₁) where
    pub no_hour : NoneAt s c₁.at → None ≡ five_as (cron_read s at)
    unfolding cron_read five_as
    no_hour n = sym (ap five_as (m.read by_one ∙ n (by_two m.form)))

    module _ {hours : Option Field} {c₂ : Cursor} (h : Spaced s 0 23 c₁.at hours c₂) where
      pub no_day : NoneAt s c₂.at → None ≡ five_as (cron_read s at)
      unfolding cron_read five_as
      no_day n = sym (ap five_as (m.read by_one ∙ h.read (by_two m.form) ∙ n (by_three m.form h.form)))

      module _ {days : Option Field} {c₃ : Cursor} (d : Spaced s 1 31 c₂.at days c₃) where
        pub no_month : NoneAt s c₃.at → None ≡ five_as (cron_read s at)
        unfolding cron_read five_as
        no_month n =
            sym
            (ap five_as (m.read by_one ∙ h.read (by_two m.form) ∙ d.read (by_three m.form h.form) ∙ n (by_four m.form h.form d.form)))

        module _ {months : Option Field} {c₄ : Cursor} (mo : Spaced s 1 12 c₃.at months c₄) where
          pub no_weekday : field_read s c₄.at ≡ None → None ≡ five_as (cron_read s at)
          unfolding cron_read five_as
          no_weekday n =
              sym
              (ap five_as (m.read by_one ∙ h.read (by_two m.form) ∙ d.read (by_three m.form h.form) ∙ mo.read (by_four m.form h.form d.form) ∙ ap (made_read (cron m.form h.form d.form mo.form)) n))

          module _ {weekdays : Option Field} {c₅ : Cursor} (w : Last s 0 6 c₄.at weekdays c₅) where
            abbrev line : Line
            line = cron m.form h.form d.form mo.form w.form

            all_read : cron_read s at ≡ Some (line, c₅.at)
            unfolding cron_read
            all_read =
                m.read by_one ∙ h.read (by_two m.form) ∙ d.read (by_three m.form h.form) ∙ mo.read (by_four m.form h.form d.form) ∙ ap (made_read (cron m.form h.form d.form mo.form)) w.read

            pub five_is : Some (frame_as minutes hours days months weekdays, c₅) ≡ five_as (cron_read s at)
            unfolding five_as
            five_is =
                rw (all_read, m.numbered, h.numbered, d.numbered, mo.numbered, w.numbered)
                (ap (λ (o : Option Cron). Some (o, c₅)) (frame_lem m.form h.form d.form mo.form w.form))
