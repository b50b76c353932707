-- The form of a line is one that can be written: its lists are not empty, and its weekdays are of the seven.
use Rattle.std.specs.Prelude.{Option, None, Some}
use mathlib.Core.Bool.{Bool, true, false}
use mathlib.Core.List.{List, [], ◌∷◌}
use mathlib.Core.Path.{◌≡◌, refl, sym, ap, ◌∙◌}
use Prim.Native.Nat.{ℕ, ◌-◌}
use lib.Dec.{ltb, eqb}
use lib.ListN.{length, take, drop}
use Rattle.calendar.proofs.Every.{decided}
use Rattle.calendar.specs.Below.{all_of}
use Rattle.lines.specs.Bytes.{bytes, byte}
use Rattle.sheet.specs.Form.{Time, time_of, Shift, shift_of, Element, element_of, Field, star, list, field_of, ordinal_entry, weekday_words, entry_of, Part, interval, count, until, by_day, by_month_day, by_set_pos, by_month, frequency_at, frequency_words, part_words, part_by, value_of, named, part_of, Form, zone, extra, except, form_by, change_by, change_of, cron_of, rule_by, rule_of, tagged, form_of}
use Rattle.sheet.specs.Words.{same_bytes, word_in, number_of, Signed, signed_of, pieces, each_of}
use Rattle.framed.proofs.Goods.{given_passes, weekday_written, part_written, field_written, written}
use Rattle.framed.proofs.Listed.{anything, listed}
use Rattle.framed.proofs.Passing.{anything_passes, cond_passes, all_pass, pieces_pass}

-- ---- weekdays
ordinal_written : (o : Option Signed) (w : ℕ) → ltb w 7 ≡ true → given_passes weekday_written (ordinal_entry o w) ≡ true
unfolding ordinal_entry
ordinal_written None w t = refl
ordinal_written (Some n) w t = t

entry_written : (s : List ℕ) → given_passes weekday_written (entry_of s) ≡ true
unfolding entry_of
entry_written s =
    let front : List ℕ = take (length s - 2) s in
    let w : ℕ = word_in weekday_words (drop (length s - 2) s) in
    decided (ltb w 7)
    (λ (t : ltb w 7 ≡ true). rw t (cond_passes weekday_written (eqb (length front) 0) _ _ t (ordinal_written (signed_of front) w t)))
    (λ (f : ltb w 7 ≡ false). rw f refl)

-- ---- parts
part_written_lem : {A : Type 0} (test : A → Bool) (part : A → Part) (o : Option A) → ((a : A) → test a ≡ true → part_written (part a) ≡ true)
    → given_passes test o ≡ true
    → given_passes part_written (part_by part o) ≡ true
unfolding part_by
part_written_lem test part None w e = refl
part_written_lem test part (Some a) w e = w a e

simple_written : {A : Type 0} (part : A → Part) (o : Option A) → ((a : A) → part_written (part a) ≡ true)
    → given_passes part_written (part_by part o) ≡ true
simple_written part o w = part_written_lem anything part o (λ a e. w a) (anything_passes o)

frequency_written : (k : ℕ) → given_passes part_written (frequency_at k) ≡ true
unfolding frequency_at
frequency_written k =
    cond_passes part_written (eqb k 0) _ _ refl
    (cond_passes part_written (eqb k 1) _ _ refl
    (cond_passes part_written (eqb k 2) _ _ refl (cond_passes part_written (eqb k 3) _ _ refl refl)))

list_written : {A : Type 0} (test : A → Bool) (form : List ℕ → Option A) (part : List A → Part) (v : List ℕ)
    → ((s : List ℕ) → given_passes test (form s) ≡ true)
    → ((xs : List A) → listed test xs ≡ true → part_written (part xs) ≡ true) → given_passes part_written (part_by part (each_of form (pieces (byte ",") v))) ≡ true
list_written test form part v each w =
    part_written_lem (listed test) part (each_of form (pieces (byte ",") v)) w (pieces_pass test form each (byte ",") v)

value_written : (k : ℕ) (v : List ℕ) → given_passes part_written (value_of k v) ≡ true
unfolding value_of
value_written k v =
    cond_passes part_written (eqb k 0) _ _ (frequency_written (word_in frequency_words v))
    (cond_passes part_written (eqb k 1) _ _ (simple_written interval (number_of v) (λ n. refl))
    (cond_passes part_written (eqb k 2) _ _ (simple_written count (number_of v) (λ n. refl))
    (cond_passes part_written (eqb k 3) _ _ (simple_written until (time_of v) (λ t. refl))
    (cond_passes part_written (eqb k 4) _ _ (list_written weekday_written entry_of by_day v entry_written (λ es e. e))
    (cond_passes part_written (eqb k 5) _ _ (list_written anything signed_of by_month_day v (λ s. anything_passes (signed_of s)) (λ ns e. e))
    (cond_passes part_written (eqb k 6) _ _ (list_written anything signed_of by_set_pos v (λ s. anything_passes (signed_of s)) (λ ns e. e))
    (cond_passes part_written (eqb k 7) _ _ (list_written anything number_of by_month v (λ s. anything_passes (number_of s)) (λ ns e. e)) refl)))))))

named_written : (ps : List (List ℕ)) → given_passes part_written (named ps) ≡ true
unfolding named
named_written [] = refl
named_written (name ∷ []) = refl
named_written (name ∷ value ∷ []) = value_written (word_in part_words name) value
named_written (name ∷ value ∷ other ∷ more) = refl

part_of_written : (s : List ℕ) → given_passes part_written (part_of s) ≡ true
unfolding part_of
part_of_written s = named_written (pieces (byte "=") s)

-- ---- cron fields
abbrev list_of : Option (List Element) → Option Field
list_of None = None
list_of (Some es) = Some (list es)

elements_written : (o : Option (List Element)) → given_passes (listed anything) o ≡ true → given_passes field_written (list_of o) ≡ true
elements_written None e = refl
elements_written (Some es) e = e

field_written_lem : (s : List ℕ) → given_passes field_written (field_of s) ≡ true
unfolding field_of
field_written_lem s =
    let es : Option (List Element) = each_of element_of (pieces (byte ",") s) in
    cond_passes field_written (same_bytes s (bytes "*")) (Some star) (list_of es) refl
    (elements_written es (pieces_pass anything element_of (λ e. anything_passes (element_of e)) (byte ",") s))

-- ---- lines
plain_written : {A : Type 0} (form : A → Form) (o : Option A) → ((a : A) → written (form a) ≡ true)
    → given_passes written (form_by form o) ≡ true
unfolding form_by
plain_written form None w = refl
plain_written form (Some a) w = w a

change_by_written : (t : Option Time) (s : Option Shift) → given_passes written (change_by t s) ≡ true
unfolding change_by
change_by_written None s = refl
change_by_written (Some t) None = refl
change_by_written (Some t) (Some s) = refl

change_written : (ps : List (List ℕ)) → given_passes written (change_of ps) ≡ true
unfolding change_of
change_written [] = refl
change_written (t ∷ []) = refl
change_written (t ∷ s ∷ []) = change_by_written (time_of t) (shift_of s)
change_written (t ∷ s ∷ other ∷ more) = refl

cron_written : (fs : Option (List Field)) → given_passes (all_of field_written) fs ≡ true → given_passes written (cron_of fs) ≡ true
unfolding cron_of
cron_written None w = refl
cron_written (Some []) w = refl
cron_written (Some (a ∷ [])) w = refl
cron_written (Some (a ∷ b ∷ [])) w = refl
cron_written (Some (a ∷ b ∷ c ∷ [])) w = refl
cron_written (Some (a ∷ b ∷ c ∷ d ∷ [])) w = refl
cron_written (Some (a ∷ b ∷ c ∷ d ∷ e ∷ [])) w = w
cron_written (Some (a ∷ b ∷ c ∷ d ∷ e ∷ f ∷ more)) w = refl

rule_by_written : (t : Option Time) (ps : Option (List Part)) → given_passes (all_of part_written) ps ≡ true
    → given_passes written (rule_by t ps) ≡ true
unfolding rule_by
rule_by_written None ps e = refl
rule_by_written (Some t) None e = refl
rule_by_written (Some t) (Some ps) e = e

rule_written : (ps : List (List ℕ)) → given_passes written (rule_of ps) ≡ true
unfolding rule_of
rule_written [] = refl
rule_written (t ∷ []) = refl
rule_written (t ∷ ps ∷ []) =
    rule_by_written (time_of t) (each_of part_of (pieces (byte ";") ps)) (all_pass part_written part_of part_of_written (pieces (byte ";") ps))
rule_written (t ∷ ps ∷ other ∷ more) = refl

tagged_written : (tag : ℕ) (s : List ℕ) → given_passes written (tagged tag s) ≡ true
unfolding tagged
tagged_written tag s =
    cond_passes written (eqb tag (byte "Z")) _ _ (plain_written zone (shift_of s) (λ a. refl))
    (cond_passes written (eqb tag (byte "T")) _ _ (change_written (pieces (byte " ") s))
    (cond_passes written (eqb tag (byte "C")) _ _
    (cron_written (each_of field_of (pieces (byte " ") s)) (all_pass field_written field_of field_written_lem (pieces (byte " ") s)))
    (cond_passes written (eqb tag (byte "R")) _ _ (rule_written (pieces (byte " ") s))
    (cond_passes written (eqb tag (byte "D")) _ _ (plain_written extra (time_of s) (λ t. refl))
    (cond_passes written (eqb tag (byte "X")) _ _ (plain_written except (time_of s) (λ t. refl)) refl)))))

line_written : (line : List ℕ) → given_passes written (form_of line) ≡ true
unfolding form_of
line_written [] = refl
line_written (tag ∷ []) = refl
line_written (tag ∷ space ∷ s) = cond_passes written (eqb space (byte " ")) _ _ (tagged_written tag s) refl

pub form_written : (line : List ℕ) (f : Form) → form_of line ≡ Some f → written f ≡ true
form_written line f e = sym (ap (given_passes written) e) ∙ line_written line

pub rule_form_written : (ps : List (List ℕ)) (f : Form) → rule_of ps ≡ Some f → written f ≡ true
rule_form_written ps f e = sym (ap (given_passes written) e) ∙ rule_written ps
