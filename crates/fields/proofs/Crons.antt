-- The reader of five fields against the form of a cron line.
use Rattle.std.specs.Prelude.{Option, None, Some}
use mathlib.Core.List.{List, [], ◌∷◌, ◌++◌, append_assoc}
use mathlib.Core.Path.{◌≡◌, refl, sym, ap}
use Prim.Native.Nat.{ℕ, ◌+◌, ◌<◌}
use native.Mathlib.Omega.{arith}
use lib.ListN.{length, drop, length-append}
use Rattle.sheet.specs.Form.{Field, Form, cron, field_of, cron_of}
use Rattle.sheet.specs.Words.{pieces, cons_of, each_of}
use Rattle.words.proofs.Listing.{each_cons, each_none}
use Rattle.words.proofs.Sequence.{only, only_tied, then_tied}
use Rattle.words.proofs.Tied.{made, Tied, tied_made}
use Rattle.words.specs.Answers.{made_read, then_at}
use Rattle.words.specs.Reads.{digits_in}
use Rattle.fields.specs.Crons.{cron_read}
use Rattle.fields.specs.Fields.{field_read}
use Rattle.fields.proofs.Whole.{FieldStops, field_tied}

-- after a field of the five stands a space, after the last nothing
space_stops : (rest : List ℕ) → FieldStops (32 ∷ rest)
unfolding digits_in
space_stops rest = record { digits = refl; dash = refl; comma = refl; star = refl }

stops_at_end : FieldStops []
unfolding digits_in
stops_at_end = record { digits = refl; dash = refl; comma = refl; star = refl }

-- ---- the line of the fields so far and of the pieces that follow
abbrev after : List Field → Option (List Field) → Option (List Field)
after fs None = None
after fs (Some gs) = Some (fs ++ gs)

after_nothing : (o : Option (List Field)) → after [] o ≡ o
after_nothing None = refl
after_nothing (Some gs) = refl

abbrev line_of : List Field → List (List ℕ) → Option Form
line_of fs ps = cron_of (after fs (each_of field_of ps))

too_few : (fs : List Field) → length fs < 5 → cron_of (Some fs) ≡ None
unfolding cron_of
too_few [] h = refl
too_few (a ∷ []) h = refl
too_few (a ∷ b ∷ []) h = refl
too_few (a ∷ b ∷ c ∷ []) h = refl
too_few (a ∷ b ∷ c ∷ d ∷ []) h = refl
too_few (a ∷ b ∷ c ∷ d ∷ e ∷ more) h = absurd (omega arith)

-- after four fields one piece is left, the last field
last_line : (a b c d : Field) (ps : List (List ℕ)) → line_of (a ∷ b ∷ c ∷ d ∷ []) ps ≡ made (cron a b c d) (only field_of ps)
unfolding cron_of cons_of
last_line a b c d [] = rw (each_none field_of) refl
last_line a b c d (p ∷ []) = by_field (field_of p) refl
  where
    by_field : (o : Option Field) → field_of p ≡ o → line_of (a ∷ b ∷ c ∷ d ∷ []) (p ∷ []) ≡ made (cron a b c d) (field_of p)
    by_field None e = rw (each_cons field_of p [] None _ e refl, e) refl
    by_field (Some f) e = rw (each_cons field_of p [] (Some f) (Some []) e (each_none field_of), e) refl
last_line a b c d (p ∷ q ∷ ps) = by_fields (field_of p) (field_of q) (each_of field_of ps) refl refl refl
  where
    by_fields : (o n : Option Field) (x : Option (List Field)) → field_of p ≡ o → field_of q ≡ n → each_of field_of ps ≡ x
        → line_of (a ∷ b ∷ c ∷ d ∷ []) (p ∷ q ∷ ps) ≡ None
    by_fields None n x e f g = rw (each_cons field_of p (q ∷ ps) None _ e refl) refl
    by_fields (Some v) None x e f g = rw (each_cons field_of p (q ∷ ps) (Some v) None e (each_cons field_of q ps None x f g)) refl
    by_fields (Some v) (Some w) None e f g =
        rw (each_cons field_of p (q ∷ ps) (Some v) None e (each_cons field_of q ps (Some w) None f g)) refl
    by_fields (Some v) (Some w) (Some gs) e f g =
        rw (each_cons field_of p (q ∷ ps) (Some v) (Some (w ∷ gs)) e (each_cons field_of q ps (Some w) (Some gs) f g)) refl

-- ---- the reader
module _ (s : List ℕ) where
  tie : (at : ℕ) (p tail : List ℕ) → drop at s ≡ p ++ tail → FieldStops tail → Tied (field_of p) (field_read s at) at (at + length p)
  tie at p tail here stops = field_tied s at tail stops p here

  -- one field more, a space, and what follows
  then_line : (fs : List Field) (more : Field → ℕ → Option (Form × ℕ)) → length fs < 4
      → ((f : Field) (from : ℕ) (rest : List ℕ) → drop from s ≡ rest ++ [] → Tied (line_of (fs ++ (f ∷ [])) (pieces 32 rest)) (more f from) from (from + length rest))
      → (at : ℕ) (p : List ℕ) → drop at s ≡ p ++ [] → Tied (line_of fs (pieces 32 p)) (then_at 32 s more (field_read s at)) at (at + length p)
  unfolding cron_of cons_of
  then_line fs more few again =
      then_tied 32 s field_of (field_read s) FieldStops space_stops tie [] stops_at_end (line_of fs) (λ (f : Field). line_of (fs ++ (f ∷ [])))
      more no_first first alone again refl
    where
      no_first : (q : List ℕ) (ps : List (List ℕ)) → field_of q ≡ None → line_of fs (q ∷ ps) ≡ None
      no_first q ps e = rw (each_cons field_of q ps None _ e refl) refl

      first : (q : List ℕ) (ps : List (List ℕ)) (f : Field) → field_of q ≡ Some f → line_of fs (q ∷ ps) ≡ line_of (fs ++ (f ∷ [])) ps
      first q ps f e = by_others (each_of field_of ps) refl
        where
          by_others : (o : Option (List Field)) → each_of field_of ps ≡ o → line_of fs (q ∷ ps) ≡ line_of (fs ++ (f ∷ [])) ps
          by_others None g = rw (each_cons field_of q ps (Some f) None e g, g) refl
          by_others (Some gs) g =
              rw (each_cons field_of q ps (Some f) (Some gs) e g, g)
              (ap (λ (l : List Field). cron_of (Some l)) (sym (append_assoc fs (f ∷ []) gs)))

      alone : (f : Field) → line_of (fs ++ (f ∷ [])) [] ≡ None
      alone f =
          rw (each_none field_of)
          (too_few (fs ++ (f ∷ []) ++ []) (omega (arith, length-append (fs ++ (f ∷ [])) [], length-append fs (f ∷ []))))

  last_tied : (a b c d : Field) (at : ℕ) (p : List ℕ) → drop at s ≡ p ++ []
      → Tied (line_of (a ∷ b ∷ c ∷ d ∷ []) (pieces 32 p)) (made_read (cron a b c d) (field_read s at)) at (at + length p)
  last_tied a b c d at p here =
      rw (last_line a b c d (pieces 32 p))
      (tied_made (cron a b c d) _ _ at at _ (omega arith) (only_tied 32 s field_of (field_read s) FieldStops space_stops tie [] stops_at_end at p here))

  pub cron_tied : (at : ℕ) (p : List ℕ) → drop at s ≡ p ++ []
      → Tied (cron_of (each_of field_of (pieces 32 p))) (cron_read s at) at (at + length p)
  unfolding cron_read
  cron_tied at p here =
      rw (after_nothing (each_of field_of (pieces 32 p))) at
      (then_line [] _ (omega arith) (λ m. then_line (m ∷ []) _ (omega arith) (λ h. then_line (m ∷ h ∷ []) _ (omega arith) (λ d. then_line (m ∷ h ∷ d ∷ []) _ (omega arith) (λ mo. last_tied m h d mo)))) at p here)
