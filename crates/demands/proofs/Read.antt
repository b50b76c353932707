-- A sheet that is read, line by line: nothing is wrong with the lines of one that is taken, and the number of a refusal is never 0.
use Rattle.std.specs.Prelude.{Option, None, Some}
use mathlib.Core.Bool.{Bool, true, false, cond}
use mathlib.Core.List.{List, [], ◌∷◌}
use mathlib.Core.Path.{◌≡◌, refl, ap, subst}
use Prim.Native.Nat.{ℕ, suc, ◌+◌, ◌<◌, ◌≤◌}
use native.Mathlib.Omega.{arith}
use borrow.Author.Tests.{eqb-true, eqb-false}
use lib.Dec.{ltb, eqb}
use lib.ListN.{length}
use Rattle.compile.proofs.Compiling.{short}
use Rattle.framed.proofs.Lines.{fine}
use Rattle.lines.specs.Lines.{lines_of, lines_in}
use Rattle.sheet.specs.Form.{Form, form_of}
use Rattle.sheet.specs.Refusals.{Context, context_after, bytes_good, form_refusal, form_refusal_or3, line_refusal, Sheet, taken, refused, following, too_long, read_from, first, read_sheet}

-- a line with nothing wrong where it stands
pub record Line (c : Context) (f : Form) : Type 0 where
  pub bytes : List ℕ
  pub form : form_of bytes ≡ Some f
  pub fine : form_refusal c f ≡ 0

abbrev pub Lines : Context → List Form → Type 0
Lines c [] = Unit {0}
Lines c (f ∷ fs) = Line c f × Lines (context_after c f) fs

-- the forms of some whole lines after n others, where they are taken
record Read (n : ℕ) (c : Context) (whole : List (List ℕ)) (fs : List Form) : Type 0 where
  each : Lines c fs
  count : length fs ≡ length whole
  one : 0 < n + length fs

abbrev Reads : ℕ → Context → List (List ℕ) → Sheet → Type 0
Reads n c whole (taken fs) = Read n c whole fs
Reads n c whole (refused k at) = 0 < k

module _ (n : ℕ) (c : Context) where
  -- the two tests of the sheet's end
  at_end : (a b : Bool) → eqb n 0 ≡ b → Reads n c [] (cond a (refused 2 (n + 1)) (cond b (refused 4 1) (taken [])))
  at_end true b z = omega arith
  at_end false true z = omega arith
  at_end false false z = let more : n ≡ 0 → ⊥ = eqb-false n 0 z in record { each = tt; count = refl; one = omega arith }

  module _ (line : List ℕ) (more : List (List ℕ)) (tail : List ℕ) where
    line_fine : (f : Form) → form_of line ≡ Some f → line_refusal c line ≡ 0 → form_refusal c f ≡ 0
    unfolding line_refusal form_refusal_or3
    line_fine f o e = rw o at (fine (bytes_good line) 1 _ e).1

    -- 2 or 3
    no_form : form_of line ≡ None → (b : Bool) → bytes_good line ≡ b → 0 < line_refusal c line
    unfolding line_refusal form_refusal_or3
    no_form o true b = rw (b, o) (omega arith)
    no_form o false b = rw b (omega arith)

    on_rest_lem : (f : Form) (s : Sheet) → Line c f → Reads (n + 1) (context_after c f) more s → Reads n c (line ∷ more) (following f s)
    on_rest_lem f (taken gs) l r = record { each = (l, r.each); count = ap suc r.count; one = omega arith }
    on_rest_lem f (refused k at) l r = r

    abbrev rest : Context → Sheet
    rest d = read_from (n + 1) d more tail

    abbrev on_test : Form → Bool → Sheet
    on_test f t = elim t [ true ↦ following f (rest (context_after c f)) | false ↦ refused (line_refusal c line) (n + 1) ]

    on_test_lem : (f : Form) (t : Bool) → form_of line ≡ Some f → eqb (line_refusal c line) 0 ≡ t
        → Reads (n + 1) (context_after c f) more (rest (context_after c f))
        → Reads n c (line ∷ more) (on_test f t)
    on_test_lem f true o t others =
        on_rest_lem f (rest (context_after c f)) (record { bytes = line; form = o; fine = line_fine f o (eqb-true (line_refusal c line) 0 t) }) others
    on_test_lem f false o t others = let wrong : line_refusal c line ≡ 0 → ⊥ = eqb-false (line_refusal c line) 0 t in omega arith

    on_form : (o : Option Form) → form_of line ≡ o → ((d : Context) → Reads (n + 1) d more (rest d))
        → Reads n c (line ∷ more) (elim o [ None ↦ refused (line_refusal c line) (n + 1) | Some f ↦ on_test f (eqb (line_refusal c line) 0) ])
    on_form None o others = no_form o (bytes_good line) refl
    on_form (Some f) o others = on_test_lem f (eqb (line_refusal c line) 0) o refl (others (context_after c f))

reads : (whole : List (List ℕ)) (n : ℕ) (c : Context) (tail : List ℕ) → Reads n c whole (read_from n c whole tail)
unfolding read_from
reads [] n c tail = at_end n c (ltb 0 (length tail)) (eqb n 0) refl
reads (line ∷ more) n c tail = on_form n c line more tail (form_of line) refl (λ d. reads more (n + 1) d tail)

-- a sheet that is taken has at least one line, at most 64, and nothing is wrong with any
pub record TakenSheet (fs : List Form) : Type 0 where
  pub each : Lines first fs
  pub least : 0 < length fs
  pub most : length fs ≤ 64

abbrev Sound : Sheet → Type 0
Sound (taken fs) = TakenSheet fs
Sound (refused k at) = 0 < k

sound : (whole : List (List ℕ)) (s : Sheet) → length whole ≤ 64 → Reads 0 first whole s → Sound s
sound whole (taken fs) h r = record { each = r.each; least = omega (arith, r.one); most = omega (arith, r.count) }
sound whole (refused k at) h r = r

module _ (text : List ℕ) where
  abbrev lines : Sheet
  lines = read_from 0 first (lines_of text).whole (lines_of text).tail

  by_length : (t : Bool) → too_long text ≡ t → Sound (elim t [ true ↦ refused 1 0 | false ↦ lines ])
  unfolding lines_in
  by_length true t = omega arith
  by_length false t =
      sound (lines_of text).whole lines (omega (arith, short text t)) (reads (lines_of text).whole 0 first (lines_of text).tail)

  sheet_sound : Sound (read_sheet text)
  unfolding read_sheet
  sheet_sound = by_length (too_long text) refl

  pub taken_sheet : (fs : List Form) → read_sheet text ≡ taken fs → TakenSheet fs
  taken_sheet fs e = subst Sound e sheet_sound

  -- 0 is no refusal
  pub refusal_number : (k at : ℕ) → read_sheet text ≡ refused k at → 0 < k
  refusal_number k at e = subst Sound e sheet_sound
