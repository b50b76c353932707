-- Frames written one after the other.
use mathlib.Core.List.{List, [], ◌∷◌, ◌++◌, map}
use mathlib.Core.Path.{◌≡◌, refl, sym, ap, ◌∙◌}
use Prim.Native.Nat.{ℕ, suc, ◌+◌, ◌-◌, ◌<◌, ◌≤◌}
use native.Mathlib.Omega.{arith}
use borrow.Author.Tests.{le-leb}
use lib.ListN.{length, get_or, take, drop, length-append}
use lib.Seq.{take-suc, take-add, take-length}
use Rattle.hex_lines.proofs.Puts.{put_nothing, length_put, put_then}
use Rattle.hex_lines.specs.Hex.{put_at, past_put}
use Rattle.plan.proofs.Placing.{text_append, text_snoc}
use Rattle.plan.specs.Rows.{frame_in}
use Rattle.plan.specs.Text.{whole_line, plan_text}
use Rattle.plan.specs.declared.Frame.{Frame}
use Rattle.compile.specs.Answers.{frames_in}

-- one frame more
module _ (plan : List ℕ) (fs : List Frame) (f : Frame) (room : length (plan_text (fs ++ (f ∷ []))) ≤ length plan) where
  long : length (plan_text (fs ++ (f ∷ []))) ≡ length (plan_text fs) + length (whole_line f)
  long = ap length (text_snoc fs f) ∙ length-append (plan_text fs) (whole_line f)

  next_place : past_put (put_at plan 0 (plan_text fs)) (length (plan_text fs)) (whole_line f) ≡ length (plan_text (fs ++ (f ∷ [])))
  next_place =
      rw (length_put plan 0 (plan_text fs), le-leb (length (plan_text fs) + length (whole_line f)) (length plan) (omega (arith, long)))
      (sym long)

  next_put : put_at (put_at plan 0 (plan_text fs)) (length (plan_text fs)) (whole_line f) ≡ put_at plan 0 (plan_text (fs ++ (f ∷ [])))
  next_put =
      let z : 0 + length (plan_text fs) ≡ length (plan_text fs) = omega arith in
      rw z at (put_then plan 0 (plan_text fs) (whole_line f) (omega (arith, long))) ∙ ap (put_at plan 0) (sym (text_snoc fs f))

map_append : (l m : List (List ℕ)) → map frame_in (l ++ m) ≡ map frame_in l ++ map frame_in m
map_append [] m = refl
map_append (x ∷ l) m = rw (map_append l m) refl

-- the frames of the first rows
module _ (rows : List (List ℕ)) where
  next_frame : (i : ℕ) → i < length rows → frames_in rows (i + 1) ≡ frames_in rows i ++ (frame_in (get_or rows i []) ∷ [])
  next_frame i h =
      let s : i + 1 ≡ suc i = omega arith in rw s (ap (map frame_in) (take-suc rows i [] h) ∙ map_append (take i rows) (get_or rows i [] ∷ []))

  text_within : (i n : ℕ) → i ≤ n → length (plan_text (frames_in rows i)) ≤ length (plan_text (frames_in rows n))
  text_within i n h =
      let e : i + (n - i) ≡ n = omega arith in
      let t : frames_in rows n ≡ frames_in rows i ++ map frame_in (take (n - i) (drop i rows)) =
      ap (λ (k : ℕ). frames_in rows k) (sym e)
      ∙ ap (map frame_in) (take-add i (n - i) rows)
      ∙ map_append (take i rows) (take (n - i) (drop i rows)) in
      omega (
        arith,
        ap (λ (fs : List Frame). length (plan_text fs)) t,
        ap length (text_append (frames_in rows i) (map frame_in (take (n - i) (drop i rows)))),
        length-append (plan_text (frames_in rows i)) (plan_text (map frame_in (take (n - i) (drop i rows)))),
      )

pub record Written (plan₀ : List ℕ) (rows : List (List ℕ)) (n : ℕ) (plan : List ℕ) (at i : ℕ) : Type 0 where
  pub count : i ≤ n
  pub place : at ≡ length (plan_text (frames_in rows i))
  pub put : plan ≡ put_at plan₀ 0 (plan_text (frames_in rows i))

pub written_none : (plan : List ℕ) (rows : List (List ℕ)) (n : ℕ) → Written plan rows n plan 0 0
unfolding plan_text
written_none plan rows n = record { count = omega arith; place = refl; put = sym (put_nothing plan 0 (omega arith)) }

module _ (plan₀ : List ℕ) (rows : List (List ℕ)) (n : ℕ) (room : length (plan_text (frames_in rows n ++ (Frame.End n ∷ []))) ≤ length plan₀) where
  fits : length (plan_text (frames_in rows n)) ≤ length plan₀
  fits =
      omega (
        arith,
        room,
        ap length (text_snoc (frames_in rows n) (Frame.End n)),
        length-append (plan_text (frames_in rows n)) (whole_line (Frame.End n)),
      )

  written_next : (plan : List ℕ) (at i : ℕ) → Written plan₀ rows n plan at i → i < n → i < length rows → (f : Frame)
      → f ≡ frame_in (get_or rows i [])
      → Written plan₀ rows n (put_at plan at (whole_line f)) (past_put plan at (whole_line f)) (i + 1)
  written_next plan at i w h l f g =
      let e = next_frame rows i l in
      let q : length (plan_text (frames_in rows (i + 1))) ≤ length plan₀ = omega (arith, text_within rows (i + 1) n (omega arith), fits) in
      let r : length (plan_text (frames_in rows i ++ (frame_in (get_or rows i []) ∷ []))) ≤ length plan₀ = rw e at q in
      rw (w.put, w.place, g)
      (record {
        count = omega arith;
        place = next_place plan₀ (frames_in rows i) (frame_in (get_or rows i [])) r ∙ ap (λ (fs : List Frame). length (plan_text fs)) (sym e);
        put = next_put plan₀ (frames_in rows i) (frame_in (get_or rows i [])) r ∙ ap (λ (fs : List Frame). put_at plan₀ 0 (plan_text fs)) (sym e);
      })

  written_end : (plan : List ℕ) (at i : ℕ) → Written plan₀ rows n plan at i → n ≤ i
      → put_at plan at (whole_line (Frame.End n)) ≡ put_at plan₀ 0 (plan_text (frames_in rows n ++ (Frame.End n ∷ [])))
  written_end plan at i w h =
      let e : i ≡ n = omega (arith, w.count) in rw (w.put, w.place, e) (next_put plan₀ (frames_in rows n) (Frame.End n) room)

-- ---- all rows
module _ (plan₀ : List ℕ) (rows : List (List ℕ)) (room : length (plan_text (map frame_in rows ++ (Frame.End (length rows) ∷ []))) ≤ length plan₀) where
  all_room : length (plan_text (frames_in rows (length rows) ++ (Frame.End (length rows) ∷ []))) ≤ length plan₀
  all_room = rw (take-length rows) room

  pub all_next : (plan : List ℕ) (at i : ℕ) → Written plan₀ rows (length rows) plan at i → i < length rows → (f : Frame) → f ≡ frame_in (get_or rows i [])
      → Written plan₀ rows (length rows) (put_at plan at (whole_line f)) (past_put plan at (whole_line f)) (i + 1)
  all_next plan at i w h f g = written_next plan₀ rows (length rows) all_room plan at i w h h f g

  pub all_end : (plan : List ℕ) (at i : ℕ) → Written plan₀ rows (length rows) plan at i → length rows ≤ i
      → put_at plan at (whole_line (Frame.End (length rows))) ≡ put_at plan₀ 0 (plan_text (map frame_in rows ++ (Frame.End (length rows) ∷ [])))
  all_end plan at i w h = rw (take-length rows) at (written_end plan₀ rows (length rows) all_room plan at i w h)
