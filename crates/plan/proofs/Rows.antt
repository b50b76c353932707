-- A frame's row says what the frame says: the search over rows is a search over the plan.
use mathlib.Core.Bool.{not, ◌&&◌}
use mathlib.Core.List.{List, [], ◌∷◌, map}
use mathlib.Core.Path.{◌≡◌, refl}
use Prim.Native.Nat.{ℕ}
use Rattle.calendar.proofs.Every.{same_either_way}
use Rattle.calendar.specs.Below.{any_of}
use Rattle.held.specs.Lists.{any_held, any_excepts, list_held, frame_excepts as excepts_row}
use Rattle.held.specs.Minutes.{frame_held}
use Rattle.zone.specs.Zone.{in_window}
use Rattle.plan.specs.Plan.{frame_holds, frame_excepts, plan_held}
use Rattle.plan.specs.Rows.{row_of, frame_in}
use Rattle.plan.specs.declared.Frame.{Frame}

pub frame_in_row : (f : Frame) → frame_in (row_of f) ≡ f
unfolding row_of frame_in
frame_in_row (Frame.Offset o) = refl
frame_in_row (Frame.Change t) = refl
frame_in_row (Frame.Cron f) = refl
frame_in_row (Frame.Rule f) = refl
frame_in_row (Frame.Extra m) = refl
frame_in_row (Frame.Excepted m) = refl
frame_in_row (Frame.End n) = refl

pub row_held : (f : Frame) (m : ℕ) → frame_held (row_of f) m ≡ frame_holds m f
unfolding row_of frame_held frame_holds
row_held (Frame.Offset o) m = refl
row_held (Frame.Change t) m = refl
row_held (Frame.Cron f) m = refl
row_held (Frame.Rule f) m = refl
row_held (Frame.Extra e) m = same_either_way m e
row_held (Frame.Excepted e) m = refl
row_held (Frame.End n) m = refl

pub row_excepts : (f : Frame) (m : ℕ) → excepts_row (row_of f) m ≡ frame_excepts m f
unfolding row_of excepts_row frame_excepts
row_excepts (Frame.Offset o) m = refl
row_excepts (Frame.Change t) m = refl
row_excepts (Frame.Cron f) m = refl
row_excepts (Frame.Rule f) m = refl
row_excepts (Frame.Extra e) m = refl
row_excepts (Frame.Excepted e) m = same_either_way m e
row_excepts (Frame.End n) m = refl

any_held_lem : (fs : List Frame) (m : ℕ) → any_held (map row_of fs) m ≡ any_of (frame_holds m) fs
any_held_lem [] m = refl
any_held_lem (f ∷ fs) m = rw (row_held f m, any_held_lem fs m)

any_excepts_lem : (fs : List Frame) (m : ℕ) → any_excepts (map row_of fs) m ≡ any_of (frame_excepts m) fs
any_excepts_lem [] m = refl
any_excepts_lem (f ∷ fs) m = rw (row_excepts f m, any_excepts_lem fs m)

pub rows_held : (fs : List Frame) (m : ℕ)
    → list_held (map row_of fs) m ≡ (any_of (frame_holds m) fs && not (any_of (frame_excepts m) fs))
unfolding list_held
rows_held fs m = rw (any_held_lem fs m, any_excepts_lem fs m)

-- a plan's meaning by its rows
pub plan_held_by_rows : (fs : List Frame) (m : ℕ) → plan_held fs m ≡ (in_window m && list_held (map row_of fs) m)
unfolding plan_held
plan_held_by_rows fs m = rw (rows_held fs m)
