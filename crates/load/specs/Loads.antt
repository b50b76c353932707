-- What loading a plan answers, and the frames that it reads.
use Rattle.std.specs.Prelude.{true, false, List, [], ◌∷◌, ℕ, zero, suc, ◌+◌, length, Option, None, Some, Result, Ok, Err}
use Rattle.lines.specs.Lines.{lines_of}
use Rattle.plan.specs.Taken.{Before as Standing, start, zoned, lines, is_end, allowed, Loaded, taken, refused}
use Rattle.plan.specs.declared.Frame.{Frame}
use Rattle.load.specs.declared.NotTaken.{NotTaken}
use Rattle.load.specs.declared.place.Before.{Before}

-- what stands before a line, as the code holds it
abbrev pub before_of : Before → Standing
before_of Before.Start = start
before_of (Before.Zoned e) = zoned e.changes e.low e.offset
before_of Before.Lines = lines

abbrev pub placed_of : Option Before → Option Standing
placed_of (Some b) = Some (before_of b)
placed_of None = None

abbrev pub allowed_of : Option (Frame × Before) → Option (Frame × Standing)
allowed_of (Some s) = Some (s.0, before_of s.1)
allowed_of None = None

-- the answer that line k is the first not allowed
abbrev pub not_taken : {T : Type 0} → ℕ → Result T NotTaken
not_taken k = Err (record { line = k })

-- the answer at the end frame after n frames, with so many bytes after it
abbrev pub ended_as : ℕ → ℕ → Result ℕ NotTaken
ended_as n zero = Ok n
ended_as n (suc rest) = not_taken (n + 2)

-- the answer of a load: the number of frames, or the line that is not allowed
abbrev pub loaded_as : Loaded → Result ℕ NotTaken
loaded_as (taken fs) = Ok (length fs)
loaded_as (refused k) = not_taken k

-- the frames of the lines that are allowed where they stand, up to the end frame or the first that is not
unfoldable pub read_from : ℕ → Standing → List (List ℕ) → List Frame
read_from n before [] = []
read_from n before (line ∷ more) =
    elim (allowed n before line) [
      | None ↦ []
      | Some r ↦ elim (is_end r.0) [ true ↦ [] | false ↦ r.0 ∷ read_from (n + 1) r.1 more ]
    ]

unfoldable pub read_frames : List ℕ → List Frame
read_frames text = read_from 0 start (lines_of text).whole
