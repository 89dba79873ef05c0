-- How many brackets may be open at once while a routine runs, those of the calls in it with them.
use Rattle.std.specs.Prelude.{ℕ, zero, suc, ◌+◌, max, List, [], ◌∷◌, ◌++◌, length, Option, Some, slice_get, slice_index}
use Rattle.cse_image_parts.specs.Image.{Image}
use Rattle.cse_code_typing.specs.declared.control.Control.{Control}
use Rattle.cse_code_typing.specs.declared.control.Control.TheVariants.{Call}
use Rattle.cse_code_typing.specs.Skeleton.{skeleton_of}
use Rattle.cse_code_typing.specs.Bracket.{around}

-- what a call opens, with what the smaller routines open
abbrev pub frames_in_call : List ℕ → Option Control → ℕ
frames_in_call table (Some (Call r)) = slice_index table r
frames_in_call table _ = 0

-- the greatest number over the places below p: the brackets around the place and, at a call, those of the callee
unfoldable pub most_frames : List ℕ → List Control → ℕ → ℕ
most_frames table code zero = 0
most_frames table code (suc p) =
    max (most_frames table code p) (length (around code p) + frames_in_call table (slice_get code p))

-- those of the routines below r, in order
unfoldable pub frames_below : Image → ℕ → List ℕ
frames_below x zero = []
frames_below x (suc r) =
    frames_below x r ++ most_frames (frames_below x r) (skeleton_of x r) (length (skeleton_of x r)) ∷ []

abbrev pub frames_of : Image → ℕ → ℕ
frames_of x r = most_frames (frames_below x r) (skeleton_of x r) (length (skeleton_of x r))

abbrev pub greatest : List ℕ → ℕ
greatest [] = 0
greatest (n ∷ ns) = max n (greatest ns)

-- the greatest over all routines
abbrev pub frames : Image → ℕ
frames x = greatest (frames_below x (length x.lists.routines))
