-- What `verify` prints of a program that may run: the bound of each routine, of a case and of the application's
-- events, how much a run keeps at once, and that the image is accepted.
use Rattle.std.specs.Prelude.{ℕ, zero, suc, List, [], ◌++◌, length, codes, decimal}
use Rattle.cse_image_parts.specs.Image.{Image}
use Rattle.cse_verify.specs.Bound.{bound}
use Rattle.cse_verify.specs.EventBound.{case_bound, run_bound}
use Rattle.cse_verify.specs.declared.depth.Depth.{Depth}

abbrev pub routine_line : ℕ → ℕ → List ℕ
routine_line r steps = codes "routine " ++ decimal r ++ codes " " ++ decimal steps ++ codes " steps\n"

-- the lines of the routines below n
unfoldable pub routine_lines : Image → ℕ → List ℕ
routine_lines x zero = []
routine_lines x (suc n) = routine_lines x n ++ routine_line n (bound x n)

-- the lines of the case and of the run
abbrev pub sums : ℕ → ℕ → List ℕ
sums case run = codes "case " ++ decimal case ++ codes " steps\nrun " ++ decimal run ++ codes " steps\n"

abbrev pub depth_line : Depth → List ℕ
depth_line d =
    codes "depth " ++ decimal d.nums ++ codes " " ++ decimal d.texts ++ codes " " ++ decimal d.ords ++ codes " " ++ decimal d.frames ++ codes "\naccepted\n"

-- the lines after those of the routines
abbrev pub last_lines : ℕ → ℕ → Depth → List ℕ
last_lines case run d = sums case run ++ depth_line d

abbrev pub verdict : Image → Depth → List ℕ
verdict x d = routine_lines x (length x.lists.routines) ++ last_lines (case_bound x) (run_bound x) d
