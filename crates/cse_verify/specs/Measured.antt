-- What the check of the routines finds beside their typing.
use Rattle.std.specs.Prelude.{◌≡◌, ℕ, ◌*◌, ◌≤◌, List, length, EachIndex, slice_index}
use Rattle.cse_value.specs.Shape.{ShapeLists}
use Rattle.cse_image_parts.specs.Image.{Image}
use Rattle.cse_code_typing.specs.declared.control.Control.{Control}
use Rattle.cse_code_typing.specs.declared.refusal.Refusal.{Refusal}
use Rattle.cse_code_typing.specs.declared.depth.Depth.{Depth as Cells}
use Rattle.cse_code_typing.specs.Depth.{AreDepths, KeepFew, greatest}
use Rattle.cse_code_typing.specs.Typed.{AreTypedBelow}
use Rattle.cse_verify.specs.Bound.{bounds_below, AreBoundedBelow, PassesLimit}
use Rattle.cse_verify.specs.Frames.{frames_below, greatest as greatest_number}
use Rattle.cse_verify.specs.declared.depth.Depth.{Depth}

-- the routines below n are typed and bounded, and the tables are of their bounds, of their open
-- brackets and of what they keep
pub record AreMeasured (s : ShapeLists) (x : Image) (n : ℕ) (bounds frames : List ℕ) (cells : List Cells) : Type 0 where
  pub typed : AreTypedBelow s x n
  pub bounded : AreBoundedBelow x n
  pub bounds_are : bounds ≡ bounds_below x n
  pub frames_are : frames ≡ frames_below x n
  pub cells_are : AreDepths s x cells
  pub cells_of : length cells ≡ n
  pub cells_few : KeepFew cells
  pub few : EachIndex frames (λ r. slice_index frames r ≤ 64 * length frames)

-- 67 of a routine, by the bounds of the smaller ones
pub record Exceeds (bounds : List ℕ) (code : List Control) (routine : ℕ) (e : Refusal) : Type 0 where
  pub number : e.number ≡ 67
  pub routine_is : e.routine ≡ routine
  pub at : PassesLimit bounds code e.at

-- the greatest numbers of the tables
pub record IsGreatest (cells : List Cells) (frames : List ℕ) (d : Depth) : Type 0 where
  pub nums : d.nums ≡ (greatest cells).numbers
  pub texts : d.texts ≡ (greatest cells).texts
  pub ords : d.ords ≡ (greatest cells).ordinals
  pub frames_are : d.frames ≡ greatest_number frames
