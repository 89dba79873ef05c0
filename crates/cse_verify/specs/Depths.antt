-- How much the calls of a run keep at most.
use Rattle.std.specs.Prelude.{◌≡◌, List, length}
use Rattle.cse_value.specs.Shape.{ShapeLists}
use Rattle.cse_image_parts.specs.Image.{Image}
use Rattle.cse_code_typing.specs.declared.depth.Depth.{Depth as Cells}
use Rattle.cse_code_typing.specs.Depth.{AreDepths, greatest}
use Rattle.cse_verify.specs.Frames.{frames}
use Rattle.cse_verify.specs.declared.depth.Depth.{Depth}

-- each number is the greatest over the routines of the program; the table has their numbers, texts and ordinals
pub record IsDepthOf (s : ShapeLists) (x : Image) (d : Depth) : Type 0 where
  pub table : List Cells
  pub routines : length table ≡ length x.lists.routines
  pub depths : AreDepths s x table
  pub nums : d.nums ≡ (greatest table).numbers
  pub texts : d.texts ≡ (greatest table).texts
  pub ords : d.ords ≡ (greatest table).ordinals
  pub frames_are : d.frames ≡ frames x
