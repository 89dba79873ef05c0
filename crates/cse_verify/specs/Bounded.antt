-- Which programs keep to the limit on steps.
use Rattle.std.specs.Prelude.{◌≤◌, length}
use Rattle.cse_image_parts.specs.Image.{Image}
use Rattle.cse_verify.specs.Limit.{step_limit}
use Rattle.cse_verify.specs.Bound.{AreBoundedBelow}
use Rattle.cse_verify.specs.EventBound.{case_bound}

-- each routine, and the events of a case together, keep to the limit
pub record IsBounded (x : Image) : Type 0 where
  pub routines : AreBoundedBelow x (length x.lists.routines)
  pub case : case_bound x ≤ step_limit
