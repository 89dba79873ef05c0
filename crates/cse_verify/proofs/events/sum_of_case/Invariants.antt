use Rattle.std.proofs.Common.{◌≡◌, ◌*◌, ◌≤◌, take}
use Rattle.std.specs.Prelude.{sum_by, slice_index}
use Rattle.cse_image_parts.specs.Image.{lists_of}
use Rattle.cse_verify.specs.Limit.{step_limit}
use Rattle.cse_verify.specs.EventBound.{times_in_case}
use Rattle.cse_verify.proofs.events.sum_of_case.Given as goal

-- the sum over the events before
abbrev pub invariant-events : goal.invariant-events
invariant-events l = record {
  total_is : l.total ≡ sum_by (λ e. times_in_case (lists_of l.tables) e.code e.index * slice_index l.bounds e.routine) (take l.event-index l.event-items);
  small : l.total ≤ step_limit;
}
