use Rattle.std.proofs.Common.{◌≡◌, ◌*◌, take}
use Rattle.std.specs.Prelude.{sum_by, slice_index}
use Rattle.cse_verify.specs.EventBound.{times_in_run}
use Rattle.cse_verify.proofs.events.sum_of_run.Given as goal

-- the sum over the events before
abbrev pub invariant-events : goal.invariant-events
invariant-events l = l.total ≡ sum_by (λ e. times_in_run e.code * slice_index l.bounds e.routine) (take l.event-index l.events)
