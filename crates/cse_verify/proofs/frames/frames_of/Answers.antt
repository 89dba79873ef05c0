use Rattle.std.proofs.Common.{sym, ◌∙◌}
use Rattle.cse_verify.proofs.FrameLaws.{open_at_start, open_next}
use Rattle.cse_verify.proofs.frames.frames_of.Goals as goal

pub places-init : goal.places-init
places-init g c = open_at_start _ _

pub places-preserved : goal.places-preserved
places-preserved g c = open_next _ _ _ _ _ _ _ _ _ c.places.invariant (sym c.at.ensures ∙ c.in-Some.is) c.in_call.ensures.value c.in_call.ensures.small c.pass-opened.ensures.opened c.pass-opened.ensures.few c.max-most.ensures
