use Rattle.std.proofs.Common.{sym, ◌∙◌}
use Rattle.cse_image.proofs.fitting.routes_fit.Goals as goal

pub returns-then-not-routines_fit : goal.returns-then-not-routines_fit
returns-then-not-routines_fit c = (λ no. absurd cc, λ fits. sym c.if-not-routines_fit.true ∙ (rw c.deref.ensures.value at c.routines_fit.ensures).1 fits.0)

pub returns : goal.returns
returns c = (
  λ yes. ((rw c.deref.ensures.value at c.routines_fit.ensures).0 c.if-not-routines_fit.false, (rw c.deref-2.ensures.value at c.events_fit.ensures).0 yes),
  λ fits. (rw c.deref-2.ensures.value at c.events_fit.ensures).1 fits.1,
)
