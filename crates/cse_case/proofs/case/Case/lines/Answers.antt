use Rattle.std.proofs.Common.{subst}
use Rattle.cse_case.specs.Fit.{IsFit}
use Rattle.cse_case.proofs.FitLaws.{kept_fits}
use Rattle.cse_case.proofs.case.Case.lines.Goals as goal

pub returns-clause-fits : goal.returns-clause-fits
returns-clause-fits c =
    let v = c.self.inside in
    subst IsFit c.self.view_is (kept_fits v.items v.table.value.ids.items v.kept.value.columns v.kept.value.lines.items v.marked v.first_line c.self.invariant.some c.self.invariant.wide c.self.invariant.laid)
