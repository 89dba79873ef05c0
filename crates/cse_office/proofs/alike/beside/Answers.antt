use Rattle.std.proofs.Common.{ap, sym, ◌∙◌}
use Rattle.cse_case.specs.Bytes.{columns_by}
use Rattle.cse_office.proofs.AlikeLaws.{beside_part}
use Rattle.cse_office.proofs.alike.beside.Goals as goal

pub returns : goal.returns
returns c =
    c.rest_beside.ensures
    ∙ (beside_part c.args.columns.bytes.now c.rest_beside.result.now ∙ ap (λ l. columns_by c.args.columns.bytes.now l) (sym c.front_of.ensures))
