use Rattle.std.proofs.Common.{◌∙◌, ap}
use Rattle.cse_case.specs.Run.{with_columns}
use Rattle.cse_case.proofs.CopyLaws.{one_piece}
use Rattle.cse_case.proofs.copy.put_all_beside.Goals as goal

pub returns-clause-items : goal.returns-clause-items
returns-clause-items c =
    c.put_characters_at.ensures.items ∙ ap (λ l. with_columns c.args.first l c.args.beside.now.items) (one_piece c.args.bytes.now c.args.there.now c.requires.wide)
