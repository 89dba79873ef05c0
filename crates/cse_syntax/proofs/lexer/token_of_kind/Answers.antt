use Rattle.cse_syntax.proofs.WrittenAsKind.{kind_clause}
use Rattle.cse_syntax.proofs.lexer.token_of_kind.Goals as goal

pub returns-clause-kind : goal.returns-clause-kind
returns-clause-kind c = kind_clause c.args.bytes.now c.token_at.result c.token_at.ensures.value
