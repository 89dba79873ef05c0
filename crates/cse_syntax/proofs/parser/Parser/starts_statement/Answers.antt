use Rattle.std.proofs.Common.{ap, sym, ◌∙◌}
use Rattle.cse_syntax.specs.ReadingStmt as rule
use Rattle.cse_syntax.proofs.FirstWords.{words_none, sign_first}
use Rattle.cse_syntax.proofs.parser.Parser.starts_statement.Goals as goal

pub returns-in-None : goal.returns-in-None
returns-in-None c = sym (ap rule.starts_stmt (words_none c.args.self.now.rest.now c.in-None.ensures.value))

pub returns-in-Mark : goal.returns-in-Mark
returns-in-Mark c = c.starts_mark.ensures ∙ sym (ap rule.starts_stmt (sign_first c.args.self.now.rest.now _ _ c.in-Some.ensures.value c.in-Mark.is))
