use Rattle.std.proofs.Common.{◌∙◌, Some, None}
use Rattle.cse_syntax.proofs.Words.{kind_is}
use Rattle.cse_syntax.proofs.word.word_kind.Goals as goal

pub returns-in-Some : goal.returns-in-Some
returns-in-Some c = kind_is c.args.text.now (Some c.in-Some.kind) c.in-Some.ensures

pub returns-in-None : goal.returns-in-None
returns-in-None c = c.unlisted.ensures ∙ kind_is c.args.text.now None c.in-None.ensures
