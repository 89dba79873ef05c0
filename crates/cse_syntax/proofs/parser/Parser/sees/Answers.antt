use Rattle.std.proofs.Common.{ap, sym, ◌∙◌}
use Rattle.cse_syntax.specs.Reading as spec
use Rattle.cse_syntax.proofs.FirstWords.{words_none, sign_first, sees_none}
use Rattle.cse_syntax.proofs.parser.Parser.sees.Goals as goal

pub returns-in-None : goal.returns-in-None
returns-in-None c = sym (ap (spec.sees c.args.mark) (words_none c.args.self.now.rest.now c.in-None.ensures.value))

pub returns-in-Mark : goal.returns-in-Mark
returns-in-Mark c = c.eq.ensures ∙ sym (ap (spec.sees c.args.mark) (sign_first c.args.self.now.rest.now _ _ c.in-Some.ensures.value c.in-Mark.is))

pub returns-in_default : goal.returns-in_default
returns-in_default c = sees_none c.args.self.now.rest.now _ c.in-Some.ensures.value c.in_default.not-Mark c.args.mark
