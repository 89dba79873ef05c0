use Rattle.std.proofs.Common.{ap, sym, ◌∙◌}
use Rattle.cse_syntax.specs.Reading as spec
use Rattle.cse_syntax.proofs.FirstWords.{words_none, sign_first, operator_none}
use Rattle.cse_syntax.proofs.parser.Parser.take_operator.Goals as goal

pub returns-in_err-token-clause-found : goal.returns-in_err-token-clause-found
returns-in_err-token-clause-found c = c.from_residual.ensures ∙ sym (ap (spec.operator_at (spec.operator_of c.args.level)) (words_none c.args.self.now.rest.now c.in_err-token.ensures.value))

pub returns-in_default-clause-found : goal.returns-in_default-clause-found
returns-in_default-clause-found c = operator_none c.args.self.now.rest.now _ c.in_ok-token.ensures.value c.in_default.not-Mark (spec.operator_of c.args.level)

pub returns-in_err-operator-clause-found : goal.returns-in_err-operator-clause-found
returns-in_err-operator-clause-found c =
    c.from_residual-in_err-operator.ensures ∙ c.in_err-operator.ensures
    ∙ sym (ap (spec.operator_at (spec.operator_of c.args.level)) (sign_first c.args.self.now.rest.now _ _ c.in_ok-token.ensures.value c.in-Mark.is))

pub returns-clause-found : goal.returns-clause-found
returns-clause-found c = c.in_ok-operator.ensures ∙ sym (ap (spec.operator_at (spec.operator_of c.args.level)) (sign_first c.args.self.now.rest.now _ _ c.in_ok-token.ensures.value c.in-Mark.is))
