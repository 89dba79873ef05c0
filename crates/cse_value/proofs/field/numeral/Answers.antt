use Rattle.std.proofs.Common.{refl, ◌∙◌}
use Rattle.cse_value.proofs.FieldSteps.{in_i64-signed, in_i64-unsigned}
use Rattle.cse_value.proofs.field.numeral.Goals as goal

pub returns-in_default : goal.returns-in_default
returns-in_default c = in_i64-signed c.args.spelled.now _ _ _ c.requires c.index-spelled-0.is c.if-spelled-eq45.true refl c.in_default.ensures

pub returns-then-spelled-eq45 : goal.returns-then-spelled-eq45
returns-then-spelled-eq45 c = c.negative.ensures ∙ in_i64-signed c.args.spelled.now _ _ _ c.requires c.index-spelled-0.is c.if-spelled-eq45.true refl c.in-Some.ensures

pub returns-in_default-decimal : goal.returns-in_default-decimal
returns-in_default-decimal c = in_i64-unsigned c.args.spelled.now _ _ c.requires c.index-spelled-0.is c.if-spelled-eq45.false c.in_default-decimal.ensures

pub returns : goal.returns
returns c = c.positive.ensures ∙ in_i64-unsigned c.args.spelled.now _ _ c.requires c.index-spelled-0.is c.if-spelled-eq45.false c.in-Some-decimal.ensures
