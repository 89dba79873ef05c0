use Rattle.std.proofs.Common.{List, subst}
use Rattle.std.specs.Prelude.{IsTrue}
use Rattle.std.specs.List.{AllByRecursion}
use Rattle.std.specs.Str.{is_utf8}
use Rattle.cse_syntax_tree.specs.declared.token.Token.{Token}
use Rattle.cse_syntax_tree.specs.Tree as syntax
use Rattle.cse_types.proofs.SaidLaws.{source_said}
use Rattle.cse_types.proofs.Utf8.{are_utf8}
use Rattle.cse_types.proofs.checked.check.Goals as goal

pub judged-requires : goal.judged-requires
judged-requires c = source_said (syntax.tree c.args.source.now.tree) _ c.args.source.now.is_source

pub answer-requires-clause-utf8 : goal.answer-requires-clause-utf8
answer-requires-clause-utf8 c =
    are_utf8 64 (syntax.tree c.args.source.now.tree) c.args.source.now.tokens.items
    (subst (λ (ts : List Token). AllByRecursion (λ (t : Token). IsTrue (is_utf8 t.text.now)) ts) c.deref.ensures.value c.read_tokens.ensures) c.args.source.now.is_source
