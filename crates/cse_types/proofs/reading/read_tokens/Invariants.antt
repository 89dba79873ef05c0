use Rattle.std.proofs.Common.{take}
use Rattle.std.specs.Prelude.{IsTrue}
use Rattle.std.specs.List.{AllByRecursion}
use Rattle.std.specs.Str.{is_utf8}
use Rattle.cse_syntax_tree.specs.declared.token.Token.{Token}
use Rattle.cse_types.proofs.reading.read_tokens.Given as goal

abbrev pub invariant-loop-token : goal.invariant-loop-token
invariant-loop-token l = AllByRecursion (λ (t : Token). IsTrue (is_utf8 t.text.now)) (take l.token-index l.tokens)
