use Rattle.std.proofs.Common.{◌∙◌}
use Rattle.cse_syntax.specs.declared.source.TheConstants.{LIMIT}
use Rattle.cse_syntax.proofs.Whole.{is_source, one_tree_of, memory_alone}
use Rattle.cse_syntax.proofs.Spans.{covers}
use Rattle.cse_syntax.proofs.source.parse.Goals as goal

pub returns-in-Ok-clause-spans : goal.returns-in-Ok-clause-spans
returns-in-Ok-clause-spans c = covers c.args.text.now _ c.in-Ok.ensures.tokens

pub returns-in-Ok-clause-tree : goal.returns-in-Ok-clause-tree
returns-in-Ok-clause-tree c = is_source LIMIT c.args.text.now c.in-Ok.source.tokens.items _ c.in-Ok.ensures.tokens c.in-Ok.ensures.numbered c.in-Ok.ensures.tree

pub returns-in-Ok-clause-only : goal.returns-in-Ok-clause-only
returns-in-Ok-clause-only c = λ t h. one_tree_of LIMIT c.args.text.now t _ c.in-Ok.ensures.tree h

pub returns-in-Err-clause-only : goal.returns-in-Err-clause-only
returns-in-Err-clause-only c = λ t h. c.located.ensures.number ∙ memory_alone LIMIT c.args.text.now t c.in-Err.error c.in-Err.ensures.tree h
