use Rattle.std.proofs.Common.{◌≡◌, ◌∙◌, ap, length, Option, ℕ, ◌+◌}
use Rattle.std.specs.Prelude.{◌||◌, not, option_map}
use Rattle.cse_syntax_tree.specs.Tree as syntax
use Rattle.cse_logic_tree.specs.Typed as typed
use Rattle.cse_logic_names.specs.Scope.{Scope}
use Rattle.cse_logic_names.specs.WellTyped.{messages_of}
use Rattle.cse_logic_expressions.specs.JudgeStatement.{judge_block}
use Rattle.cse_logic_names.specs.Walk.{is_there, joined}
use Rattle.cse_types.proofs.MadeLaws.{told_count}
use Rattle.cse_types.proofs.procedure.both_parts.Goals as goal
use Rattle.cse_types.proofs.procedure.both_parts.Goals.{After-around}

-- the second part, judged where the first left the scope and the messages
behind_is : (c : After-around) → judge_block c.block.new.scope (length c.block.new.told.items) (syntax.block c.args.ys.now.items) ≡ judge_block c.args.scope.now (length c.args.told.now.items + length (messages_of (syntax.block c.args.xs.now.items))) (syntax.block c.args.ys.now.items)
behind_is c =
    ap (λ (z : Scope). judge_block z (length c.block.new.told.items) (syntax.block c.args.ys.now.items)) c.in_ok-before.ensures.same
    ∙ ap (λ (n : ℕ). judge_block c.args.scope.now n (syntax.block c.args.ys.now.items)) (told_count c.args.told.now.items c.block.new.told.items (messages_of (syntax.block c.args.xs.now.items)) c.in_ok-before.ensures.told)

pub returns-clause-value : goal.returns-clause-value
returns-clause-value c =
    c.around.ensures
    ∙ ap (λ (o : Option typed.Statements). joined typed.Both o (option_map (λ v. typed.block v.items) c.in_ok-after.after)) c.in_ok-before.ensures.value
    ∙ ap (λ (o : Option typed.Statements). joined typed.Both (judge_block c.args.scope.now (length c.args.told.now.items) (syntax.block c.args.xs.now.items)) o) (c.in_ok-after.ensures.value ∙ behind_is c)
