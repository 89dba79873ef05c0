use Rattle.std.proofs.Common.{◌++◌, ap, sym, ◌∙◌}
use Rattle.std.specs.Option.{option_to_list}
use Rattle.cse_code_typing.specs.Piles.{stack_of}
use Rattle.cse_code_typing.proofs.pass_at.put_left.Goals as goal

pub returns-in_ok-stack-in-Some-clause-stack : goal.returns-in_ok-stack-in-Some-clause-stack
returns-in_ok-stack-in-Some-clause-stack c =
    c.in_ok-stack-in-Some.ensures.stack
    ∙ ap (λ o. option_to_list o ++ stack_of c.args.piles.now c.args.rest) (sym c.in-Some.is)
