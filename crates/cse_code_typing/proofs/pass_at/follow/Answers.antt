use Rattle.cse_code_typing.proofs.TurnLaws.{followed}
use Rattle.cse_code_typing.proofs.pass_at.follow.Goals as goal

pub returns-in-Some-clause-pass_at : goal.returns-in-Some-clause-pass_at
returns-in-Some-clause-pass_at c =
    followed c.args.piles.now c.edges_at.new.piles c.args.known.now c.args.at.place _ c.in_ok-edges_at.field-0 c.in-Some.exits _
    c.in_ok-edges_at.ensures.rule c.in-Some.is c.edges_at.ensures.keeps c.requires.within c.merge_exits-merged.ensures.merges
