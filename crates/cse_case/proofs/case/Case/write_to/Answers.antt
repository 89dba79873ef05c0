use Rattle.cse_case.specs.Run.{written_run}
use Rattle.cse_value.proofs.GatherLaws.{Gathering-none}
use Rattle.cse_case.proofs.case.Case.write_to.Goals as goal

pub returns-clause-bytes : goal.returns-clause-bytes
returns-clause-bytes g c =
    let start = g.W.Output.taken c.args.out.now in
    let sound = g.W.Output.has_failed c.args.out.now in
    let none = Gathering-none start sound c.new-gatherer.result.waiting.items c.new-gatherer.result.gave_up c.new-gatherer.ensures.waiting c.new-gatherer.ensures.gave_up in
    (c.finish.ensures start sound (written_run c.args.self.now.run) (c.put_to.ensures start sound _ none)).0

pub returns-clause-failed : goal.returns-clause-failed
returns-clause-failed g c =
    let start = g.W.Output.taken c.args.out.now in
    let sound = g.W.Output.has_failed c.args.out.now in
    let none = Gathering-none start sound c.new-gatherer.result.waiting.items c.new-gatherer.result.gave_up c.new-gatherer.ensures.waiting c.new-gatherer.ensures.gave_up in
    (c.finish.ensures start sound (written_run c.args.self.now.run) (c.put_to.ensures start sound _ none)).1
