use Rattle.cse_value.proofs.GatherLaws.{Puts-gave_up, Puts-waits}
use Rattle.cse_value.proofs.gatherer.Gatherer.put_first.Goals as goal

pub returns-then-self : goal.returns-then-self
returns-then-self g c =
    Puts-gave_up (g.W.Output.taken c.args.out.now) (g.W.Output.has_failed c.args.out.now) c.args.self.now.waiting.items c.args.self.now.waiting.items c.args.self.now.gave_up
    c.args.bytes.now c.if-self.true

pub returns-then-bytes-le-ROOM : goal.returns-then-bytes-le-ROOM
returns-then-bytes-le-ROOM g c =
    Puts-waits (g.W.Output.taken c.args.out.now) (g.W.Output.has_failed c.args.out.now) c.args.self.now.waiting.items c.push.new.self.items c.args.self.now.gave_up
    c.args.bytes.now c.if-self.false c.push.ensures

pub returns : goal.returns
returns g c = c.write.ensures
