use Rattle.std.proofs.Common.{[], length, sym, eqb-true, ◌∙◌}
use Rattle.std.proofs.lemmas.List.{nil_from_length}
use Rattle.cse_value.specs.Gathering.{behind}
use Rattle.cse_value.proofs.GatherLaws.{Puts-as, Puts-gave_up, Puts-nothing, Puts-then, Puts-waits}
use Rattle.cse_value.proofs.gatherer.Gatherer.put.Goals as goal

pub returns-then-is_empty : goal.returns-then-is_empty
returns-then-is_empty g c =
    let as_it_was = behind g.W.Output.taken g.W.Output.has_failed c.args.out.now c.args.self.now in
    let none = nil_from_length c.args.bytes.now (eqb-true (length c.args.bytes.now) 0 (sym c.is_empty.ensures ∙ c.if-is_empty.true)) in
    Puts-as as_it_was as_it_was [] c.args.bytes.now (sym none) (Puts-nothing as_it_was)

pub returns-then-self : goal.returns-then-self
returns-then-self g c =
    Puts-gave_up (g.W.Output.taken c.args.out.now) (g.W.Output.has_failed c.args.out.now) c.args.self.now.waiting.items c.args.self.now.waiting.items c.args.self.now.gave_up
    c.args.bytes.now c.if-self.true

pub returns-then-bytes-len : goal.returns-then-bytes-len
returns-then-bytes-len g c =
    Puts-waits (g.W.Output.taken c.args.out.now) (g.W.Output.has_failed c.args.out.now) c.args.self.now.waiting.items c.push.new.self.items c.args.self.now.gave_up
    c.args.bytes.now c.if-self.false c.push.ensures

pub returns : goal.returns
returns g c = Puts-then _ _ _ _ _ c.flush.ensures.puts c.put_first.ensures
