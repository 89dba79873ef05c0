use Rattle.std.proofs.Common.{[], refl, sym, true, ◌∙◌, append-nil}
use Rattle.cse_value.proofs.GatherLaws.{Puts-failed, Puts-gave_up, Puts-wrote}
use Rattle.cse_value.proofs.gatherer.Gatherer.flush.Goals as goal

pub returns-then-self-clause-puts : goal.returns-then-self-clause-puts
returns-then-self-clause-puts g c =
    Puts-gave_up (g.W.Output.taken c.args.out.now) (g.W.Output.has_failed c.args.out.now) c.args.self.now.waiting.items c.clear.new.self.items c.args.self.now.gave_up [] c.if-self.true

pub returns-in-Ok-clause-puts : goal.returns-in-Ok-clause-puts
returns-in-Ok-clause-puts g c =
    Puts-wrote (g.W.Output.taken c.args.out.now) (g.W.Output.taken c.write_all.new.out) (g.W.Output.has_failed c.args.out.now) (g.W.Output.has_failed c.write_all.new.out)
    c.args.self.now.waiting.items c.clear-in-Ok.new.self.items c.args.self.now.gave_up c.args.self.now.gave_up [] c.as_slice.result.now
    c.if-self.false c.if-self.false c.clear-in-Ok.ensures (c.as_slice.ensures ∙ sym (append-nil c.args.self.now.waiting.items)) c.in-Ok.ensures.bytes c.in-Ok.ensures.failed

pub returns-in-Err-clause-puts : goal.returns-in-Err-clause-puts
returns-in-Err-clause-puts g c =
    Puts-failed (g.W.Output.taken c.args.out.now) (g.W.Output.taken c.write_all.new.out) (g.W.Output.has_failed c.args.out.now) (g.W.Output.has_failed c.write_all.new.out)
    c.args.self.now.waiting.items c.clear-in-Err.new.self.items c.args.self.now.gave_up true [] c.as_slice.result.now
    c.if-self.false refl (c.as_slice.ensures ∙ sym (append-nil c.args.self.now.waiting.items)) c.in-Err.ensures.bytes c.in-Err.ensures.failed
