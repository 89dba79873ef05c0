use Rattle.std.proofs.Common.{List, ℕ, ◌++◌, ap, refl, sym, true}
use Rattle.cse_value.proofs.GatherLaws.{Puts-failed, Puts-wrote}
use Rattle.cse_value.proofs.gatherer.Gatherer.write.Goals as goal

pub returns-in-Ok : goal.returns-in-Ok
returns-in-Ok g c =
    Puts-wrote (g.W.Output.taken c.args.out.now) (g.W.Output.taken c.write_all.new.out) (g.W.Output.has_failed c.args.out.now) (g.W.Output.has_failed c.write_all.new.out)
    c.args.self.now.waiting.items c.args.self.now.waiting.items c.args.self.now.gave_up c.args.self.now.gave_up c.args.bytes.now c.args.bytes.now
    c.if-self.false c.if-self.false c.requires (ap (λ (l : List ℕ). l ++ c.args.bytes.now) (sym c.requires)) c.in-Ok.ensures.bytes c.in-Ok.ensures.failed

pub returns-in-Err : goal.returns-in-Err
returns-in-Err g c =
    Puts-failed (g.W.Output.taken c.args.out.now) (g.W.Output.taken c.write_all.new.out) (g.W.Output.has_failed c.args.out.now) (g.W.Output.has_failed c.write_all.new.out)
    c.args.self.now.waiting.items c.args.self.now.waiting.items c.args.self.now.gave_up true c.args.bytes.now c.args.bytes.now
    c.if-self.false refl (ap (λ (l : List ℕ). l ++ c.args.bytes.now) (sym c.requires)) c.in-Err.ensures.bytes c.in-Err.ensures.failed
