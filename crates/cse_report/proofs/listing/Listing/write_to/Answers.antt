use Rattle.std.proofs.Common.{◌≡◌, List, ℕ, ◌++◌, ap, ◌∙◌, subst}
use Rattle.std.specs.Prelude.{map}
use Rattle.cse_value.specs.Writing.{WritesAll}
use Rattle.cse_image_parts.specs.declared.entries.Message.{Message}
use Rattle.cse_image_parts.specs.Image.{message_lists}
use Rattle.cse_value.proofs.GatherLaws.{Puts-then, Gathering-none}
use Rattle.cse_report.specs.Listing.{summary}
use Rattle.cse_report.specs.Held.{Held, ending}
use Rattle.cse_report.proofs.listing.Listing.write_to.Goals as goal

pub returns-clause-bytes : goal.returns-clause-bytes
returns-clause-bytes g c =
    let lines = c.deref.result.now in
    let counted = λ (ms : List Message) (ns : List ℕ). summary (map message_lists ms) ns c.args.cases c.args.lines c.args.unseen in
    let last = counted c.deref-2.result.now c.deref-3.result.now in
    let i = c.self.inside in
    let e : lines ++ last ≡ ending c.args.self.now c.args.cases c.args.lines c.args.unseen =
    ap (λ (l : List ℕ). l ++ last) c.deref.ensures.value
    ∙ (ap (λ (ms : List Message). i.lines.items ++ counted ms c.deref-3.result.now) c.deref-2.ensures.value
    ∙ (ap (λ (ns : List ℕ). i.lines.items ++ counted i.messages.items ns) c.deref-3.ensures.value
    ∙ ap (λ (h : Held). ending h c.args.cases c.args.lines c.args.unseen) c.self.view_is)) in
    let all = Puts-then _ _ _ lines last c.put.ensures c.put_summary.ensures in
    let start = g.W.Output.taken c.args.out.now in
    let sound = g.W.Output.has_failed c.args.out.now in
    let none = Gathering-none start sound c.new-gatherer.result.waiting.items c.new-gatherer.result.gave_up c.new-gatherer.ensures.waiting c.new-gatherer.ensures.gave_up in
    subst (λ (l : List ℕ). WritesAll c.finish.result start (g.W.Output.taken c.finish.new.out) l) e (c.finish.ensures start sound (lines ++ last) (all start sound _ none)).0

pub returns-clause-failed : goal.returns-clause-failed
returns-clause-failed g c =
    let lines = c.deref.result.now in
    let last = summary (map message_lists c.deref-2.result.now) c.deref-3.result.now c.args.cases c.args.lines c.args.unseen in
    let all = Puts-then _ _ _ lines last c.put.ensures c.put_summary.ensures in
    let start = g.W.Output.taken c.args.out.now in
    let sound = g.W.Output.has_failed c.args.out.now in
    let none = Gathering-none start sound c.new-gatherer.result.waiting.items c.new-gatherer.result.gave_up c.new-gatherer.ensures.waiting c.new-gatherer.ensures.gave_up in
    (c.finish.ensures start sound (lines ++ last) (all start sound _ none)).1
