use Rattle.std.proofs.Common.{◌≡◌, List, ℕ, ◌++◌, ap, ◌∙◌, subst}
use Rattle.std.specs.Prelude.{codes}
use Rattle.cse_value.specs.Writing.{WritesAll}
use Rattle.cse_dict.specs.Dictionary.{item_names}
use Rattle.cse_value.specs.Gathering.{line}
use Rattle.cse_value.proofs.GatherLaws.{Puts-then, Gathering-none}
use Rattle.cse_report.specs.Frequency.{Table, items_lines, frequencies_text}
use Rattle.cse_report.proofs.frequencies.Frequencies.write_to.Goals as goal

pub returns-clause-bytes : goal.returns-clause-bytes
unfolding frequencies_text
returns-clause-bytes g c =
    let first : List ℕ = line (codes "CSEB FREQUENCIES 1") in
    let last : List ℕ = line (codes "END") in
    let names = item_names c.args.dictionary.now in
    let middle = items_lines names c.deref.result.now in
    let e : (first ++ middle) ++ last ≡ frequencies_text names c.args.self.now =
    ap (λ (l : List Table). (first ++ items_lines names l) ++ last) (c.deref.ensures.value ∙ c.self.view_is) in
    let all = Puts-then _ _ _ (first ++ middle) last (Puts-then _ _ _ first middle c.put_line.ensures c.put_items.ensures) c.put_line-2.ensures in
    let start = g.W.Output.taken c.args.out.now in
    let sound = g.W.Output.has_failed c.args.out.now in
    let none = Gathering-none start sound c.new-gatherer.result.waiting.items c.new-gatherer.result.gave_up c.new-gatherer.ensures.waiting c.new-gatherer.ensures.gave_up in
    subst (λ (l : List ℕ). WritesAll c.finish.result start (g.W.Output.taken c.finish.new.out) l) e (c.finish.ensures start sound ((first ++ middle) ++ last) (all start sound _ none)).0

pub returns-clause-failed : goal.returns-clause-failed
returns-clause-failed g c =
    let first : List ℕ = line (codes "CSEB FREQUENCIES 1") in
    let last : List ℕ = line (codes "END") in
    let middle = items_lines (item_names c.args.dictionary.now) c.deref.result.now in
    let all = Puts-then _ _ _ (first ++ middle) last (Puts-then _ _ _ first middle c.put_line.ensures c.put_items.ensures) c.put_line-2.ensures in
    let start = g.W.Output.taken c.args.out.now in
    let sound = g.W.Output.has_failed c.args.out.now in
    let none = Gathering-none start sound c.new-gatherer.result.waiting.items c.new-gatherer.result.gave_up c.new-gatherer.ensures.waiting c.new-gatherer.ensures.gave_up in
    (c.finish.ensures start sound ((first ++ middle) ++ last) (all start sound _ none)).1
