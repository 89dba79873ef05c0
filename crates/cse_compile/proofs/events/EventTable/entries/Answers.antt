use Rattle.std.proofs.Common.{rules, ◌≡◌, ◌++◌, [], ap, ◌∙◌}
use Rattle.cse_image_parts.specs.declared.entries.EventCode.TheVariants as codes
use Rattle.cse_compile.specs.Events.{entries_in, entries_below}
use Rattle.cse_compile.proofs.events.EventTable.entries.Goals as goal

pub returns : goal.returns
unfolding entries_in
returns c =
    let t = c.args.self.now in
    let e0 : c.new-events.result.items ≡ [] = search rules in
    let e1 = c.in_ok-add_entries.ensures ∙ ap (λ l. l ++ entries_below t codes.ApplicationPreproc 1) e0 in
    let e2 = c.in_ok-add_entries-2.ensures ∙ ap (λ l. l ++ entries_below t codes.ApplicationPostproc 1) e1 in
    let e3 = c.in_ok-add_entries-3.ensures ∙ ap (λ l. l ++ entries_below t codes.LevelPreproc 1) e2 in
    let e4 = c.in_ok-add_entries-4.ensures ∙ ap (λ l. l ++ entries_below t codes.LevelPostproc 1) e3 in
    let e5 = c.in_ok-add_entries-5.ensures ∙ ap (λ l. l ++ entries_below t codes.RecordPreproc c.args.records) e4 in
    let e6 = c.in_ok-add_entries-6.ensures ∙ ap (λ l. l ++ entries_below t codes.RecordPostproc c.args.records) e5 in
    let e7 = c.in_ok-add_entries-7.ensures ∙ ap (λ l. l ++ entries_below t codes.ItemPreproc c.args.items) e6 in
    let e8 = c.in_ok-add_entries-8.ensures ∙ ap (λ l. l ++ entries_below t codes.ItemPostproc c.args.items) e7 in
    e8
