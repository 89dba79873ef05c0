use Rattle.std.proofs.Common.{◌++◌, List, ap, ◌∙◌}
use Rattle.std.specs.List.{flat_map}
use Rattle.std.proofs.lemmas.List.{take_all}
use Rattle.cse_image_parts.proofs.Loop.{put_more}
use Rattle.cse_image.proofs.writing.put_entries.Goals as goal

pub loop-entry-preserved : goal.loop-entry-preserved
loop-entry-preserved g c =
    let spelling = g.E.Entry.spelling in
    put_more spelling c.args.out.now.items c.args.entries.now c.loop-entry.entry-index c.entry-item.result c.loop-entry.out.items c.put.new.out.items c.loop-entry-test.true
    (c.in_ok-put.ensures ∙ ap (λ x. c.loop-entry.out.items ++ spelling x) c.entry-item.is) c.loop-entry.invariant

pub returns : goal.returns
returns g c = c.loop-entry.invariant ∙ ap (λ l. c.args.out.now.items ++ flat_map g.E.Entry.spelling l) (take_all c.loop-entry.entry-index c.args.entries.now c.loop-entry-test.false)
