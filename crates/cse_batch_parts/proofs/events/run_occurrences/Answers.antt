use Rattle.std.proofs.Common.{Some, ◌∙◌, sym, vec_len}
use Rattle.std.proofs.lemmas.Bool.{eqb-true}
use Rattle.std.proofs.lemmas.List.{nil_from_length}
use Rattle.cse_batch_parts.specs.Scene.{scene}
use Rattle.cse_batch_parts.proofs.HandledLaws.{occurrences_stay}
use Rattle.cse_batch_parts.proofs.SceneLaws.{goes_further, occurrences_next}
use Rattle.cse_batch_parts.proofs.events.run_occurrences.Goals as goal

pub occurrences-preserved : goal.occurrences-preserved
occurrences-preserved g c =
    let inv = c.occurrences.invariant in
    let done = c.in_ok-run_items.ensures in
    let v = c.args.verified.now in
    let before = scene (Some c.occurrences.case) c.occurrences.store c.occurrences.reports in
    let after = scene (Some c.run_items.new.case) c.run_items.new.store c.run_items.new.reports in
    let next = occurrences_next v before after c.args.handled.now.number v.image.lists.items c.occurrences.before c.occurrences-count.result c.occurrences-test.true done.scene in
    record {
      same = done.same;
      reports_fit = done.reports_fit;
      goes_on = goes_further v c.args.case.now c.occurrences.case c.run_items.new.case c.occurrences.store c.run_items.new.store inv.goes_on done.goes_on;
      left = next ∙ inv.left;
    }

pub returns-then-is_empty-clause-scene : goal.returns-then-is_empty-clause-scene
returns-then-is_empty-clause-scene g c =
    let v = c.args.verified.now in
    let s = scene (Some c.args.case.now) c.args.store.now c.args.reports.now in
    let empty = nil_from_length c.args.handled.now.items.items (sym c.args.handled.now.items.ok.0 ∙ eqb-true (vec_len c.args.handled.now.items) 0 (sym c.is_empty.ensures ∙ c.if-is_empty.true)) in
    sym (occurrences_stay v c.args.handled.now.number 1 _ s (sym empty ∙ c.requires.handled.items))
