use Rattle.std.proofs.Common.{◌∙◌, ◌<◌, Some, length, ap, subst, sym}
use Rattle.std.specs.Prelude.{position}
use Rattle.std.proofs.lemmas.Option.{slice_get-get_or}
use Rattle.cse_ordered.proofs.Laws.{keys_kept}
use Rattle.cse_ordered.proofs.keyed.Keyed.set.Goals as goal

pub invariant_of-self : goal.invariant_of-self
invariant_of-self g c q =
    let es = c.self.inside.entries.items in
    let within : c.args.place < length es = subst (λ l. c.args.place < length l) (sym c.self.view_is) c.requires in
    let there = slice_get-get_or es c.args.place c.index_mut.result.now within ∙ ap (λ x. Some x) (sym c.index_mut.ensures.value) in
    c.self.invariant q ∙ ap (position (g.K.PartialEq.eq q)) (sym (keys_kept es c.args.place c.index_mut.result.now c.args.value there))
