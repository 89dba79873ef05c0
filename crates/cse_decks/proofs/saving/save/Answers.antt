use Rattle.std.proofs.Common.{◌≡◌, List, ℕ, ◌++◌, ap, ◌∙◌, subst}
use Rattle.std.specs.Prelude.{map}
use Rattle.cse_value.specs.declared.number.Num.{Num}
use Rattle.cse_value.specs.Writing.{WritesAll}
use Rattle.cse_image_parts.specs.declared.entries.Array.{Array}
use Rattle.cse_image_parts.specs.Image.{array_lists, ArrayLists, Lists}
use Rattle.cse_value.specs.Gathering.{line}
use Rattle.cse_decks.specs.Deck.{heading, ending, blocks, deck_text}
use Rattle.cse_value.proofs.GatherLaws.{Puts-then, Gathering-none}
use Rattle.cse_decks.proofs.SavedLaws.{loads_what_was_saved}
use Rattle.cse_decks.proofs.saving.save.Goals as goal

pub returns-clause-bytes : goal.returns-clause-bytes
unfolding deck_text
returns-clause-bytes g c =
    let middle = blocks (map array_lists c.deref.result.now) c.cells.result.now in
    let arrays_are : map array_lists c.deref.result.now ≡ c.args.program.now.lists.arrays = ap (λ (l : List Array). map array_lists l) c.deref.ensures.value ∙ ap (λ (l : Lists). l.arrays) c.tables-tables.ensures.lists in
    let e : (line heading ++ middle) ++ line ending ≡ deck_text c.args.program.now c.args.store.now =
    ap (λ (l : List ArrayLists). (line heading ++ blocks l c.cells.result.now) ++ line ending) arrays_are
    ∙ ap (λ (l : List (List Num)). (line heading ++ blocks c.args.program.now.lists.arrays l) ++ line ending) c.cells.ensures.cells in
    let all = Puts-then _ _ _ (line heading ++ middle) (line ending) (Puts-then _ _ _ (line heading) middle c.put_line.ensures c.put_blocks.ensures) c.put_line-2.ensures in
    let start = g.W.Output.taken c.args.out.now in
    let sound = g.W.Output.has_failed c.args.out.now in
    let none = Gathering-none start sound c.new-gatherer.result.waiting.items c.new-gatherer.result.gave_up c.new-gatherer.ensures.waiting c.new-gatherer.ensures.gave_up in
    subst (λ (l : List ℕ). WritesAll c.finish.result start (g.W.Output.taken c.finish.new.out) l) e (c.finish.ensures start sound ((line heading ++ middle) ++ line ending) (all start sound _ none)).0

pub returns-clause-failed : goal.returns-clause-failed
returns-clause-failed g c =
    let middle = blocks (map array_lists c.deref.result.now) c.cells.result.now in
    let all = Puts-then _ _ _ (line heading ++ middle) (line ending) (Puts-then _ _ _ (line heading) middle c.put_line.ensures c.put_blocks.ensures) c.put_line-2.ensures in
    let start = g.W.Output.taken c.args.out.now in
    let sound = g.W.Output.has_failed c.args.out.now in
    let none = Gathering-none start sound c.new-gatherer.result.waiting.items c.new-gatherer.result.gave_up c.new-gatherer.ensures.waiting c.new-gatherer.ensures.gave_up in
    (c.finish.ensures start sound ((line heading ++ middle) ++ line ending) (all start sound _ none)).1

pub returns-clause-loads : goal.returns-clause-loads
returns-clause-loads g c = loads_what_was_saved c.args.program.now c.args.store.now c.tables-tables.ensures.fits c.requires c.cells.ensures.fit
