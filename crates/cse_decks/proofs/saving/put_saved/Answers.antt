use Rattle.std.proofs.Common.{Bool, cond, [], ap, sym}
use Rattle.std.specs.List.{flat_map}
use Rattle.cse_image_parts.specs.Image.{array_lists}
use Rattle.cse_value.specs.Gathering.{line}
use Rattle.cse_decks.specs.Deck.{array_line, cell_line, block}
use Rattle.cse_value.proofs.GatherLaws.{Puts-then, Puts-as}
use Rattle.cse_decks.proofs.saving.put_saved.Goals as goal

pub returns : goal.returns
unfolding block
returns g c =
    let a = array_lists c.args.array.now in
    Puts-as _ _ _ _ (sym (ap (λ (b : Bool). cond b (block a c.args.cells.now) []) c.if-not-array.false))
    (Puts-then _ _ _ (line (array_line a)) (flat_map cell_line c.args.cells.now) c.put_array_line.ensures c.put_cells.ensures)
