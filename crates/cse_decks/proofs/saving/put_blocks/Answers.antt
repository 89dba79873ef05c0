use Rattle.std.proofs.Common.{◌≡◌, ◌<◌, List, length, get_or, take, sym, subst, arith}
use Rattle.std.specs.Prelude.{map}
use Rattle.cse_value.specs.declared.number.Num.{Num}
use Rattle.cse_image_parts.specs.Image.{array_lists}
use Rattle.cse_decks.specs.Deck.{blocks, saved_block}
use Rattle.cse_value.proofs.GatherLaws.{Puts-then, Puts-as}
use Rattle.cse_decks.proofs.SaveLaws.{blocks_more}
use Rattle.cse_decks.proofs.saving.put_blocks.Goals as goal

pub arrays-preserved : goal.arrays-preserved
arrays-preserved g c =
    let here : c.arrays.i < length c.args.arrays.now = omega arith in
    let there : c.arrays.i < length c.args.cells.now = omega arith in
    let at = subst (λ (v : List Num). v ≡ get_or c.args.cells.now c.arrays.i v) (sym c.as_slice.ensures) c.index-cells-i.is in
    Puts-as _ _ _ _ (blocks_more c.args.arrays.now c.args.cells.now c.arrays.i c.index-arrays-i.result c.as_slice.result.now here there c.index-arrays-i.is at)
    (Puts-then _ _ _ (blocks (map array_lists (take c.arrays.i c.args.arrays.now)) (take c.arrays.i c.args.cells.now)) (saved_block (array_lists c.index-arrays-i.result) c.as_slice.result.now) c.arrays.invariant c.put_saved.ensures)
