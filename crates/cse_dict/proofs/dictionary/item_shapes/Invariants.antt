use Rattle.std.proofs.Common.{◌≡◌, take, map}
use Rattle.cse_dict.proofs.dictionary.item_shapes.Given as goal

abbrev pub invariant-items : goal.invariant-items
invariant-items l = l.shapes.items ≡ map (λ x. x.shape) (take l.item-index l.items)
