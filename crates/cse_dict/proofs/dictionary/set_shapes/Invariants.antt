use Rattle.std.proofs.Common.{◌≡◌, take, map}
use Rattle.cse_dict.proofs.dictionary.set_shapes.Given as goal

abbrev pub invariant-sets : goal.invariant-sets
invariant-sets l = l.shapes.items ≡ map (λ x. x.shape) (take l.set-index l.sets)
