use Rattle.std.proofs.Common.{◌≡◌, ◌++◌, take}
use Rattle.std.specs.List.{flat_map}
use Rattle.cse_image_parts.specs.Spelling.{i64}
use Rattle.cse_image_parts.proofs.writing.put_i64s.Given as goal

abbrev pub invariant-loop-n : goal.invariant-loop-n
invariant-loop-n l = l.out.items ≡ l.fn.out.items ++ flat_map i64 (take l.n-index l.numbers)
