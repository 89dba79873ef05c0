use Rattle.std.proofs.Common.{◌≡◌, ◌≤◌, length, take, reverse}
use Rattle.cse_image_parts.specs.Image.{lists_of}
use Rattle.cse_code_typing.specs.Kinds.{below}
use Rattle.cse_code_typing.specs.Needs.{listed_kinds}
use Rattle.cse_code_typing.specs.Piles.{stack_of}
use Rattle.cse_code_typing.proofs.below.below_listed.Given as goal

-- what is left to take lies on the rest
abbrev pub invariant-kinds : goal.invariant-kinds
invariant-kinds l = record {
  within : l.rest ≤ length l.piles;
  few : l.left ≤ length (listed_kinds (lists_of l.tables) l.listed);
  same : below (reverse (listed_kinds (lists_of l.tables) l.listed)) (stack_of l.piles l.fn.stack) ≡ below (reverse (take l.left (listed_kinds (lists_of l.tables) l.listed))) (stack_of l.piles l.rest);
}

abbrev pub decreases-kinds : goal.decreases-kinds
decreases-kinds l = l.left
