use Rattle.std.proofs.Common.{◌≡◌, ◌≤◌, length, drop}
use Rattle.cse_code_typing.specs.Piles.{stack_of}
use Rattle.cse_code_typing.proofs.place_depth.without.Given as goal

abbrev pub invariant-kinds : goal.invariant-kinds
invariant-kinds l = record {
  within : l.rest ≤ length l.piles;
  rest_is : stack_of l.piles l.rest ≡ drop l.counter (stack_of l.piles l.fn.stack);
}
