use Rattle.std.proofs.Common.{◌≡◌}
use Rattle.cse_code_typing.specs.Bracket.{innermost}
use Rattle.cse_code_typing.specs.Innermost.{innermost_below}
use Rattle.cse_code_typing.proofs.innermost.innermost_table.Given as goal

abbrev pub invariant-places : goal.invariant-places
invariant-places g l = record {
  told : l.table.items ≡ innermost_below l.code l.place;
  here : l.inner ≡ innermost l.code l.place;
}
