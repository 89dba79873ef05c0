use Rattle.std.proofs.Common.{◌≡◌, ◌++◌, [], drop, map}
use Rattle.cse_logic_tree.specs.Typed.{block}
use Rattle.cse_compile.specs.Outline.{is_idle}
use Rattle.cse_compile.proofs.outlines.is_idle.Given as goal

abbrev pub invariant-all : goal.invariant-all
invariant-all l = is_idle (block (drop l.written-index l.body.items)) ≡ is_idle (block l.body.items)
