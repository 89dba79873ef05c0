use Rattle.std.proofs.Common.{◌≡◌, ◌++◌, [], drop, map}
use Rattle.cse_logic_tree.specs.Typed.{procedure}
use Rattle.cse_compile.specs.Outline.{handler, handlers_in}
use Rattle.cse_compile.proofs.outlines.handlers_of.Given as goal

abbrev pub invariant-all : goal.invariant-all
invariant-all l = map handler l.handlers.items ++ handlers_in (map procedure (drop l.written-index l.procedures)) ≡ handlers_in (map procedure l.procedures)
