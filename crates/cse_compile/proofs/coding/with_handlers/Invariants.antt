use Rattle.std.proofs.Common.{◌≡◌, ◌++◌, drop, map}
use Rattle.cse_compile.specs.Outline.{outline, handler}
use Rattle.cse_compile.proofs.coding.with_handlers.Given as goal

abbrev pub invariant-all : goal.invariant-all
invariant-all l = map outline l.outlines.items ++ map (λ x. x.outline) (map handler (drop l.written-index l.handlers)) ≡ map outline l.initial.outlines.items ++ map (λ x. x.outline) (map handler l.handlers)
