use Rattle.std.proofs.Common.{◌≡◌, ◌++◌, drop}
use Rattle.cse_dict.specs.Context.{no_context}
use Rattle.cse_dict.specs.Dictionary.{items_from}
use Rattle.cse_dict.proofs.parts.items_of.Given as goal

abbrev pub invariant-sections : goal.invariant-sections
invariant-sections l = l.items.items ++ items_from l.covered l.context (drop l.section-index l.read) ≡ items_from l.covered no_context l.read
