use Rattle.std.proofs.Common.{◌≡◌, ◌++◌, drop}
use Rattle.cse_dict.specs.Context.{no_context}
use Rattle.cse_dict.specs.Dictionary.{sets_from}
use Rattle.cse_dict.proofs.parts.sets_of.Given as goal

abbrev pub invariant-sections : goal.invariant-sections
invariant-sections l = l.sets.items ++ sets_from l.context (drop l.section-index l.read) ≡ sets_from no_context l.read
