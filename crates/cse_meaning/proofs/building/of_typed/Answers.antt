use Rattle.std.proofs.Common.{◌≡◌, ◌⊎◌, sym, subst}
use Rattle.cse_types.specs.Answer.{checked}
use Rattle.cse_meaning.specs.declared.error.BuildFault.{BuildFault}
use Rattle.cse_meaning.specs.Fault.{out_of_memory}
use Rattle.cse_meaning.specs.Build.{IsLimitFault}
use Rattle.cse_meaning.proofs.Layers.{image_of_program, limit_told, memory_of_program}
use Rattle.cse_meaning.proofs.building.of_typed.Goals as goal

pub returns-in-Ok-clause-image : goal.returns-in-Ok-clause-image
returns-in-Ok-clause-image c =
    let k = checked c.args.typed in
    let h = c.in-Ok.ensures in
    image_of_program k.dictionary k.order k.tree c.in-Ok.program c.spelled.result (λ v. v.items) h.tables h.typed h.bounded c.spelled.ensures.bytes

pub returns-in-Ok-clause-fault : goal.returns-in-Ok-clause-fault
returns-in-Ok-clause-fault c = let k = checked c.args.typed in memory_of_program k.dictionary k.tree c.spelled.result c.spelled.ensures.memory
