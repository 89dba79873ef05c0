use Rattle.std.proofs.Common.{refl}
use Rattle.cse_code_typing.proofs.ListedLaws.{lacks}
use Rattle.cse_code_typing.proofs.need.rows_of.Goals as goal

pub returns-in-None : goal.returns-in-None
returns-in-None c =
    let none = lacks c.deref.result.now c.args.shape.now.sets.items c.args.set c.deref.ensures.value c.in-None.ensures.lookup.0 in
    rw none refl
