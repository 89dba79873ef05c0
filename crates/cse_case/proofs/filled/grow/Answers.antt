use Rattle.std.proofs.Common.{arith}
use Rattle.cse_case.proofs.BytesLaws.{grown}
use Rattle.std.proofs.lemmas.List.{take_all}
use Rattle.cse_case.proofs.filled.grow.Goals as goal

pub returns-in_err-keep_beside-clause-same : goal.returns-in_err-keep_beside-clause-same
returns-in_err-keep_beside-clause-same c n fits =
    let own = c.args.own.now in
    grown own.bytes.items own.bytes.items own.beside.items c.keep_beside.new.beside.items (take_all _ own.bytes.items (omega arith)) c.keep_beside.ensures.same n fits

pub returns-clause-same : goal.returns-clause-same
returns-clause-same c n fits =
    let own = c.args.own.now in
    grown own.bytes.items c.fill_bytes.new.bytes.items own.beside.items c.keep_beside.new.beside.items c.fill_bytes.ensures.same c.keep_beside.ensures.same n fits
