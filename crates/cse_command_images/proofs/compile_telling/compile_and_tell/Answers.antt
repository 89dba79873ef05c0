use Rattle.std.proofs.Common.{inl, inr, refl}
use Rattle.std.proofs.lemmas.Result.{err_from_is_err_and}
use Rattle.cse_command_parts.proofs.PrintsLaws.{prints_so}
use Rattle.cse_command_images.proofs.compile_telling.compile_and_tell.Goals as goal

pub returns-in_err-compiled : goal.returns-in_err-compiled
returns-in_err-compiled g c =
    let p = err_from_is_err_and c.from_residual.result c.from_residual.ensures.1 in
    rw (p.1, p.2) (inl (c.in_err-compiled.ensures.stops, refl))

pub returns : goal.returns
returns g c =
    inr
    (record {
      made = c.in_ok-compiled.compiled;
      paths = c.in_ok-compiled.ensures.paths;
      compiles = c.in_ok-compiled.ensures.compiles;
      prints = prints_so _ c.write_compiled.result c.printed.result _ _ c.printed.ensures c.write_compiled.ensures.bytes;
    })
