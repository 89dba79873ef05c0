use Rattle.std.proofs.Common.{List, ◌++◌, map, sym, ap, subst, ◌∙◌}
use Rattle.cse_compile.specs.Setting.{sizes_of}
use Rattle.cse_compile.specs.Wide.{Wide}
use Rattle.cse_compile.specs.Outline.{outline}
use Rattle.cse_compile.specs.Program.{all_code}
use Rattle.cse_compile.specs.Room.{AreSmall}
use Rattle.cse_compile.proofs.Spelled.{small_routines, cannot_fit}
use Rattle.cse_compile.proofs.routes.routed.Goals as goal

pub returns-in-Err-clause-room : goal.returns-in-Err-clause-room
returns-in-Err-clause-room c = λ is x has fits.
    c.in-Err.ensures.room is
    (subst (λ (before : List Wide). AreSmall before c.args.records.now (map sizes_of c.args.arrays.now) (map outline c.args.outlines.now)) (sym c.new-emitter.ensures)
    (small_routines c.args.records.now (map sizes_of c.args.arrays.now) (map outline c.args.outlines.now) x has fits))

pub returns-in-Err-resolved-clause-room : goal.returns-in-Err-resolved-clause-room
returns-in-Err-resolved-clause-room c = λ is.
    let code = all_code c.args.records.now (map sizes_of c.args.arrays.now) (map outline c.args.outlines.now) in
    cannot_fit c.args.records.now (map sizes_of c.args.arrays.now) (map outline c.args.outlines.now) c.code_all.new.emitter (c.in-Ok.ensures.code ∙ ap (λ (before : List Wide). before ++ code) c.new-emitter.ensures)
    (c.in-Err-resolved.ensures.room is)
