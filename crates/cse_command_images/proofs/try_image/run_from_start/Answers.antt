use Rattle.std.proofs.Common.{ap, ◌∙◌}
use Rattle.std.proofs.lemmas.Result.{IfOk-weaker}
use Rattle.cse_decks.specs.Store.{first_kept}
use Rattle.cse_command_images.proofs.TriedLaws.{goes_so}
use Rattle.cse_command_images.proofs.try_image.run_from_start.Goals as goal

pub returns : goal.returns
returns g c =
    IfOk-weaker c.run_with.result _ _
    (λ n. goes_so c.args.verified.now c.in_ok-store.store c.run_with.new.store c.args.reports.now c.run_with.new.reports n
    (c.in_ok-store.ensures.first ∙ ap first_kept c.program.ensures.program) c.requires.empty)
    c.run_with.ensures
