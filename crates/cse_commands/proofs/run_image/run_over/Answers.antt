use Rattle.std.proofs.lemmas.Result.{IfErr-weaker}
use Rattle.cse_commands.proofs.FaultyLaws.{told_is_fault}
use Rattle.cse_commands.proofs.RanLaws.{tells_of_three}
use Rattle.cse_commands.proofs.run_image.run_over.Goals as goal

pub returns-clause-took : goal.returns-clause-took
returns-clause-took g c =
    tells_of_three _ _ _ _ _ _ _ _ _ _ c.run_on-told.ensures.whole c.run_on-told.ensures.stopped c.in_ok-input.ensures.given
    c.in_ok-out.ensures.taken c.in_ok-listing.ensures.taken c.in_ok-frequencies.ensures.taken

pub returns-clause-told : goal.returns-clause-told
returns-clause-told g c = IfErr-weaker c.run_on-told.result _ _ (λ stop t. told_is_fault _ _ _ _ _ _ _ stop t) c.run_on-told.ensures.stopped
