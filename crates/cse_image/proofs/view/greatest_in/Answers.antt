use Rattle.std.proofs.Common.{take, sym}
use Rattle.cse_lemmas.proofs.Lists.{take_some}
use Rattle.cse_image_parts.specs.declared.version.Version.TheVariants as versions
use Rattle.cse_image_parts.proofs.UpgradeLaws.{greatest_next}
use Rattle.cse_image.specs.View.{code_in}
use Rattle.cse_image.proofs.view.greatest_in.Goals as goal

pub loop-i-preserved : goal.loop-i-preserved
loop-i-preserved c =
    let xs = code_in versions.One c.args.bytes.now in
    let x = c.stored_at.result in
    rw (c.greater_of-greatest.ensures, c.limit_held.ensures, c.loop-i.invariant, take_some xs c.loop-i.i x c.stored_at.ensures) (sym (greatest_next (take c.loop-i.i xs) x))
