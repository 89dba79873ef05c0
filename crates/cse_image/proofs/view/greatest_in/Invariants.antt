use Rattle.std.proofs.Common.{◌≡◌, take}
use Rattle.cse_image_parts.specs.declared.version.Version.TheVariants as versions
use Rattle.cse_image_parts.specs.Upgrade.{greatest_limit}
use Rattle.cse_image.specs.View.{code_in}
use Rattle.cse_image.proofs.view.greatest_in.Given as goal

abbrev pub invariant-loop-i : goal.invariant-loop-i
invariant-loop-i l = l.greatest ≡ greatest_limit (take l.i (code_in versions.One l.bytes))
