use Rattle.std.proofs.Common.{◌≡◌}
use Rattle.cse_image_parts.specs.Upgrade.{one_to}
use Rattle.cse_image.proofs.view.limits_to.Given as goal

abbrev pub invariant-loop-i : goal.invariant-loop-i
invariant-loop-i l = l.limits.items ≡ one_to l.i
