use Rattle.std.proofs.Common.{◌≡◌, length}
use Rattle.std.specs.Prelude.{map, ◌↔◌}
use Rattle.cse_image_parts.specs.Pieces.{kinds_left}
use Rattle.cse_report.specs.MessageText.{HasArguments, kind_of}
use Rattle.cse_report.proofs.argument.takes.Given as goal

-- the arguments left are of the kinds left exactly where all are of all
abbrev pub invariant-kinds : goal.invariant-kinds
invariant-kinds l = (map kind_of l.rest ≡ kinds_left l.kinds) ↔ HasArguments l.text l.args

abbrev pub decreases-kinds : goal.decreases-kinds
decreases-kinds l = length (kinds_left l.kinds)
