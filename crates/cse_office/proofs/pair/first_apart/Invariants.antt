use Rattle.std.proofs.Common.{◌≡◌}
use Rattle.cse_office.specs.Changes.{first_apart}
use Rattle.cse_office.proofs.ChangeLaws.{apart_from}
use Rattle.cse_office.proofs.pair.first_apart.Given as goal

abbrev pub invariant-lines : goal.invariant-lines
invariant-lines l = first_apart l.items 0 l.before l.after ≡ apart_from l.items l.place l.before l.after
