use Rattle.std.proofs.Common.{◌≡◌, true}
use Rattle.cse_value.specs.Device.{IsAtEnd}
use Rattle.cse_office.proofs.look.look_at_all.Given as goal

abbrev pub invariant-runs : goal.invariant-runs
invariant-runs g l = l.reader.ended ≡ true → IsAtEnd (g.R.Input.given l.input)
