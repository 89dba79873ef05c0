use Rattle.std.proofs.Common.{◌≡◌, drop}
use Rattle.std.specs.Prelude.{max}
use Rattle.cse_verify.specs.Frames.{greatest}
use Rattle.cse_verify.proofs.depth.greatest_of.Given as goal

abbrev pub invariant-numbers : goal.invariant-numbers
invariant-numbers l = max l.most (greatest (drop l.number-index l.numbers)) ≡ greatest l.numbers
