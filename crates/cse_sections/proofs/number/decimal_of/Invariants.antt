use Rattle.std.proofs.Common.{◌≡◌, take}
use Rattle.std.specs.Prelude.{min}
use Rattle.cse_sections.specs.Number.{decimal_of}
use Rattle.cse_sections.proofs.number.decimal_of.Given as goal

abbrev pub invariant-digits : goal.invariant-digits
invariant-digits l = l.number ≡ min (decimal_of (take l.b-index l.bytes)) 18446744073709551615
