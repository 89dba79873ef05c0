use Rattle.std.proofs.Common.{◌≡◌, ◌≤◌, take}
use Rattle.std.specs.List.{count_by}
use Rattle.cse_syntax.specs.Text.{is_start}
use Rattle.cse_syntax.proofs.lexer.characters.Given as goal

abbrev pub invariant-bytes : goal.invariant-bytes
invariant-bytes l = (l.count ≡ count_by is_start (take l.i l.bytes)) × (l.count ≤ l.i)
