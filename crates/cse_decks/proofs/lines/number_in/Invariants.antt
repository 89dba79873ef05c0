use Rattle.std.proofs.Common.{◌≡◌, take}
use Rattle.cse_decks.proofs.lines.number_in.Given as goal

-- the characters so far
abbrev pub invariant-columns : goal.invariant-columns
invariant-columns l = l.columns.items ≡ take l.byte-index l.line
