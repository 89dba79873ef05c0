use Rattle.std.proofs.Common.{◌≡◌, ◌+◌, ◌++◌, take, drop}
use Rattle.cse_case.proofs.field.write_characters.Given as goal

abbrev pub invariant-columns : goal.invariant-columns
invariant-columns l = l.columns ≡ (take l.start l.initial.columns ++ take l.i l.characters) ++ drop (l.start + l.i) l.initial.columns
