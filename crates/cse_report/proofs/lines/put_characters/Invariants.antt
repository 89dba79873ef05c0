use Rattle.std.proofs.Common.{◌≡◌, ◌++◌, take}
use Rattle.std.specs.Str.{encode_utf8_all}
use Rattle.cse_report.proofs.lines.put_characters.Given as goal

-- characters so far
abbrev pub invariant-characters : goal.invariant-characters
invariant-characters l = l.out.items ≡ l.fn.out.items ++ encode_utf8_all (take l.character-index l.characters)
