use Rattle.std.proofs.Common.{◌≡◌, ◌++◌, take}
use Rattle.std.specs.Prelude.{map}
use Rattle.std.specs.Str.{IsUtf8, encode_utf8_all}
use Rattle.cse_report.specs.MessageText.{visible}
use Rattle.cse_report.proofs.fill.put_visible.Given as goal

-- characters so far
abbrev pub invariant-characters : goal.invariant-characters
invariant-characters l = record {
  bytes : l.out.items ≡ l.fn.out.items ++ encode_utf8_all (map visible (take l.character-index l.text));
  utf8 : IsUtf8 (encode_utf8_all (map visible (take l.character-index l.text)));
}
