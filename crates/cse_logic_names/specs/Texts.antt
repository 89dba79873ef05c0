-- What the texts of a message file, and those in quotes of a source, hold beside the rules.
use Rattle.std.specs.Prelude.{List, IsTrue}
use Rattle.std.specs.List.{AllByRecursion}
use Rattle.std.specs.Str.{is_utf8}
use Rattle.cse_image_parts.specs.Texts.{is_text}
use Rattle.cse_syntax_tree.specs.Word.{Word, Quoted}
use Rattle.cse_logic_names.specs.MessageFile.{MessageText}

-- the texts of a message file are UTF-8 without characters below U+0020
abbrev pub AreTexts : List MessageText → Type 0
AreTexts messages = AllByRecursion (λ (x : MessageText). IsTrue (is_text x.text)) messages

-- a text in quotes is UTF-8
abbrev pub IsUtf8Word : Word → Type 0
IsUtf8Word (Quoted x) = IsTrue (is_utf8 x.text)
IsUtf8Word _ = Unit {0}

abbrev pub AreUtf8 : List Word → Type 0
AreUtf8 words = AllByRecursion IsUtf8Word words
