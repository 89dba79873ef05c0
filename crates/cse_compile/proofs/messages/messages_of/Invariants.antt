use Rattle.std.proofs.Common.{◌≡◌, ◌++◌, [], drop, map}
use Rattle.cse_image_parts.specs.Image.{message_lists}
use Rattle.cse_logic_tree.specs.Typed.{entry}
use Rattle.cse_compile.specs.Tables.{message_of}
use Rattle.cse_compile.proofs.messages.messages_of.Given as goal

abbrev pub invariant-all : goal.invariant-all
invariant-all l = map message_lists l.messages.items ++ map message_of (map entry (drop l.said-index l.entries)) ≡ map message_of (map entry l.entries)
