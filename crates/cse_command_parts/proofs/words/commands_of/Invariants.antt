use Rattle.std.proofs.Common.{take}
use Rattle.std.specs.List.{fold}
use Rattle.cse_command_parts.specs.Words.{AreWords, bare, with_row}
use Rattle.cse_command_parts.proofs.words.commands_of.Given as goal

-- the commands so far
abbrev pub invariant-loop-name : goal.invariant-loop-name
invariant-loop-name l = record {
  are : AreWords (fold with_row bare (take l.name-index l.commands)) l.program;
}
