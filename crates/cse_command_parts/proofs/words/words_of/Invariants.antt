use Rattle.std.proofs.Common.{take}
use Rattle.std.specs.List.{fold}
use Rattle.clap.specs.Words.{new_app}
use Rattle.cse_command_parts.specs.Words.{AreWords, with_word}
use Rattle.cse_command_parts.proofs.words.words_of.Given as goal

-- the words so far
abbrev pub invariant-loop-word : goal.invariant-loop-word
invariant-loop-word l = record {
  are : AreWords (fold with_word (new_app l.name) (take l.word-index l.words)) l.command;
}
