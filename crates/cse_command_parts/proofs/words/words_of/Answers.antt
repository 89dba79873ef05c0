use Rattle.clap.specs.Words.{new_app}
use Rattle.cse_command_parts.proofs.WordLaws.{next_word}
use Rattle.cse_command_parts.proofs.words.words_of.Goals as goal

pub loop-word-init : goal.loop-word-init
loop-word-init c = record { are = record { app = c.new-command.ensures.app; local = c.new-command.ensures.local } }

pub loop-word-preserved : goal.loop-word-preserved
loop-word-preserved c = record {
  are = next_word c.loop-word.command c.in_ok-added.added c.arg_of.result (new_app c.args.name.now) c.args.words.now c.loop-word.word-index _
      c.loop-word-test.true c.in_ok-added.ensures c.loop-word.invariant.are c.arg_of.ensures.rule c.arg_of.ensures.local;
}
