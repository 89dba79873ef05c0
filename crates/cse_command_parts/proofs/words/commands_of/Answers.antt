use Rattle.std.proofs.Common.{◌∙◌, ap, true}
use Rattle.clap.specs.Simple.{App, app_of_fields, on_top}
use Rattle.cse_command_parts.specs.Words.{AreWords, bare}
use Rattle.cse_command_parts.proofs.WordLaws.{next_command}
use Rattle.cse_command_parts.proofs.words.commands_of.Goals as goal

pub loop-name-init : goal.loop-name-init
loop-name-init c = record {
  are = record {
    app = ap app_of_fields c.no_binary_name-program.ensures ∙ ap (λ (a : App). on_top (λ s. record s { no_binary_name = true }) a) c.new.ensures.app;
    local = ap (λ f. f.has_globals) c.no_binary_name-program.ensures ∙ c.new.ensures.local;
  };
}

pub loop-name-preserved : goal.loop-name-preserved
loop-name-preserved c = record {
  are = next_command c.loop-name.program c.in_ok-command.command c.in_ok-added.added c.args.commands.now c.loop-name.name-index _
      c.loop-name-test.true c.in_ok-added.ensures c.loop-name.invariant.are c.in_ok-command.ensures;
}
