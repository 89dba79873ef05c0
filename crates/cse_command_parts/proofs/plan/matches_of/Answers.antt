use Rattle.std.proofs.Common.{map, subst}
use Rattle.clap.specs.Words.{App, HasMatchesOf}
use Rattle.cse_command_parts.proofs.plan.matches_of.Goals as goal

pub returns : goal.returns
returns c =
    subst (λ (a : App). HasMatchesOf a (map (λ word. word.now) c.args.words.now) c.in_ok-try_get_matches_from.field-0) c.in_ok-program.ensures.app
    c.in_ok-try_get_matches_from.ensures.matches
