use Rattle.std.proofs.Common.{subst, sym}
use Rattle.cse_dict.specs.Dictionary.{DictionaryText}
use Rattle.cse_dict.specs.Sound.{IsSound}
use Rattle.cse_image.specs.Spelling.{Fits}
use Rattle.cse_verify.specs.Calls.{RestFalls, RestIsBound, AllKeepRules, AllCallSmaller}
use Rattle.cse_steps.proofs.Ends.{events_end, all_keep_rules, all_call_smaller}
use Rattle.cse_steps.proofs.laws.event_ends.Goals as goal

pub walks_keep_to_bound-requires-clause-rules : goal.walks_keep_to_bound-requires-clause-rules
walks_keep_to_bound-requires-clause-rules g c = subst AllKeepRules (sym c.program-2.ensures.program) (all_keep_rules c.args.verified.now c.program-2.ensures.may_run)

pub walks_keep_to_bound-requires-clause-smaller : goal.walks_keep_to_bound-requires-clause-smaller
walks_keep_to_bound-requires-clause-smaller g c = subst AllCallSmaller (sym c.program-2.ensures.program) (all_call_smaller c.args.verified.now c.program-2.ensures.may_run)

pub returns : goal.returns
returns g c =
    events_end c.args.verified.now (record { fits = subst Fits c.program.ensures.program c.hand_on.ensures; may_run = c.program.ensures.may_run; dictionary = subst (λ (d : DictionaryText). IsSound d) c.dictionary.ensures c.hand_on_sound.ensures })
    (subst RestFalls c.program-2.ensures.program c.walks_keep_to_bound.ensures.falls) (subst RestIsBound c.program-2.ensures.program c.walks_keep_to_bound.ensures.begins) c.calls_keep_to_depth.ensures
