-- A run over files that had given and taken nothing.
use Rattle.std.proofs.Common.{◌≡◌, ◌∙◌, ap, subst, ℕ, List, [], Bool, Result, Ok, Err, IfOk, IfErr}
use Rattle.cse_value.specs.Device.{Given}
use Rattle.cse_verify.specs.Verified.{VerifiedProgram}
use Rattle.cse_decks.specs.Store.{Kept}
use Rattle.cse_batch_parts.specs.declared.totals.Totals.{Totals}
use Rattle.cse_batch_parts.specs.RunClauses.{Contents, Failures, RunsWhole, contents}
use Rattle.cse_value.specs.declared.gathered.Gathered.{Gathered}
use Rattle.cse_command_parts.specs.declared.outcome.Stop.{Stop}
use Rattle.cse_commands.specs.Ran.{Tells, none_taken, unread}
use Rattle.cse_commands.specs.Telling.{TellsRunFault}

had_none : (o l f : List ℕ) → o ≡ [] → l ≡ [] → f ≡ [] → contents o l f ≡ none_taken
had_none o l f p q r = ap (λ x. contents x l f) p ∙ ap (λ x. contents [] x f) q ∙ ap (λ x. contents [] [] x) r

tells_of : (v : VerifiedProgram) (store : Kept) (before after : Given) (begun taken : List ℕ → Contents) (failed : Bool → Failures)
    (told : Result (Totals × Gathered) Stop)
    → IfOk told (λ ran. RunsWhole v store before after (begun []) (taken ran.1.bytes.items) ran.0)
    → IfErr told (TellsRunFault v store before after begun taken failed)
    → before ≡ unread → begun ≡ none_taken
    → Tells v store after taken failed told
tells_of v store before after begun taken failed (Ok ran) whole stopped first none =
    subst (λ (g : Given). RunsWhole v store g after (none_taken []) (taken ran.1.bytes.items) ran.0) first
    (subst (λ (x : List ℕ → Contents). RunsWhole v store before after (x []) (taken ran.1.bytes.items) ran.0) none whole)
tells_of v store before after begun taken failed (Err stop) whole stopped first none =
    subst (λ (g : Given). TellsRunFault v store g after none_taken taken failed stop) first
    (subst (λ (x : List ℕ → Contents). TellsRunFault v store before after x taken failed stop) none stopped)

pub tells_of_three : (v : VerifiedProgram) (store : Kept) (before after : Given) (o l f : List ℕ) (taken : List ℕ → Contents) (failed : Bool → Failures)
    (told : Result (Totals × Gathered) Stop)
    → IfOk told (λ ran. RunsWhole v store before after (contents o l f []) (taken ran.1.bytes.items) ran.0)
    → IfErr told (TellsRunFault v store before after (contents o l f) taken failed)
    → before ≡ unread → o ≡ [] → l ≡ [] → f ≡ []
    → Tells v store after taken failed told
tells_of_three v store before after o l f taken failed told whole stopped first p q r =
    tells_of v store before after (contents o l f) taken failed told whole stopped first (had_none o l f p q r)
