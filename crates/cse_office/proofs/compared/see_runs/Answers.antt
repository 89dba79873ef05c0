use Rattle.std.proofs.Common.{◌≡◌, ◌+◌, ℕ, List, None, IfErr, IfOk, OnOk, ap, arith, length, subst}
use Rattle.cse_case.specs.Columns.{LineText}
use Rattle.cse_office.specs.Changes.{AreChanges, AreFew, AreSeen, first_apart}
use Rattle.cse_office.specs.Files.{IfSeenApart, IsApartIn}
use Rattle.cse_office.proofs.compared.see_runs.Goals as goal

-- what holds of lines holds of the same lines of runs
of_both : (P : List LineText → List LineText → Type 0) (before before' after after' : List LineText) → before ≡ before' → after ≡ after' → P before after → P before' after'
of_both P before before' after after' same same_after p = subst (λ lines. P lines after') same (subst (P before) same_after p)

pub see_lines-outcome-requires-clause-seen : goal.see_lines-outcome-requires-clause-seen
see_lines-outcome-requires-clause-seen g c = c.requires.seen

pub see_lines-outcome-requires-clause-counts : goal.see_lines-outcome-requires-clause-counts
see_lines-outcome-requires-clause-counts g c = c.requires.counts

pub see_lines-outcome-requires-clause-few : goal.see_lines-outcome-requires-clause-few
see_lines-outcome-requires-clause-few g c = c.requires.few

pub see_lines-outcome-requires-clause-room : goal.see_lines-outcome-requires-clause-room
see_lines-outcome-requires-clause-room g c = omega (arith, ap length c.in-Some.ensures.lines, c.requires.room)

pub returns-clause-len_seen : goal.returns-clause-len_seen
returns-clause-len_seen g c = c.see_lines-outcome.ensures.len_seen

pub returns-clause-len : goal.returns-clause-len
returns-clause-len g c = c.see_lines-outcome.ensures.len

pub returns-clause-lines : goal.returns-clause-lines
returns-clause-lines g c = subst (λ (lines : List LineText). IfOk c.see_lines-outcome.result (λ (n : ℕ). n ≡ length lines)) c.in-Some.ensures.lines c.see_lines-outcome.ensures.lines

pub returns-clause-pairs : goal.returns-clause-pairs
returns-clause-pairs g c =
    of_both (λ before after. OnOk c.see_lines-outcome.result (first_apart c.args.items.now 0 before after ≡ None)) _ _ _ _ c.in-Some.ensures.lines c.in-Some-of.ensures.lines c.see_lines-outcome.ensures.pairs

pub returns-clause-seen : goal.returns-clause-seen
returns-clause-seen g c =
    subst (λ (lines : List LineText). OnOk c.see_lines-outcome.result (AreSeen c.args.records.now lines c.args.seen.now c.see_lines-outcome.new.seen)) c.in-Some.ensures.lines c.see_lines-outcome.ensures.seen

pub returns-clause-changes : goal.returns-clause-changes
returns-clause-changes g c =
    of_both (λ before after. OnOk c.see_lines-outcome.result (AreChanges c.args.records.now c.args.items.now before after c.args.counts.now c.see_lines-outcome.new.counts)) _ _ _ _ c.in-Some.ensures.lines c.in-Some-of.ensures.lines
    c.see_lines-outcome.ensures.changes

pub returns-clause-few : goal.returns-clause-few
returns-clause-few g c =
    subst (λ (lines : List LineText). OnOk c.see_lines-outcome.result (AreFew c.see_lines-outcome.new.seen c.see_lines-outcome.new.counts (c.args.lines + length lines))) c.in-Some.ensures.lines c.see_lines-outcome.ensures.few

pub returns-clause-apart : goal.returns-clause-apart
returns-clause-apart g c =
    of_both (λ before after. IfErr c.see_lines-outcome.result (IfSeenApart (IsApartIn c.args.items.now before after c.args.lines))) _ _ _ _ c.in-Some.ensures.lines c.in-Some-of.ensures.lines
    c.see_lines-outcome.ensures.apart
