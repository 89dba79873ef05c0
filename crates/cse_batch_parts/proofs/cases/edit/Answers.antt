use Rattle.std.proofs.Common.{Some, ◌∙◌, sym, ap, refl, cond, []}
use Rattle.cse_verify.specs.CaseEvents.{case_events}
use Rattle.cse_report.specs.AllReported.{all_reported}
use Rattle.cse_report.specs.Held.{reported}
use Rattle.cse_report.specs.Listing.{BeginsCase}
use Rattle.cse_steps.specs.Fits.{occurrences_in}
use Rattle.cse_batch_parts.specs.Batch.{unseen_reports}
use Rattle.cse_batch_parts.proofs.EditLaws.{edits_of}
use Rattle.cse_batch_parts.proofs.cases.edit.Goals as goal

pub returns-in_ok-run_case_events-clause-edits : goal.returns-in_ok-run_case_events-clause-edits
returns-in_ok-run_case_events-clause-edits g c =
    let v = c.args.verified.now in
    let t = c.args.case.now in
    let old = c.args.reports.now in
    let events = case_events v.image (occurrences_in (Some t)) in
    let is = ap (λ b. cond b events []) (sym c.is_case.ensures ∙ c.if-is_case.true) in
    let begun = c.in_ok-begin_case.ensures.ok ∙ ap (λ ids. reported old.listing (BeginsCase ids)) c.ids.ensures in
    let listed = c.in_ok-list_unseen.ensures.listing ∙ ap (λ h. all_reported h (unseen_reports t)) begun in
    let same = c.in_ok-list_unseen.ensures.frequencies ∙ c.in_ok-begin_case.ensures.frequencies in
    edits_of v t c.run_case_events.new.case c.args.store.now c.run_case_events.new.store old c.list_unseen.new.reports c.run_case_events.new.reports events is listed same c.in_ok-run_case_events.ensures.scene

pub returns-else-is_case-clause-edits : goal.returns-else-is_case-clause-edits
returns-else-is_case-clause-edits g c =
    let v = c.args.verified.now in
    let t = c.args.case.now in
    let old = c.args.reports.now in
    let is = ap (λ b. cond b (case_events v.image (occurrences_in (Some t))) []) (sym c.is_case.ensures ∙ c.if-is_case.false) in
    let begun = c.in_ok-begin_case.ensures.ok ∙ ap (λ ids. reported old.listing (BeginsCase ids)) c.ids.ensures in
    let listed = c.in_ok-list_unseen.ensures.listing ∙ ap (λ h. all_reported h (unseen_reports t)) begun in
    let same = c.in_ok-list_unseen.ensures.frequencies ∙ c.in_ok-begin_case.ensures.frequencies in
    edits_of v t t c.args.store.now c.args.store.now old c.list_unseen.new.reports c.list_unseen.new.reports [] is listed same refl
