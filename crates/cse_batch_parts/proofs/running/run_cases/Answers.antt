use Rattle.std.proofs.Common.{◌∙◌, ap, length, refl, inl, inr}
use Rattle.cse_lemmas.proofs.Booleans.{bool_byte-cond}
use Rattle.cse_value.proofs.GatherLaws.{Gathering-none}
use Rattle.cse_case.specs.Reader.{ReaderText}
use Rattle.cse_report.specs.Held.{Held}
use Rattle.cse_report.specs.declared.reports.Reports.{Reports}
use Rattle.cse_batch_parts.proofs.OutputLaws.{left_then, same_then}
use Rattle.cse_batch_parts.proofs.RunLaws.{halts_at_once, halts_fault, halts_memory, halts_writing, keeps_nothing, one_line, ran_all, running_case, running_none, unbegun}
use Rattle.cse_batch_parts.proofs.running.run_cases.Goals as goal
use Rattle.cse_batch_parts.proofs.running.run_cases.Goals.{then-outputs-via-then-outputs, then-outputs-via-else-outputs+then-outputs-2}

pub returns-in_default-clause-err : goal.returns-in_default-clause-err
returns-in_default-clause-err g c =
    let v = c.args.verified.now in
    let nothing = Gathering-none (g.O.Output.taken c.args.outputs.now.out.now) (g.O.Output.has_failed c.args.outputs.now.out.now) c.args.outputs.now.written.waiting.items c.args.outputs.now.written.gave_up c.requires.fresh.written.nothing_waits c.requires.fresh.written.going in
    let none = Gathering-none (g.L.Output.taken c.args.outputs.now.listing.now) (g.L.Output.has_failed c.args.outputs.now.listing.now) c.args.outputs.now.listed.waiting.items c.args.outputs.now.listed.gave_up c.requires.fresh.listed.nothing_waits c.requires.fresh.listed.going in
    halts_at_once v c.args.store.now _ _ _ nothing (one_line v c.args.reports.now _ _ _ _ _ c.requires.begins.unreported.listing none c.put_to.ensures.puts c.in_default.ensures.err)

pub runs-init : goal.runs-init
runs-init g c =
    let v = c.args.verified.now in
    let first = c.args.store.now in
    let nothing = Gathering-none (g.O.Output.taken c.args.outputs.now.out.now) (g.O.Output.has_failed c.args.outputs.now.out.now) c.args.outputs.now.written.waiting.items c.args.outputs.now.written.gave_up c.requires.fresh.written.nothing_waits c.requires.fresh.written.going in
    let none = Gathering-none (g.L.Output.taken c.args.outputs.now.listing.now) (g.L.Output.has_failed c.args.outputs.now.listing.now) c.args.outputs.now.listed.waiting.items c.args.outputs.now.listed.gave_up c.requires.fresh.listed.nothing_waits c.requires.fresh.listed.going in
    let reports : Reports = record { listing = c.put_to.new.self; frequencies = c.args.reports.now.frequencies } in
    let begins = keeps_nothing v first c.args.reports.now reports _ _ _ _ c.requires.begins.unreported.listing c.requires.begins.unreported.frequencies none c.put_to.ensures.puts c.put_to.ensures.held refl in
    record {
      running = running_none v first _ _ _ _ _ _ c.requires.begins.reader (c.in-Ok.ensures.keeps (unbegun first) _ _ begins) nothing;
      sound = c.requires.begins.reader.sound;
      same = refl;
      same_outputs = record { out = refl; listing = refl; frequencies = refl; decks = refl };
      left = record { frequencies = refl; decks = refl };
      machine = c.in-Ok.ensures.same;
      store_fits = c.in-Ok.ensures.store_fits;
      reports_fit = c.in-Ok.ensures.reports_fit;
    }

pub returns-in-Ok-None-clause-ok : goal.returns-in-Ok-None-clause-ok
returns-in-Ok-None-clause-ok g c =
    let inv = c.runs.invariant in
    let next = rw c.in-Ok-None.field-0-is at (c.in-Ok-None.ensures.next inv.sound) in
    ran_all _ _ _ _ _ _ _ _ _ _ _ _ inv.running next c.in-Ok-None.ensures.works next.answers.end

pub returns-in_default-edit-clause-err : goal.returns-in_default-edit-clause-err
returns-in_default-edit-clause-err g c =
    let inv = c.runs.invariant in
    let next = rw c.in-Ok-Some.field-0-is at (c.in-Ok-Some.ensures.next inv.sound) in
    halts_memory _ _ _ _ _ _ _ _ _ _ _ _ inv.running _ next c.in-Ok-Some.ensures.works c.next.new.self.end c.in-Ok-Some.ensures.few

pub returns-then-outputs-clause-err : goal.returns-then-outputs-clause-err
returns-then-outputs-clause-err g c =
    let inv = c.runs.invariant in
    let next = rw c.in-Ok-Some.field-0-is at (c.in-Ok-Some.ensures.next inv.sound) in
    let new : Reports = record { listing = c.put_run.new.held; frequencies = c.edit.new.reports.frequencies } in
    let more = running_case _ _ _ _ _ _ _ _ _ _ _ _ inv.running _ next c.in-Ok-Some.ensures.works c.edit.new.case c.edit.new.store c.edit.new.reports new _ _ c.is_case.result
    c.in-Ok-edit.ensures.edits c.put_run.ensures.lines c.put_run.ensures.listing c.put_run.ensures.held refl c.is_case.ensures c.in-Ok-Some.ensures.few in
    halts_writing _ _ _ _ (g.R.Input.given c.next.new.self.input.now) _ c.next.new.self.stream _ _ _ _ _ more c.next.new.self.end
    (elim c.then-outputs.branch [
      | then-outputs-via-then-outputs w ↦ inl w.if-outputs.true
      | then-outputs-via-else-outputs+then-outputs-2 w ↦ inr w.if-outputs-2.true
    ])

pub runs-preserved : goal.runs-preserved
runs-preserved g c =
    let inv = c.runs.invariant in
    let next = rw c.in-Ok-Some.field-0-is at (c.in-Ok-Some.ensures.next inv.sound) in
    let new : Reports = record { listing = c.put_run.new.held; frequencies = c.edit.new.reports.frequencies } in
    let more = running_case _ _ _ _ _ _ _ _ _ _ _ _ inv.running _ next c.in-Ok-Some.ensures.works c.edit.new.case c.edit.new.store c.edit.new.reports new _ _ c.is_case.result
    c.in-Ok-edit.ensures.edits c.put_run.ensures.lines c.put_run.ensures.listing c.put_run.ensures.held refl c.is_case.ensures c.in-Ok-Some.ensures.few in
    record {
      running = rw (c.take_back.ensures.input, c.take_back.ensures.stream, c.from-cases.ensures ∙ bool_byte-cond _, c.lines-lines.ensures.lines, c.unseen.ensures) more;
      sound = ap (λ (s : ReaderText). s.error) c.take_back.ensures.stream ∙ c.in-Ok-Some.ensures.ok;
      same = c.take_back.ensures.same_reference ∙ c.in-Ok-Some.ensures.same_reference ∙ inv.same;
      same_outputs = same_then _ _ _ inv.same_outputs c.put_run.ensures.same;
      left = left_then _ _ _ inv.left c.put_run.ensures.left;
      machine = c.in-Ok-edit.ensures.same;
      store_fits = c.in-Ok-edit.ensures.goes_on.store;
      reports_fit = record { messages = ap (λ (h : Held). h.messages) c.put_run.ensures.held ∙ c.in-Ok-edit.ensures.reports_fit.messages; counts = ap (λ (h : Held). length h.counts) c.put_run.ensures.held ∙ c.in-Ok-edit.ensures.reports_fit.counts; items = c.in-Ok-edit.ensures.reports_fit.items };
    }

pub returns-in-Err-clause-err : goal.returns-in-Err-clause-err
returns-in-Err-clause-err g c =
    let inv = c.runs.invariant in
    let next = c.in-Err.ensures.next inv.sound in
    halts_fault _ _ _ _ _ _ _ _ _ _ _ _ inv.running _ next c.next.new.self.end (c.in-Err.ensures.failed inv.sound) c.in-Err.ensures.sound
