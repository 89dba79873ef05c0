use Rattle.std.proofs.Common.{◌≡◌, List, [], length, ap, ◌∙◌}
use Rattle.std.specs.Prelude.{slice_index}
use Rattle.std.proofs.lemmas.List.{length-set}
use Rattle.cse_report.specs.declared.argument.Arg.{Arg}
use Rattle.cse_report.specs.Counts.{one_more}
use Rattle.cse_report.specs.Listing.{Gives}
use Rattle.cse_report.specs.Held.{Held, reported}
use Rattle.cse_report.proofs.reports.Reports.summary_message.Goals as goal

pub returns-clause-fits : goal.returns-clause-fits
returns-clause-fits c = λ x h.
    let none : List Arg = [] in
    let e : c.summary_message.new.self ≡ reported c.args.self.now.listing (Gives c.args.index none) = c.summary_message.ensures none in
    record {
      messages = ap (λ (l : Held). l.messages) e ∙ h.messages;
      counts = ap (λ (l : Held). length l.counts) e ∙ (length-set c.args.self.now.listing.counts c.args.index (one_more (slice_index c.args.self.now.listing.counts c.args.index)) ∙ h.counts);
      items = h.items;
    }
