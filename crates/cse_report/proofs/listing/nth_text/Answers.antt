use Rattle.std.proofs.Common.{Some, option_map, ap, sym, ◌∙◌}
use Rattle.std.proofs.lemmas.Option.{slice_get-map, slice_get-get_or}
use Rattle.cse_report.specs.declared.spans.TextSpan.{TextSpan}
use Rattle.cse_report.specs.Spans.{text_at}
use Rattle.cse_report.proofs.SpanLaws.{IsText-at}
use Rattle.cse_report.proofs.listing.nth_text.Goals as goal

pub text_in-requires : goal.text_in-requires
text_in-requires c = IsText-at c.args.lines.now c.args.spans.now c.args.i (record { start = 0; end = 0 }) c.requires c.if-i-spans.false

pub returns-clause-text : goal.returns-clause-text
returns-clause-text c =
    let d : TextSpan = record { start = 0; end = 0 } in
    ap Some c.text_in.ensures
    ∙ sym (slice_get-map (text_at c.args.lines.now) c.args.spans.now c.args.i ∙ ap (option_map (text_at c.args.lines.now)) (slice_get-get_or c.args.spans.now c.args.i d c.if-i-spans.false))
