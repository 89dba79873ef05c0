use Rattle.std.proofs.Common.{◌≡◌, length, get_or, ap, sym, ◌∙◌, arith}
use Rattle.std.proofs.lemmas.List.{length-map}
use Rattle.cse_case.specs.Laid.{laid_line}
use Rattle.cse_case.specs.declared.run.Lines.{Lines}
use Rattle.cse_case.proofs.LaidLaws.{laid_within}
use Rattle.cse_case.specs.Bytes.{columns_lent}
use Rattle.cse_case.proofs.FieldLaws.{short_field}
use Rattle.cse_case.proofs.SetLaws.{number_short, text_short}
use Rattle.cse_case.proofs.case.Case.columns_at.Goals as goal

pub line_columns-requires : goal.line_columns-requires
line_columns-requires c =
    let v = c.self.inside in
    let len : length c.args.self.now.run.lines ≡ length v.kept.value.lines.items = ap (λ x. length x.run.lines) (sym c.self.view_is) ∙ length-map v.kept.value.lines.items (laid_line v.kept.value.columns) in
    rw (c.columns.ensures ∙ ap (λ (k : Lines). k.columns) c.deref-2.ensures) (laid_within 0 v.kept.value.columns v.kept.value.lines.items c.args.place c.index-line.result.now c.self.invariant.laid (omega (arith, c.requires.place)) (c.index-line.ensures ∙ ap (λ (k : Lines). get_or k.lines.items c.args.place c.index-line.result.now) c.deref.ensures))

pub returns-clause-text : goal.returns-clause-text
returns-clause-text c = λ text.
    omega (
      arith,
      ap length c.field_of.ensures,
      short_field c.item.result.now (columns_lent c.line_columns.result),
      ap (λ i. i.len) c.item.ensures.item,
      text_short c.args.self.now c.args.item c.item.ensures.sound c.requires.item text,
    )

pub returns-clause-number : goal.returns-clause-number
returns-clause-number c = λ number.
    omega (
      arith,
      ap length c.field_of.ensures,
      short_field c.item.result.now (columns_lent c.line_columns.result),
      ap (λ i. i.len) c.item.ensures.item,
      number_short c.args.self.now c.args.item c.item.ensures.sound c.requires.item number,
    )
