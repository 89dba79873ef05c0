use Rattle.std.proofs.Common.{◌≤◌, ◌+◌, ◌-◌, length, drop, ap, sym, ◌∙◌, arith, subst}
use Rattle.std.proofs.lemmas.List.{get_or_read}
use Rattle.cse_value.specs.declared.shape.ItemShape.{ItemShape}
use Rattle.cse_case.specs.Columns.{LineText}
use Rattle.cse_case.specs.Bytes.{columns_lent}
use Rattle.cse_case.specs.declared.run.Lines.{Lines}
use Rattle.cse_case.specs.Field.{field_of, item_at}
use Rattle.cse_case.specs.Case.{items_of}
use Rattle.cse_case.proofs.FieldLaws.{field_from}
use Rattle.cse_case.specs.declared.seen.Table.{Table}
use Rattle.cse_case.proofs.OwnLaws.{first_in, first_within, own_item, span_in}
use Rattle.cse_case.proofs.SetLaws.{item_starts, item_wide, number_short, text_short}
use Rattle.cse_case.proofs.case.Case.own_part.Goals as goal

pub index-first-requires : goal.index-first-requires
index-first-requires c =
    let v = c.self.inside in
    let fits = first_within c.args.self.now _ _ _ _ _ _ _ _ _ _ _ c.args.number c.args.occurrence c.index-span.result.now c.self.view_is c.self.invariant c.requires.there (span_in _ _ c.deref.ensures _ _ c.index-span.ensures) c.requires.occurrence in
    omega (arith, c.requires.occurrence.0, v.table.value.firsts.ok.0, ap (λ (t : Table). t.firsts.len) c.deref-2.ensures)

pub whole_field-requires-clause-start : goal.whole_field-requires-clause-start
whole_field-requires-clause-start c =
    subst (λ (i : ItemShape). 1 ≤ i.start) (sym c.item.ensures.item) (item_starts c.args.self.now c.args.item c.item.ensures.sound c.requires.item)

pub whole_field-requires-clause-whole : goal.whole_field-requires-clause-whole
whole_field-requires-clause-whole c =
    let v = c.self.inside in
    let span = c.index-span.result.now in
    let fits = first_within c.args.self.now _ _ _ _ _ _ _ _ _ _ _ c.args.number c.args.occurrence span c.self.view_is c.self.invariant c.requires.there (span_in _ _ c.deref.ensures _ _ c.index-span.ensures) c.requires.occurrence in
    let begins = get_or_read v.table.value.firsts.items (span.start + c.args.occurrence - 1) c.index-first.result.now (omega (arith, c.requires.occurrence.0)) (first_in _ _ c.deref-2.ensures _ _ c.index-first.ensures) 0 in
    let at = own_item c.args.self.now _ _ _ _ _ _ _ _ _ _ _ c.args.number c.args.occurrence c.index-first.result.now c.args.item span c.self.view_is c.self.invariant c.item.ensures.sound c.requires.there
    (span_in _ _ c.deref.ensures _ _ c.index-span.ensures) c.requires.occurrence c.requires.item c.requires.owns begins in
    omega (arith, at.whole, at.own.begins, at.own.within, ap length (c.columns.ensures ∙ ap (λ (k : Lines). k.columns) c.deref-3.ensures), ap (λ (i : ItemShape). i.start) c.item.ensures.item, ap (λ (i : ItemShape). i.len) c.item.ensures.item)

pub returns-clause-columns : goal.returns-clause-columns
returns-clause-columns c =
    let v = c.self.inside in
    let columns = v.kept.value.columns in
    let span = c.index-span.result.now in
    let first = c.index-first.result.now in
    let own = item_at (items_of c.args.self.now) c.args.item in
    let fits = first_within c.args.self.now _ _ _ _ _ _ _ _ _ _ _ c.args.number c.args.occurrence span c.self.view_is c.self.invariant c.requires.there (span_in _ _ c.deref.ensures _ _ c.index-span.ensures) c.requires.occurrence in
    let begins = get_or_read v.table.value.firsts.items (span.start + c.args.occurrence - 1) first (omega (arith, c.requires.occurrence.0)) (first_in _ _ c.deref-2.ensures _ _ c.index-first.ensures) 0 in
    let at = own_item c.args.self.now _ _ _ _ _ _ _ _ _ _ _ c.args.number c.args.occurrence first c.args.item span c.self.view_is c.self.invariant c.item.ensures.sound c.requires.there
    (span_in _ _ c.deref.ensures _ _ c.index-span.ensures) c.requires.occurrence c.requires.item c.requires.owns begins in
    let line = at.own.line in
    c.whole_field.ensures.columns ∙ (ap (λ i. field_of i (drop first (columns_lent c.columns.result))) c.item.ensures.item ∙ (ap (λ cs. field_of own (drop first cs)) (c.columns.ensures ∙ ap (λ (k : Lines). k.columns) c.deref-3.ensures)
    ∙ (ap (λ k. field_of own (drop k columns)) at.own.begins ∙ (field_from own columns line.first line.width at.whole ∙ sym (ap (λ (l : LineText). field_of own l.columns) at.own.is)))))

pub returns-clause-number : goal.returns-clause-number
returns-clause-number c = λ number.
    omega (arith, c.whole_field.ensures.whole, ap (λ (i : ItemShape). i.len) c.item.ensures.item, number_short c.args.self.now c.args.item c.item.ensures.sound c.requires.item number)

pub returns-clause-text : goal.returns-clause-text
returns-clause-text c = λ text.
    omega (arith, c.whole_field.ensures.whole, ap (λ (i : ItemShape). i.len) c.item.ensures.item, text_short c.args.self.now c.args.item c.item.ensures.sound c.requires.item text)

pub returns-clause-whole : goal.returns-clause-whole
returns-clause-whole c = c.whole_field.ensures.whole ∙ ap (λ (i : ItemShape). i.len) c.item.ensures.item

pub returns-clause-some : goal.returns-clause-some
returns-clause-some c =
    omega (arith, c.whole_field.ensures.whole, ap (λ (i : ItemShape). i.len) c.item.ensures.item, item_wide c.args.self.now c.args.item c.item.ensures.sound c.requires.item)
