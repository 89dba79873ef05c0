use Rattle.std.proofs.Common.{◌≡◌, ◌≤◌, ◌+◌, ◌-◌, length, set, true, ap, sym, ◌∙◌, arith, subst}
use Rattle.std.proofs.lemmas.Bool.{true≢false}
use Rattle.std.proofs.lemmas.List.{get_or_read}
use Rattle.cse_value.specs.declared.shape.ItemShape.{ItemShape}
use Rattle.cse_case.specs.Columns.{LineText}
use Rattle.cse_case.specs.Laid.{laid_line, laid_lines}
use Rattle.cse_case.specs.Run.{line_at, with_columns}
use Rattle.cse_case.specs.declared.run.Lines.{Lines}
use Rattle.cse_case.proofs.LaidLaws.{IsLaid-len, laid_lines-with, length-with_columns}
use Rattle.cse_case.specs.Field.{item_at}
use Rattle.cse_case.specs.ItemEntry.{IsShort, entry_columns}
use Rattle.cse_case.specs.Case.{CaseText, items_of, place_of}
use Rattle.cse_case.specs.Kept.{IsKept}
use Rattle.cse_case.proofs.FieldLaws.{entry_short, entry_wide}
use Rattle.cse_case.specs.declared.seen.Table.{Table}
use Rattle.cse_case.proofs.OwnLaws.{case_in, first_in, first_within, own_item, span_in}
use Rattle.cse_case.proofs.SetLaws.{item_starts, number_short}
use Rattle.cse_case.proofs.case.Case.set.Goals as goal

pub index-first-requires : goal.index-first-requires
index-first-requires c =
    let v = c.self.inside in
    let fits = first_within c.args.self.now _ _ _ _ _ _ _ _ _ _ _ c.args.number c.args.occurrence c.index-span.result.now c.self.view_is c.self.invariant c.requires.there (span_in _ _ c.deref.ensures _ _ c.index-span.ensures) c.requires.occurrence in
    omega (arith, c.requires.occurrence.0, v.table.value.firsts.ok.0, ap (λ (t : Table). t.firsts.len) c.deref-2.ensures)

pub write_field-requires-clause-start : goal.write_field-requires-clause-start
write_field-requires-clause-start c =
    subst (λ (i : ItemShape). 1 ≤ i.start) (sym c.item.ensures.item) (item_starts c.args.self.now c.args.item c.item.ensures.sound c.requires.item)

pub write_field-requires-clause-whole : goal.write_field-requires-clause-whole
write_field-requires-clause-whole c =
    let v = c.self.inside in
    let span = c.index-span.result.now in
    let fits = first_within c.args.self.now _ _ _ _ _ _ _ _ _ _ _ c.args.number c.args.occurrence span c.self.view_is c.self.invariant c.requires.there (span_in _ _ c.deref.ensures _ _ c.index-span.ensures) c.requires.occurrence in
    let begins = get_or_read v.table.value.firsts.items (span.start + c.args.occurrence - 1) c.index-first.result.now (omega (arith, c.requires.occurrence.0)) (first_in _ _ c.deref-2.ensures _ _ c.index-first.ensures) 0 in
    let at = own_item c.args.self.now _ _ _ _ _ _ _ _ _ _ _ c.args.number c.args.occurrence c.index-first.result.now c.args.item span c.self.view_is c.self.invariant c.item.ensures.sound c.requires.there
    (span_in _ _ c.deref.ensures _ _ c.index-span.ensures) c.requires.occurrence c.requires.item c.requires.owns begins in
    omega (arith, at.whole, at.own.begins, at.own.within, ap (λ (k : Lines). length k.columns) c.deref_mut.ensures.value, ap (λ (i : ItemShape). i.start) c.item.ensures.item, ap (λ (i : ItemShape). i.len) c.item.ensures.item)

pub write_field-requires-clause-short : goal.write_field-requires-clause-short
write_field-requires-clause-short c =
    let shape = item_at (items_of c.args.self.now) c.args.item in
    subst (λ (i : ItemShape). IsShort c.args.entry i.len) (sym c.item.ensures.item)
    (entry_short c.args.entry shape.kind shape.len c.requires.kind (number_short c.args.self.now c.args.item c.item.ensures.sound c.requires.item))

pub invariant_of-self : goal.invariant_of-self
invariant_of-self c =
    let v = c.self.inside in
    let old = v.kept.value.columns in
    let new = c.write_field.new.columns in
    let first = c.index-first.result.now in
    let item = c.item.result.now in
    let field = entry_columns c.args.entry item.len in
    let span = c.index-span.result.now in
    let fits = first_within c.args.self.now _ _ _ _ _ _ _ _ _ _ _ c.args.number c.args.occurrence span c.self.view_is c.self.invariant c.requires.there (span_in _ _ c.deref.ensures _ _ c.index-span.ensures) c.requires.occurrence in
    let begins = get_or_read v.table.value.firsts.items (span.start + c.args.occurrence - 1) first (omega (arith, c.requires.occurrence.0)) (first_in _ _ c.deref-2.ensures _ _ c.index-first.ensures) 0 in
    let at = own_item c.args.self.now _ _ _ _ _ _ _ _ _ _ _ c.args.number c.args.occurrence first c.args.item span c.self.view_is c.self.invariant c.item.ensures.sound c.requires.there
    (span_in _ _ c.deref.ensures _ _ c.index-span.ensures) c.requires.occurrence c.requires.item c.requires.owns begins in
    let within : first + (item.start - 1) + length field ≤ length old =
    omega (arith, at.whole, at.own.begins, at.own.within, entry_wide c.args.entry item.len, ap (λ (i : ItemShape). i.start) c.item.ensures.item, ap (λ (i : ItemShape). i.len) c.item.ensures.item) in
    let len : length new ≡ length old = ap length c.write_field.ensures.columns ∙ ap (λ (k : Lines). length (with_columns (first + (item.start - 1)) field k.columns)) c.deref_mut.ensures.value ∙ length-with_columns (first + (item.start - 1)) field old within in
    subst (λ (k : Lines). IsKept v.items new k.lines.items k.bytes true v.first_line v.table.value.firsts.items v.table.value.spans.items v.table.value.unseen.items) (sym c.deref_mut.ensures.value)
    (record {
      some = c.self.invariant.some;
      wide = c.self.invariant.wide;
      laid = IsLaid-len 0 old new v.kept.value.lines.items len c.self.invariant.laid;
      came = λ e. absurd (true≢false e);
      table = c.self.invariant.table;
      unseen_are = c.self.invariant.unseen_are;
    })

pub returns : goal.returns
returns c =
    let v = c.self.inside in
    let columns = v.kept.value.columns in
    let new = c.write_field.new.columns in
    let lines = v.kept.value.lines.items in
    let span = c.index-span.result.now in
    let first = c.index-first.result.now in
    let n = c.args.item in
    let shape = item_at (items_of c.args.self.now) n in
    let from = shape.start - 1 in
    let field = entry_columns c.args.entry shape.len in
    let place = place_of c.args.self.now c.args.number c.args.occurrence in
    let fits = first_within c.args.self.now _ _ _ _ _ _ _ _ _ _ _ c.args.number c.args.occurrence span c.self.view_is c.self.invariant c.requires.there (span_in _ _ c.deref.ensures _ _ c.index-span.ensures) c.requires.occurrence in
    let begins = get_or_read v.table.value.firsts.items (span.start + c.args.occurrence - 1) first (omega (arith, c.requires.occurrence.0)) (first_in _ _ c.deref-2.ensures _ _ c.index-first.ensures) 0 in
    let at = own_item c.args.self.now _ _ _ _ _ _ _ _ _ _ _ c.args.number c.args.occurrence first n span c.self.view_is c.self.invariant c.item.ensures.sound c.requires.there
    (span_in _ _ c.deref.ensures _ _ c.index-span.ensures) c.requires.occurrence c.requires.item c.requires.owns begins in
    let line = at.own.line in
    let wide : length field ≡ shape.len = entry_wide c.args.entry shape.len in
    let wrote : new ≡ with_columns (line.first + from) field columns =
    c.write_field.ensures.columns ∙ (ap (λ (k : Lines). with_columns (first + (c.item.result.now.start - 1)) (entry_columns c.args.entry c.item.result.now.len) k.columns) c.deref_mut.ensures.value ∙ (ap (λ (i : ItemShape). with_columns (first + (i.start - 1)) (entry_columns c.args.entry i.len) columns) c.item.ensures.item
    ∙ ap (λ k. with_columns (k + from) field columns) at.own.begins)) in
    let changed = laid_lines-with 0 columns field lines place from line c.self.invariant.laid at.own.there at.own.at (omega (arith, at.whole)) in
    let now : laid_lines new lines ≡ set (laid_lines columns lines) place (record (laid_line columns line) { columns = with_columns from field (laid_line columns line).columns }) =
    ap (λ cs. laid_lines cs lines) wrote ∙ changed in
    let old : CaseText = case_in v.items v.table.value.ids.items columns lines v.marked v.first_line in
    let changed_lines = now ∙ ap (λ (l : LineText). set (laid_lines columns lines) place (record l { columns = with_columns from field l.columns })) (sym at.own.is) in
    ap (λ (k : Lines). record old { run = record old.run { lines = laid_lines new k.lines.items } }) c.deref_mut.ensures.value
    ∙ ap (λ ls. record old { run = record old.run { lines = ls } }) changed_lines
    ∙ ap (λ (x : CaseText). record x {
      run = record x.run {
        lines = set x.run.lines place (record (line_at c.args.self.now.run place) { columns = with_columns from field (line_at c.args.self.now.run place).columns });
      };
    }) c.self.view_is
