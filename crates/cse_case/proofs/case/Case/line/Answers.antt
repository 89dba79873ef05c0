use Rattle.std.proofs.Common.{◌+◌, ◌-◌, length, drop, ap, sym, ◌∙◌, arith, subst}
use Rattle.std.proofs.lemmas.List.{get_or_read, length-drop}
use Rattle.cse_case.specs.Columns.{LineText}
use Rattle.cse_dict.specs.Dictionary.{DictionaryText}
use Rattle.cse_dict.specs.Sound.{IsSound}
use Rattle.cse_case.specs.declared.run.Lines.{Lines}
use Rattle.cse_case.specs.Field.{field_of, item_at}
use Rattle.cse_case.specs.Case.{CaseText, items_of}
use Rattle.cse_case.proofs.FieldLaws.{field_from}
use Rattle.cse_case.specs.declared.seen.Table.{Table}
use Rattle.cse_case.proofs.OwnLaws.{first_in, first_within, line_of, own_item, span_in}
use Rattle.cse_case.proofs.SetLaws.{item_starts}
use Rattle.cse_case.proofs.case.Case.line.Goals as goal

pub index-first-requires : goal.index-first-requires
index-first-requires c =
    let v = c.self.inside in
    let fits = first_within c.args.self.now _ _ _ _ _ _ _ _ _ _ _ c.args.number c.args.occurrence c.index-span.result.now c.self.view_is c.self.invariant c.requires.there (span_in _ _ c.deref.ensures _ _ c.index-span.ensures) c.requires.occurrence in
    omega (arith, c.requires.occurrence.0, v.table.value.firsts.ok.0, ap (λ (t : Table). t.firsts.len) c.deref-2.ensures)

pub columns_from-requires : goal.columns_from-requires
columns_from-requires c =
    let v = c.self.inside in
    let span = c.index-span.result.now in
    let fits = first_within c.args.self.now _ _ _ _ _ _ _ _ _ _ _ c.args.number c.args.occurrence span c.self.view_is c.self.invariant c.requires.there (span_in _ _ c.deref.ensures _ _ c.index-span.ensures) c.requires.occurrence in
    let begins = get_or_read v.table.value.firsts.items (span.start + c.args.occurrence - 1) c.index-first.result.now (omega (arith, c.requires.occurrence.0)) (first_in _ _ c.deref-2.ensures _ _ c.index-first.ensures) 0 in
    let own = line_of c.args.self.now _ _ _ _ _ _ _ _ _ _ _ c.args.number c.args.occurrence c.index-first.result.now span c.self.view_is c.self.invariant c.requires.there
    (span_in _ _ c.deref.ensures _ _ c.index-span.ensures) c.requires.occurrence begins in
    omega (arith, own.begins, own.within, ap length (c.columns.ensures ∙ ap (λ (k : Lines). k.columns) c.deref-3.ensures))

pub returns : goal.returns
returns c item low owns =
    let v = c.self.inside in
    let columns = v.kept.value.columns in
    let span = c.index-span.result.now in
    let first = c.index-first.result.now in
    let own = item_at (items_of c.args.self.now) item in
    let sound = subst (λ (d : DictionaryText). IsSound d) (ap (λ (x : CaseText). x.dictionary) c.self.view_is) (subst (λ (d : DictionaryText). IsSound d) c.dictionary.ensures c.shape-shape.ensures.sound) in
    let fits = first_within c.args.self.now _ _ _ _ _ _ _ _ _ _ _ c.args.number c.args.occurrence span c.self.view_is c.self.invariant c.requires.there (span_in _ _ c.deref.ensures _ _ c.index-span.ensures) c.requires.occurrence in
    let begins = get_or_read v.table.value.firsts.items (span.start + c.args.occurrence - 1) first (omega (arith, c.requires.occurrence.0)) (first_in _ _ c.deref-2.ensures _ _ c.index-first.ensures) 0 in
    let at = own_item c.args.self.now _ _ _ _ _ _ _ _ _ _ _ c.args.number c.args.occurrence first item span c.self.view_is c.self.invariant sound c.requires.there
    (span_in _ _ c.deref.ensures _ _ c.index-span.ensures) c.requires.occurrence low owns begins in
    let all = c.columns_from.ensures ∙ ap (λ cs. drop first cs) (c.columns.ensures ∙ ap (λ (k : Lines). k.columns) c.deref-3.ensures) in
    record {
      start = item_starts c.args.self.now item sound low;
      whole = omega (arith, at.whole, at.own.begins, at.own.within, ap length all, length-drop first columns);
      are = sym (ap (λ cs. field_of own cs) all ∙ (ap (λ k. field_of own (drop k columns)) at.own.begins ∙ (field_from own columns at.own.line.first at.own.line.width at.whole ∙ sym (ap (λ (l : LineText). field_of own l.columns) at.own.is))));
    }
