use Rattle.std.proofs.Common.{List, ap, ◌∙◌, Result, Ok, Err}
use Rattle.std.specs.Result.{OnOk}
use Rattle.cse_case.specs.declared.layout.ColumnSpan.{ColumnSpan}
use Rattle.cse_case.specs.Bytes.{columns_lent}
use Rattle.cse_case.specs.NamedColumns.{HaveSame, fields_at, id_spans, ids_of}
use Rattle.cse_case.proofs.NamedColumnLaws.{HaveSame-refl, HaveSame-trans}
use Rattle.cse_case.proofs.source.Source.put_ids.Goals as goal
use Rattle.cse_case.proofs.source.Source.put_ids.Goals.{then-not-self+in_ok-self-inside, else-not-self}

on_ok : {A E : Type 0} {P Q : Type 0} (r : Result A E) → OnOk r P → (P → Q) → OnOk r Q
on_ok (Ok x) h f = f h
on_ok (Err x) h f = h

pub returns-clause-ids : goal.returns-clause-ids
unfolding ids_of
returns-clause-ids c =
    let listed : HaveSame c.if-not-self.self-inside.id_blocks.items (id_spans c.args.self.now) = elim c.if-not-self.branch [
      | then-not-self+in_ok-self-inside w ↦
          HaveSame-trans _ _ _ (HaveSame-refl _ _ (ap (λ s. s.id_blocks.items) w.self-inside-is))
          (HaveSame-trans _ _ _ w.in_ok-self-inside.ensures (HaveSame-refl _ _ (ap id_spans (w.dictionary.ensures ∙ c.self.view_is))))
      | else-not-self w ↦
          HaveSame-trans _ _ _ (HaveSame-refl _ _ (ap (λ s. s.id_blocks.items) w.self-inside-is))
          (HaveSame-trans _ _ _ (c.self.invariant w.if-not-self.false) (HaveSame-refl _ _ (ap id_spans c.self.view_is)))
    ] in
    let same = ap (λ (spans : List ColumnSpan). fields_at spans (columns_lent c.args.columns)) c.deref.ensures.value ∙ listed.fields (columns_lent c.args.columns) in
    on_ok c.put_fields.result c.put_fields.ensures (λ put. put ∙ same)
