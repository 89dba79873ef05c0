use Rattle.std.proofs.Common.{◌≡◌, ◌∙◌, [], ◌∷◌, ◌++◌, None, Some, ap, sym}
use Rattle.std.specs.Prelude.{position, slice_set}
use Rattle.std.specs.Map.{keys_of, lookup}
use Rattle.std.proofs.lemmas.Option.{get_or_from_slice_get}
use Rattle.cse_ordered.proofs.Laws.{lookup_nowhere}
use Rattle.cse_report.specs.Counts.{one_more}
use Rattle.cse_report.specs.Frequency.{tallied}
use Rattle.cse_report.specs.Values.{key_of, table_of}
use Rattle.cse_report.specs.contracts.counts.ValuePartialEq.TheImpl.{eq-value}
use Rattle.cse_report.specs.declared.counts.Value.{Value}
use Rattle.cse_report.proofs.TallyLaws.{tally_again, tally_first}
use Rattle.cse_report.proofs.counts.ValueCounts.tally.Goals as goal

pub push-requires : goal.push-requires
push-requires c = lookup_nowhere (eq-value.it c.key_of-key.result) c.self.inside.counts (sym c.place_of.ensures ∙ c.in-None.is)

pub returns-in-Some-clause-ok : goal.returns-in-Some-clause-ok
returns-in-Some-clause-ok c =
    let v = c.args.value in
    let es = c.self.inside.counts in
    let i = c.in-Some.place in
    let e = c.at.result.now in
    let count = c.saturating_add-count.result in
    let is : count ≡ one_more e.1 = c.saturating_add-count.ensures in
    let there : position (eq-value.it (key_of v)) (keys_of es) ≡ Some i = ap (λ (k : Value). position (eq-value.it k) (keys_of es)) (sym c.key_of-key.ensures) ∙ sym c.place_of.ensures ∙ c.in-Some.is in
    ap table_of (c.set.ensures e ∙ ap (λ x. slice_set es i (x.0, count)) (get_or_from_slice_get es i e e c.at.ensures) ∙ ap (λ n. slice_set es i (e.0, n)) is)
    ∙ tally_again v es i e there c.at.ensures
    ∙ ap (tallied v) c.self.view_is

pub returns-in_ok-push-in-None-clause-ok : goal.returns-in_ok-push-in-None-clause-ok
returns-in_ok-push-in-None-clause-ok c =
    let v = c.args.value in
    let es = c.self.inside.counts in
    let none : lookup (eq-value.it (key_of v)) es ≡ None =
    ap (λ (k : Value). lookup (eq-value.it k) es) (sym c.key_of-key.ensures) ∙ lookup_nowhere (eq-value.it c.key_of-key.result) es (sym c.place_of.ensures ∙ c.in-None.is) in
    ap table_of (c.in_ok-push-in-None.ensures.added ∙ ap (λ (k : Value). es ++ (k, 1) ∷ []) c.key_of-key.ensures)
    ∙ tally_first v es none
    ∙ ap (tallied v) c.self.view_is
