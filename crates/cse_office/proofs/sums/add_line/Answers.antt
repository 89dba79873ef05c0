use Rattle.std.proofs.Common.{◌≡◌, cond, get_or, ap, sym, ◌∙◌, arith, inl, inr}
use Rattle.std.proofs.lemmas.Bool.{cases_lt}
use Rattle.cse_case.specs.Bytes.{columns_lent}
use Rattle.cse_case.specs.Field.{item_at}
use Rattle.cse_office.specs.declared.count.Count.{Count}
use Rattle.cse_office.specs.Changes.{is_changed_own, no_count, with_changes}
use Rattle.cse_office.proofs.SumLaws.{item_is, own_item}
use Rattle.cse_office.proofs.sums.add_line.Goals as goal

pub add_change-requires-clause-few : goal.add_change-requires-clause-few
add_change-requires-clause-few c e =
    let n = c.items.n in
    let items = c.args.items.now in
    let a = columns_lent c.args.before in
    let b = columns_lent c.args.after in
    let test : c.is_changed_own_in-is_changed.result ≡ is_changed_own c.args.owner (item_at items n) a b =
    c.is_changed_own_in-is_changed.ensures ∙ ap (λ i. is_changed_own c.args.owner i a b) (sym (item_is items n _ c.items-test.true)) in
    let few = c.requires.few n c.items-test.true (own_item c.args.owner (item_at items n) a b (sym test ∙ e)) in
    omega (arith, few, ap (λ (x : Count). x.changed) (c.items.invariant.others n (omega arith)))

pub items-preserved : goal.items-preserved
items-preserved c =
    let n = c.items.n in
    let items = c.args.items.now in
    let a = columns_lent c.args.before in
    let b = columns_lent c.args.after in
    let test : c.is_changed_own_in-is_changed.result ≡ is_changed_own c.args.owner (item_at items n) a b =
    c.is_changed_own_in-is_changed.ensures ∙ ap (λ i. is_changed_own c.args.owner i a b) (sym (item_is items n _ c.items-test.true)) in
    let said = c.add_change.ensures in
    record {
      each = λ k low. elim (cases_lt k n) [
        | inl h ↦ said.others k (λ e. absurd (omega (arith, e, h))) ∙ c.items.invariant.each k h
        | inr h ↦
            let last : k ≡ n = omega arith in
            rw last (said.here
            ∙ (ap (λ x. with_changes x (cond c.is_changed_own_in-is_changed.result 1 0)) (c.items.invariant.others n (omega arith))
            ∙ ap (λ t. with_changes (get_or c.args.counts.now n no_count) (cond t 1 0)) test))
      ];
      others = λ k above. said.others k (λ e. absurd (omega (arith, e, above))) ∙ c.items.invariant.others k (omega (arith, above));
    }
