use Rattle.std.proofs.Common.{◌≡◌, ℕ, ◌+◌, ◌<◌, length, get_or, take, ap, sym, ◌∙◌, arith, inl, inr}
use Rattle.std.proofs.lemmas.Bool.{cases_lt}
use Rattle.cse_case.specs.Field.{item_at}
use Rattle.cse_case.specs.Seen.{places_from as own_places}
use Rattle.cse_office.specs.declared.count.Count.{Count}
use Rattle.cse_office.specs.Changes.{count_in, no_count, types_of, with_changes}
use Rattle.cse_office.proofs.SumLaws.{is_with, none_total, own_total, same_count}
use Rattle.cse_office.proofs.sums.add_changes.Goals as goal

pub add_record-requires-clause-few : goal.add_record-requires-clause-few
add_record-requires-clause-few c n within own =
    omega (arith, c.requires.few n within, ap (λ (x : Count). x.changed) (c.records.invariant.later n within (omega (arith, own))))

pub records-preserved : goal.records-preserved
records-preserved c =
    let r = c.records.owner in
    let records = c.args.records.now in
    let items = c.args.items.now in
    let a = c.args.before.now in
    let b = c.args.after.now in
    let old = c.args.counts.now in
    let now = c.records.counts in
    let new = c.add_record.new.counts in
    let said = c.add_record.ensures in
    let places = take c.most_of-most.result (own_places 0 r (types_of a)) in
    let same : (k : ℕ) → k < length items → ((item_at items k).owner ≡ r → ⊥) → get_or new k no_count ≡ get_or now k no_count =
    λ k within other. same_count r (item_at items k) a b places (get_or now k no_count) (get_or new k no_count) other (said.occurrences k within) (said.changed k within) in
    let own : (k : ℕ) → k < length items → (item_at items k).owner ≡ r → get_or new k no_count ≡ with_changes (get_or now k no_count) (count_in records (item_at items k) a b).changed =
    λ k within is. is_with (get_or now k no_count) (get_or new k no_count) _ (said.occurrences k within)
    (said.changed k within ∙ ap (λ n. (get_or now k no_count).changed + n) (own_total records items k a b c.requires.pairs within r c.most_of-most.result c.most_of-most.ensures is)) in
    record {
      done = λ k within less. elim (cases_lt (item_at items k).owner r) [
        | inl below ↦ same k within (λ e. absurd (omega (arith, e, below))) ∙ c.records.invariant.done k within below
        | inr above ↦ own k within (omega (arith, less, above)) ∙ ap (λ x. with_changes x (count_in records (item_at items k) a b).changed) (c.records.invariant.later k within above)
      ];
      later = λ k within above. same k within (λ e. absurd (omega (arith, e, above))) ∙ c.records.invariant.later k within (omega (arith, above));
      few = λ k within. elim (cases_lt (item_at items k).owner r) [
        | inl below ↦ omega (arith, ap (λ (x : Count). x.changed) (same k within (λ e. absurd (omega (arith, e, below)))), c.records.invariant.few k within)
        | inr above ↦ omega (arith, said.few k within, ap (λ (x : Count). x.changed) (c.records.invariant.later k within above))
      ];
    }

pub returns-clause-each : goal.returns-clause-each
returns-clause-each c n within =
    let items = c.args.items.now in
    let records = c.args.records.now in
    let old = get_or c.args.counts.now n no_count in
    elim (cases_lt (item_at items n).owner (length records)) [
      | inl less ↦ ap (λ (x : Count). x.changed) (c.records.invariant.done n within (omega (arith, less)))
      | inr past ↦ omega (arith, ap (λ (x : Count). x.changed) (c.records.invariant.later n within (omega (arith, past))), none_total records items n c.args.before.now c.args.after.now c.requires.pairs within past)
    ]
