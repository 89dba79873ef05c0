use Rattle.std.proofs.Common.{◌≡◌, ℕ, ◌<◌, ◌≤◌, ◌+◌, length, get_or, ap, sym, ◌∙◌, arith, inl, inr}
use Rattle.std.proofs.lemmas.Bool.{cases_lt}
use Rattle.std.proofs.lemmas.List.{get_or_past}
use Rattle.cse_case.specs.Field.{item_at}
use Rattle.cse_office.specs.declared.count.Count.{Count}
use Rattle.cse_office.specs.Changes.{AreAlike, AreFew, no_count}
use Rattle.cse_office.proofs.AlikeLaws.{alike_count, alike_pairs}
use Rattle.cse_office.proofs.compared.add_runs.Goals as goal

pub returns-then-is_alike-clause-as_many : goal.returns-then-is_alike-clause-as_many
returns-then-is_alike-clause-as_many c =
    let same : AreAlike c.args.before.now c.args.after.now = c.requires.alike c.if-is_alike.true in
    same.as_many

pub returns-then-is_alike-clause-pairs : goal.returns-then-is_alike-clause-pairs
returns-then-is_alike-clause-pairs c = alike_pairs c.args.items.now c.args.before.now c.args.after.now (c.requires.alike c.if-is_alike.true)

pub returns-then-is_alike-clause-changes : goal.returns-then-is_alike-clause-changes
returns-then-is_alike-clause-changes c n within =
    omega (arith, ap (λ (x : Count). x.changed) (alike_count c.args.records.now (item_at c.args.items.now n) c.args.before.now c.args.after.now (c.requires.alike c.if-is_alike.true)))

pub returns-then-is_alike-clause-few : goal.returns-then-is_alike-clause-few
returns-then-is_alike-clause-few c = record {
  seen_few = λ n. omega (arith, c.add_seen.ensures.few n, c.requires.few.seen_few n);
  changed_few = λ n. omega (arith, c.requires.few.changed_few n);
}

pub returns-clause-few : goal.returns-clause-few
returns-clause-few c = record {
  seen_few = λ n. omega (arith, c.add_seen-2.ensures.few n, c.requires.few.seen_few n);
  changed_few = λ n. elim (cases_lt n (length c.args.items.now)) [
    | inl low ↦ omega (arith, c.add_changes.ensures.few n low, c.requires.few.changed_few n)
    | inr past ↦ omega (arith, ap (λ (x : Count). x.changed) (get_or_past c.add_changes.new.counts n no_count (omega (arith, past, c.add_changes.ensures.len, c.requires.counts))))
  ];
}
