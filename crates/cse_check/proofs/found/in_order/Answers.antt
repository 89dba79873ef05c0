use Rattle.std.specs.Cmp.{both_tied, unsigned_ties}
use Rattle.std.proofs.Common.{rules}
use Rattle.std.proofs.lemmas.Cmp.{nat_cmp_total, nat_eq_equiv, and_equiv, on_equiv, on_total, then_total}
use Rattle.std.proofs.lemmas.List.Filters.{dedup_is}
use Rattle.std.proofs.lemmas.List.Kept.{IsStrictlySortedBy-dedup, Contains-dedup, Contains-from_dedup}
use Rattle.std.proofs.lemmas.List.Sorted.{Contains-permutation, IsPermutation-sym}
use Rattle.cse_check.proofs.found.in_order.Goals as goal

pub returns-clause-order : goal.returns-clause-order
returns-clause-order c =
    rw (dedup_is _ _ _ c.dedup.ensures.filtered)
    (IsStrictlySortedBy-dedup (then_total (on_total (λ f. f.start) nat_cmp_total) (on_total (λ f. f.number) nat_cmp_total))
    (λ x y. both_tied _ _ _ _ (unsigned_ties x.start y.start) (unsigned_ties x.number y.number)) _ c.in_ok-sort.ensures.sorted)

pub returns-clause-same : goal.returns-clause-same
returns-clause-same c x = (
  (λ h. Contains-permutation _ _ x (IsPermutation-sym _ _ c.in_ok-sort.ensures.permutation) (Contains-from_dedup _ _ x (rw (dedup_is _ _ _ c.dedup.ensures.filtered) at h))),
  (λ h. rw (dedup_is _ _ _ c.dedup.ensures.filtered)
      (Contains-dedup (and_equiv (on_equiv (λ f. f.start) nat_eq_equiv) (on_equiv (λ f. f.number) nat_eq_equiv)) (λ y z same. search rules) _ x
      (Contains-permutation _ _ x c.in_ok-sort.ensures.permutation h))),
)
