use Rattle.std.proofs.Common.{arith, sym, ◌∙◌}
use Rattle.std.proofs.lemmas.Bool.{both_ways}
use Rattle.cse_code_typing.proofs.Checks.{so_far_start, so_far_more, nested_so_far, keeps_here, breaks_here, keeps_all}
use Rattle.cse_code_typing.proofs.brackets.check_code.Goals as goal

pub places-init : goal.places-init
places-init g c = so_far_start _ _ c.new-openers.ensures

pub is_fine-requires-clause-nested : goal.is_fine-requires-clause-nested
is_fine-requires-clause-nested g c = nested_so_far _ _ _ c.places.invariant

pub returns-then-not-is_fine-clause-first : goal.returns-then-not-is_fine-clause-first
returns-then-not-is_fine-clause-first g c =
    breaks_here _ _ _ _ (sym c.at.ensures ∙ c.in-Some.is) c.places.invariant (λ fine. both_ways _ c.if-not-is_fine.true (c.is_fine.ensures.1 fine.0))

pub returns-then-not-ends_fine-clause-first : goal.returns-then-not-ends_fine-clause-first
returns-then-not-ends_fine-clause-first g c =
    breaks_here _ _ _ _ (sym c.at.ensures ∙ c.in-Some.is) c.places.invariant (λ fine. both_ways _ c.if-not-ends_fine.true (c.ends_fine.ensures.1 fine.1))

pub pass-requires-clause-fine : goal.pass-requires-clause-fine
pass-requires-clause-fine g c = keeps_here _ _ _ (sym c.at.ensures ∙ c.in-Some.is) (c.is_fine.ensures.0 c.if-not-is_fine.false) (c.ends_fine.ensures.0 c.if-not-ends_fine.false)

pub pass-requires-clause-nested : goal.pass-requires-clause-nested
pass-requires-clause-nested g c = nested_so_far _ _ _ c.places.invariant

pub places-preserved : goal.places-preserved
places-preserved g c =
    so_far_more _ _ _ _ c.places.invariant
    (keeps_here _ _ _ (sym c.at.ensures ∙ c.in-Some.is) (c.is_fine.ensures.0 c.if-not-is_fine.false) (c.ends_fine.ensures.0 c.if-not-ends_fine.false))
    c.pass.ensures

pub returns-clause-all : goal.returns-clause-all
returns-clause-all g c = keeps_all _ _ _ (let n = c.len-place-end.ensures in let m = c.places-test.false in omega arith) c.places.invariant
