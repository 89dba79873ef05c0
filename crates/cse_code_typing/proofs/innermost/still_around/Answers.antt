use Rattle.std.proofs.Common.{◌∙◌, ℕ, List, Option, sym, ap, subst, arith}
use Rattle.std.specs.Prelude.{slice_get}
use Rattle.std.proofs.lemmas.Bool.{both_ways}
use Rattle.cse_code_typing.specs.Innermost.{Reaches}
use Rattle.cse_code_typing.proofs.Inside.{innermost_is, innermost_none, innermost_at, innermost_before, outward, shorter, none_left}
use Rattle.cse_code_typing.proofs.innermost.still_around.Goals as goal

pub returns-then-is_around : goal.returns-then-is_around
returns-then-is_around g c =
    sym (innermost_is c.args.code.now c.args.place c.in-Some.found (c.is_around.ensures.0 c.if-is_around.true)
    (λ s a. subst (λ o. Reaches o s) c.in-Some.is (c.outward.invariant.reaches s a)))

pub outward-smaller : goal.outward-smaller
outward-smaller g c =
    let lt = c.outward.invariant.before c.in-Some.found c.in-Some.is in
    let told = c.opener_in-opener.ensures _ (ap (λ (l : List (Option ℕ)). slice_get l c.in-Some.found) c.requires.table ∙ innermost_at c.args.code.now c.args.place c.in-Some.found lt) in
    shorter c.args.code.now c.in-Some.found c.outward.opener c.opener_in-opener.result c.in-Some.is told

pub outward-preserved : goal.outward-preserved
outward-preserved g c =
    let lt = c.outward.invariant.before c.in-Some.found c.in-Some.is in
    let told = c.opener_in-opener.ensures _ (ap (λ (l : List (Option ℕ)). slice_get l c.in-Some.found) c.requires.table ∙ innermost_at c.args.code.now c.args.place c.in-Some.found lt) in
    record {
      reaches = λ s a. subst (λ o. Reaches o s) (sym told)
          (outward c.args.code.now c.in-Some.found c.args.place s (λ b. both_ways _ c.if-is_around.false (c.is_around.ensures.1 b)) a (subst (λ o. Reaches o s) c.in-Some.is (c.outward.invariant.reaches s a)) lt);
      before = λ t e. let less = innermost_before c.args.code.now c.in-Some.found t (sym told ∙ e) in omega arith;
    }

pub returns : goal.returns
returns g c = sym (innermost_none c.args.code.now c.args.place (λ s a. none_left c.outward.opener s c.in_default.not-Some (c.outward.invariant.reaches s a)))
