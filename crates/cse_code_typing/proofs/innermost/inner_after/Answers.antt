use Rattle.std.proofs.Common.{◌∙◌, sym, subst, arith, add-one}
use Rattle.std.proofs.lemmas.Bool.{both_ways}
use Rattle.cse_code_typing.specs.Bracket.{IsAround}
use Rattle.cse_code_typing.specs.Innermost.{Reaches}
use Rattle.cse_code_typing.proofs.Inside.{begun, went_on, reached, innermost_before}
use Rattle.cse_code_typing.proofs.innermost.inner_after.Goals as goal

pub returns-then-begins_bracket : goal.returns-then-begins_bracket
returns-then-begins_bracket g c = let b = c.begins_bracket.ensures.yes c.if-begins_bracket.true in sym (begun c.args.code.now c.args.place b.0 b.1)

pub still_around-requires-clause-reaches : goal.still_around-requires-clause-reaches
still_around-requires-clause-reaches g c = λ s a.
    subst (λ o. Reaches o s) (sym c.requires.inner)
    (reached c.args.code.now c.args.place s (went_on c.args.code.now c.args.place s (λ e b. both_ways _ c.if-begins_bracket.false (c.begins_bracket.ensures.no e b)) (subst (λ n. IsAround c.args.code.now s n) (add-one c.args.place) a)))

pub still_around-requires-clause-before : goal.still_around-requires-clause-before
still_around-requires-clause-before g c = λ t e. let lt = innermost_before c.args.code.now c.args.place t (sym c.requires.inner ∙ e) in omega arith
