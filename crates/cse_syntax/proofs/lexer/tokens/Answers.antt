use Rattle.std.proofs.Common.{rules, ◌<◌, ap, sym, ◌∙◌, false-eqb, map, length, arith}
use Rattle.cse_syntax.specs.Text as spec
use Rattle.cse_syntax.specs.Text.{piece}
use Rattle.cse_syntax.proofs.lexer.tokens.Goals as goal
use Rattle.std.proofs.lemmas.List.{map_push}
use Rattle.std.proofs.lemmas.Bool.{eqb-true}
use Rattle.cse_syntax.specs.Loop.{snoc}
use Rattle.cse_syntax.proofs.Loops as loops
use Rattle.cse_syntax.proofs.TokenNumbers.{numbered_push}
use Rattle.cse_syntax.proofs.Text.{all_read, none_read, no_first, goes_on_there, ends_there}

pub returns-in-Err : goal.returns-in-Err
returns-in-Err c = no_first c.args.text.now (rw c.past_mark-front.ensures.value at c.in-Err.ensures.value)

pub returns-in-Last : goal.returns-in-Last
returns-in-Last c =
    let some : 0 < length c.all.rest.now = omega (arith, false-eqb _ 0 c.all-test.ensures) in
    none_read c.args.text.now c.in-Ok.rest.now (rw c.past_mark-front.ensures.value at c.in-Ok.ensures.value)
    (loops.fails spec.goes_on (spec.next_piece (length c.args.text.now)) snoc _ (map piece c.all.tokens.items) c.all.rest.now (goes_on_there _ some) c.in-Last.ensures.value some c.all.invariant.2)

pub returns-in-Fault : goal.returns-in-Fault
returns-in-Fault c =
    let some : 0 < length c.all.rest.now = omega (arith, false-eqb _ 0 c.all-test.ensures) in
    none_read c.args.text.now c.in-Ok.rest.now (rw c.past_mark-front.ensures.value at c.in-Ok.ensures.value)
    (loops.fails spec.goes_on (spec.next_piece (length c.args.text.now)) snoc _ (map piece c.all.tokens.items) c.all.rest.now (goes_on_there _ some) c.in-Fault.ensures.value some c.all.invariant.2)

pub all-preserved : goal.all-preserved
all-preserved c =
    let some : 0 < length c.all.rest.now = omega (arith, false-eqb _ 0 c.all-test.ensures) in
    let next = c.in-Token.ensures in
    let pushed = ap (map piece) c.in_ok-push-in-Token.ensures.items ∙ map_push piece c.all.tokens.items c.in-Token.token in (
      omega (arith, next.shorter),
      search rules,
      loops.goes_on_as spec.goes_on (spec.next_piece (length c.args.text.now)) snoc _ (map piece c.all.tokens.items) _ c.all.rest.now (piece c.in-Token.token) c.in-Token.after.now (goes_on_there _ some) next.value.0 next.shorter pushed c.all.invariant.2,
      numbered_push c.all.tokens.items _ c.in-Token.token c.all.invariant.3 (omega (arith, next.value.1, c.len.ensures)) c.in_ok-push-in-Token.ensures.items,
    )

pub returns : goal.returns
returns c = (
  all_read c.args.text.now c.in-Ok.rest.now c.all.rest.now (map piece c.all.tokens.items) (rw c.past_mark-front.ensures.value at c.in-Ok.ensures.value)
      (loops.ends spec.goes_on (spec.next_piece (length c.args.text.now)) snoc _ (map piece c.all.tokens.items) c.all.rest.now (ends_there _ (eqb-true _ 0 (sym c.all-test.ensures))) c.all.invariant.2),
  c.all.invariant.3,
)
