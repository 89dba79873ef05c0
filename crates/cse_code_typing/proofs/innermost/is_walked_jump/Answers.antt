use Rattle.std.proofs.Common.{◌<◌, ap, length, arith}
use Rattle.std.proofs.lemmas.Bool.{both_ways, false≢true}
use Rattle.cse_code_typing.specs.Bracket.{first}
use Rattle.cse_code_typing.proofs.Inside.{still_there, none_begins, keeps_innermost}
use Rattle.cse_code_typing.proofs.innermost.is_walked_jump.Goals as goal

pub returns-then-not-is_still_inside : goal.returns-then-not-is_still_inside
returns-then-not-is_still_inside g c = (
  (λ no. absurd (false≢true no)),
  (λ jump. absurd (both_ways _ c.if-not-is_still_inside.true (c.is_still_inside.ensures.1 (still_there c.args.code.now c.args.from c.args.to _ (ap first c.requires) jump)))),
)

pub returns : goal.returns
returns g c =
    let lt : c.args.from < c.args.to = (let h = c.if-to-from.false in omega arith) in
    let within : c.args.to < length c.args.code.now = (let h = c.if-to-len.false in let n = c.len.ensures in omega arith) in (
      (λ yes. keeps_innermost c.args.code.now c.args.from c.args.to _ (ap first c.requires) lt within (c.is_still_inside.ensures.0 c.if-not-is_still_inside.false) (c.begins_none_between.ensures.none yes)),
      (λ jump. c.begins_none_between.ensures.one (none_begins c.args.code.now c.args.from c.args.to jump)),
    )
