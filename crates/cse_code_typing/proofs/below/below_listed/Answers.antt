use Rattle.std.proofs.Common.{sym, ◌∙◌, arith, ◌-◌}
use Rattle.cse_image_parts.specs.Image.{lists_of}
use Rattle.cse_code_typing.specs.Needs.{listed_kinds}
use Rattle.cse_code_typing.specs.Piles.{stack_of}
use Rattle.cse_code_typing.proofs.BelowLaws.{one_less_none, one_less_some}
use Rattle.cse_code_typing.proofs.below.below_listed.Goals as goal

pub returns-in-None-clause-stacks : goal.returns-in-None-clause-stacks
returns-in-None-clause-stacks c =
    let kinds = listed_kinds (lists_of c.args.tables.now) c.args.listed in
    sym (c.kinds.invariant.same
    ∙ one_less_none kinds (stack_of c.args.piles.now c.kinds.rest) c.kinds.left (c.kinds.left - 1) c.in-Some.kind (omega arith) (sym c.listed_at.ensures ∙ c.in-Some.is) c.in-None.ensures.stacks)

pub kinds-preserved : goal.kinds-preserved
kinds-preserved c =
    let kinds = listed_kinds (lists_of c.args.tables.now) c.args.listed in
    record {
      within = c.in-Some-below_one.ensures.within;
      few = (let few = c.kinds.invariant.few in omega arith);
      same = c.kinds.invariant.same
          ∙ one_less_some kinds (stack_of c.args.piles.now c.kinds.rest) (stack_of c.args.piles.now c.in-Some-below_one.next) c.kinds.left (c.kinds.left - 1) c.in-Some.kind (omega arith) (sym c.listed_at.ensures ∙ c.in-Some.is) c.in-Some-below_one.ensures.stacks;
    }
