use Rattle.std.proofs.Common.{◌≡◌, refl, List, ap, sym, ◌∙◌, subst, arith, suc, Some, length}
use Rattle.std.specs.Prelude.{slice_get}
use Rattle.cse_code_typing.specs.declared.control.Control.{Control}
use Rattle.cse_code_typing.specs.declared.piles.PileEntry.{PileEntry}
use Rattle.cse_code_typing.proofs.Few.{none_few, greater_few, more_few}
use Rattle.cse_code_typing.specs.Code.{part}
use Rattle.cse_code_typing.specs.Skeleton.{control, skeleton}
use Rattle.cse_code_typing.specs.Bracket.{around, KeepsRulesAt, IsNestedBelow}
use Rattle.cse_code_typing.specs.Tables.{scene_in}
use Rattle.cse_code_typing.proofs.CodeLaws.{part_at, length-part}
use Rattle.cse_code_typing.proofs.PassLaws.{passed_start, stuck_is, went_is, control_there, keeps_there, nested_there, stops_instr, stops_stack, passed_more, passed_all}
use Rattle.cse_code_typing.proofs.DepthLaws.{deep_start, deep_more, deep_end}
use Rattle.cse_code_typing.proofs.walk.walk.Goals as goal

pub places-init : goal.places-init
places-init g c =
    let code = part c.args.start c.args.around.routine.now.instructions (g.C.Code.list c.args.code.now) in
    record {
      passed = passed_start (scene_in c.args.around) c.args.number code c.args.around.routine.now.instructions _ _ _ c.new-openers.ensures c.new-piles.ensures c.requires.known
          (sym (length-part c.args.start c.args.around.routine.now.instructions (g.C.Code.list c.args.code.now) c.requires.within));
      deep = deep_start (scene_in c.args.around) c.args.smaller.now code _ refl;
      stacks = (let none = ap (λ (t : List PileEntry). length t) c.new-piles.ensures in omega arith);
      few = none_few _;
    }

pub returns-then-not-may_stand-clause-judges : goal.returns-then-not-may_stand-clause-judges
returns-then-not-may_stand-clause-judges g c =
    let s = scene_in c.args.around in
    let size = c.args.around.routine.now.instructions in
    let list = g.C.Code.list c.args.code.now in
    let code = part c.args.start size list in
    let place = c.places.place in
    let i = c.at-instr.result in
    let there = part_at c.args.start size list place c.places-test.true ∙ c.at-instr.ensures in
    stops_instr s c.args.number code place i c.places.openers c.places.piles c.places.known c.places.invariant.passed there (sym c.may_stand.ensures ∙ c.if-not-may_stand.true)

pub returns-then-not-branch-clause-judges : goal.returns-then-not-branch-clause-judges
returns-then-not-branch-clause-judges g c =
    let s = scene_in c.args.around in
    let size = c.args.around.routine.now.instructions in
    let list = g.C.Code.list c.args.code.now in
    let code = part c.args.start size list in
    let place = c.places.place in
    let i = c.at-instr.result in
    let there = part_at c.args.start size list place c.places-test.true ∙ c.at-instr.ensures in
    let is = c.control_of-control.ensures in
    let stands = sym c.may_stand.ensures ∙ c.if-not-may_stand.false in
    stops_stack s c.args.number code place i c.places.openers c.places.piles c.places.known c.places.invariant.passed there stands
    (stuck_is s c.args.number code place i c.places.openers c.control_of-control.result c.is_in_loop-in_loop.result c.in_ok-pass_at.field-0 _ _ c.places.invariant.passed.openers_are is c.is_in_loop-in_loop.ensures c.in_ok-pass_at.ensures.pass_at c.if-not-branch.true)

pub pass-requires : goal.pass-requires
pass-requires g c =
    let s = scene_in c.args.around in
    let size = c.args.around.routine.now.instructions in
    let list = g.C.Code.list c.args.code.now in
    let code = part c.args.start size list in
    let place = c.places.place in
    let there = part_at c.args.start size list place c.places-test.true ∙ c.at-instr.ensures in
    let skel = c.new-skeleton.ensures in
    let at = control_there s c.args.number code place c.at-instr.result c.control_of-control.result there c.control_of-control.ensures in
    record {
      there = subst (λ (k : List Control). slice_get k place ≡ Some c.control_of-control.result) (sym skel) at;
      fine = subst (λ (k : List Control). KeepsRulesAt k place) (sym skel) (keeps_there s c.args.number code place c.control_of-control.result c.requires.brackets at);
      nested = subst (λ (k : List Control). IsNestedBelow k place) (sym skel) (nested_there s c.args.number code place c.control_of-control.result c.requires.brackets at);
      openers = c.places.invariant.passed.openers_are ∙ ap (λ (k : List Control). around k place) (sym skel);
    }

pub places-preserved : goal.places-preserved
places-preserved g c =
    let s = scene_in c.args.around in
    let size = c.args.around.routine.now.instructions in
    let list = g.C.Code.list c.args.code.now in
    let code = part c.args.start size list in
    let place = c.places.place in
    let i = c.at-instr.result in
    let there = part_at c.args.start size list place c.places-test.true ∙ c.at-instr.ensures in
    let is = c.control_of-control.ensures in
    let stands = sym c.may_stand.ensures ∙ c.if-not-may_stand.false in
    let skel = c.new-skeleton.ensures in
    record {
      passed = passed_more s c.args.number code place i c.places.openers c.pass.new.openers c.places.piles c.pass_at.new.piles c.places.known c.pass_at.new.known c.places.invariant.passed there stands
          (went_is s c.args.number code place i c.places.openers c.control_of-control.result c.is_in_loop-in_loop.result c.in_ok-pass_at.field-0 _ _ c.places.invariant.passed.openers_are is c.is_in_loop-in_loop.ensures c.in_ok-pass_at.ensures.pass_at c.if-not-branch.false)
          c.pass_at.ensures.within (c.pass.ensures ∙ ap (λ (k : List Control). around k (suc place)) skel);
      deep = deep_more s c.args.smaller.now code c.args.number place i c.places.openers c.places.piles c.places.known c.expected_at-there.result c.places.most c.place_depth-kept.result c.greater-most.result c.places.invariant.passed there
          c.expected_at-there.ensures c.place_depth-kept.ensures.value c.greater-most.ensures c.places.invariant.deep;
      stacks = (let before = c.places.invariant.stacks in let one = c.pass_at.ensures.one in omega arith);
      few = (let before = c.places.invariant.stacks in let lt = c.places-test.true in
          greater_few _ _ _ _ c.greater-most.ensures c.places.invariant.few (more_few _ _ _ (omega arith) c.place_depth-kept.ensures.few));
    }

pub returns-clause-judges : goal.returns-clause-judges
returns-clause-judges g c =
    let code = part c.args.start c.args.around.routine.now.instructions (g.C.Code.list c.args.code.now) in
    let count = length-part c.args.start c.args.around.routine.now.instructions (g.C.Code.list c.args.code.now) c.requires.within in
    let past = c.places-test.false in
    let end : c.places.place ≡ length code = omega arith in
    passed_all (scene_in c.args.around) c.args.number code c.places.place c.places.openers c.places.piles c.places.known end c.places.invariant.passed

pub returns-clause-depth : goal.returns-clause-depth
returns-clause-depth g c = λ m t le typing.
    let code = part c.args.start c.args.around.routine.now.instructions (g.C.Code.list c.args.code.now) in
    let past = c.places-test.false in
    let end : c.places.place ≡ c.args.around.routine.now.instructions = omega arith in
    deep_end (scene_in c.args.around) c.args.smaller.now code c.places.place _ c.places.most end c.places.invariant.deep m t le typing
