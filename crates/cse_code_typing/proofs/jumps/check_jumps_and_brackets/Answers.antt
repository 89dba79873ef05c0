use Rattle.std.proofs.Common.{ℕ, Option, IfSome, ◌+◌, ◌<◌, ◌^◌, ap, arith, rules, length, below_more, List, refl, subst}
use Rattle.cse_image_parts.specs.declared.instruction.Instr.{Instr}
use Rattle.cse_image_parts.specs.Image.{routine_lists}
use Rattle.cse_code_typing.specs.Bracket.{BreaksFirst, KeepsRules}
use Rattle.cse_code_typing.proofs.Checks.{told_none}
use Rattle.cse_code_typing.proofs.CodeLaws.{routine_at, lies_within, routine_keeps, routine_breaks, start_next, routines_are}
use Rattle.cse_code_typing.proofs.jumps.check_jumps_and_brackets.Goals as goal

pub new-skeleton-requires : goal.new-skeleton-requires
new-skeleton-requires g c =
    let there = routine_at c.args.program.now c.tables-tables.result.now c.deref-head-items.result.now c.loop-head.head-index c.head-item.result
    c.deref-head-items.ensures.value c.tables-tables.ensures.lists c.loop-head-test.true c.head-item.is in
    let within = lies_within c.args.program.now c.loop-head.head-index c.loop-head.start (routine_lists c.head-item.result) c.tables-tables.ensures.fits.count there c.loop-head.invariant.start_is in
    omega (arith, within, ap (λ (l : List Instr). length l) c.code-code.ensures)

pub returns-in-Some-clause-fails : goal.returns-in-Some-clause-fails
returns-in-Some-clause-fails g c =
    let there = routine_at c.args.program.now c.tables-tables.result.now c.deref-head-items.result.now c.loop-head.head-index c.head-item.result
    c.deref-head-items.ensures.value c.tables-tables.ensures.lists c.loop-head-test.true c.head-item.is in
    record {
      number = refl;
      breaks = routine_breaks c.args.program.now c.loop-head.routine c.loop-head.head-index c.loop-head.start c.in-Some.at (routine_lists c.head-item.result) _ _ _ there
          c.loop-head.invariant.start_is c.loop-head.invariant.routine_is c.code-code.ensures c.tables-tables.ensures.lists c.new-skeleton.ensures c.loop-head.invariant.before
          (subst (λ (o : Option ℕ). IfSome o (BreaksFirst c.new-skeleton.result)) c.in-Some.is c.check_code.ensures.first);
    }

pub overflow_add-start : goal.overflow_add-start
overflow_add-start g c =
    let there = routine_at c.args.program.now c.tables-tables.result.now c.deref-head-items.result.now c.loop-head.head-index c.head-item.result
    c.deref-head-items.ensures.value c.tables-tables.ensures.lists c.loop-head-test.true c.head-item.is in
    let within = lies_within c.args.program.now c.loop-head.head-index c.loop-head.start (routine_lists c.head-item.result) c.tables-tables.ensures.fits.count there c.loop-head.invariant.start_is in
    let small : c.loop-head.start + c.head-item.result.instructions < 2 ^ 64 = omega (arith, within, ap (λ (l : List Instr). length l) c.code-code.ensures) in
    search rules

pub loop-head-preserved : goal.loop-head-preserved
loop-head-preserved g c =
    let there = routine_at c.args.program.now c.tables-tables.result.now c.deref-head-items.result.now c.loop-head.head-index c.head-item.result
    c.deref-head-items.ensures.value c.tables-tables.ensures.lists c.loop-head-test.true c.head-item.is in
    record {
      start_is = start_next c.args.program.now c.loop-head.head-index c.loop-head.start (routine_lists c.head-item.result) there c.loop-head.invariant.start_is;
      routine_is = omega arith;
      before = below_more _ _ c.loop-head.invariant.before
          (routine_keeps c.args.program.now c.loop-head.head-index c.loop-head.start (routine_lists c.head-item.result) _ _ _ there c.loop-head.invariant.start_is c.code-code.ensures c.tables-tables.ensures.lists c.new-skeleton.ensures
          (told_none c.check_code.result (KeepsRules c.new-skeleton.result) c.check_code.ensures.all c.in_default.not-Some));
    }

pub returns-clause-keeps : goal.returns-clause-keeps
returns-clause-keeps g c = λ r lt. c.loop-head.invariant.before r
    (let all = routines_are c.args.program.now c.tables-tables.result.now c.deref-head-items.result.now c.deref-head-items.ensures.value c.tables-tables.ensures.lists in
    let past = c.loop-head-test.false in omega arith)
