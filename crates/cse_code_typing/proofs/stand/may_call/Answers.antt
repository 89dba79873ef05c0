use Rattle.std.proofs.Common.{not, ◌||◌, sym, ap, ◌∙◌}
use Rattle.cse_image_parts.specs.Image.{routine_lists}
use Rattle.cse_code_typing.specs.Calls.{may_call}
use Rattle.cse_code_typing.specs.Order.{is_run}
use Rattle.cse_code_typing.proofs.ListedLaws.{got, got_of, lacks, lacks_of}
use Rattle.cse_code_typing.proofs.stand.may_call.Goals as goal

pub returns-in-None : goal.returns-in-None
returns-in-None c =
    sym (ap (may_call c.args.run) (lacks_of routine_lists c.args.tables.now.routines.items c.args.callee (lacks c.deref.result.now _ _ c.deref.ensures.value c.in-None.ensures.lookup.0)))

pub returns-then-not-run : goal.returns-then-not-run
returns-then-not-run c =
    let there = got c.deref.result.now _ _ c.in-Some.found.now c.deref.ensures.value c.in-Some.ensures.lookup.0 c.in-Some.ensures.lookup.1 in
    ap not c.if-not-run.true
    ∙ sym (ap (may_call c.args.run) (got_of routine_lists c.args.tables.now.routines.items c.args.callee c.in-Some.found.now there) ∙ ap (λ run. not run || is_run c.in-Some.found.now.ambient) c.if-not-run.true)

pub returns-else-not-run : goal.returns-else-not-run
returns-else-not-run c =
    let there = got c.deref.result.now _ _ c.in-Some.found.now c.deref.ensures.value c.in-Some.ensures.lookup.0 c.in-Some.ensures.lookup.1 in
    c.is_run.ensures
    ∙ sym (ap (may_call c.args.run) (got_of routine_lists c.args.tables.now.routines.items c.args.callee c.in-Some.found.now there) ∙ ap (λ run. not run || is_run c.in-Some.found.now.ambient) c.if-not-run.false)
