use Rattle.std.proofs.Common.{ℕ, length, ◌≤◌, sym, ◌∙◌, arith}
use Rattle.std.specs.Prelude.{slice_get}
use Rattle.cse_code_typing.specs.Code.{part}
use Rattle.cse_code_typing.specs.Signature.{loops_over}
use Rattle.cse_code_typing.proofs.OpenerLaws.{any_here, any_more, any_end}
use Rattle.cse_code_typing.proofs.in_loop.is_in_loop.Goals as goal

pub returns-then-loops_at : goal.returns-then-loops_at
returns-then-loops_at g c =
    any_here (λ (o : ℕ). loops_over c.args.number (slice_get (part c.args.start c.args.size (g.C.Code.list c.args.code.now)) o)) c.args.openers.now c.openers.i c.at.result _ c.at.ensures c.loops_at.ensures c.if-loops_at.true ∙ sym c.openers.invariant

pub openers-preserved : goal.openers-preserved
openers-preserved g c =
    c.openers.invariant ∙ any_more (λ (o : ℕ). loops_over c.args.number (slice_get (part c.args.start c.args.size (g.C.Code.list c.args.code.now)) o)) c.args.openers.now c.openers.i c.at.result _ c.at.ensures c.loops_at.ensures c.if-loops_at.false

pub returns : goal.returns
returns g c =
    let past : length c.args.openers.now ≤ c.openers.i = (let n = c.len-i-end.ensures in let m = c.openers-test.false in omega arith) in
    any_end (λ (o : ℕ). loops_over c.args.number (slice_get (part c.args.start c.args.size (g.C.Code.list c.args.code.now)) o)) c.args.openers.now c.openers.i past ∙ sym c.openers.invariant
