use Rattle.std.proofs.Common.{take, ◌∙◌}
use Rattle.std.specs.List.{flat_map}
use Rattle.cse_image_parts.specs.Spelling.{i64}
use Rattle.cse_image_parts.proofs.Loop.{put_all, put_more, taken_back}
use Rattle.cse_image_parts.proofs.writing.put_i64s.Goals as goal

pub loop-n-preserved : goal.loop-n-preserved
loop-n-preserved c =
    put_more i64 c.args.out.now.items c.args.numbers.now c.loop-n.n-index _ c.loop-n.out.items c.put_i64.new.out.items c.loop-n-test.true c.in_default.ensures.bytes c.loop-n.invariant

pub returns-in-Err-clause-err : goal.returns-in-Err-clause-err
returns-in-Err-clause-err c =
    c.truncate.ensures.items
    ∙ taken_back c.args.out.now.items (flat_map i64 (take c.loop-n.n-index c.args.numbers.now)) c.loop-n.out.items c.put_i64.new.out.items c.len-len.result (c.len-len.ensures ∙ c.args.out.now.ok.0) c.in-Err.ensures.err c.loop-n.invariant

pub returns-clause-bytes : goal.returns-clause-bytes
returns-clause-bytes c = put_all i64 c.args.out.now.items c.args.numbers.now c.loop-n.n-index c.loop-n.out.items c.loop-n-test.false c.loop-n.invariant
