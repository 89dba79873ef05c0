use Rattle.std.proofs.Common.{arith}
use Rattle.cse_code_typing.proofs.MergeLaws.{put_front}
use Rattle.cse_code_typing.proofs.PileLaws.{set_within}
use Rattle.cse_code_typing.proofs.known.merge_edge.Goals as goal

pub returns-then-edge-known-clause-merges : goal.returns-then-edge-known-clause-merges
returns-then-edge-known-clause-merges c =
    put_front c.args.piles.now c.args.known.now c.args.place c.args.edge.to c.args.edge.stack c.expected_at-there.result c.met_at-more.result (omega arith) c.expected_at-there.ensures c.met_at-more.ensures.value

pub returns-then-edge-known-clause-within : goal.returns-then-edge-known-clause-within
returns-then-edge-known-clause-within c = set_within _ _ _ _ c.requires.within c.met_at-more.ensures.within
