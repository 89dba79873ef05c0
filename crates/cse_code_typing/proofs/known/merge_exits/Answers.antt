use Rattle.cse_code_typing.proofs.MergeLaws.{merge_both}
use Rattle.cse_code_typing.proofs.known.merge_exits.Goals as goal

pub returns-else-not-merge_edge-clause-merges : goal.returns-else-not-merge_edge-clause-merges
returns-else-not-merge_edge-clause-merges c =
    merge_both c.args.piles.now c.args.place c.args.exits c.in-Two.edge c.in-Two.other _ _ _ c.in-Two.is c.if-not-merge_edge.ensures.merges c.merge_edge-in-Two-2.ensures.merges
