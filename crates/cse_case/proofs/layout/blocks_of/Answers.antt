use Rattle.std.proofs.Common.{sym}
use Rattle.std.proofs.lemmas.List.{take_more}
use Rattle.cse_case.proofs.NamedColumnLaws.{HaveSame-before, HaveSame-refl, HaveSame-trans}
use Rattle.cse_case.proofs.layout.blocks_of.Goals as goal

pub spans-preserved : goal.spans-preserved
spans-preserved c =
    let i = c.spans.span-index in
    let spans = c.args.spans.now in
    HaveSame-trans _ _ _ c.in_ok-add_block.ensures
    (HaveSame-trans _ _ _ (HaveSame-before _ _ _ c.spans.invariant) (HaveSame-refl _ _ (sym (take_more spans i _ c.spans-test.true))))
