use Rattle.std.proofs.Common.{◌∙◌, ◌++◌, ◌∷◌, [], ap, arith, slice_set, length-set}
use Rattle.std.proofs.lemmas.List.{take_more_set}
use Rattle.cse_case.proofs.write.write_end.Goals as goal

pub returns-in-Feed-clause-bytes : goal.returns-in-Feed-clause-bytes
returns-in-Feed-clause-bytes c = rw c.in-Feed.is (take_more_set c.args.bytes.now 0 10 (omega (arith, c.requires)))

pub returns-in-ReturnFeed-clause-bytes : goal.returns-in-ReturnFeed-clause-bytes
returns-in-ReturnFeed-clause-bytes c =
    rw c.in-ReturnFeed.is (take_more_set (slice_set c.args.bytes.now 0 13) 1 10 (simp length-set (omega (arith, c.requires)))
    ∙ ap (λ l. l ++ 10 ∷ []) (take_more_set c.args.bytes.now 0 13 (omega (arith, c.requires))))
