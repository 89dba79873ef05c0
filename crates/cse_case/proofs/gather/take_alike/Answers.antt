use Rattle.std.proofs.Common.{ℕ, List, drop, subst}
use Rattle.cse_case.specs.Alike.{GoesOnFrom}
use Rattle.cse_case.proofs.gather.take_alike.Goals as goal

pub returns-clause-more : goal.returns-clause-more
returns-clause-more c =
    let run = c.args.run.now in
    let n = c.in_ok-alike.alike in
    rw c.drop_front.ensures (subst (λ (w : ℕ). GoesOnFrom w run c.args.buffer.now c.push_alike.new.self (drop n c.args.buffer.now)) c.least_width.ensures
    (subst (λ (b : List ℕ). GoesOnFrom c.least_width.result run b c.push_alike.new.self (drop n b)) c.as_slice.ensures c.in_ok-alike.ensures.more))
