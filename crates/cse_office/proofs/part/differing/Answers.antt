use Rattle.std.proofs.Common.{inl, inr}
use Rattle.cse_case.specs.Bytes.{beside_lent}
use Rattle.cse_office.proofs.PartLaws.{past_column, same_column}
use Rattle.cse_office.proofs.part.differing.Goals as goal

pub returns : goal.returns
returns c =
    let a = c.args.before in
    let b = c.args.after in
    record {
      front = λ p low. same_column a.bytes.now b.bytes.now (beside_lent a) (beside_lent b) p (c.same_front-first.ensures p low);
      back = λ p from. elim (c.end_of-end.ensures p from) [
        | inl is ↦ same_column a.bytes.now b.bytes.now (beside_lent a) (beside_lent b) p is
        | inr past ↦ past_column a.bytes.now b.bytes.now (beside_lent a) (beside_lent b) p (past.0) (past.1)
      ];
    }
