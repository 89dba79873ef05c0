use Rattle.std.proofs.Common.{◌≡◌, ℕ, ◌<◌, true, false, length, get_or, sym, ◌∙◌, arith, below_more}
use Rattle.cse_office.specs.Changes.{IsLike}
use Rattle.cse_office.proofs.AlikeLaws.{alike_all}
use Rattle.cse_office.proofs.alike.are_alike.Goals as goal

pub lines-preserved : goal.lines-preserved
lines-preserved c =
    let inv = c.lines.invariant in
    let here = c.is_like_at-is_like.ensures in
    record {
      likes = below_more (λ k. get_or c.remember.new.likes k false ≡ true → IsLike c.args.before.now c.args.after.now k) c.lines.place (λ k low e. inv.likes k low (sym (c.remember.ensures.others k (λ same. absurd (omega (arith, same, low)))) ∙ e)) (λ e. here (c.remember.ensures.here e));
      as_many = λ e. inv.as_many (c.both-is_alike.ensures.one e);
      all = λ e. below_more (λ k. IsLike c.args.before.now c.args.after.now k) c.lines.place (inv.all (c.both-is_alike.ensures.one e)) (here (c.both-is_alike.ensures.other e));
    }

pub returns-clause-alike : goal.returns-clause-alike
returns-clause-alike c e =
    let as_many : length c.args.before.now ≡ length c.args.after.now = c.lines.invariant.as_many e in
    let each : (k : ℕ) → k < length c.args.before.now → IsLike c.args.before.now c.args.after.now k = λ k low. c.lines.invariant.all e k (omega (arith, low, as_many)) in
    alike_all c.args.before.now c.args.after.now as_many (λ k low. (each k low).records) (λ k low. (each k low).columns)

pub returns-clause-likes : goal.returns-clause-likes
returns-clause-likes c n low low' e = c.lines.invariant.likes n (omega (arith, low, low')) e
