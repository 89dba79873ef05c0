use Rattle.std.proofs.Common.{◌<◌, take, arith, inl, inr, refl, subst, sym, length-take-le, get_or-take}
use Rattle.std.proofs.lemmas.Bool.{cases_lt}
use Rattle.std.proofs.lemmas.List.{get_or_past}
use Rattle.memchr.proofs.lemmas.LaneLemmas.{top_bitmask}
use Rattle.cse_case.proofs.ShortLaws.{before_mask}
use Rattle.cse_case.proofs.beyond.ascii_count.Goals as goal

pub returns-clause-ascii : goal.returns-clause-ascii
returns-clause-ascii c k =
    let text = c.args.text.now in
    let count = c.min.result in
    let eight = length-take-le 8 text (omega (arith, c.requires)) in
    elim (cases_lt k count) [
      | inl low ↦ subst (λ x. x < 128) (sym (get_or-take count text k 0 low))
          (before_mask text 8 _ _ c.requires (omega arith) (top_bitmask (take 8 text) 8 eight (omega arith)) refl k (omega (arith, c.min.ensures, low)) (omega (arith, c.min.ensures, low)))
      | inr high ↦ subst (λ x. x < 128) (sym (get_or_past (take count text) k 0 (omega (arith, high, length-take-le count text (omega (arith, c.min.ensures, c.requires))))))
          (omega arith)
    ]
