use Rattle.std.proofs.Common.{rules, ◌≡◌, ◌++◌, ◌∷◌, [], ap, sym, ◌∙◌, w64, to_z, of_z}
use Rattle.std.specs.Prelude.{min}
use Rattle.cse_dict.specs.declared.pairs.Pair.TheVariants.{Range}
use Rattle.cse_dict.specs.Pairs.{with_pair}
use Rattle.cse_dict.proofs.rows.add_pair.Goals as goal

pub returns-in_ok-push-in-Range : goal.returns-in_ok-push-in-Range
returns-in_ok-push-in-Range c =
    let before = c.rows.inside in
    let low : to_z w64 (of_z w64 c.in-Range.low) ≡ c.in-Range.low = search rules in
    let high : to_z w64 (of_z w64 c.in-Range.high) ≡ c.in-Range.high = search rules in
    let row = c.min-row.ensures ∙ ap (λ n. min n 65534) c.from.ensures in
    let with_row = ap (λ n. before.spans.items ++ record { low = to_z w64 (of_z w64 c.in-Range.low); high = to_z w64 (of_z w64 c.in-Range.high); row = n } ∷ []) row in
    let with_low = ap (λ z. before.spans.items ++ record { low = z; high = to_z w64 (of_z w64 c.in-Range.high); row = min before.rows 65534 } ∷ []) low in
    let with_high = ap (λ z. before.spans.items ++ record { low = c.in-Range.low; high = z; row = min before.rows 65534 } ∷ []) high in
    ap (λ l. record { spans = l; rows = before.rows; partial = before.partial }) (c.in_ok-push-in-Range.ensures.items ∙ with_row ∙ with_low ∙ with_high)
    ∙ (ap (λ r. with_pair r (Range c.in-Range.low c.in-Range.high)) c.rows.view_is ∙ sym (ap (with_pair c.args.rows.now) c.in-Range.is))
