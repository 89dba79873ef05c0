use Rattle.std.proofs.Common.{rules, ◌≡◌, pos, true, w64, to_z, of_z, FitsSigned, ap, sym, ◌∙◌}
use Rattle.std.proofs.lemmas.Int.{to_z-of_z}
use lib.Signed.{le_z, lt_z}
use Rattle.cse_value.specs.Number.{remainder_of}
use Rattle.cse_value.specs.declared.number.Num.TheVariants.{Whole}
use Rattle.cse_value.proofs.NumberLaws.{below_divisor}
use Rattle.cse_value.proofs.number.rem.Goals as goal

pub returns-in-Whole-Whole : goal.returns-in-Whole-Whole
returns-in-Whole-Whole c =
    let a = c.in-Whole-Whole.a in
    let b = c.in-Whole-Whole.b in
    let fits : FitsSigned w64 a = search rules in
    let fitting : FitsSigned w64 b = search rules in
    let same : to_z w64 (of_z w64 a) ≡ a = to_z-of_z w64 a fits in
    let divisor : to_z w64 (of_z w64 b) ≡ b = to_z-of_z w64 b fitting in
    let least : le_z (pos 0) a ≡ true = ap (λ z. le_z (pos 0) z) (sym same) ∙ c.if-a-ge0.true in
    let low : lt_z a b ≡ true = ap (λ z. lt_z z b) (sym same) ∙ ap (λ z. lt_z (to_z w64 (of_z w64 a)) z) (sym divisor) ∙ c.if-a-b.true in
    ap Whole same ∙ sym (below_divisor a b fits least low) ∙ sym (ap (λ x. remainder_of x (Whole b)) c.in-Whole-Whole.is-0) ∙ sym (ap (remainder_of c.args.x) c.in-Whole-Whole.is-1)
