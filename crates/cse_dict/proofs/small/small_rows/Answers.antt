use Rattle.std.proofs.Common.{rules, ◌≡◌, List, ℕ, Option, length, pos, ap, subst, sym, ◌∙◌, w64, to_z, of_z, FitsSigned}
use Rattle.std.proofs.lemmas.Int.{to_z-of_z}
use Rattle.cse_lemmas.proofs.Lists.{length_after_push}
use Rattle.cse_value.specs.declared.number.Num.TheVariants.{Whole}
use Rattle.cse_dict.specs.Dictionary.{row_in}
use Rattle.cse_dict.specs.Small.{TellsRows}
use Rattle.cse_dict.proofs.Gathering.{no_value}
use Rattle.cse_dict.proofs.SmallLaws.{tells_more, tells_none}
use Rattle.cse_dict.proofs.small.small_rows.Goals as goal

pub numbers-init : goal.numbers-init
numbers-init c = record {
  counted = ap length c.new-rows.ensures.items;
  told = subst (λ (l : List (Option ℕ)). TellsRows l c.args.spans.now) (sym c.new-rows.ensures.items) (tells_none c.args.spans.now);
}

pub row_by_pairs-row-requires : goal.row_by_pairs-row-requires
row_by_pairs-row-requires c = c.requires

pub returns-in_err-push : goal.returns-in_err-push
returns-in_err-push c = no_value _ c.from_residual.result c.from_residual.ensures.0

pub numbers-preserved : goal.numbers-preserved
numbers-preserved c =
    let rows = c.numbers.rows.items in
    let row = c.row_by_pairs-row.result in
    let fits : FitsSigned w64 c.from.result = search rules in
    let number : to_z w64 (of_z w64 c.from.result) ≡ pos (length rows) = to_z-of_z w64 c.from.result fits ∙ c.from.ensures ∙ ap (λ (n : ℕ). pos n) (sym c.numbers.invariant.counted) in
    let told = tells_more rows c.args.spans.now row c.numbers.invariant.told (c.row_by_pairs-row.ensures ∙ ap (λ z. row_in (Whole z) c.args.spans.now) number) in
    record {
      counted = length_after_push rows c.push.new.self.items row c.numbers.number c.numbers.invariant.counted c.in_ok-push.ensures.items;
      told = subst (λ (l : List (Option ℕ)). TellsRows l c.args.spans.now) (sym c.in_ok-push.ensures.items) told;
    }

pub returns : goal.returns
returns c = c.numbers.invariant.told
