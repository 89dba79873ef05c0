use Rattle.std.proofs.Common.{rules, ◌≡◌, ap, sym, ◌∙◌, false, nat_lt}
use Rattle.std.specs.Prelude.{◌||◌, ◌&&◌}
use Rattle.std.specs.List.{list_any}
use Rattle.cse_dict.specs.Fields.{is_opaque, is_unfit, share_column}
use Rattle.cse_dict.proofs.field.is_opaque.Goals as goal

pub returns : goal.returns
unfolding is_opaque
returns c =
    let field = c.args.field in
    let shares = list_any (share_column field.columns) c.args.covered.now in
    let decimal : nat_lt 0 field.decimal ≡ false = search rules in
    let occurrences : nat_lt 1 field.occurrences ≡ false = search rules in
    let unfit = sym (c.if-is_unfit.ensures) in
    c.shares_any.ensures
    ∙ sym (ap (λ b. b && shares) c.if-not-in_record.false)
    ∙ sym (ap (λ b. b || (c.args.in_record && shares)) unfit)
    ∙ sym (ap (λ b. b || is_unfit field.data_type field.columns.len || (c.args.in_record && shares)) occurrences)
    ∙ sym (ap (λ b. b || nat_lt 1 field.occurrences || is_unfit field.data_type field.columns.len || (c.args.in_record && shares)) decimal)
