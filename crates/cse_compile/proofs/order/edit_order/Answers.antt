use Rattle.std.proofs.Common.{◌≡◌, ◌++◌, ap, sym, ◌∙◌, append_assoc}
use Rattle.std.specs.List.{flat_map, range_with_len}
use Rattle.cse_compile.specs.Order.{unless_named}
use Rattle.cse_compile.proofs.Ranges.{one_more}
use Rattle.cse_compile.proofs.order.edit_order.Goals as goal

pub numbers-preserved : goal.numbers-preserved
numbers-preserved c =
    let f = unless_named c.args.named.now in
    c.in_ok-add_unless_named.ensures
    ∙ ap (λ l. l ++ f c.numbers.number) c.numbers.invariant
    ∙ append_assoc c.args.named.now (flat_map f (range_with_len 0 c.numbers.number)) (f c.numbers.number)
    ∙ ap (λ l. c.args.named.now ++ l) (sym (one_more f c.numbers.number))
