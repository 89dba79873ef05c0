use Rattle.std.proofs.Common.{◌≡◌, ℕ, true, ltb, get_or, refl, sym, ◌∙◌}
use Rattle.std.proofs.lemmas.Bool.{lt-ltb, le-ltb}
use Rattle.std.proofs.lemmas.List.Folds.{list_all_at, list_all_more}
use Rattle.cse_code_typing.proofs.order.are_below.Goals as goal

pub order-preserved : goal.order-preserved
order-preserved c =
    let xs = c.args.order.now in
    let below : ltb (get_or xs c.order.i 0) c.args.count ≡ true = lt-ltb _ _ c.if-order-i.false in
    list_all_more (λ (o : ℕ). ltb o c.args.count) xs c.order.i 0 c.order-test.true ∙ rw (c.order.invariant, below) refl

pub returns-then-order-i : goal.returns-then-order-i
returns-then-order-i c =
    sym (list_all_at (λ (o : ℕ). ltb o c.args.count) c.args.order.now c.order.i 0 c.order-test.true (le-ltb _ _ c.if-order-i.true))
