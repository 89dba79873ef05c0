use Rattle.std.proofs.Common.{◌≡◌, ℕ, List, length, sym, subst, arith}
use Rattle.std.proofs.lemmas.Grind.{common_steps}
use Rattle.cse_logic_names.proofs.OrderLaws.{Cut, cut_first, cut_on, cut_last, cut_told}
use Rattle.cse_logic_names.proofs.order.Order.read_lines.Goals as goal

pub lines-init : goal.lines-init
lines-init c = subst (λ (found : List ℕ). Cut c.args.dictionary.now found 0 c.args.text.now c.args.text.now) (sym c.new.ensures.items) (cut_first c.args.dictionary.now c.args.text.now)

pub lines-preserved : goal.lines-preserved
lines-preserved c =
    cut_on c.args.dictionary.now c.lines.order c.take_line.new.self c.lines.number c.lines.rest.now c.args.text.now c.first_line.result.0.now c.first_line.result.1.now
    c.lines.invariant c.first_line.ensures.lines c.first_line.ensures.shorter c.in-Ok.ensures

pub returns-in-Err : goal.returns-in-Err
returns-in-Err c =
    cut_told c.args.dictionary.now c.lines.order c.take_line.new.self c.lines.number c.lines.rest.now c.args.text.now c.first_line.result.0.now c.first_line.result.1.now
    c.in-Err.stop c.error_at.result c.lines.invariant c.first_line.ensures.lines c.in-Err.ensures c.error_at.ensures

pub returns : goal.returns
returns c =
    let none : length c.lines.rest.now ≡ 0 = grind (arith, common_steps) in
    cut_last c.args.dictionary.now c.lines.order c.lines.number c.lines.rest.now c.args.text.now c.lines.invariant none
