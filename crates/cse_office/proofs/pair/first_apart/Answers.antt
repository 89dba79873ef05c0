use Rattle.std.proofs.Common.{◌≡◌, ◌+◌, ◌<◌, length, ap, sym, ◌∙◌, arith, min, Some, if◌then◌else◌}
use Rattle.cse_office.proofs.ChangeLaws.{apart_end, apart_from, apart_on, apart_other}
use Rattle.cse_office.proofs.pair.first_apart.Goals as goal

pub returns-then-not-is_pair-clause-is : goal.returns-then-not-is_pair-clause-is
returns-then-not-is_pair-clause-is c =
    let items = c.args.items.now in
    let a = c.args.before.now in
    let b = c.args.after.now in
    let n = c.lines.place in
    let low : n < length a = omega (arith, c.lines-test.true, c.min-len.ensures, c.len.ensures, c.len-2.ensures) in
    let low' : n < length b = omega (arith, c.lines-test.true, c.min-len.ensures, c.len.ensures, c.len-2.ensures) in
    sym (c.lines.invariant ∙ (apart_on items n a b low low' ∙ ap (λ t. if t then apart_from items (n + 1) a b else Some n) (sym c.is_pair.ensures ∙ c.if-not-is_pair.true)))

pub lines-preserved : goal.lines-preserved
lines-preserved c =
    let items = c.args.items.now in
    let a = c.args.before.now in
    let b = c.args.after.now in
    let n = c.lines.place in
    let low : n < length a = omega (arith, c.lines-test.true, c.min-len.ensures, c.len.ensures, c.len-2.ensures) in
    let low' : n < length b = omega (arith, c.lines-test.true, c.min-len.ensures, c.len.ensures, c.len-2.ensures) in
    c.lines.invariant ∙ (apart_on items n a b low low' ∙ ap (λ t. if t then apart_from items (n + 1) a b else Some n) (sym c.is_pair.ensures ∙ c.if-not-is_pair.false))

pub returns-then-len-clause-is : goal.returns-then-len-clause-is
returns-then-len-clause-is c =
    sym (c.lines.invariant ∙ apart_end c.args.items.now c.lines.place c.args.before.now c.args.after.now
    (omega (arith, c.lines-test.false, c.min-len.ensures, c.len.ensures, c.len-2.ensures, c.if-len.true, c.len-3.ensures, c.len-4.ensures))
    (omega (arith, c.lines-test.false, c.min-len.ensures, c.len.ensures, c.len-2.ensures, c.if-len.true, c.len-3.ensures, c.len-4.ensures)))

pub returns-else-len-clause-is : goal.returns-else-len-clause-is
returns-else-len-clause-is c =
    let a = c.args.before.now in
    let b = c.args.after.now in
    let n = c.lines.place in
    let here : n ≡ c.min-len.result = omega (arith, c.lines-test.false, c.lines.auto.place-end) in
    let apart : length a ≡ length b → ⊥ = λ e. c.if-len.false (c.len-3.ensures ∙ (e ∙ sym c.len-4.ensures)) in
    let least : min (length a) (length b) ≡ n = omega (arith, here, c.min-len.ensures, c.len.ensures, c.len-2.ensures) in
    sym (c.lines.invariant ∙ (apart_other c.args.items.now n a b least apart ∙ ap (λ k. Some k) here))
