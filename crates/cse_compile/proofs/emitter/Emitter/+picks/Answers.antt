use Rattle.std.proofs.Common.{false, arith}
use Rattle.cse_logic_tree.specs.declared.tree.Present.TheVariants as p
use Rattle.cse_logic_tree.specs.declared.tree.Pick.{Pick}
use Rattle.cse_compile.proofs.Lists.{deepest_at_most, picks_are}
use Rattle.cse_compile.proofs.emitter.Emitter.+picks.Goals as goal

pub returns-in_ok-last-in-len1-up-clause-code : goal.returns-in_ok-last-in-len1-up-clause-code
returns-in_ok-last-in-len1-up-clause-code t c =
    let first = c.in_ok-row-in-len1-up.ensures in
    let d : Pick = record { item = p.Id 0; set = 0; has_leftover = false } in
    picks_are c.args.drops c.args.place c.args.picks.now d c.args.self.now c.number_of_item.new.self c.row.new.self c.picks.new.self c.in_ok-row-in-len1-up.row c.deepest.result
    c.in-len1-up.len_at_least
    (omega (arith, deepest_at_most c.args.picks.now, c.requires.room))
    first.code
    first.behind
    c.deepest.ensures
    c.in_ok-row-in-len1-up-2.ensures
    c.in_ok-last-in-len1-up.ensures.code
