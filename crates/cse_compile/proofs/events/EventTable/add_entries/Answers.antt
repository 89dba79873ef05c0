use Rattle.std.proofs.Common.{◌≡◌, ◌++◌, ap, sym, ◌∙◌, append_assoc}
use Rattle.cse_compile.specs.Events.{entries_below, entry_at}
use Rattle.cse_compile.proofs.Ranges.{one_more}
use Rattle.cse_compile.proofs.events.EventTable.add_entries.Goals as goal

pub all-preserved : goal.all-preserved
all-preserved c =
    let f = entry_at c.args.self.now c.args.code in
    c.in_ok-add_entry.ensures
    ∙ ap (λ l. l ++ f c.all.index) c.all.invariant
    ∙ append_assoc c.args.events.now.items (entries_below c.args.self.now c.args.code c.all.index) (f c.all.index)
    ∙ ap (λ l. c.args.events.now.items ++ l) (sym (one_more f c.all.index))
