use Rattle.std.proofs.Common.{rules, ◌≡◌, length, map, [], ap, ◌∙◌}
use Rattle.cse_dict.specs.Dictionary.{shape_of}
use Rattle.cse_compile.specs.Events.{entries_in, table_from}
use Rattle.cse_compile.specs.Outline.{handler}
use Rattle.cse_compile.proofs.routes.events_of.Goals as goal

pub returns-in-Ok-entries-clause-ok : goal.returns-in-Ok-entries-clause-ok
returns-in-Ok-entries-clause-ok c =
    let table = table_from [] c.args.functions (map handler c.args.handlers.now) in
    let records : c.len.result ≡ length (shape_of c.args.dictionary.now).records = search rules in
    let items : c.len-2.result ≡ length (shape_of c.args.dictionary.now).items = search rules in
    c.in-Ok-entries.ensures
    ∙ ap (λ t. entries_in t c.len.result c.len-2.result) c.in-Ok.ensures
    ∙ ap (λ n. entries_in table n c.len-2.result) records
    ∙ ap (λ n. entries_in table (length (shape_of c.args.dictionary.now).records) n) items
