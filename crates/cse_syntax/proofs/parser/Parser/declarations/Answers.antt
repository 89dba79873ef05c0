use Rattle.std.proofs.Common.{arith, ap, sym, ◌∙◌, ◌<◌, length, map}
use Rattle.std.proofs.lemmas.List.{map_push}
use Rattle.cse_syntax_tree.specs.Tree as tree
use Rattle.cse_syntax_tree.specs.Tree.{written}
use Rattle.cse_syntax.specs.ReadingSource as rule
use Rattle.cse_syntax.proofs.Loops.{one_item}
use Rattle.cse_syntax.proofs.parser.Parser.declarations.Goals as goal

pub all-preserved : goal.all-preserved
all-preserved c =
    let taken : length c.declaration.new.self.rest.now < length c.all.self.rest.now = c.in_ok-next.ensures.taken in
    (omega arith, one_item rule.starts_declaration (rule.declaration c.args.room) _ (map tree.declaration c.all.found.items) (map tree.declaration c.push.new.self.items) (tree.declaration c.in_ok-next.next) c.all.self.rest.now c.declaration.new.self.rest.now (sym c.all-test.ensures) c.in_ok-next.ensures.reads.value (ap (map tree.declaration) c.in_ok-push.ensures.items ∙ map_push tree.declaration c.all.found.items c.in_ok-next.next) (omega arith) c.all.invariant.1)
