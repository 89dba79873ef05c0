use Rattle.std.proofs.Common.{arith, ap, sym, ◌∙◌, ◌<◌, length, map}
use Rattle.std.proofs.lemmas.List.{map_push}
use Rattle.cse_syntax_tree.specs.declared.token.Mark.TheVariants as m
use Rattle.cse_syntax_tree.specs.Tree as tree
use Rattle.cse_syntax_tree.specs.Tree.{written}
use Rattle.cse_syntax.specs.Reading as spec
use Rattle.cse_syntax.specs.ReadingSource as rule
use Rattle.cse_syntax.proofs.Loops.{one_item}
use Rattle.cse_syntax.proofs.parser.Parser.procedures.Goals as goal

pub all-preserved : goal.all-preserved
all-preserved c =
    let taken : length c.procedure.new.self.rest.now < length c.all.self.rest.now = c.in_ok-next.ensures.taken in
    (omega arith, one_item (spec.sees m.Proc) (rule.procedure c.args.room) _ (map tree.procedure c.all.found.items) (map tree.procedure c.push.new.self.items) (tree.procedure c.in_ok-next.next) c.all.self.rest.now c.procedure.new.self.rest.now (sym c.all-test.ensures) c.in_ok-next.ensures.reads.value (ap (map tree.procedure) c.in_ok-push.ensures.items ∙ map_push tree.procedure c.all.found.items c.in_ok-next.next) (omega arith) c.all.invariant.1)
