use Rattle.std.proofs.Common.{arith, ap, sym, ◌∙◌, map}
use Rattle.std.proofs.lemmas.List.{map_push}
use Rattle.cse_syntax_tree.specs.Word.{words}
use Rattle.cse_syntax.specs.declared.expression.TheConstants.{MOST}
use Rattle.cse_syntax_tree.specs.Tree as tree
use Rattle.cse_syntax.specs.ReadingStmt as stmts
use Rattle.cse_syntax.proofs.Loops.{awaits_first, awaits_next, awaits_last}
use Rattle.cse_syntax.proofs.parser.Parser.literals.Goals as goal

pub all-init : goal.all-init
all-init c = (omega arith, awaits_first (stmts.literal MOST) (words c.args.self.now.rest.now) _ (ap (map tree.literal) c.new-found.ensures.items))

pub all-preserved : goal.all-preserved
all-preserved c = (omega arith, awaits_next (stmts.literal MOST) _ (map tree.literal c.all.found.items) (map tree.literal c.push.new.self.items) (tree.literal c.in_ok-next.next) c.all.self.rest.now c.literal.new.self.rest.now c.eat.new.self.rest.now c.in_ok-next.ensures.value c.in_ok-next.ensures.shorter (ap (map tree.literal) c.in_ok-push.ensures.items ∙ map_push tree.literal c.all.found.items c.in_ok-next.next) (sym c.if-not-eat.ensures.found) c.eat.ensures.after c.all.invariant.1)

pub returns-then-not-eat : goal.returns-then-not-eat
returns-then-not-eat c = record {
  value = awaits_last (stmts.literal MOST) _ (map tree.literal c.all.found.items) (map tree.literal c.push.new.self.items) (tree.literal c.in_ok-next.next) c.all.self.rest.now c.literal.new.self.rest.now c.eat.new.self.rest.now c.in_ok-next.ensures.value c.in_ok-next.ensures.shorter (ap (map tree.literal) c.in_ok-push.ensures.items ∙ map_push tree.literal c.all.found.items c.in_ok-next.next) (sym c.if-not-eat.ensures.found) c.eat.ensures.after c.all.invariant.1;
  shorter = omega (arith, c.eat.ensures.shorter);
}
