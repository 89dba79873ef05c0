use Rattle.std.proofs.Common.{arith, ap, sym, ◌∙◌, map}
use Rattle.std.proofs.lemmas.List.{map_push}
use Rattle.cse_syntax_tree.specs.Word.{words}
use Rattle.cse_syntax_tree.specs.Tree.{written}
use Rattle.cse_syntax.specs.Reading as spec
use Rattle.cse_syntax.proofs.Loops.{awaits_first, awaits_next, awaits_last}
use Rattle.cse_syntax.proofs.parser.Parser.names.Goals as goal

pub all-init : goal.all-init
all-init c = (omega arith, awaits_first spec.take_name (words c.args.self.now.rest.now) _ (ap (map written) c.new-found.ensures.items))

pub all-preserved : goal.all-preserved
all-preserved c = (omega arith, awaits_next spec.take_name _ (map written c.all.found.items) (map written c.push.new.self.items) (written c.in_ok-next.next) c.all.self.rest.now c.name.new.self.rest.now c.eat.new.self.rest.now c.in_ok-next.ensures.value c.in_ok-next.ensures.shorter (ap (map written) c.in_ok-push.ensures.items ∙ map_push written c.all.found.items c.in_ok-next.next) (sym c.if-not-eat.ensures.found) c.eat.ensures.after c.all.invariant.1)

pub returns-then-not-eat : goal.returns-then-not-eat
returns-then-not-eat c = record {
  value = awaits_last spec.take_name _ (map written c.all.found.items) (map written c.push.new.self.items) (written c.in_ok-next.next) c.all.self.rest.now c.name.new.self.rest.now c.eat.new.self.rest.now c.in_ok-next.ensures.value c.in_ok-next.ensures.shorter (ap (map written) c.in_ok-push.ensures.items ∙ map_push written c.all.found.items c.in_ok-next.next) (sym c.if-not-eat.ensures.found) c.eat.ensures.after c.all.invariant.1;
  shorter = omega (arith, c.eat.ensures.shorter);
}
