use Rattle.std.proofs.Common.{arith, ap, sym, refl, ◌∙◌, ◌≡◌, ◌<◌, true, length, map}
use Rattle.std.proofs.lemmas.List.{map_push}
use Rattle.std.proofs.lemmas.Result.{err_from_is_err_and}
use Rattle.cse_syntax_tree.specs.declared.token.Mark.TheVariants as m
use Rattle.cse_syntax_tree.specs.Word.{words}
use Rattle.cse_syntax_tree.specs.Tree.{stmt, arm_tree}
use Rattle.cse_syntax.specs.Reading as spec
use Rattle.cse_syntax.specs.ReadingStmt as rule
use Rattle.cse_syntax.specs.ReadingStmt.{alternatives, marked_stmt}
use Rattle.cse_syntax.proofs.Loops.{one_item, after_mark, after_not, list_ends, step_fails}
use Rattle.cse_syntax.proofs.parser.Parser.+statement.Goals as goal

pub statements-all-preserved : goal.statements-all-preserved
statements-all-preserved t c =
    let taken : length c.statement.new.self.rest.now < length c.all.self.rest.now = c.in_ok-next.ensures.taken in
    (omega arith, one_item rule.starts_stmt (rule.statement c.args.room (rule.body_at c.args.room)) _ (map stmt c.all.found.items) (map stmt c.push.new.self.items) (stmt c.in_ok-next.next) c.all.self.rest.now c.statement.new.self.rest.now (sym c.all-test.ensures) c.in_ok-next.ensures.reads.value (ap (map stmt) c.in_ok-push.ensures.items ∙ map_push stmt c.all.found.items c.in_ok-next.next) (omega arith) c.all.invariant.1)

pub alternatives-all-preserved : goal.alternatives-all-preserved
alternatives-all-preserved t c =
    let sees : spec.sees m.ElseIf (words c.all.self.rest.now) ≡ true = sym c.all-test.ensures.found in
    let taken : length c.eat.new.self.rest.now < length c.all.self.rest.now = c.all-test.ensures.taken refl in
    let item = after_mark m.ElseIf (rule.guarded c.args.room (rule.body_at c.args.room)) (words c.all.self.rest.now) (words c.eat.new.self.rest.now) _ sees c.eat.ensures.after c.in_ok-next.ensures.value in
    (omega arith, one_item (spec.sees m.ElseIf) (rule.elseif c.args.room (rule.body_at c.args.room)) _ (map arm_tree c.all.others.items) (map arm_tree c.push.new.self.items) (arm_tree c.in_ok-next.next) c.all.self.rest.now c.guarded.new.self.rest.now sees item (ap (map arm_tree) c.in_ok-push.ensures.items ∙ map_push arm_tree c.all.others.items c.in_ok-next.next) (omega arith) c.all.invariant.1)

-- No `elseif` stands here, and what stands behind has been read.
pub alternatives-returns : goal.alternatives-returns
unfolding alternatives
alternatives-returns t c =
    let others = list_ends (spec.sees m.ElseIf) (rule.elseif c.args.room (rule.body_at c.args.room)) _ (map arm_tree c.all.others.items) c.all.self.rest.now c.eat.new.self.rest.now (sym c.all-test.ensures.found) (c.eat.ensures.after ∙ after_not m.ElseIf (words c.all.self.rest.now) (sym c.all-test.ensures.found)) c.all.invariant.1 in
    record {
      value = rw (others, c.in_ok-otherwise.ensures.value) refl;
      shorter = omega (arith, c.eat.ensures.shorter, c.in_ok-otherwise.ensures.shorter);
    }

pub alternatives-returns-in_err-otherwise : goal.alternatives-returns-in_err-otherwise
unfolding alternatives
alternatives-returns-in_err-otherwise t c =
    let p = err_from_is_err_and c.from_residual-in_err-otherwise.result c.from_residual-in_err-otherwise.ensures.1 in
    let others = list_ends (spec.sees m.ElseIf) (rule.elseif c.args.room (rule.body_at c.args.room)) _ (map arm_tree c.all.others.items) c.all.self.rest.now c.eat.new.self.rest.now (sym c.all-test.ensures.found) (c.eat.ensures.after ∙ after_not m.ElseIf (words c.all.self.rest.now) (sym c.all-test.ensures.found)) c.all.invariant.1 in
    record {
      value = rw (p.1, p.2, others) (step_fails _ _ _ c.in_err-otherwise.ensures.value);
      shorter = omega (arith, c.eat.ensures.shorter, c.in_err-otherwise.ensures.shorter);
    }

-- What begins with a mark: the definition is opened at each mark alone.
pub marked_statement-returns-in-Semicolon : goal.marked_statement-returns-in-Semicolon
unfolding marked_stmt
marked_statement-returns-in-Semicolon t c = rw c.in-Semicolon.is c.statement_of.ensures

pub marked_statement-returns-in-If : goal.marked_statement-returns-in-If
unfolding marked_stmt
marked_statement-returns-in-If t c = rw c.in-If.is c.conditional.ensures

pub marked_statement-returns-in-Impute : goal.marked_statement-returns-in-Impute
unfolding marked_stmt
marked_statement-returns-in-Impute t c = rw c.in-Impute.is c.impute.ensures

pub marked_statement-returns-in-PutDeck : goal.marked_statement-returns-in-PutDeck
unfolding marked_stmt
marked_statement-returns-in-PutDeck t c = rw c.in-PutDeck.is c.putdeck.ensures

pub marked_statement-returns-in-ErrMsg : goal.marked_statement-returns-in-ErrMsg
unfolding marked_stmt
marked_statement-returns-in-ErrMsg t c = rw c.in-ErrMsg.is c.errmsg.ensures
