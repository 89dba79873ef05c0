use Rattle.std.proofs.Common.{arith, subst}
use Rattle.std.proofs.lemmas.Bool.{not-true, not-false}
use Rattle.cse_case.specs.Bytes.{columns_lent}
use Rattle.cse_case.specs.declared.decode.Beginning.{Beginning}
use Rattle.cse_case.specs.NamedColumns.{ids_of}
use Rattle.cse_case.specs.Taking.{BeginsAsLast, run_id}
use Rattle.cse_case.proofs.LastLaws.{alike_ids, apart_ids}
use Rattle.cse_case.proofs.TakeLaws.{ids_fit, ids_test, other_ids, same_ids}
use Rattle.cse_case.proofs.take.has_other_ids.Goals as goal

pub has_same_ids-requires-clause-left : goal.has_same_ids-requires-clause-left
has_same_ids-requires-clause-left c = rw (c.requires.layout, c.first_columns.ensures) (omega (arith, ids_fit c.args.dictionary.now, c.requires.first))

pub has_same_ids-requires-clause-right : goal.has_same_ids-requires-clause-right
has_same_ids-requires-clause-right c = rw c.requires.layout (omega (arith, ids_fit c.args.dictionary.now, c.requires.wide))

pub returns-in-Alike-clause-same : goal.returns-in-Alike-clause-same
returns-in-Alike-clause-same c = λ _.
    let d = c.args.dictionary.now in
    let run = c.args.run.now in
    let columns = columns_lent c.args.columns in
    alike_ids d run columns c.requires.some c.requires.last (subst (λ (b : Beginning). BeginsAsLast d b columns run) c.in-Alike.is c.requires.begins)

pub returns-in-Apart-clause-other : goal.returns-in-Apart-clause-other
returns-in-Apart-clause-other c = λ _.
    let d = c.args.dictionary.now in
    let run = c.args.run.now in
    let columns = columns_lent c.args.columns in
    apart_ids d run columns c.requires.some c.requires.last (subst (λ (b : Beginning). BeginsAsLast d b columns run) c.in-Apart.is c.requires.begins)

pub returns-in-Unknown-clause-same : goal.returns-in-Unknown-clause-same
returns-in-Unknown-clause-same c = λ e.
    let d = c.args.dictionary.now in
    let run = c.args.run.now in
    let columns = columns_lent c.args.columns in
    same_ids (run_id d run) (ids_of d columns) c.has_same_ids.result (ids_test d run c.args.layout.now (columns_lent c.first_columns.result) columns c.has_same_ids.result c.has_same_ids.ensures c.requires.layout c.first_columns.ensures)
    (not-false c.has_same_ids.result e)

pub returns-in-Unknown-clause-other : goal.returns-in-Unknown-clause-other
returns-in-Unknown-clause-other c = λ e.
    let d = c.args.dictionary.now in
    let run = c.args.run.now in
    let columns = columns_lent c.args.columns in
    other_ids (run_id d run) (ids_of d columns) c.has_same_ids.result (ids_test d run c.args.layout.now (columns_lent c.first_columns.result) columns c.has_same_ids.result c.has_same_ids.ensures c.requires.layout c.first_columns.ensures)
    (not-true c.has_same_ids.result e)
