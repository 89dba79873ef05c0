-- A source has fewer messages than tokens.
use Rattle.std.proofs.Common.{◌≤◌, List, [], ◌∷◌, length, Option, Some, None, length-append, arith}
use Rattle.cse_syntax_tree.specs.Tree.{Stmt, Empty, Assign, Call, If, For, Do, Jump', Impute, PutDeck, ErrMsg, Stmts, no_stmt, stmt_and, Arms, no_arm, else_of, arm}
use Rattle.cse_syntax_tree.specs.Tree.{Declaration, Numeric, Alpha, Array', Function', Body, Plain, Preproc, Both, Postproc, Procedure, Tree}
use Rattle.cse_logic_tree.specs.Tokens.{stmt_tokens, stmts_tokens, arms_tokens, all_tokens, declaration_tokens, body_tokens, procedure_tokens, globals_tokens, tree_tokens}
use Rattle.cse_logic_names.specs.WellTyped.{messages_in, messages_of, messages_behind, all_declarations, declared_messages, body_messages, procedure_messages, tree_messages}

mutual
  stmt_few : (x : Stmt) → length (messages_in x) ≤ stmt_tokens x
  stmt_few Empty = omega arith
  stmt_few (Assign name subscripts value) = omega arith
  stmt_few (Call name arguments) = omega arith
  stmt_few (If condition body others) = let e = length-append (messages_of body) (messages_behind others) in let a = stmts_few body in let b = arms_few others in omega (arith, e, a, b)
  stmt_few (For variable record_name body) = let a = stmts_few body in omega (arith, a)
  stmt_few (Do counting body) = let a = stmts_few body in omega (arith, a)
  stmt_few (Jump' token jump) = omega arith
  stmt_few (Impute name subscripts value) = omega arith
  stmt_few (PutDeck deck value) = omega arith
  stmt_few (ErrMsg message values summary) = omega arith

  stmts_few : (xs : Stmts) → length (messages_of xs) ≤ stmts_tokens xs
  stmts_few no_stmt = omega arith
  stmts_few (stmt_and x xs) = let e = length-append (messages_in x) (messages_of xs) in let a = stmt_few x in let b = stmts_few xs in omega (arith, e, a, b)

  arms_few : (xs : Arms) → length (messages_behind xs) ≤ arms_tokens xs
  arms_few no_arm = omega arith
  arms_few (else_of body) = let a = stmts_few body in omega (arith, a)
  arms_few (arm condition body others) = let e = length-append (messages_of body) (messages_behind others) in let a = stmts_few body in let b = arms_few others in omega (arith, e, a, b)

declared_few : (ds : List Declaration) → length (declared_messages ds) ≤ all_tokens declaration_tokens ds
declared_few [] = omega arith
declared_few (Numeric names ∷ ds) = let a = declared_few ds in omega (arith, a)
declared_few (Alpha size names ∷ ds) = let a = declared_few ds in omega (arith, a)
declared_few (Array' array ∷ ds) = let a = declared_few ds in omega (arith, a)
declared_few (Function' name parameters body ∷ ds) = let e = length-append (messages_of body) (declared_messages ds) in let a = stmts_few body in let b = declared_few ds in omega (arith, e, a, b)

body_few : (x : Body) → length (body_messages x) ≤ body_tokens x
body_few (Plain xs) = stmts_few xs
body_few (Preproc xs) = let a = stmts_few xs in omega (arith, a)
body_few (Both xs ys) = let e = length-append (messages_of xs) (messages_of ys) in let a = stmts_few xs in let b = stmts_few ys in omega (arith, e, a, b)
body_few (Postproc xs) = let a = stmts_few xs in omega (arith, a)

procedures_few : (ps : List Procedure) → length (procedure_messages ps) ≤ all_tokens procedure_tokens ps
procedures_few [] = omega arith
procedures_few (x ∷ ps) = let e = length-append (body_messages x.body) (procedure_messages ps) in let a = body_few x.body in let b = procedures_few ps in omega (arith, e, a, b)

globals_few : (o : Option (List Declaration)) → length (declared_messages (all_declarations o)) ≤ globals_tokens o
globals_few None = omega arith
globals_few (Some ds) = let a = declared_few ds in omega (arith, a)

pub messages_few : (t : Tree) → length (tree_messages t) ≤ tree_tokens t
messages_few t =
    let e = length-append (declared_messages (all_declarations t.globals)) (procedure_messages t.procedures) in
    let a = globals_few t.globals in
    let b = procedures_few t.procedures in
    omega (arith, e, a, b)
