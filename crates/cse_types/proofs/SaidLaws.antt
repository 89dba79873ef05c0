-- The messages of a source that is of the grammar: a text of its own is written as texts are.
use Rattle.std.proofs.Common.{◌≡◌, ℕ, Bool, true, false, List, [], ◌∷◌, ◌++◌, Option, Some, None, refl, sym, ap, ◌∙◌}
use Rattle.std.specs.Prelude.{◌&&◌}
use Rattle.std.proofs.lemmas.Bool.{false≢true, and_from}
use Rattle.std.proofs.lemmas.Grind.{not_there}
use Rattle.cse_lemmas.proofs.Booleans.{and_assoc}
use Rattle.cse_syntax_tree.specs.Word.{Word}
use Rattle.cse_syntax_tree.specs.Tree as syntax
use Rattle.cse_syntax_tree.specs.Grammar.{Each, IsSource, IsMessage, IsStmt, AreStmts, AreArms, IsDeclaration, IsBody, IsProcedure, IsExpr, IsCounting, AreGlobals}
use Rattle.cse_syntax_tree.proofs.Rooms.{below}
use Rattle.cse_logic_names.specs.WellTyped.{messages_in, messages_of, messages_behind, declared_messages, body_messages, procedure_messages, tree_messages, all_declarations}
use Rattle.cse_types.specs.Entries.{is_said, are_said}

said_more : (xs ys : List (syntax.Message × Bool)) → are_said (xs ++ ys) ≡ (are_said xs && are_said ys)
said_more [] ys = refl
said_more (x ∷ xs) ys = ap (λ b. is_said x.0 && b) (said_more xs ys) ∙ sym (and_assoc (is_said x.0) (are_said xs) (are_said ys))

said_both : (xs ys : List (syntax.Message × Bool)) → are_said xs ≡ true → are_said ys ≡ true → are_said (xs ++ ys) ≡ true
said_both xs ys h k = said_more xs ys ∙ and_from (are_said xs) (are_said ys) h k

said_message : (m : syntax.Message) (summary : Bool) → IsMessage m → are_said ((m, summary) ∷ []) ≡ true
said_message (syntax.Own text) summary h = and_from _ true h refl
said_message (syntax.Numbered digits) summary h = refl

mutual
  said_stmt : (x : syntax.Stmt) (room : ℕ) → IsStmt x room → are_said (messages_in x) ≡ true
  said_stmt syntax.Empty room h = refl
  said_stmt (syntax.Assign name subscripts value) room h = refl
  said_stmt (syntax.Call name arguments) room h = refl
  said_stmt (syntax.If condition body others) room h =
      let b = below room (AreStmts body) h.1 in
      said_both (messages_of body) (messages_behind others) (said_stmts body b.0 b.1) (said_arms others room h.2)
  said_stmt (syntax.For variable record_name body) room h = let b = below room (AreStmts body) h.2 in said_stmts body b.0 b.1
  said_stmt (syntax.Do counting body) room h = let b = below room (AreStmts body) h.1 in said_stmts body b.0 b.1
  said_stmt (syntax.Jump' token jump) room h = refl
  said_stmt (syntax.Impute name subscripts value) room h = refl
  said_stmt (syntax.PutDeck deck value) room h = refl
  said_stmt (syntax.ErrMsg message values summary) room h = said_message message summary h.1

  said_stmts : (x : syntax.Stmts) (room : ℕ) → AreStmts x room → are_said (messages_of x) ≡ true
  said_stmts syntax.no_stmt room h = refl
  said_stmts (syntax.stmt_and x xs) room h = said_both (messages_in x) (messages_of xs) (said_stmt x room h.0) (said_stmts xs room h.1)

  said_arms : (x : syntax.Arms) (room : ℕ) → AreArms x room → are_said (messages_behind x) ≡ true
  said_arms syntax.no_arm room h = refl
  said_arms (syntax.else_of body) room h = let b = below room (AreStmts body) h in said_stmts body b.0 b.1
  said_arms (syntax.arm condition body others) room h =
      let b = below room (AreStmts body) h.1 in
      said_both (messages_of body) (messages_behind others) (said_stmts body b.0 b.1) (said_arms others room h.2)

said_declared : (room : ℕ) (ds : List syntax.Declaration) → Each (IsDeclaration room) ds → are_said (declared_messages ds) ≡ true
said_declared room [] h = refl
said_declared room (syntax.Numeric names ∷ ds) h = said_declared room ds h.1
said_declared room (syntax.Alpha size names ∷ ds) h = said_declared room ds h.1
said_declared room (syntax.Array' x ∷ ds) h = said_declared room ds h.1
said_declared room (syntax.Function' name parameters body ∷ ds) h = said_both (messages_of body) (declared_messages ds) (said_stmts body room h.0.2) (said_declared room ds h.1)

said_body : (room : ℕ) (x : syntax.Body) → IsBody room x → are_said (body_messages x) ≡ true
said_body room (syntax.Plain xs) h = said_stmts xs room h
said_body room (syntax.Preproc xs) h = said_stmts xs room h
said_body room (syntax.Both xs ys) h = said_both (messages_of xs) (messages_of ys) (said_stmts xs room h.0) (said_stmts ys room h.1)
said_body room (syntax.Postproc xs) h = said_stmts xs room h

said_procedures : (room : ℕ) (ps : List syntax.Procedure) → Each (IsProcedure room) ps → are_said (procedure_messages ps) ≡ true
said_procedures room [] h = refl
said_procedures room (x ∷ xs) h = said_both (body_messages x.body) (procedure_messages xs) (said_body room x.body h.0.1) (said_procedures room xs h.1)

said_globals : (room : ℕ) (g : Option (List syntax.Declaration)) → AreGlobals room g → are_said (declared_messages (all_declarations g)) ≡ true
said_globals room None h = refl
said_globals room (Some ds) h = said_declared room ds h

said_tree : (room : ℕ) (x : syntax.Tree) (ws : List Word) → IsSource room x ws → are_said (tree_messages x) ≡ true
said_tree room x ws h = said_both (declared_messages (all_declarations x.globals)) (procedure_messages x.procedures) (said_globals room x.globals h.0) (said_procedures room x.procedures h.1)

pub source_said : (x : syntax.Tree) (ws : List Word) → ∥ IsSource 64 x ws ∥₁ → are_said (tree_messages x) ≡ true
source_said x ws t = by (are_said (tree_messages x)) refl
  where
    by : (b : Bool) → are_said (tree_messages x) ≡ b → are_said (tree_messages x) ≡ true
    by true e = e
    by false e = absurd (not_there t (λ p. false≢true (sym e ∙ said_tree 64 x ws p)))
