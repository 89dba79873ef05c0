-- The faults of statements that hold others.
use Rattle.std.proofs.Common.{◌≡◌, ◌++◌, List, [], ◌∷◌, map, Option, refl, ap, sym, ◌∙◌, append_assoc}
use Rattle.std.specs.Prelude.{false}
use Rattle.std.specs.Global.{Vec}
use Rattle.cse_syntax_tree.specs.declared.tree.Lexeme.{Lexeme}
use Rattle.cse_syntax_tree.specs.declared.tree.Counting.{Counting}
use Rattle.cse_syntax_tree.specs.declared.tree.Statement as rusts
use Rattle.cse_syntax_tree.specs.declared.tree.StatementKind.TheVariants as v
use Rattle.cse_syntax_tree.specs.declared.tree.Arm as rustarm
use Rattle.cse_syntax_tree.specs.Tree.{Expr, Stmts, Arms, no_arm, else_of, arms, written, stmt, stmt_kind, block, arm_tree, otherwise_tree, counting}
use Rattle.cse_syntax_tree.proofs.Rows.{if_is, for_is, do_is}
use Rattle.cse_logic_names.specs.Scope.{Scope}
use Rattle.cse_logic_faults.specs.Faults.{Fault, Counts}
use Rattle.cse_logic_faults.specs.FaultsOfExpressions.{number_faults}
use Rattle.cse_logic_faults.specs.FaultsOfStatements.{stmt_faults, stmts_faults, arms_faults, for_faults, for_scope, counting_faults, do_scope}
use Rattle.cse_logic_faults.specs.Operators.{arm_faults}

module _ (c : Counts) (s : Scope) where
  pub block_more : (x : rusts.Statement) (xs : List rusts.Statement) → stmts_faults c s (block (x ∷ xs)) ≡ stmt_faults c s (stmt x) ++ stmts_faults c s (block xs)
  unfolding stmts_faults
  block_more x xs = refl

  pub block_none : stmts_faults c s (block []) ≡ []
  unfolding stmts_faults
  block_none = refl

  pub arms_more : (x : rustarm.Arm) (xs : List rustarm.Arm) → arms_faults c s (arms (map arm_tree (x ∷ xs)) no_arm) ≡ arm_faults c s (arm_tree x) ++ arms_faults c s (arms (map arm_tree xs) no_arm)
  unfolding arms_faults
  arms_more x xs = sym (append_assoc (number_faults c s false (arm_tree x).0) (stmts_faults c s (arm_tree x).1) (arms_faults c s (arms (map arm_tree xs) no_arm)))

  pub arms_none : arms_faults c s no_arm ≡ []
  unfolding arms_faults
  arms_none = refl

  -- the arms, and then what stands behind them
  arms_last : (xs : List (Expr × Stmts)) (last : Arms) → arms_faults c s (arms xs last) ≡ arms_faults c s (arms xs no_arm) ++ arms_faults c s last
  unfolding arms_faults
  arms_last [] last = refl
  arms_last (x ∷ xs) last =
      let own = number_faults c s false x.0 in
      let body = stmts_faults c s x.1 in
      let rest = arms_faults c s (arms xs no_arm) in
      ap (λ l. own ++ (body ++ l)) (arms_last xs last)
      ∙ ap (λ l. own ++ l) (sym (append_assoc body rest (arms_faults c s last)))
      ∙ sym (append_assoc own (body ++ rest) (arms_faults c s last))

  pub if_found : (first : rustarm.Arm) (others : Vec rustarm.Arm) (otherwise : Option (Vec rusts.Statement))
      → stmt_faults c s (stmt_kind (v.If first others otherwise))
      ≡ arm_faults c s (arm_tree first) ++ (arms_faults c s (arms (map arm_tree others.items) no_arm) ++ arms_faults c s (otherwise_tree otherwise))
  unfolding stmt_faults
  if_found first others otherwise =
      let own = number_faults c s false (arm_tree first).0 in
      let body = stmts_faults c s (arm_tree first).1 in
      let rest = arms_faults c s (arms (map arm_tree others.items) no_arm) in
      let last = arms_faults c s (otherwise_tree otherwise) in
      ap (stmt_faults c s) (if_is first others otherwise)
      ∙ ap (λ l. own ++ (body ++ l)) (arms_last (map arm_tree others.items) (otherwise_tree otherwise))
      ∙ sym (append_assoc own body (rest ++ last))

  pub else_found : (body : Stmts) → arms_faults c s (else_of body) ≡ stmts_faults c s body
  unfolding arms_faults
  else_found body = refl

  pub for_found : (name record_name : Lexeme) (body : Vec rusts.Statement)
      → stmt_faults c s (stmt_kind (v.For name record_name body)) ≡ for_faults s (written name) (written record_name) ++ stmts_faults c (for_scope s (written name) (written record_name)) (block body.items)
  unfolding stmt_faults
  for_found name record_name body = ap (stmt_faults c s) (for_is name record_name body)

  pub do_found : (head : Counting) (body : Vec rusts.Statement)
      → stmt_faults c s (stmt_kind (v.Do head body)) ≡ counting_faults s (counting head) ++ stmts_faults c (do_scope s (written head.variable)) (block body.items)
  unfolding stmt_faults
  do_found head body = ap (stmt_faults c s) (do_is head body)

  -- what was found of an `if` before its last arm
  pub choice_found : (first : rustarm.Arm) (others : Vec rustarm.Arm) (otherwise : Option (Vec rusts.Statement)) (g h k : List Fault) (s' : Scope) → h ≡ g ++ arm_faults c s (arm_tree first) → s' ≡ s
      → k ≡ h ++ arms_faults c s' (arms (map arm_tree others.items) no_arm) → k ++ arms_faults c s (otherwise_tree otherwise) ≡ g ++ stmt_faults c s (stmt_kind (v.If first others otherwise))
  choice_found first others otherwise g h k s' e same f =
      let own = arm_faults c s (arm_tree first) in
      let rest = arms_faults c s (arms (map arm_tree others.items) no_arm) in
      let last = arms_faults c s (otherwise_tree otherwise) in
      ap (λ z. z ++ last) (f ∙ ap (λ z. h ++ arms_faults c z (arms (map arm_tree others.items) no_arm)) same ∙ ap (λ z. z ++ rest) e)
      ∙ append_assoc (g ++ own) rest last
      ∙ append_assoc g own (rest ++ last)
      ∙ ap (λ z. g ++ z) (sym (if_found first others otherwise))
