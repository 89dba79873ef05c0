-- Statements of the grammar are read, up to a rest that begins none.
use Rattle.std.proofs.Common.{◌≡◌, ℕ, zero, suc, ◌≤◌, Bool, true, false, List, [], ◌∷◌, ◌++◌, length, Option, Some, None, refl, ap, ◌∙◌, arith, append_assoc}
use Rattle.std.proofs.lemmas.List.{append-nil}
use Rattle.std.specs.Str.{str_eq_ignore_ascii_case}
use Rattle.cse_syntax_tree.specs.declared.token.Mark.{Mark}
use Rattle.cse_syntax_tree.specs.declared.token.Mark.TheVariants as m
use Rattle.cse_syntax_tree.specs.declared.tree.Count.{Count}
use Rattle.cse_syntax_tree.specs.declared.tree.Count.TheVariants as c
use Rattle.cse_syntax_tree.specs.declared.tree.Jump.{Jump}
use Rattle.cse_syntax_tree.specs.Word.{Word, Name, Digits, Sign}
use Rattle.cse_syntax_tree.specs.Tree.{Spelling, Expr, Exprs, no_expr, expr_and, exprs, Literal, Limit, Fixed, Counted, Counting, Message, Own, Numbered, Stmt, Empty, Assign, Call, If, For, Do, Jump', Impute, PutDeck, ErrMsg, Stmts, no_stmt, stmt_and, stmts, Arms, no_arm, arm, arms, else_of}
use Rattle.cse_syntax_tree.specs.Grammar.{is_within, IsName, Below, HasRoom, spell_mark, spell_expr, spell_exprs, spell_others, spell_subscripts, IsExpr, AreInner, spell_literal, spell_limit, spell_by, spell_counting, spell_message, spell_stmt, spell_stmts, spell_arms, IsLimit, IsBy, IsCounting, IsMessage, IsStmt, AreStmts, AreArms}
use Rattle.cse_syntax.specs.Reading.{Parser, same, sees, after, ends, name_before, snoc, nested}
use Rattle.cse_syntax.specs.ReadingStmt.{literal, counted, fixed, limit, step, again, counting, message, assigned, called, named_stmt, putdeck, other_values, errmsg, jump, imputed, impute, visiting, visiting_at, counting_at, guarded, elseifs, elseifs_from, body_to, otherwise, alternatives, conditional, over, repeated, marked_stmt, statement, starts_stmt, statements, statements_from, body_at, statements_at}
use Rattle.cse_syntax.proofs.Complete.{longer_expr, longer_exprs, longer_others, longer_subscripts, list_of, exprs-list_of, enter_reads, has_room, inner_listed, subscripts_read, arguments_read, nested_reads, expr_reads}

abbrev pub stmt_list : Stmts → List Stmt
stmt_list no_stmt = []
stmt_list (stmt_and x xs) = x ∷ stmt_list xs

pub stmts-stmt_list : (xs : Stmts) → stmts (stmt_list xs) ≡ xs
stmts-stmt_list no_stmt = refl
stmts-stmt_list (stmt_and x xs) = ap (stmt_and x) (stmts-stmt_list xs)

-- each `elseif` of some arms, and what stands behind them
abbrev arm_list : Arms → List (Expr × Stmts)
arm_list no_arm = []
arm_list (else_of body) = []
arm_list (arm condition body others) = (condition, body) ∷ arm_list others

abbrev last_of : Arms → Arms
last_of no_arm = no_arm
last_of (else_of body) = else_of body
last_of (arm condition body others) = last_of others

arms-arm_list : (xs : Arms) → arms (arm_list xs) (last_of xs) ≡ xs
arms-arm_list no_arm = refl
arms-arm_list (else_of body) = refl
arms-arm_list (arm condition body others) = ap (arm condition body) (arms-arm_list others)

longer_mark : (mark : Mark) (b : Bool) (rest : List Word) → length rest ≤ length (spell_mark mark b rest)
longer_mark mark true rest = omega arith
longer_mark mark false rest = omega arith

pub longer_literal : (x : Literal) (rest : List Word) → length rest ≤ length (spell_literal x rest)
longer_literal x rest = omega (arith, longer_mark m.Minus x.minus (Digits x.digits ∷ rest))

longer_limit : (x : Limit) (rest : List Word) → length rest ≤ length (spell_limit x rest)
longer_limit (Fixed x) rest = longer_literal x rest
longer_limit (Counted count name) rest = omega arith

longer_by : (x : Option Spelling) (rest : List Word) → length rest ≤ length (spell_by x rest)
longer_by None rest = omega arith
longer_by (Some digits) rest = omega arith

longer_counting : (x : Counting) (rest : List Word) → length rest ≤ length (spell_counting x rest)
longer_counting x rest =
    omega (arith, longer_limit x.start (Sign m.Until ∷ Name x.again ∷ Sign m.More ∷ spell_limit x.stop (spell_by x.by rest)), longer_limit x.stop (spell_by x.by rest), longer_by x.by rest)

longer_message : (x : Message) (rest : List Word) → length rest ≤ length (spell_message x rest)
longer_message (Own text) rest = omega arith
longer_message (Numbered digits) rest = omega arith

mutual
  longer_stmt : (x : Stmt) (rest : List Word) → suc (length rest) ≤ length (spell_stmt x rest)
  longer_stmt Empty rest = omega arith
  longer_stmt (Assign name is value) rest = omega (arith, longer_subscripts is (Sign m.Equals ∷ spell_expr value (Sign m.Semicolon ∷ rest)), longer_expr value (Sign m.Semicolon ∷ rest))
  longer_stmt (Call name xs) rest = omega (arith, longer_exprs xs (Sign m.Close ∷ Sign m.Semicolon ∷ rest))
  longer_stmt (If condition body others) rest =
      let end : List Word = Sign m.EndIf ∷ Sign m.Semicolon ∷ rest in
      omega (arith, longer_expr condition (Sign m.Then ∷ spell_stmts body (spell_arms others end)), longer_stmts body (spell_arms others end), longer_arms others end)
  longer_stmt (For variable record_name body) rest = omega (arith, longer_stmts body (Sign m.EndDo ∷ Sign m.Semicolon ∷ rest))
  longer_stmt (Do head body) rest = omega (arith, longer_counting head (spell_stmts body (Sign m.EndDo ∷ Sign m.Semicolon ∷ rest)), longer_stmts body (Sign m.EndDo ∷ Sign m.Semicolon ∷ rest))
  longer_stmt (Jump' token which) rest = omega arith
  longer_stmt (Impute name is value) rest = omega (arith, longer_subscripts is (Sign m.Comma ∷ spell_expr value (Sign m.Close ∷ Sign m.Semicolon ∷ rest)), longer_expr value (Sign m.Close ∷ Sign m.Semicolon ∷ rest))
  longer_stmt (PutDeck deck value) rest = omega (arith, longer_expr value (Sign m.Close ∷ Sign m.Semicolon ∷ rest))
  longer_stmt (ErrMsg what values summary) rest =
      let end : List Word = spell_mark m.Summary summary (Sign m.Semicolon ∷ rest) in
      omega (arith, longer_message what (spell_others values (Sign m.Close ∷ end)), longer_others values (Sign m.Close ∷ end), longer_mark m.Summary summary (Sign m.Semicolon ∷ rest))

  pub longer_stmts : (xs : Stmts) (rest : List Word) → length rest ≤ length (spell_stmts xs rest)
  longer_stmts no_stmt rest = omega arith
  longer_stmts (stmt_and x xs) rest = omega (arith, longer_stmt x (spell_stmts xs rest), longer_stmts xs rest)

  longer_arms : (xs : Arms) (rest : List Word) → length rest ≤ length (spell_arms xs rest)
  longer_arms no_arm rest = omega arith
  longer_arms (else_of body) rest = omega (arith, longer_stmts body rest)
  longer_arms (arm condition body others) rest = omega (arith, longer_expr condition (Sign m.Then ∷ spell_stmts body (spell_arms others rest)), longer_stmts body (spell_arms others rest), longer_arms others rest)

-- ---- the head of a `do`

pub literal_reads : (most : ℕ) (x : Literal) (rest : List Word) → is_within 0 most x.digits.text ≡ true → literal most (spell_literal x rest) ≡ Some (x, rest)
unfolding literal
literal_reads most x rest h =
    let by : (b : Bool) → literal most (spell_mark m.Minus b (Digits x.digits ∷ rest)) ≡ Some (record { minus = b; digits = x.digits }, rest) = λ b. elim b as (λ b. literal most (spell_mark m.Minus b (Digits x.digits ∷ rest)) ≡ Some (record { minus = b; digits = x.digits }, rest)) [
      | true ↦ rw h refl
      | false ↦ rw h refl
    ] in by x.minus

counted_reads : (room : ℕ) (count : Count) (name : Spelling) (rest : List Word) → IsName name → HasRoom room → counted room count (Sign m.Open ∷ Name name ∷ Sign m.Close ∷ rest) ≡ Some (Counted count name, rest)
unfolding counted name_before
counted_reads room count name rest i h = rw (enter_reads room (Name name ∷ Sign m.Close ∷ rest) h, i) refl

fixed_reads : (x : Literal) (rest : List Word) → is_within 0 999999999 x.digits.text ≡ true → fixed (spell_literal x rest) ≡ Some (Fixed x, rest)
unfolding fixed
fixed_reads x rest h = rw (literal_reads 999999999 x rest h) refl

limit_is_fixed : (room : ℕ) (minus : Bool) (digits : Spelling) (rest : List Word) → limit room (spell_mark m.Minus minus (Digits digits ∷ rest)) ≡ fixed (spell_mark m.Minus minus (Digits digits ∷ rest))
unfolding limit
limit_is_fixed room true digits rest = refl
limit_is_fixed room false digits rest = refl

limit_reads : (room : ℕ) (x : Limit) (rest : List Word) → IsLimit x room → limit room (spell_limit x rest) ≡ Some (x, rest)
unfolding limit
limit_reads room (Fixed x) rest h = limit_is_fixed room x.minus x.digits rest ∙ fixed_reads x rest h
limit_reads room (Counted c.TotOcc name) rest h = counted_reads room c.TotOcc name rest h.0 h.1
limit_reads room (Counted c.MaxOcc name) rest h = counted_reads room c.MaxOcc name rest h.0 h.1

step_reads : (x : Option Spelling) (rest : List Word) → IsBy x → sees m.By rest ≡ false → step (spell_by x rest) ≡ Some (x, rest)
unfolding step
step_reads None rest h b = rw b refl
step_reads (Some digits) rest h b = rw h refl

again_reads : (variable name : Spelling) (rest : List Word) → IsName name → str_eq_ignore_ascii_case variable.text name.text ≡ true → again variable (Name name ∷ rest) ≡ Some (name, rest)
unfolding again
again_reads variable name rest i h = rw (i, h) refl

counting_reads : (room : ℕ) (x : Counting) (rest : List Word) → IsCounting x room → sees m.By rest ≡ false → counting room (spell_counting x rest) ≡ Some (x, rest)
unfolding counting name_before
counting_reads room x rest h b =
    let start = limit_reads room x.start (Sign m.Until ∷ Name x.again ∷ Sign m.More ∷ spell_limit x.stop (spell_by x.by rest)) h.1 in
    let second = again_reads x.variable x.again (Sign m.More ∷ spell_limit x.stop (spell_by x.by rest)) h.2 h.3 in
    let stop = limit_reads room x.stop (spell_by x.by rest) h.4 in
    let by = step_reads x.by rest h.5 b in
    rw (h.0, start, second, stop, by) refl

message_reads : (x : Message) (rest : List Word) → IsMessage x → message (spell_message x rest) ≡ Some (x, rest)
unfolding message
message_reads (Own text) rest h = rw h refl
message_reads (Numbered digits) rest h = rw h refl

-- ---- first words

starts : (x : Stmt) (rest : List Word) → starts_stmt (spell_stmt x rest) ≡ true
starts Empty rest = refl
starts (Assign name is value) rest = refl
starts (Call name xs) rest = refl
starts (If condition body others) rest = refl
starts (For variable record_name body) rest = refl
starts (Do head body) rest = refl
starts (Jump' token which) rest = refl
starts (Impute name is value) rest = refl
starts (PutDeck deck value) rest = refl
starts (ErrMsg what values summary) rest = refl

arms_start : (xs : Arms) (rest : List Word) → starts_stmt rest ≡ false → starts_stmt (spell_arms xs rest) ≡ false
arms_start no_arm rest h = h
arms_start (else_of body) rest h = refl
arms_start (arm condition body others) rest h = refl

-- statements begin with no `by`
no_by : (xs : Stmts) (rest : List Word) → sees m.By rest ≡ false → sees m.By (spell_stmts xs rest) ≡ false
no_by no_stmt rest h = h
no_by (stmt_and Empty xs) rest h = refl
no_by (stmt_and x xs) rest h = refl

-- ---- statements without others in them

module _ (room : ℕ) where
  assigned_reads : (name : Spelling) (xs : List Expr) (value : Expr) (rest : List Word) → IsExpr value room → assigned room name xs (spell_expr value (Sign m.Semicolon ∷ rest)) ≡ Some (Assign name (exprs xs) value, rest)
  unfolding assigned
  assigned_reads name xs value rest h = rw (expr_reads room value (Sign m.Semicolon ∷ rest) h (omega arith)) refl

  assign_some : (name : Spelling) (x : Expr) (xs : Exprs) (value : Expr) (rest : List Word) → AreInner (expr_and x xs) room → IsExpr value room
      → named_stmt room name (spell_subscripts (expr_and x xs) (Sign m.Equals ∷ spell_expr value (Sign m.Semicolon ∷ rest))) ≡ Some (Assign name (expr_and x xs) value, rest)
  unfolding named_stmt called
  assign_some name x xs value rest h i =
      let a = arguments_read room (nested room) (nested_reads room) (expr_and x xs) (Sign m.Equals ∷ spell_expr value (Sign m.Semicolon ∷ rest)) (has_room room (IsExpr x) h.0) h in
      let b = assigned_reads name (x ∷ list_of xs) value rest i in
      rw (a, b, exprs-list_of xs) refl

  assign_reads : (name : Spelling) (xs : Exprs) (value : Expr) (rest : List Word) → AreInner xs room → IsExpr value room
      → named_stmt room name (spell_subscripts xs (Sign m.Equals ∷ spell_expr value (Sign m.Semicolon ∷ rest))) ≡ Some (Assign name xs value, rest)
  unfolding named_stmt
  assign_reads name no_expr value rest h i = assigned_reads name [] value rest i
  assign_reads name (expr_and x xs) value rest h i = assign_some name x xs value rest h i

  call_reads : (name : Spelling) (xs : Exprs) (rest : List Word) → HasRoom room → AreInner xs room → named_stmt room name (Sign m.Open ∷ spell_exprs xs (Sign m.Close ∷ Sign m.Semicolon ∷ rest)) ≡ Some (Call name xs, rest)
  unfolding named_stmt called
  call_reads name xs rest h i = rw (arguments_read room (nested room) (nested_reads room) xs (Sign m.Semicolon ∷ rest) h i, exprs-list_of xs) refl

  putdeck_reads : (deck : Spelling) (value : Expr) (rest : List Word) → IsName deck → Below room (IsExpr value) → putdeck room (Sign m.Open ∷ Name deck ∷ Sign m.Comma ∷ spell_expr value (Sign m.Close ∷ Sign m.Semicolon ∷ rest)) ≡ Some (PutDeck deck value, rest)
  unfolding putdeck name_before ends
  putdeck_reads deck value rest i h =
      let a = enter_reads room (Name deck ∷ Sign m.Comma ∷ spell_expr value (Sign m.Close ∷ Sign m.Semicolon ∷ rest)) (has_room room (IsExpr value) h) in
      rw (a, i, nested_reads room value (Sign m.Close ∷ Sign m.Semicolon ∷ rest) h (omega arith)) refl

  summary_is : (b : Bool) (rest : List Word) → sees m.Summary (spell_mark m.Summary b (Sign m.Semicolon ∷ rest)) ≡ b
  summary_is true rest = refl
  summary_is false rest = refl

  behind_summary : (b : Bool) (rest : List Word) → after m.Summary (spell_mark m.Summary b (Sign m.Semicolon ∷ rest)) ≡ Sign m.Semicolon ∷ rest
  behind_summary true rest = refl
  behind_summary false rest = refl

  other_values_read : (xs : Exprs) (rest : List Word) → AreInner xs room → other_values room (spell_others xs (Sign m.Close ∷ rest)) ≡ Some (list_of xs, Sign m.Close ∷ rest)
  unfolding other_values
  other_values_read no_expr rest h = refl
  other_values_read (expr_and x xs) rest h = inner_listed room (nested room) (nested_reads room) x xs rest h

  errmsg_reads : (what : Message) (values : Exprs) (summary : Bool) (rest : List Word) → HasRoom room → IsMessage what → AreInner values room
      → errmsg room (Sign m.Open ∷ spell_message what (spell_others values (Sign m.Close ∷ spell_mark m.Summary summary (Sign m.Semicolon ∷ rest)))) ≡ Some (ErrMsg what values summary, rest)
  unfolding errmsg
  errmsg_reads what values summary rest h i k =
      let end : List Word = spell_mark m.Summary summary (Sign m.Semicolon ∷ rest) in
      let a = enter_reads room (spell_message what (spell_others values (Sign m.Close ∷ end))) h in
      let b = message_reads what (spell_others values (Sign m.Close ∷ end)) i in
      let d = other_values_read values end k in
      rw (a, b, d, behind_summary summary rest, summary_is summary rest, exprs-list_of values) refl

  jump_reads : (token : ℕ) (which : Jump) (rest : List Word) → jump room token which (Sign m.Semicolon ∷ rest) ≡ Some (Jump' token which, rest)
  unfolding jump
  jump_reads token which rest = refl

  imputed_reads : (name : Spelling) (xs : Exprs) (value : Expr) (rest : List Word) → IsName name → AreInner xs room → IsExpr value room
      → imputed room (Name name ∷ spell_subscripts xs (Sign m.Comma ∷ spell_expr value (Sign m.Close ∷ Sign m.Semicolon ∷ rest))) ≡ Some (Impute name xs value, rest)
  unfolding imputed ends
  imputed_reads name xs value rest n h i =
      let a = subscripts_read room (nested room) (nested_reads room) xs (Sign m.Comma ∷ spell_expr value (Sign m.Close ∷ Sign m.Semicolon ∷ rest)) h (omega arith) in
      let b = expr_reads room value (Sign m.Close ∷ Sign m.Semicolon ∷ rest) i (omega arith) in
      rw (n, a, b, exprs-list_of xs) refl

impute_reads : (room : ℕ) (name : Spelling) (xs : Exprs) (value : Expr) (rest : List Word) → IsName name → Below room (AreInner xs) → Below room (IsExpr value)
    → impute room (Sign m.Open ∷ Name name ∷ spell_subscripts xs (Sign m.Comma ∷ spell_expr value (Sign m.Close ∷ Sign m.Semicolon ∷ rest))) ≡ Some (Impute name xs value, rest)
unfolding impute
impute_reads zero name xs value rest n h i = absurd h
impute_reads (suc room) name xs value rest n h i = imputed_reads room name xs value rest n h i

-- ---- the heads of statements with others in them

visiting_reads : (variable record_name : Spelling) (rest : List Word) → IsName variable → IsName record_name → visiting (Name variable ∷ Sign m.In ∷ Name record_name ∷ Sign m.Do ∷ rest) ≡ Some ((variable, record_name), rest)
unfolding visiting name_before
visiting_reads variable record_name rest i k = rw (i, k) refl

visiting_at_reads : (room : ℕ) (variable record_name : Spelling) (rest : List Word) → IsName variable → IsName record_name → HasRoom room
    → visiting_at room (Name variable ∷ Sign m.In ∷ Name record_name ∷ Sign m.Do ∷ rest) ≡ Some ((variable, record_name), rest)
unfolding visiting_at
visiting_at_reads zero variable record_name rest i k h = absurd h
visiting_at_reads (suc room) variable record_name rest i k h = visiting_reads variable record_name rest i k

counting_at_reads : (room : ℕ) (head : Counting) (rest : List Word) → Below room (IsCounting head) → sees m.By rest ≡ false → counting_at room (spell_counting head rest) ≡ Some (head, rest)
unfolding counting_at
counting_at_reads zero head rest h b = absurd h
counting_at_reads (suc room) head rest h b = counting_reads room head rest h b

-- ---- statements with others in them

abbrev ReadsBody : ℕ → Parser (List Stmt) → Type 0
ReadsBody room read = (xs : Stmts) (rest : List Word) → Below room (AreStmts xs) → starts_stmt rest ≡ false → read (spell_stmts xs rest) ≡ Some (stmt_list xs, rest)

module _ (room : ℕ) (body : Parser (List Stmt)) (body_reads : ReadsBody room body) where
  guarded_reads : (x : Expr) (xs : Stmts) (rest : List Word) → Below room (IsExpr x) → Below room (AreStmts xs) → starts_stmt rest ≡ false → guarded room body (spell_expr x (Sign m.Then ∷ spell_stmts xs rest)) ≡ Some ((x, xs), rest)
  unfolding guarded
  guarded_reads x xs rest h i s = rw (nested_reads room x (Sign m.Then ∷ spell_stmts xs rest) h (omega arith), body_reads xs rest i s, stmts-stmt_list xs) refl

  arms_read : (xs : Arms) (n : ℕ) (found : List (Expr × Stmts)) (rest : List Word) → AreArms xs room → sees m.ElseIf rest ≡ false → starts_stmt rest ≡ false → length (spell_arms xs rest) ≤ n
      → elseifs_from room body n found (spell_arms xs rest) ≡ Some (found ++ arm_list xs, spell_arms (last_of xs) rest)
  arms_read no_arm zero found rest h e s le = rw append-nil refl
  arms_read no_arm (suc n) found rest h e s le = rw (e, append-nil) refl
  arms_read (else_of b) zero found rest h e s le = rw append-nil refl
  arms_read (else_of b) (suc n) found rest h e s le = rw append-nil refl
  arms_read (arm x b xs) zero found rest h e s le = absurd (omega arith)
  arms_read (arm x b xs) (suc n) found rest h e s le =
      let one = guarded_reads x b (spell_arms xs rest) h.0 h.1 (arms_start xs rest s) in
      let go = arms_read xs n (snoc found (x, b)) rest h.2 e s (omega (arith, longer_expr x (Sign m.Then ∷ spell_stmts b (spell_arms xs rest)), longer_stmts b (spell_arms xs rest))) in
      rw (one, go) (rw append_assoc refl)

  elseifs_read : (xs : Arms) (rest : List Word) → AreArms xs room → sees m.ElseIf rest ≡ false → starts_stmt rest ≡ false → elseifs room body (spell_arms xs rest) ≡ Some (arm_list xs, spell_arms (last_of xs) rest)
  unfolding elseifs
  elseifs_read xs rest h e s = arms_read xs (length (spell_arms xs rest)) [] rest h e s (omega arith)

  -- `endif`, `enddo` and `else` begin no statement
  body_to_reads : (mark : Mark) (xs : Stmts) (rest : List Word) → Below room (AreStmts xs) → starts_stmt (Sign mark ∷ rest) ≡ false → same mark mark ≡ true → body_to room body mark (spell_stmts xs (Sign mark ∷ Sign m.Semicolon ∷ rest)) ≡ Some (xs, rest)
  unfolding body_to ends
  body_to_reads mark xs rest h s e = rw (body_reads xs (Sign mark ∷ Sign m.Semicolon ∷ rest) h s, e, stmts-stmt_list xs) refl

  otherwise_reads : (xs : Arms) (rest : List Word) → AreArms xs room → otherwise room body (spell_arms (last_of xs) (Sign m.EndIf ∷ Sign m.Semicolon ∷ rest)) ≡ Some (last_of xs, rest)
  unfolding otherwise ends
  otherwise_reads no_arm rest h = refl
  otherwise_reads (else_of xs) rest h = rw (body_to_reads m.EndIf xs rest h refl refl) refl
  otherwise_reads (arm x b xs) rest h = otherwise_reads xs rest h.2

  alternatives_read : (xs : Arms) (rest : List Word) → AreArms xs room → alternatives room body (spell_arms xs (Sign m.EndIf ∷ Sign m.Semicolon ∷ rest)) ≡ Some (xs, rest)
  unfolding alternatives
  alternatives_read xs rest h = rw (elseifs_read xs (Sign m.EndIf ∷ Sign m.Semicolon ∷ rest) h refl refl, otherwise_reads xs rest h, arms-arm_list xs) refl

  conditional_reads : (x : Expr) (b : Stmts) (others : Arms) (rest : List Word) → IsStmt (If x b others) room
      → conditional room body (spell_expr x (Sign m.Then ∷ spell_stmts b (spell_arms others (Sign m.EndIf ∷ Sign m.Semicolon ∷ rest)))) ≡ Some (If x b others, rest)
  unfolding conditional
  conditional_reads x b others rest h =
      let end : List Word = Sign m.EndIf ∷ Sign m.Semicolon ∷ rest in
      let first = guarded_reads x b (spell_arms others end) h.0 h.1 (arms_start others end refl) in
      rw (first, alternatives_read others rest h.2) refl

  over_reads : (variable record_name : Spelling) (xs : Stmts) (rest : List Word) → IsName variable → IsName record_name → Below room (AreStmts xs)
      → over room body (Name variable ∷ Sign m.In ∷ Name record_name ∷ Sign m.Do ∷ spell_stmts xs (Sign m.EndDo ∷ Sign m.Semicolon ∷ rest)) ≡ Some (For variable record_name xs, rest)
  unfolding over
  over_reads variable record_name xs rest i k h =
      let end : List Word = Sign m.EndDo ∷ Sign m.Semicolon ∷ rest in
      rw (visiting_at_reads room variable record_name (spell_stmts xs end) i k (has_room room (AreStmts xs) h), body_to_reads m.EndDo xs rest h refl refl) refl

  repeated_reads : (head : Counting) (xs : Stmts) (rest : List Word) → Below room (IsCounting head) → Below room (AreStmts xs)
      → repeated room body (spell_counting head (spell_stmts xs (Sign m.EndDo ∷ Sign m.Semicolon ∷ rest))) ≡ Some (Do head xs, rest)
  unfolding repeated
  repeated_reads head xs rest h i =
      let end : List Word = Sign m.EndDo ∷ Sign m.Semicolon ∷ rest in
      rw (counting_at_reads room head (spell_stmts xs end) h (no_by xs end refl), body_to_reads m.EndDo xs rest i refl refl) refl

module _ (room : ℕ) (body : Parser (List Stmt)) (body_reads : ReadsBody room body) where
  assigns : (name : Spelling) (xs : Exprs) (value : Expr) (rest : List Word) → IsStmt (Assign name xs value) room → statement room body (spell_stmt (Assign name xs value) rest) ≡ Some (Assign name xs value, rest)
  unfolding statement
  assigns name xs value rest h = rw h.0 (assign_reads room name xs value rest h.1 h.2)

  statement_reads : (x : Stmt) (rest : List Word) → IsStmt x room → statement room body (spell_stmt x rest) ≡ Some (x, rest)
  unfolding statement marked_stmt
  statement_reads Empty rest h = refl
  statement_reads (Assign name is value) rest h = assigns name is value rest h
  statement_reads (Call name xs) rest h = rw h.0 (call_reads room name xs rest h.1 h.2)
  statement_reads (If x b others) rest h = conditional_reads room body body_reads x b others rest h
  statement_reads (For variable record_name xs) rest h = over_reads room body body_reads variable record_name xs rest h.0 h.1 h.2
  statement_reads (Do head xs) rest h = repeated_reads room body body_reads head xs rest h.0 h.1
  statement_reads (Jump' token which) rest h = jump_reads room token which rest
  statement_reads (Impute name xs value) rest h = impute_reads room name xs value rest h.0 h.1 h.2
  statement_reads (PutDeck deck value) rest h = putdeck_reads room deck value rest h.0 h.1
  statement_reads (ErrMsg what values summary) rest h = errmsg_reads room what values summary rest h.0 h.1 h.2

  all_read : (xs : Stmts) (n : ℕ) (found : List Stmt) (rest : List Word) → AreStmts xs room → starts_stmt rest ≡ false → length (spell_stmts xs rest) ≤ n
      → statements_from room body n found (spell_stmts xs rest) ≡ Some (found ++ stmt_list xs, rest)
  all_read no_stmt zero found rest h s le = rw append-nil refl
  all_read no_stmt (suc n) found rest h s le = rw (s, append-nil) refl
  all_read (stmt_and x xs) zero found rest h s le = absurd (omega (arith, longer_stmt x (spell_stmts xs rest)))
  all_read (stmt_and x xs) (suc n) found rest h s le =
      let go = all_read xs n (snoc found x) rest h.1 s (omega (arith, longer_stmt x (spell_stmts xs rest))) in
      rw (starts x (spell_stmts xs rest), statement_reads x (spell_stmts xs rest) h.0, go) (rw append_assoc refl)

  statements_read : (xs : Stmts) (rest : List Word) → AreStmts xs room → starts_stmt rest ≡ false → statements room body (spell_stmts xs rest) ≡ Some (stmt_list xs, rest)
  unfolding statements
  statements_read xs rest h s = all_read xs (length (spell_stmts xs rest)) [] rest h s (omega arith)

body_at_reads : (room : ℕ) → ReadsBody room (body_at room)
unfolding body_at
body_at_reads zero xs rest h s = absurd h
body_at_reads (suc room) xs rest h s = statements_read room (body_at room) (body_at_reads room) xs rest h s

-- statements are read
pub statements_at_read : (room : ℕ) (xs : Stmts) (rest : List Word) → AreStmts xs room → starts_stmt rest ≡ false → statements_at room (spell_stmts xs rest) ≡ Some (stmt_list xs, rest)
statements_at_read room = statements_read room (body_at room) (body_at_reads room)
