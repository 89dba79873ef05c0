-- The same of statements.
use Rattle.std.proofs.Common.{◌≡◌, ℕ, ◌+◌, ℤ, pos, Bool, true, false, List, [], ◌∷◌, length, Option, Some, None, subst, arith}
use Rattle.std.specs.Prelude.{FitsSigned}
use Rattle.std.specs.Int.{w64}
use Rattle.std.specs.List.{AllByRecursion}
use Rattle.std.proofs.lemmas.Option.{same_Some}
use Rattle.cse_lemmas.proofs.Lists.{AllByRecursion-append}
use Rattle.cse_syntax_tree.specs.declared.token.Mark.{Mark}
use Rattle.cse_syntax_tree.specs.declared.token.Mark.TheVariants as mark
use Rattle.cse_syntax_tree.specs.Tree as syntax
use Rattle.cse_syntax_tree.specs.Tree.{Spelling}
use Rattle.cse_syntax_tree.specs.Word.{Word, Digits, Sign}
use Rattle.cse_syntax_tree.specs.Grammar as grammar
use Rattle.cse_syntax_tree.specs.Grammar.{Below, IsExpr, AreInner, IsMessage, IsStmt, AreStmts, spell_expr, spell_others, spell_mark, spell_subscripts, spell_literal, spell_limit, spell_by, spell_counting, spell_message, spell_stmt, spell_stmts, spell_arms}
use Rattle.cse_syntax_tree.proofs.Rooms.{below}
use Rattle.cse_logic_tree.specs.Typed.{Numbers, no_number, number_and, Which, Here, At, Argument, OfNumber, OfWords, Limit, Fixed, Counted, Counting, Statement, Statements, Arms}
use Rattle.cse_logic_tree.specs.Typed.{Empty, Set, SetText, SetItem, SetTextItem, SetCell, CallOf, If, For, Do, Jump', Impute, PutDeck, ErrMsg, no_statement, statement_and, no_arm, else_of, arm}
use Rattle.cse_logic_tree.specs.Erase.{erase, erase_all, erase_which, erase_argument, erase_arguments, erase_limit, erase_counting, erase_statement, erase_block, erase_arms}
use Rattle.cse_logic_names.specs.Scope.{Scope, within}
use Rattle.cse_logic_names.specs.WellTyped.{AreNumbers, IsWhich, IsArgument, AreArguments, IsLimit, IsCounting, step_of, IsStatement, AreStatements, AreArms, messages_in, messages_of, messages_behind}
use Rattle.cse_logic_names.specs.Texts.{AreUtf8}
use Rattle.cse_meaning.proofs.RoomFacts.{small_number}
use Rattle.cse_meaning.proofs.Leaves.{NumbersHold, WhichHolds, ArgumentHolds, ArgumentsHold, LimitHolds, CountingHolds, MessageHolds, StatementHolds, BlockHolds, ArmsHold}
use Rattle.cse_meaning.proofs.Texts.{text_fits}
use Rattle.cse_meaning.proofs.RoomHeld.{value_fits, signed_fits, number_held, words_held, numbers_held}

pub mark_rest : (m : Mark) (b : Bool) (rest : List Word) → AreUtf8 (spell_mark m b rest) → AreUtf8 rest
mark_rest m true rest w = w.1
mark_rest m false rest w = w

pub literal_rest : (x : syntax.Literal) (rest : List Word) → AreUtf8 (spell_literal x rest) → AreUtf8 rest
literal_rest x rest w = let r = mark_rest mark.Minus x.minus (Digits x.digits ∷ rest) w in r.1

-- ---- parts of statements

module _ (c : Scope) where
  which_held : (owner : ℕ) (x : Which) (room : ℕ) (rest : List Word) → IsWhich c owner x → AreInner (erase_which x) room → AreUtf8 (spell_subscripts (erase_which x) rest) → WhichHolds x × AreUtf8 rest
  which_held owner (Here found) room rest h g w = (tt, w)
  which_held owner (At place) room rest h g w =
      let b = below room (IsExpr (erase place)) g.0 in
      let r = number_held c false place b.0 (Sign mark.Close ∷ rest) h b.1 w.1 in
      (r.0, r.1.1)

  subscripts_held : (xs : Numbers) (room : ℕ) (rest : List Word) → AreNumbers c xs → AreInner (erase_all xs) room → AreUtf8 (spell_subscripts (erase_all xs) rest) → NumbersHold xs × AreUtf8 rest
  subscripts_held no_number room rest h g w = (tt, w)
  subscripts_held (number_and x xs) room rest h g w = let r = numbers_held c (number_and x xs) room (Sign mark.Close ∷ rest) h g w.1 in (r.0, r.1.1)

  argument_held : (x : Argument) (room : ℕ) (rest : List Word) → IsArgument c x → IsExpr (erase_argument x) room → AreUtf8 (spell_expr (erase_argument x) rest) → ArgumentHolds x × AreUtf8 rest
  argument_held (OfNumber x) room rest h g w = number_held c false x room rest h g w
  argument_held (OfWords x) room rest h g w = words_held c x room rest h g w

  arguments_held : (xs : List Argument) (room : ℕ) (rest : List Word) → AreArguments c xs → AreInner (erase_arguments xs) room → AreUtf8 (spell_others (erase_arguments xs) rest) → ArgumentsHold xs × AreUtf8 rest
  arguments_held [] room rest h g w = (tt, w)
  arguments_held (x ∷ xs) room rest h g w =
      let b = below room (IsExpr (erase_argument x)) g.0 in
      let a = argument_held x b.0 (spell_others (erase_arguments xs) rest) h.0 b.1 w.1 in
      let o = arguments_held xs room rest h.1 g.1 a.1 in
      ((a.0, o.0), o.1)

  limit_held : (x : Limit) (rest : List Word) → IsLimit c x → AreUtf8 (spell_limit (erase_limit x) rest) → LimitHolds x × AreUtf8 rest
  limit_held (Fixed x) rest h w = (signed_fits x.literal x.value h, literal_rest x.literal rest w)
  limit_held (Counted count name of) rest h w = (tt, w.1.1.1.1)

  step_fits : (by : Option Spelling) (step : ℤ) → step_of by ≡ Some step → FitsSigned w64 step
  step_fits None step e = subst (FitsSigned w64) (same_Some (pos 1) step e) (small_number 1 (omega arith))
  step_fits (Some digits) step e = value_fits digits step e

  by_rest : (by : Option Spelling) (rest : List Word) → AreUtf8 (spell_by by rest) → AreUtf8 rest
  by_rest None rest w = w
  by_rest (Some digits) rest w = w.1.1

  counting_held : (x : Counting) (rest : List Word) → IsCounting c x → AreUtf8 (spell_counting (erase_counting x) rest) → CountingHolds x × AreUtf8 rest
  counting_held x rest h w =
      let a = limit_held x.start _ h.2 w.1.1.1 in
      let b = limit_held x.stop (spell_by x.by rest) h.3 a.1.1.1.1 in
      ((a.0, b.0, step_fits x.by x.step h.4), by_rest x.by rest b.1)

  message_held : (x : syntax.Message) (rest : List Word) → IsMessage x → AreUtf8 (spell_message x rest) → MessageHolds x × AreUtf8 rest
  message_held (syntax.Own text) rest g w = (text_fits text.text w.0 g, w.1)
  message_held (syntax.Numbered digits) rest g w = (tt, w.1)

-- ---- statements

mutual
  statement_held : (c : Scope) (n : ℕ) (x : Statement) (room : ℕ) (rest : List Word) → IsStatement c n x → IsStmt (erase_statement x) room → AreUtf8 (spell_stmt (erase_statement x) rest) → StatementHolds x × AreUtf8 rest
  statement_held c n Empty room rest h g w = (tt, w.1)
  statement_held c n (Set name variable x) room rest h g w = let a = number_held c false x room (Sign mark.Semicolon ∷ rest) h.2 g.2 w.1.1 in (a.0, a.1.1)
  statement_held c n (SetText name variable x) room rest h g w = let a = words_held c x room (Sign mark.Semicolon ∷ rest) h.1 g.2 w.1.1 in (a.0, a.1.1)
  statement_held c n (SetItem name field which x) room rest h g w =
      let a = which_held c field.owner which room _ h.2 g.1 w.1 in
      let b = number_held c false x room (Sign mark.Semicolon ∷ rest) h.3 g.2 a.1.1 in
      ((a.0, b.0), b.1.1)
  statement_held c n (SetTextItem name field which x) room rest h g w =
      let a = which_held c field.owner which room _ h.2 g.1 w.1 in
      let b = words_held c x room (Sign mark.Semicolon ∷ rest) h.3 g.2 a.1.1 in
      ((a.0, b.0), b.1.1)
  statement_held c n (SetCell name array xs x) room rest h g w =
      let a = subscripts_held c xs room _ h.2 g.1 w.1 in
      let b = number_held c false x room (Sign mark.Semicolon ∷ rest) h.3 g.2 a.1.1 in
      ((a.0, b.0), b.1.1)
  statement_held c n (CallOf name function xs) room rest h g w = let a = numbers_held c xs room (Sign mark.Close ∷ Sign mark.Semicolon ∷ rest) h.2 g.2 w.1.1 in (a.0, a.1.1.1)
  statement_held c n (If condition body others) room rest h g w =
      let k = below room (IsExpr (erase condition)) g.0 in
      let a = number_held c false condition k.0 _ h.0 k.1 w.1 in
      let q = below room (AreStmts (erase_block body)) g.1 in
      let b = block_held c n body q.0 (spell_arms (erase_arms others) (Sign mark.EndIf ∷ Sign mark.Semicolon ∷ rest)) h.1 q.1 a.1.1 in
      let o = arms_held c (n + length (messages_of (erase_block body))) others room (Sign mark.EndIf ∷ Sign mark.Semicolon ∷ rest) h.2 g.2 b.1 in
      ((a.0, b.0, o.0), o.1.1.1)
  statement_held c n (For name variable record_name of body) room rest h g w =
      let q = below room (AreStmts (erase_block body)) g.2 in
      let b = block_held (within c (Some of) variable) n body q.0 (Sign mark.EndDo ∷ Sign mark.Semicolon ∷ rest) h.4 q.1 w.1.1.1.1.1 in
      (b.0, b.1.1.1)
  statement_held c n (Do counting body) room rest h g w =
      let a = counting_held c counting (spell_stmts (erase_block body) (Sign mark.EndDo ∷ Sign mark.Semicolon ∷ rest)) h.0 w.1 in
      let q = below room (AreStmts (erase_block body)) g.1 in
      let b = block_held (within c None counting.variable) n body q.0 (Sign mark.EndDo ∷ Sign mark.Semicolon ∷ rest) h.1 q.1 a.1 in
      ((a.0, b.0), b.1.1.1)
  statement_held c n (Jump' token x) room rest h g w = (tt, w.1.1)
  statement_held c n (Impute name field which x) room rest h g w =
      let k = below room (AreInner (erase_which which)) g.1 in
      let a = which_held c field.owner which k.0 _ h.2 k.1 w.1.1.1 in
      let q = below room (IsExpr (erase x)) g.2 in
      let b = number_held c false x q.0 (Sign mark.Close ∷ Sign mark.Semicolon ∷ rest) h.3 q.1 a.1.1 in
      ((a.0, b.0), b.1.1.1)
  statement_held c n (PutDeck name array picks x) room rest h g w =
      let q = below room (IsExpr (erase x)) g.1 in
      let b = number_held c false x q.0 (Sign mark.Close ∷ Sign mark.Semicolon ∷ rest) h.3 q.1 w.1.1.1.1 in
      (b.0, b.1.1.1)
  statement_held c n (ErrMsg message index xs summary) room rest h g w =
      let a = message_held c message _ g.1 w.1.1 in
      let b = arguments_held c xs room (Sign mark.Close ∷ spell_mark mark.Summary summary (Sign mark.Semicolon ∷ rest)) h.2 g.2 a.1 in
      let k = mark_rest mark.Summary summary (Sign mark.Semicolon ∷ rest) b.1.1 in
      ((a.0, b.0), k.1)

  pub block_held : (c : Scope) (n : ℕ) (xs : Statements) (room : ℕ) (rest : List Word) → AreStatements c n xs → AreStmts (erase_block xs) room → AreUtf8 (spell_stmts (erase_block xs) rest) → BlockHolds xs × AreUtf8 rest
  block_held c n no_statement room rest h g w = (tt, w)
  block_held c n (statement_and x xs) room rest h g w =
      let a = statement_held c n x room (spell_stmts (erase_block xs) rest) h.0 g.0 w in
      let b = block_held c (n + length (messages_in (erase_statement x))) xs room rest h.1 g.1 a.1 in
      ((a.0, b.0), b.1)

  arms_held : (c : Scope) (n : ℕ) (xs : Arms) (room : ℕ) (rest : List Word) → AreArms c n xs → grammar.AreArms (erase_arms xs) room → AreUtf8 (spell_arms (erase_arms xs) rest) → ArmsHold xs × AreUtf8 rest
  arms_held c n no_arm room rest h g w = (tt, w)
  arms_held c n (else_of body) room rest h g w = let q = below room (AreStmts (erase_block body)) g in block_held c n body q.0 rest h q.1 w.1
  arms_held c n (arm condition body others) room rest h g w =
      let k = below room (IsExpr (erase condition)) g.0 in
      let a = number_held c false condition k.0 _ h.0 k.1 w.1 in
      let q = below room (AreStmts (erase_block body)) g.1 in
      let b = block_held c n body q.0 (spell_arms (erase_arms others) rest) h.1 q.1 a.1.1 in
      let o = arms_held c (n + length (messages_of (erase_block body))) others room rest h.2 g.2 b.1 in
      ((a.0, b.0, o.0), o.1)

-- ---- their messages

abbrev pub EntryHolds : syntax.Message × Bool → Type 0
EntryHolds x = MessageHolds x.0

mutual
  messages_held : (x : Statement) → StatementHolds x → AllByRecursion EntryHolds (messages_in (erase_statement x))
  messages_held Empty h = tt
  messages_held (Set name variable x) h = tt
  messages_held (SetText name variable x) h = tt
  messages_held (SetItem name field which x) h = tt
  messages_held (SetTextItem name field which x) h = tt
  messages_held (SetCell name array xs x) h = tt
  messages_held (CallOf name function xs) h = tt
  messages_held (If condition body others) h = AllByRecursion-append EntryHolds (messages_of (erase_block body)) (messages_behind (erase_arms others)) (block_messages body h.1) (arms_messages others h.2)
  messages_held (For name variable record_name of body) h = block_messages body h
  messages_held (Do counting body) h = block_messages body h.1
  messages_held (Jump' token x) h = tt
  messages_held (Impute name field which x) h = tt
  messages_held (PutDeck name array picks x) h = tt
  messages_held (ErrMsg message index xs summary) h = (h.0, tt)

  pub block_messages : (xs : Statements) → BlockHolds xs → AllByRecursion EntryHolds (messages_of (erase_block xs))
  block_messages no_statement h = tt
  block_messages (statement_and x xs) h = AllByRecursion-append EntryHolds (messages_in (erase_statement x)) (messages_of (erase_block xs)) (messages_held x h.0) (block_messages xs h.1)

  arms_messages : (xs : Arms) → ArmsHold xs → AllByRecursion EntryHolds (messages_behind (erase_arms xs))
  arms_messages no_arm h = tt
  arms_messages (else_of body) h = block_messages body h
  arms_messages (arm condition body others) h = AllByRecursion-append EntryHolds (messages_of (erase_block body)) (messages_behind (erase_arms others)) (block_messages body h.1) (arms_messages others h.2)
