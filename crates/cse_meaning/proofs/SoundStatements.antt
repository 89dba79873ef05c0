-- Sound statements fit the tables.
use Rattle.std.proofs.Common.{◌≡◌, ◌≤◌, ℕ, suc, zero, ◌+◌, Bool, true, false, List, [], ◌∷◌, ◌++◌, length, map, Option, Some, None, refl, sym, ap, ◌∙◌, subst, arith}
use Rattle.std.specs.Prelude.{slice_get, unwrap_or}
use Rattle.std.specs.Option.{option_map}
use Rattle.std.proofs.lemmas.List.{length-map, map-append}
use Rattle.std.proofs.lemmas.Option.{same_Some, none-some}
use Rattle.cse_image_parts.specs.Image.{MessageLists}
use Rattle.cse_image_parts.specs.Placeholders.{message_kinds}
use Rattle.cse_syntax_tree.specs.declared.tree.Count.TheVariants as counts
use Rattle.cse_syntax_tree.specs.declared.tree.Jump.{Jump}
use Rattle.cse_syntax_tree.specs.declared.tree.Jump.TheVariants as j
use Rattle.cse_syntax_tree.specs.Tree as syntax
use Rattle.cse_syntax_tree.specs.Grammar.{Below, IsStmt, AreStmts, AreArms as AreArmsOf}
use Rattle.cse_code_typing.specs.Kinds as kinds
use Rattle.cse_logic_tree.specs.Typed.{Which, Here, At, Argument, OfNumber, OfWords, Limit, Fixed, Counted, Statement, Statements, Arms}
use Rattle.cse_logic_tree.specs.Typed.{Empty, Set, SetText, SetItem, SetTextItem, SetCell, CallOf, If, For, Do, Jump', Impute, PutDeck, ErrMsg, no_statement, statement_and, no_arm, else_of, arm}
use Rattle.cse_logic_tree.specs.Erase.{erase_statement, erase_block, erase_arms}
use Rattle.cse_compile.specs.Tables.{message_of}
use Rattle.cse_logic_names.specs.declared.meaning.Meaning.TheVariants as meaning
use Rattle.cse_logic_names.specs.MessageFile.{MessageText}
use Rattle.cse_logic_names.specs.Scope.{Scope, Loops, within}
use Rattle.cse_logic_names.specs.Uses.{uses, uses_words, uses_all, uses_which, uses_argument, uses_arguments, uses_limit, assigns, uses_of, uses_block, uses_arms}
use Rattle.cse_logic_names.specs.WellTyped.{messages_in, messages_of, messages_behind, message_meant, kinds_of, no_message, entry_of, argument_kind, IsArgument, AreArguments, IsWhich, IsLimit, may_jump, IsStatement, AreStatements, AreArms}
use Rattle.cse_meaning.specs.Fit.{Spot, WhichFits, ArgumentFits, ArgumentsFit, kind_of, IsMessage, LimitFits, over, Within, JumpFits, StatementFits, BlockFits, ArmsFit}
use Rattle.cse_meaning.proofs.At.{HasAt, has_front, has_back}
use Rattle.cse_meaning.proofs.Agrees.{is_open, Agrees, agrees_in_do, agrees_in_for, InLoops, loops_in_do, loops_in_for, Cased, cased_left, cased_right, cased_call, cased_tail, cased_here}
use Rattle.cse_meaning.proofs.Numbers.{variable_fits, loop_variable_fits, number_field_fits, text_field_fits, found_fits, array_fits, deck_fits, function_fits, record_fits, number_fits, words_fit, numbers_fit}

-- ---- room

under : (room r : ℕ) (P Q : ℕ → Type 0) → r ≤ room → Below r P → ((m q : ℕ) → q ≤ m → P q → Q m) → Within room Q
under room zero P Q le b f = absurd b
under zero (suc q) P Q le b f = absurd (omega (arith, le))
under (suc m) (suc q) P Q le b f = f m q (omega (arith, le)) b

less : (room r : ℕ) (P : ℕ → Type 0) (Q : Type 0) → r ≤ room → Below r P → ((q : ℕ) → q ≤ room → P q → Q) → Q
less room zero P Q le b f = absurd b
less room (suc q) P Q le b f = f q (omega (arith, le)) b

-- ---- messages

abbrev pub said : Scope → syntax.Message × Bool → MessageLists
said c x = message_of (entry_of c.messages x)

-- these messages stand in the table from this one on
abbrev pub SaidAt : Scope → Spot → ℕ → List (syntax.Message × Bool) → Type 0
SaidAt c s n xs = HasAt s.scene.lists.messages n (map (said c) xs)

module _ (c : Scope) (s : Spot) (n : ℕ) (xs ys : List (syntax.Message × Bool)) (h : SaidAt c s n (xs ++ ys)) where
  split : HasAt s.scene.lists.messages n (map (said c) xs ++ map (said c) ys)
  split = subst (HasAt s.scene.lists.messages n) (map-append (said c) xs ys) h

  pub said_front : SaidAt c s n xs
  said_front = has_front s.scene.lists.messages n (map (said c) xs) (map (said c) ys) split

  pub said_back : SaidAt c s (n + length xs) ys
  said_back = has_back s.scene.lists.messages n (length xs) (map (said c) xs) (map (said c) ys) (length-map xs (said c)) split

same_kind : (x : Argument) → kinds.argument_kind (argument_kind x) ≡ kind_of x
same_kind (OfNumber x) = refl
same_kind (OfWords x) = refl

same_kinds : (xs : List Argument) → map kinds.argument_kind (map argument_kind xs) ≡ map kind_of xs
same_kinds [] = refl
same_kinds (x ∷ xs) = ap (λ k. k ∷ map kinds.argument_kind (map argument_kind xs)) (same_kind x) ∙ ap (λ l. kind_of x ∷ l) (same_kinds xs)

meant_kinds : (messages : List MessageText) (message : syntax.Message) (summary : Bool) (xs : List Argument) → kinds_of messages message ≡ Some (map argument_kind xs) → map kinds.argument_kind (message_kinds (message_of (entry_of messages (message, summary))).text) ≡ map kind_of xs
meant_kinds messages message summary xs h = by (message_meant messages message) refl
  where
    by : (o : Option MessageText) → message_meant messages message ≡ o → map kinds.argument_kind (message_kinds (unwrap_or (message_meant messages message) no_message).text) ≡ map kind_of xs
    by None e = absurd (none-some (map argument_kind xs) (sym (ap (option_map (λ (x : MessageText). message_kinds x.text)) e) ∙ h))
    by (Some x) e =
        let f : message_kinds x.text ≡ map argument_kind xs = same_Some _ _ (sym (ap (option_map (λ (x : MessageText). message_kinds x.text)) e) ∙ h) in
        ap (λ o. map kinds.argument_kind (message_kinds (unwrap_or o no_message).text)) e ∙ ap (map kinds.argument_kind) f ∙ same_kinds xs

jump_by : (ls : Loops) (inside : Bool) (x : Jump) → (is_open ls ≡ true → inside ≡ true) → may_jump ls x ≡ true → JumpFits inside x
jump_by ls inside j.Exit f h = tt
jump_by [] inside j.Break f h = f h
jump_by [] inside j.Next f h = f h
jump_by (l ∷ ls) inside j.Break f h = f refl
jump_by (l ∷ ls) inside j.Next f h = f refl

module _ (c : Scope) (s : Spot) (inside : Bool) (a : Agrees c s) (l : InLoops c s inside) where
  which_fits : (of : ℕ) (x : Which) → IsWhich c of x → Cased c s (uses_which x) → WhichFits s of x
  which_fits of (Here how) h k = found_fits c s a l.looped of how h
  which_fits of (At place) h k = number_fits c s a l.looped false place h k

  limit_fits : (x : Limit) → IsLimit c x → Cased c s (uses_limit x) → LimitFits s x
  limit_fits (Fixed x) h k = tt
  limit_fits (Counted counts.MaxOcc name of) h k = tt
  limit_fits (Counted counts.TotOcc name of) h k = (cased_here c s [] k h.1, record_fits c s a l.looped name of h.0)

  argument_fits : (x : Argument) → IsArgument c x → Cased c s (uses_argument x) → ArgumentFits s x
  argument_fits (OfNumber x) h k = number_fits c s a l.looped false x h k
  argument_fits (OfWords x) h k = words_fit c s a l.looped x h k

  arguments_fit : (xs : List Argument) → AreArguments c xs → Cased c s (uses_arguments xs) → ArgumentsFit s xs
  arguments_fit [] h k = tt
  arguments_fit (x ∷ xs) h k = (argument_fits x h.0 (cased_left c s (uses_argument x) (uses_arguments xs) k), arguments_fit xs h.1 (cased_right c s (uses_argument x) (uses_arguments xs) k))

  message_fits : (n index : ℕ) (message : syntax.Message) (xs : List Argument) (summary : Bool) → index ≡ n → kinds_of c.messages message ≡ Some (map argument_kind xs) → SaidAt c s n ((message, summary) ∷ []) → IsMessage s index xs
  message_fits n index message xs summary e h f = (said c (message, summary), ap (slice_get s.scene.lists.messages) e ∙ f.0, meant_kinds c.messages message summary xs h)

mutual
  pub statement_fits : (c : Scope) (s : Spot) (room r n : ℕ) (inside : Bool) (x : Statement) → Agrees c s → InLoops c s inside → r ≤ room → IsStmt (erase_statement x) r → IsStatement c n x → Cased c s (uses_of x) → SaidAt c s n (messages_in (erase_statement x)) → StatementFits s room inside x
  statement_fits c s room r n inside Empty a l le g h k m = tt
  statement_fits c s room r n inside (Set name variable x) a l le g h k m = (variable_fits c s a name variable h.0, number_fits c s a l.looped false x h.2 (cased_right c s (assigns variable) (uses x) k))
  statement_fits c s room r n inside (SetText name variable x) a l le g h k m = (a.names name (meaning.Text variable) h.0, words_fit c s a l.looped x h.1 k)
  statement_fits c s room r n inside (SetItem name field which x) a l le g h k m =
      let k' = cased_tail c s (uses_which which ++ uses x) k in
      (number_field_fits c s a field h.1 (cased_here c s (uses_which which ++ uses x) k h.1.0), which_fits c s inside a l field.owner which h.2 (cased_left c s (uses_which which) (uses x) k'), number_fits c s a l.looped false x h.3 (cased_right c s (uses_which which) (uses x) k'))
  statement_fits c s room r n inside (SetTextItem name field which x) a l le g h k m =
      let k' = cased_tail c s (uses_which which ++ uses_words x) k in
      (text_field_fits c s a field h.1 (cased_here c s (uses_which which ++ uses_words x) k h.1.0), which_fits c s inside a l field.owner which h.2 (cased_left c s (uses_which which) (uses_words x) k'), words_fit c s a l.looped x h.3 (cased_right c s (uses_which which) (uses_words x) k'))
  statement_fits c s room r n inside (SetCell name array xs x) a l le g h k m = (array_fits c s a l.looped array xs h.1, numbers_fit c s a l.looped xs h.2 (cased_left c s (uses_all xs) (uses x) k), number_fits c s a l.looped false x h.3 (cased_right c s (uses_all xs) (uses x) k))
  statement_fits c s room r n inside (CallOf name function xs) a l le g h k m = (function_fits c s a l.looped function xs (uses_all xs) h.1 k, numbers_fit c s a l.looped xs h.2 (cased_call c s function (uses_all xs) k))
  statement_fits c s room r n inside (If condition body others) a l le g h k m =
      let k' = cased_right c s (uses condition) (uses_block body ++ uses_arms others) k in (
        number_fits c s a l.looped false condition h.0 (cased_left c s (uses condition) (uses_block body ++ uses_arms others) k),
        less room r (AreStmts (erase_block body)) (BlockFits s room inside body) le g.1 (λ q le' g'.
            block_fits c s room q n inside body a l le' g' h.1 (cased_left c s (uses_block body) (uses_arms others) k') (said_front c s n (messages_of (erase_block body)) (messages_behind (erase_arms others)) m)),
        arms_fit c s room r (n + length (messages_of (erase_block body))) inside others a l le g.2 h.2 (cased_right c s (uses_block body) (uses_arms others) k') (said_back c s n (messages_of (erase_block body)) (messages_behind (erase_arms others)) m),
      )
  statement_fits c s room r n inside (For name variable record_name of body) a l le g h k m =
      let k' = cased_tail c s (assigns variable ++ uses_block body) k in (
        (cased_here c s (assigns variable ++ uses_block body) k h.3, record_fits c s a l.looped record_name of h.2),
        loop_variable_fits c s a name variable h.0,
        under room r (AreStmts (erase_block body)) (λ q. BlockFits (over s of) q true body) le g.2 (λ room' q le' g'.
            block_fits (within c (Some of) variable) (over s of) room' q n true body (agrees_in_for c s variable a of) (loops_in_for c s inside variable of l) le' g' h.4 (cased_right c s (assigns variable) (uses_block body) k') m),
      )
  statement_fits c s room r n inside (Do x body) a l le g h k m =
      let k1 = cased_right c s (assigns x.variable) (uses_limit x.start ++ (uses_limit x.stop ++ uses_block body)) k in
      let k2 = cased_right c s (uses_limit x.start) (uses_limit x.stop ++ uses_block body) k1 in (
        (loop_variable_fits c s a x.name x.variable h.0.0, limit_fits c s inside a l x.start h.0.2 (cased_left c s (uses_limit x.start) (uses_limit x.stop ++ uses_block body) k1), limit_fits c s inside a l x.stop h.0.3 (cased_left c s (uses_limit x.stop) (uses_block body) k2)),
        under room r (AreStmts (erase_block body)) (λ q. BlockFits s q true body) le g.1 (λ room' q le' g'.
            block_fits (within c None x.variable) s room' q n true body (agrees_in_do c s x.variable a) (loops_in_do c s inside x.variable l) le' g' h.1 (cased_right c s (uses_limit x.stop) (uses_block body) k2) m),
      )
  statement_fits c s room r n inside (Jump' token x) a l le g h k m = jump_by c.loops inside x l.opened h
  statement_fits c s room r n inside (Impute name field which x) a l le g h k m =
      let k' = cased_tail c s (uses_which which ++ uses x) k in
      (number_field_fits c s a field h.1 (cased_here c s (uses_which which ++ uses x) k h.1.0), which_fits c s inside a l field.owner which h.2 (cased_left c s (uses_which which) (uses x) k'), number_fits c s a l.looped false x h.3 (cased_right c s (uses_which which) (uses x) k'))
  statement_fits c s room r n inside (PutDeck name array picks x) a l le g h k m = (deck_fits c s a l.looped array picks h.2 (cased_here c s (uses x) k h.1), number_fits c s a l.looped false x h.3 (cased_tail c s (uses x) k))
  statement_fits c s room r n inside (ErrMsg message index xs summary) a l le g h k m = (message_fits c s inside a l n index message xs summary h.0 h.1 m, arguments_fit c s inside a l xs h.2 k)

  pub block_fits : (c : Scope) (s : Spot) (room r n : ℕ) (inside : Bool) (xs : Statements) → Agrees c s → InLoops c s inside → r ≤ room → AreStmts (erase_block xs) r → AreStatements c n xs → Cased c s (uses_block xs) → SaidAt c s n (messages_of (erase_block xs)) → BlockFits s room inside xs
  block_fits c s room r n inside no_statement a l le g h k m = tt
  block_fits c s room r n inside (statement_and x xs) a l le g h k m = (
    statement_fits c s room r n inside x a l le g.0 h.0 (cased_left c s (uses_of x) (uses_block xs) k) (said_front c s n (messages_in (erase_statement x)) (messages_of (erase_block xs)) m),
    block_fits c s room r (n + length (messages_in (erase_statement x))) inside xs a l le g.1 h.1 (cased_right c s (uses_of x) (uses_block xs) k) (said_back c s n (messages_in (erase_statement x)) (messages_of (erase_block xs)) m),
  )

  arms_fit : (c : Scope) (s : Spot) (room r n : ℕ) (inside : Bool) (xs : Arms) → Agrees c s → InLoops c s inside → r ≤ room → AreArmsOf (erase_arms xs) r → AreArms c n xs → Cased c s (uses_arms xs) → SaidAt c s n (messages_behind (erase_arms xs)) → ArmsFit s room inside xs
  arms_fit c s room r n inside no_arm a l le g h k m = tt
  arms_fit c s room r n inside (else_of body) a l le g h k m = less room r (AreStmts (erase_block body)) (BlockFits s room inside body) le g (λ q le' g'. block_fits c s room q n inside body a l le' g' h k m)
  arms_fit c s room r n inside (arm condition body others) a l le g h k m =
      let k' = cased_right c s (uses condition) (uses_block body ++ uses_arms others) k in (
        number_fits c s a l.looped false condition h.0 (cased_left c s (uses condition) (uses_block body ++ uses_arms others) k),
        less room r (AreStmts (erase_block body)) (BlockFits s room inside body) le g.1 (λ q le' g'.
            block_fits c s room q n inside body a l le' g' h.1 (cased_left c s (uses_block body) (uses_arms others) k') (said_front c s n (messages_of (erase_block body)) (messages_behind (erase_arms others)) m)),
        arms_fit c s room r (n + length (messages_of (erase_block body))) inside others a l le g.2 h.2 (cased_right c s (uses_block body) (uses_arms others) k') (said_back c s n (messages_of (erase_block body)) (messages_behind (erase_arms others)) m),
      )
