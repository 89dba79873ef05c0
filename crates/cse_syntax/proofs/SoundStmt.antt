-- Statements that are read are of the grammar, and their words stood at the front.
use Rattle.std.proofs.Common.{◌≡◌, ℕ, zero, suc, true, ◌&&◌, List, [], ◌∷◌, length, drop, Some, None, refl, sym, ap, subst, ◌∙◌, inl, inr}
use Rattle.std.specs.Str.{str_eq_ignore_ascii_case}
use Rattle.std.proofs.lemmas.Bool.{and_parts}
use Rattle.cse_syntax_tree.specs.declared.token.Mark.{Mark}
use Rattle.cse_syntax_tree.specs.declared.token.Mark.TheVariants as m
use Rattle.cse_syntax_tree.specs.declared.tree.Count.{Count}
use Rattle.cse_syntax_tree.specs.declared.tree.Count.TheVariants as c
use Rattle.cse_syntax_tree.specs.declared.tree.Jump.{Jump}
use Rattle.cse_syntax_tree.specs.Word.{Word, Name, Digits, Quoted, Value, Leave, Sign, Stray}
use Rattle.cse_syntax_tree.specs.Tree.{Spelling, Expr, exprs, Literal, Limit, Fixed, Counted, Counting, Own, Numbered, Stmt, Empty, Assign, Call, If, For, Do, Jump', Impute, PutDeck, ErrMsg, Stmts, stmts, Arms, arms, no_arm, else_of}
use Rattle.cse_syntax_tree.specs.Grammar.{is_name, is_within, is_text, MOST, IsName, count_sign, Below, HasRoom, Each, IsSome, spell_mark, spell_expr, spell_exprs, spell_others, spell_subscripts, IsExpr, AreInner, spell_literal, spell_limit, spell_by, spell_counting, spell_message, spell_stmt, spell_stmts, spell_arms, IsLimit, IsBy, IsCounting, IsMessage, IsStmt, AreStmts, AreArms}
use Rattle.cse_syntax.specs.Reading.{Parser, sees, after, expect, ends, enter, take_name, name_before, take_number, snoc, subscripts, arguments, nested, expr_at}
use Rattle.cse_syntax.specs.ReadingStmt.{literal, counted, fixed, limit, step, again, counting, message, assigned, has_some, called, named_stmt, putdeck, other_values, errmsg, jump, imputed, impute, visiting, visiting_at, counting_at, guarded, elseif, elseifs, body_to, otherwise, alternatives, conditional, over, repeated, marked_stmt, statement, starts_stmt, statements, body_at, statements_at}
use Rattle.cse_syntax.proofs.Steps.{both_are, bind_some, if_some, test_some, sees_is, expect_is, ends_is, enter_is, take_name_is, name_before_is, take_number_is, after_is_spelled}
use Rattle.cse_syntax.proofs.Sound.{Sound, SoundAfter, made, loop_sound, inner_listed, subscripts_sound, arguments_sound, nested_sound, expr_sound, Each-snoc}

-- ---- the head of a `do`

abbrev IsWithin : ℕ → Literal → Type 0
IsWithin most x = is_within 0 most x.digits.text ≡ true

pub literal_sound : (most : ℕ) → Sound spell_literal (IsWithin most) (literal most)
unfolding literal
literal_sound most ws x rest e =
    let a = bind_some (take_number 0 most (after m.Minus ws)) _ _ e in
    let n = take_number_is 0 most (after m.Minus ws) a.0.0 a.0.1 a.1 in
    made spell_literal (IsWithin most) ws (record { minus = sees m.Minus ws; digits = a.0.0 }) x a.0.1 rest a.2 (after_is_spelled m.Minus ws ∙ ap (spell_mark m.Minus (sees m.Minus ws)) n.0) n.1

abbrev Limits : ℕ → Limit → Type 0
Limits room x = IsLimit x room

counted_sound : (room : ℕ) (count : Count) → SoundAfter (λ r. Sign (count_sign count) ∷ r) spell_limit (Limits room) (counted room count)
unfolding counted
counted_sound room count ws x rest e =
    let a = bind_some (enter room ws) _ _ e in
    let b = bind_some (name_before m.Close a.0) _ _ a.2 in
    let open_is = enter_is room ws a.0 a.1 in
    let name = name_before_is m.Close a.0 b.0.0 b.0.1 b.1 in
    made spell_limit (Limits room) (Sign (count_sign count) ∷ ws) (Counted count b.0.0) x b.0.1 rest b.2
    (ap (λ (r : List Word). Sign (count_sign count) ∷ r) (open_is.0 ∙ ap (λ (r : List Word). Sign m.Open ∷ r) name.0)) (name.1, open_is.1)

fixed_sound : (room : ℕ) → Sound spell_limit (Limits room) fixed
unfolding fixed
fixed_sound room ws x rest e =
    let a = bind_some (literal 999999999 ws) _ _ e in
    let n = literal_sound 999999999 ws a.0.0 a.0.1 a.1 in
    made spell_limit (Limits room) ws (Fixed a.0.0) x a.0.1 rest a.2 n.0 n.1

limit_sound : (room : ℕ) → Sound spell_limit (Limits room) (limit room)
unfolding limit
limit_sound room (Sign m.TotOcc ∷ ws) x rest e = counted_sound room c.TotOcc ws x rest e
limit_sound room (Sign m.MaxOcc ∷ ws) x rest e = counted_sound room c.MaxOcc ws x rest e
limit_sound room ws x rest e = fixed_sound room ws x rest e

step_sound : Sound spell_by IsBy step
unfolding step
step_sound ws x rest e =
    elim (if_some (sees m.By ws) _ _ _ e) [
      | inl h ↦
          let a = bind_some (take_number 1 999 (drop 1 ws)) _ _ h.1 in
          let n = take_number_is 1 999 (drop 1 ws) a.0.0 a.0.1 a.1 in
          made spell_by IsBy ws (Some a.0.0) x a.0.1 rest a.2 (sees_is m.By ws h.0 ∙ ap (λ (r : List Word). Sign m.By ∷ r) n.0) n.1
      | inr h ↦ made spell_by IsBy ws None x ws rest h.1 refl tt
    ]

again_is : (variable : Spelling) (ws : List Word) (name : Spelling) (rest : List Word) → again variable ws ≡ Some (name, rest) → (ws ≡ Name name ∷ rest) × IsName name × (str_eq_ignore_ascii_case variable.text name.text ≡ true)
unfolding again
again_is variable ws name rest e =
    let a = bind_some (take_name ws) _ _ e in
    let t = test_some (str_eq_ignore_ascii_case variable.text a.0.0.text) (a.0.0, a.0.1) (name, rest) a.2 in
    let p = both_are t.1 in
    let n = take_name_is ws a.0.0 a.0.1 a.1 in (
      n.0 ∙ ap (λ (s : Spelling). Name s ∷ a.0.1) p.0 ∙ ap (λ (r : List Word). Name name ∷ r) p.1,
      subst IsName p.0 n.1,
      ap (λ (s : Spelling). str_eq_ignore_ascii_case variable.text s.text) (sym p.0) ∙ t.0,
    )

abbrev Counts : ℕ → Counting → Type 0
Counts room x = IsCounting x room

counting_sound : (room : ℕ) → Sound spell_counting (Counts room) (counting room)
unfolding counting
counting_sound room ws x rest e =
    let a = bind_some (expect m.Varying ws) _ _ e in
    let b = bind_some (name_before m.Equals a.0) _ _ a.2 in
    let f = bind_some (limit room b.0.1) _ _ b.2 in
    let g = bind_some (expect m.Until f.0.1) _ _ f.2 in
    let h = bind_some (again b.0.0 g.0) _ _ g.2 in
    let i = bind_some (expect m.More h.0.1) _ _ h.2 in
    let k = bind_some (limit room i.0) _ _ i.2 in
    let n = bind_some (step k.0.1) _ _ k.2 in
    let variable = name_before_is m.Equals a.0 b.0.0 b.0.1 b.1 in
    let start = limit_sound room b.0.1 f.0.0 f.0.1 f.1 in
    let second = again_is b.0.0 g.0 h.0.0 h.0.1 h.1 in
    let stop = limit_sound room i.0 k.0.0 k.0.1 k.1 in
    let by = step_sound k.0.1 n.0.0 n.0.1 n.1 in
    let last = expect_is m.More h.0.1 i.0 i.1 ∙ ap (λ (r : List Word). Sign m.More ∷ r) (stop.0 ∙ ap (spell_limit k.0.0) by.0) in
    let mid = expect_is m.Until f.0.1 g.0 g.1 ∙ ap (λ (r : List Word). Sign m.Until ∷ r) (second.0 ∙ ap (λ (r : List Word). Name h.0.0 ∷ r) last) in
    let front = start.0 ∙ ap (spell_limit f.0.0) mid in
    let words = expect_is m.Varying ws a.0 a.1 ∙ ap (λ (r : List Word). Sign m.Varying ∷ r) (variable.0 ∙ ap (λ (r : List Word). Name b.0.0 ∷ Sign m.Equals ∷ r) front) in
    made spell_counting (Counts room) ws (record { variable = b.0.0; start = f.0.0; again = h.0.0; stop = k.0.0; by = n.0.0 }) x n.0.1 rest n.2 words (variable.1, start.1, second.1, second.2, stop.1, by.1)

message_sound : Sound spell_message IsMessage message
unfolding message
message_sound [] x rest e = absurd cc
message_sound (Name s ∷ ws) x rest e = absurd cc
message_sound (Digits s ∷ ws) x rest e =
    let t = test_some (is_within 0 MOST s.text) (Numbered s, ws) (x, rest) e in
    made spell_message IsMessage (Digits s ∷ ws) (Numbered s) x ws rest t.1 refl t.0
message_sound (Quoted s ∷ ws) x rest e =
    let t = test_some (is_text s.text) (Own s, ws) (x, rest) e in
    made spell_message IsMessage (Quoted s ∷ ws) (Own s) x ws rest t.1 refl t.0
message_sound (Value t s ∷ ws) x rest e = absurd cc
message_sound (Leave t s ∷ ws) x rest e = absurd cc
message_sound (Sign s ∷ ws) x rest e = absurd cc
message_sound (Stray ∷ ws) x rest e = absurd cc

-- ---- lists

abbrev pub spell_block : List Stmt → List Word → List Word
spell_block xs rest = spell_stmts (stmts xs) rest

abbrev pub AreAll : ℕ → List Stmt → Type 0
AreAll room xs = AreStmts (stmts xs) room

spell_block_snoc : (xs : List Stmt) (x : Stmt) (rest : List Word) → spell_block (snoc xs x) rest ≡ spell_block xs (spell_stmt x rest)
spell_block_snoc [] x rest = refl
spell_block_snoc (y ∷ xs) x rest = ap (spell_stmt y) (spell_block_snoc xs x rest)

AreAll-snoc : (room : ℕ) (xs : List Stmt) (x : Stmt) → AreAll room xs → IsStmt x room → AreAll room (snoc xs x)
AreAll-snoc room [] x h i = (i, tt)
AreAll-snoc room (y ∷ xs) x h i = (h.0, AreAll-snoc room xs x h.1 i)

abbrev Arm : Type 0
Arm = Expr × Stmts

abbrev spell_guarded : Arm → List Word → List Word
spell_guarded x rest = spell_expr x.0 (Sign m.Then ∷ spell_stmts x.1 rest)

abbrev IsArm : ℕ → Arm → Type 0
IsArm room x = Below room (IsExpr x.0) × Below room (AreStmts x.1)

-- each `elseif`
abbrev pub spell_elseifs : List Arm → List Word → List Word
spell_elseifs [] rest = rest
spell_elseifs (x ∷ xs) rest = Sign m.ElseIf ∷ spell_guarded x (spell_elseifs xs rest)

spell_elseifs_snoc : (xs : List Arm) (x : Arm) (rest : List Word) → spell_elseifs (snoc xs x) rest ≡ spell_elseifs xs (Sign m.ElseIf ∷ spell_guarded x rest)
spell_elseifs_snoc [] x rest = refl
spell_elseifs_snoc (y ∷ xs) x rest = ap (λ (r : List Word). Sign m.ElseIf ∷ spell_guarded y r) (spell_elseifs_snoc xs x rest)

-- the `else` behind them
spell_arms_elseifs : (xs : List Arm) (last : Arms) (rest : List Word) → spell_elseifs xs (spell_arms last rest) ≡ spell_arms (arms xs last) rest
spell_arms_elseifs [] last rest = refl
spell_arms_elseifs (x ∷ xs) last rest = ap (λ (r : List Word). Sign m.ElseIf ∷ spell_guarded x r) (spell_arms_elseifs xs last rest)

AreArms-elseifs : (room : ℕ) (xs : List Arm) (last : Arms) → Each (IsArm room) xs → AreArms last room → AreArms (arms xs last) room
AreArms-elseifs room [] last h i = i
AreArms-elseifs room (x ∷ xs) last h i = (h.0.0, h.0.1, AreArms-elseifs room xs last h.1 i)

-- ---- statements without others in them

abbrev Is : ℕ → Stmt → Type 0
Is room x = IsStmt x room

module _ (room : ℕ) where
  assigned_sound : (name : Spelling) (subs : List Expr) → IsName name → AreInner (exprs subs) room → SoundAfter (λ r. Name name ∷ spell_subscripts (exprs subs) (Sign m.Equals ∷ r)) spell_stmt (Is room) (assigned room name subs)
  unfolding assigned
  assigned_sound name subs is h ws x rest e =
      let a = bind_some (expr_at room ws) _ _ e in
      let b = bind_some (expect m.Semicolon a.0.1) _ _ a.2 in
      let value = expr_sound room ws a.0.0 a.0.1 a.1 in
      made spell_stmt (Is room) (Name name ∷ spell_subscripts (exprs subs) (Sign m.Equals ∷ ws)) (Assign name (exprs subs) a.0.0) x b.0 rest b.2
      (ap (λ (r : List Word). Name name ∷ spell_subscripts (exprs subs) (Sign m.Equals ∷ r)) (value.0 ∙ ap (spell_expr a.0.0) (expect_is m.Semicolon a.0.1 b.0 b.1))) (is, h, value.1)

  some_subscripts : (xs : List Expr) (rest : List Word) → has_some room xs ≡ true → Sign m.Open ∷ spell_exprs (exprs xs) (Sign m.Close ∷ rest) ≡ spell_subscripts (exprs xs) rest
  some_subscripts [] rest e = absurd cc
  some_subscripts (y ∷ xs) rest e = refl

  called_sound : (name : Spelling) (xs : List Expr) → IsName name → HasRoom room → AreInner (exprs xs) room → SoundAfter (λ r. Name name ∷ Sign m.Open ∷ spell_exprs (exprs xs) (Sign m.Close ∷ r)) spell_stmt (Is room) (called room name xs)
  unfolding called
  called_sound name xs is h i ws x rest e =
      elim (if_some (sees m.Equals ws && has_some room xs) _ _ _ e) [
        | inl t ↦
            let b = and_parts (sees m.Equals ws) (has_some room xs) t.0 in
            let y = assigned_sound name xs is i (drop 1 ws) x rest t.1 in
            (ap (λ (r : List Word). Name name ∷ r) (ap (λ (r : List Word). Sign m.Open ∷ spell_exprs (exprs xs) (Sign m.Close ∷ r)) (sees_is m.Equals ws b.0) ∙ some_subscripts xs (Sign m.Equals ∷ drop 1 ws) b.1) ∙ y.0, y.1)
        | inr t ↦
            let a = bind_some (expect m.Semicolon ws) _ _ t.1 in
            made spell_stmt (Is room) (Name name ∷ Sign m.Open ∷ spell_exprs (exprs xs) (Sign m.Close ∷ ws)) (Call name (exprs xs)) x a.0 rest a.2
            (ap (λ (r : List Word). Name name ∷ Sign m.Open ∷ spell_exprs (exprs xs) (Sign m.Close ∷ r)) (expect_is m.Semicolon ws a.0 a.1)) (is, h, i)
      ]

  named_stmt_sound : (name : Spelling) → IsName name → SoundAfter (λ r. Name name ∷ r) spell_stmt (Is room) (named_stmt room name)
  unfolding named_stmt
  named_stmt_sound name is ws x rest e =
      elim (if_some (sees m.Open ws) _ _ _ e) [
        | inl t ↦
            let a = bind_some (arguments room (nested room) ws) _ _ t.1 in
            let xs = arguments_sound room (nested room) (nested_sound room) ws a.0.0 a.0.1 a.1 in
            let y = called_sound name a.0.0 is xs.1.0 xs.1.1 a.0.1 x rest a.2 in
            (ap (λ (r : List Word). Name name ∷ r) xs.0 ∙ y.0, y.1)
        | inr t ↦
            let a = bind_some (expect m.Equals ws) _ _ t.1 in
            let y = assigned_sound name [] is tt a.0 x rest a.2 in
            (ap (λ (r : List Word). Name name ∷ r) (expect_is m.Equals ws a.0 a.1) ∙ y.0, y.1)
      ]

  putdeck_sound : SoundAfter (λ r. Sign m.PutDeck ∷ r) spell_stmt (Is room) (putdeck room)
  unfolding putdeck
  putdeck_sound ws x rest e =
      let a = bind_some (enter room ws) _ _ e in
      let b = bind_some (name_before m.Comma a.0) _ _ a.2 in
      let f = bind_some (nested room b.0.1) _ _ b.2 in
      let h = bind_some (ends m.Close f.0.1) _ _ f.2 in
      let name = name_before_is m.Comma a.0 b.0.0 b.0.1 b.1 in
      let value = nested_sound room b.0.1 f.0.0 f.0.1 f.1 in
      let end = ends_is m.Close f.0.1 h.0 h.1 in
      let inside = name.0 ∙ ap (λ (r : List Word). Name b.0.0 ∷ Sign m.Comma ∷ r) (value.0 ∙ ap (spell_expr f.0.0) end) in
      made spell_stmt (Is room) (Sign m.PutDeck ∷ ws) (PutDeck b.0.0 f.0.0) x h.0 rest h.2 (ap (λ (r : List Word). Sign m.PutDeck ∷ r) ((enter_is room ws a.0 a.1).0 ∙ ap (λ (r : List Word). Sign m.Open ∷ r) inside)) (name.1, value.1)

  after_comma_list : (xs : List Expr) (rest : List Word) → IsSome xs → Sign m.Comma ∷ spell_exprs (exprs xs) rest ≡ spell_others (exprs xs) rest
  after_comma_list [] rest h = absurd h
  after_comma_list (x ∷ xs) rest h = refl

  abbrev spell_values : List Expr → List Word → List Word
  spell_values xs rest = spell_others (exprs xs) rest

  abbrev AreValues : List Expr → Type 0
  AreValues xs = AreInner (exprs xs) room

  -- further values
  other_values_sound : Sound spell_values AreValues (other_values room)
  unfolding other_values
  other_values_sound ws x rest e =
      elim (if_some (sees m.Comma ws) _ _ _ e) [
        | inl h ↦
            let y = inner_listed room (nested room) (nested_sound room) (drop 1 ws) x rest h.1 in
            (sees_is m.Comma ws h.0 ∙ ap (λ (r : List Word). Sign m.Comma ∷ r) y.0 ∙ after_comma_list x rest y.1.0, y.1.1)
        | inr h ↦ made spell_values AreValues ws [] x ws rest h.1 refl tt
      ]

  errmsg_sound : SoundAfter (λ r. Sign m.ErrMsg ∷ r) spell_stmt (Is room) (errmsg room)
  unfolding errmsg
  errmsg_sound ws x rest e =
      let a = bind_some (enter room ws) _ _ e in
      let b = bind_some (message a.0) _ _ a.2 in
      let d = bind_some (other_values room b.0.1) _ _ b.2 in
      let f = bind_some (expect m.Close d.0.1) _ _ d.2 in
      let g = bind_some (expect m.Semicolon (after m.Summary f.0)) _ _ f.2 in
      let what = message_sound a.0 b.0.0 b.0.1 b.1 in
      let values = other_values_sound b.0.1 d.0.0 d.0.1 d.1 in
      let open_is = enter_is room ws a.0 a.1 in
      let summary = after_is_spelled m.Summary f.0 ∙ ap (spell_mark m.Summary (sees m.Summary f.0)) (expect_is m.Semicolon (after m.Summary f.0) g.0 g.1) in
      let end = values.0 ∙ ap (spell_others (exprs d.0.0)) (expect_is m.Close d.0.1 f.0 f.1 ∙ ap (λ (r : List Word). Sign m.Close ∷ r) summary) in
      made spell_stmt (Is room) (Sign m.ErrMsg ∷ ws) (ErrMsg b.0.0 (exprs d.0.0) (sees m.Summary f.0)) x g.0 rest g.2
      (ap (λ (r : List Word). Sign m.ErrMsg ∷ r) (open_is.0 ∙ ap (λ (r : List Word). Sign m.Open ∷ r) (what.0 ∙ ap (spell_message b.0.0) end))) (open_is.1, what.1, values.1)

  jump_sound : (token : ℕ) (which : Jump) → SoundAfter (λ r. Leave token which ∷ r) spell_stmt (Is room) (jump room token which)
  unfolding jump
  jump_sound token which ws x rest e =
      let a = bind_some (expect m.Semicolon ws) _ _ e in
      made spell_stmt (Is room) (Leave token which ∷ ws) (Jump' token which) x a.0 rest a.2 (ap (λ (r : List Word). Leave token which ∷ r) (expect_is m.Semicolon ws a.0 a.1)) tt

  imputed_sound : SoundAfter (λ r. Sign m.Impute ∷ Sign m.Open ∷ r) spell_stmt (Is (suc room)) (imputed room)
  unfolding imputed
  imputed_sound ws x rest e =
      let a = bind_some (take_name ws) _ _ e in
      let b = bind_some (subscripts room (nested room) a.0.1) _ _ a.2 in
      let d = bind_some (expect m.Comma b.0.1) _ _ b.2 in
      let f = bind_some (expr_at room d.0) _ _ d.2 in
      let h = bind_some (ends m.Close f.0.1) _ _ f.2 in
      let name = take_name_is ws a.0.0 a.0.1 a.1 in
      let subs = subscripts_sound room (nested room) (nested_sound room) a.0.1 b.0.0 b.0.1 b.1 in
      let value = expr_sound room d.0 f.0.0 f.0.1 f.1 in
      let end = ends_is m.Close f.0.1 h.0 h.1 in
      let inside = name.0 ∙ ap (λ (r : List Word). Name a.0.0 ∷ r) (subs.0 ∙ ap (spell_subscripts (exprs b.0.0)) (expect_is m.Comma b.0.1 d.0 d.1 ∙ ap (λ (r : List Word). Sign m.Comma ∷ r) (value.0 ∙ ap (spell_expr f.0.0) end))) in
      made spell_stmt (Is (suc room)) (Sign m.Impute ∷ Sign m.Open ∷ ws) (Impute a.0.0 (exprs b.0.0) f.0.0) x h.0 rest h.2 (ap (λ (r : List Word). Sign m.Impute ∷ Sign m.Open ∷ r) inside) (name.1, subs.1, value.1)

impute_sound : (room : ℕ) → SoundAfter (λ r. Sign m.Impute ∷ r) spell_stmt (Is room) (impute room)
unfolding impute
impute_sound zero ws x rest e = absurd cc
impute_sound (suc room) ws x rest e =
    let a = bind_some (expect m.Open ws) _ _ e in
    let y = imputed_sound room a.0 x rest a.2 in
    (ap (λ (r : List Word). Sign m.Impute ∷ r) (expect_is m.Open ws a.0 a.1) ∙ y.0, y.1)

-- ---- the heads of statements with others in them

abbrev spell_visiting : Spelling × Spelling → List Word → List Word
spell_visiting x rest = Name x.0 ∷ Sign m.In ∷ Name x.1 ∷ Sign m.Do ∷ rest

abbrev AreNames : Spelling × Spelling → Type 0
AreNames x = IsName x.0 × IsName x.1

visiting_sound : Sound spell_visiting AreNames visiting
unfolding visiting
visiting_sound ws x rest e =
    let a = bind_some (name_before m.In ws) _ _ e in
    let b = bind_some (name_before m.Do a.0.1) _ _ a.2 in
    let variable = name_before_is m.In ws a.0.0 a.0.1 a.1 in
    let record_name = name_before_is m.Do a.0.1 b.0.0 b.0.1 b.1 in
    made spell_visiting AreNames ws (a.0.0, b.0.0) x b.0.1 rest b.2 (variable.0 ∙ ap (λ (r : List Word). Name a.0.0 ∷ Sign m.In ∷ r) record_name.0) (variable.1, record_name.1)

visiting_at_sound : (room : ℕ) → Sound spell_visiting AreNames (visiting_at room)
unfolding visiting_at
visiting_at_sound zero ws x rest e = absurd cc
visiting_at_sound (suc room) ws x rest e = visiting_sound ws x rest e

counting_at_sound : (room : ℕ) → Sound spell_counting (λ x. Below room (IsCounting x)) (counting_at room)
unfolding counting_at
counting_at_sound zero ws x rest e = absurd cc
counting_at_sound (suc room) ws x rest e = counting_sound room ws x rest e

-- ---- statements with others in them

abbrev AreInside : ℕ → List Stmt → Type 0
AreInside room xs = Below room (AreStmts (stmts xs))

module _ (room : ℕ) (body : Parser (List Stmt)) (body_sound : Sound spell_block (AreInside room) body) where
  guarded_sound : Sound spell_guarded (IsArm room) (guarded room body)
  unfolding guarded
  guarded_sound ws x rest e =
      let a = bind_some (nested room ws) _ _ e in
      let b = bind_some (expect m.Then a.0.1) _ _ a.2 in
      let d = bind_some (body b.0) _ _ b.2 in
      let test = nested_sound room ws a.0.0 a.0.1 a.1 in
      let block = body_sound b.0 d.0.0 d.0.1 d.1 in
      made spell_guarded (IsArm room) ws (a.0.0, stmts d.0.0) x d.0.1 rest d.2 (test.0 ∙ ap (spell_expr a.0.0) (expect_is m.Then a.0.1 b.0 b.1 ∙ ap (λ (r : List Word). Sign m.Then ∷ r) block.0)) (test.1, block.1)

  elseif_sound : Sound (λ x r. Sign m.ElseIf ∷ spell_guarded x r) (IsArm room) (elseif room body)
  elseif_sound ws x rest e =
      let a = bind_some (expect m.ElseIf ws) _ _ e in
      let y = guarded_sound a.0 x rest a.2 in
      (expect_is m.ElseIf ws a.0 a.1 ∙ ap (λ (r : List Word). Sign m.ElseIf ∷ r) y.0, y.1)

  elseifs_sound : Sound spell_elseifs (Each (IsArm room)) (elseifs room body)
  unfolding elseifs
  elseifs_sound ws x rest e =
      loop_sound (sees m.ElseIf) (elseif room body) snoc spell_elseifs (Each (IsArm room)) (λ y r. Sign m.ElseIf ∷ spell_guarded y r) (IsArm room) elseif_sound
      (λ xs y r h. spell_elseifs_snoc xs y r) (λ xs y h i. Each-snoc (IsArm room) xs y h i) (length ws) [] ws x rest tt e

  abbrev AreBelow : Stmts → Type 0
  AreBelow xs = Below room (AreStmts xs)

  -- statements up to this word and a semicolon
  abbrev spell_body_to : Mark → Stmts → List Word → List Word
  spell_body_to mark xs rest = spell_stmts xs (Sign mark ∷ Sign m.Semicolon ∷ rest)

  body_to_sound : (mark : Mark) → Sound (spell_body_to mark) AreBelow (body_to room body mark)
  unfolding body_to
  body_to_sound mark ws x rest e =
      let a = bind_some (body ws) _ _ e in
      let b = bind_some (ends mark a.0.1) _ _ a.2 in
      let block = body_sound ws a.0.0 a.0.1 a.1 in
      made (spell_body_to mark) AreBelow ws (stmts a.0.0) x b.0 rest b.2 (block.0 ∙ ap (spell_block a.0.0) (ends_is mark a.0.1 b.0 b.1)) block.1

  abbrev IsLast : Arms → Type 0
  IsLast x = AreArms x room

  -- arms up to the end of the `if`
  abbrev spell_to_endif : Arms → List Word → List Word
  spell_to_endif x rest = spell_arms x (Sign m.EndIf ∷ Sign m.Semicolon ∷ rest)

  otherwise_sound : Sound spell_to_endif IsLast (otherwise room body)
  unfolding otherwise
  otherwise_sound ws x rest e =
      elim (if_some (sees m.Else ws) _ _ _ e) [
        | inl h ↦
            let a = bind_some (body_to room body m.EndIf (drop 1 ws)) _ _ h.1 in
            let block = body_to_sound m.EndIf (drop 1 ws) a.0.0 a.0.1 a.1 in
            made spell_to_endif IsLast ws (else_of a.0.0) x a.0.1 rest a.2 (sees_is m.Else ws h.0 ∙ ap (λ (r : List Word). Sign m.Else ∷ r) block.0) block.1
        | inr h ↦
            let a = bind_some (ends m.EndIf ws) _ _ h.1 in
            made spell_to_endif IsLast ws no_arm x a.0 rest a.2 (ends_is m.EndIf ws a.0 a.1) tt
      ]

  alternatives_sound : Sound spell_to_endif IsLast (alternatives room body)
  unfolding alternatives
  alternatives_sound ws x rest e =
      let a = bind_some (elseifs room body ws) _ _ e in
      let b = bind_some (otherwise room body a.0.1) _ _ a.2 in
      let others = elseifs_sound ws a.0.0 a.0.1 a.1 in
      let last = otherwise_sound a.0.1 b.0.0 b.0.1 b.1 in
      made spell_to_endif IsLast ws (arms a.0.0 b.0.0) x b.0.1 rest b.2
      (others.0 ∙ ap (spell_elseifs a.0.0) last.0 ∙ spell_arms_elseifs a.0.0 b.0.0 (Sign m.EndIf ∷ Sign m.Semicolon ∷ b.0.1)) (AreArms-elseifs room a.0.0 b.0.0 others.1 last.1)

  conditional_sound : SoundAfter (λ r. Sign m.If ∷ r) spell_stmt (Is room) (conditional room body)
  unfolding conditional
  conditional_sound ws x rest e =
      let a = bind_some (guarded room body ws) _ _ e in
      let b = bind_some (alternatives room body a.0.1) _ _ a.2 in
      let first = guarded_sound ws a.0.0 a.0.1 a.1 in
      let others = alternatives_sound a.0.1 b.0.0 b.0.1 b.1 in
      made spell_stmt (Is room) (Sign m.If ∷ ws) (If a.0.0.0 a.0.0.1 b.0.0) x b.0.1 rest b.2 (ap (λ (r : List Word). Sign m.If ∷ r) (first.0 ∙ ap (spell_guarded a.0.0) others.0)) (first.1.0, first.1.1, others.1)

  over_sound : SoundAfter (λ r. Sign m.For ∷ r) spell_stmt (Is room) (over room body)
  unfolding over
  over_sound ws x rest e =
      let a = bind_some (visiting_at room ws) _ _ e in
      let b = bind_some (body_to room body m.EndDo a.0.1) _ _ a.2 in
      let head = visiting_at_sound room ws a.0.0 a.0.1 a.1 in
      let block = body_to_sound m.EndDo a.0.1 b.0.0 b.0.1 b.1 in
      made spell_stmt (Is room) (Sign m.For ∷ ws) (For a.0.0.0 a.0.0.1 b.0.0) x b.0.1 rest b.2 (ap (λ (r : List Word). Sign m.For ∷ r) (head.0 ∙ ap (spell_visiting a.0.0) block.0)) (head.1.0, head.1.1, block.1)

  repeated_sound : SoundAfter (λ r. Sign m.Do ∷ r) spell_stmt (Is room) (repeated room body)
  unfolding repeated
  repeated_sound ws x rest e =
      let a = bind_some (counting_at room ws) _ _ e in
      let b = bind_some (body_to room body m.EndDo a.0.1) _ _ a.2 in
      let head = counting_at_sound room ws a.0.0 a.0.1 a.1 in
      let block = body_to_sound m.EndDo a.0.1 b.0.0 b.0.1 b.1 in
      made spell_stmt (Is room) (Sign m.Do ∷ ws) (Do a.0.0 b.0.0) x b.0.1 rest b.2 (ap (λ (r : List Word). Sign m.Do ∷ r) (head.0 ∙ ap (spell_counting a.0.0) block.0)) (head.1, block.1)

module _ (room : ℕ) (body : Parser (List Stmt)) (body_sound : Sound spell_block (AreInside room) body) where
  marked_stmt_sound : (mark : Mark) → SoundAfter (λ r. Sign mark ∷ r) spell_stmt (Is room) (marked_stmt room body mark)
  unfolding marked_stmt
  marked_stmt_sound m.Semicolon ws x rest e = made spell_stmt (Is room) (Sign m.Semicolon ∷ ws) Empty x ws rest e refl tt
  marked_stmt_sound m.If ws x rest e = conditional_sound room body body_sound ws x rest e
  marked_stmt_sound m.For ws x rest e = over_sound room body body_sound ws x rest e
  marked_stmt_sound m.Do ws x rest e = repeated_sound room body body_sound ws x rest e
  marked_stmt_sound m.Impute ws x rest e = impute_sound room ws x rest e
  marked_stmt_sound m.PutDeck ws x rest e = putdeck_sound room ws x rest e
  marked_stmt_sound m.ErrMsg ws x rest e = errmsg_sound room ws x rest e
  marked_stmt_sound _ ws x rest e = absurd cc

  statement_sound : Sound spell_stmt (Is room) (statement room body)
  unfolding statement
  statement_sound [] x rest e = absurd cc
  statement_sound (Name name ∷ ws) x rest e =
      elim (if_some (is_name name.text) _ _ _ e) [
        | inl h ↦ named_stmt_sound room name h.0 ws x rest h.1
        | inr h ↦ absurd cc
      ]
  statement_sound (Value token value ∷ ws) x rest e = absurd cc
  statement_sound (Leave token which ∷ ws) x rest e = jump_sound room token which ws x rest e
  statement_sound (Digits s ∷ ws) x rest e = absurd cc
  statement_sound (Quoted s ∷ ws) x rest e = absurd cc
  statement_sound (Sign mark ∷ ws) x rest e = marked_stmt_sound mark ws x rest e
  statement_sound (Stray ∷ ws) x rest e = absurd cc

  statements_sound : Sound spell_block (AreAll room) (statements room body)
  unfolding statements
  statements_sound ws x rest e =
      loop_sound starts_stmt (statement room body) snoc spell_block (AreAll room) spell_stmt (Is room) statement_sound
      (λ xs y r h. spell_block_snoc xs y r) (λ xs y h i. AreAll-snoc room xs y h i) (length ws) [] ws x rest tt e

body_at_sound : (room : ℕ) → Sound spell_block (AreInside room) (body_at room)
unfolding body_at
body_at_sound zero ws x rest e = absurd cc
body_at_sound (suc room) ws x rest e = statements_sound room (body_at room) (body_at_sound room) ws x rest e

pub statements_at_sound : (room : ℕ) → Sound spell_block (AreAll room) (statements_at room)
statements_at_sound room = statements_sound room (body_at room) (body_at_sound room)
