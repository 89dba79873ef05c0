-- The items that a sound source names: each is there, with its kind and its record, and stands in the list.
use Rattle.std.proofs.Common.{◌≡◌, ℕ, zero, suc, ◌+◌, ◌<◌, Bool, true, false, List, [], ◌∷◌, ◌++◌, length, Option, Some, None, refl, sym, ap, ◌∙◌, subst, arith, cond}
use Rattle.std.specs.Prelude.{nat_eq, slice_get, Contains}
use Rattle.std.specs.List.{filter, list_any, range_with_len}
use Rattle.std.specs.Option.{option_map}
use Rattle.std.proofs.lemmas.Bool.{eq-eqb, or_left, or_right}
use Rattle.std.proofs.lemmas.List.FromFn.{length-range_with_len, get_or-range_with_len}
use Rattle.std.proofs.lemmas.Option.{same_Some, none-some}
use Rattle.cse_value.specs.declared.shape.ItemKind.{ItemKind}
use Rattle.cse_dict.specs.Dictionary.{DictionaryText, ItemText}
use Rattle.cse_logic_tree.specs.declared.tree.Field.{Field}
use Rattle.cse_logic_tree.specs.Typed.{Statement, Statements, Arms, Empty, Set, SetText, SetItem, SetTextItem, SetCell, CallOf, If, For, Do, Jump', Impute, PutDeck, ErrMsg, no_statement, statement_and, no_arm, else_of, arm}
use Rattle.cse_logic_tree.specs.Typed.{Declaration, Numeric, Alpha, Array', Function', Body, Plain, Preproc, Both, Postproc, Procedure, Tree}
use Rattle.cse_logic_tree.specs.Erase.{erase_statement, erase_block, erase_body}
use Rattle.cse_edit.specs.Items.{written_by, written_by_all, written_by_arms, written_by_functions, written_by_globals, written_by_body, written_by_procedures, written_by_tree, is_written, items_written}
use Rattle.cse_compile.specs.Tables.{functions_in}
use Rattle.cse_logic_names.specs.MessageFile.{MessageText}
use Rattle.cse_logic_names.specs.Scope.{Scope, kind_and_owner, within}
use Rattle.cse_logic_names.specs.WellTyped.{IsField, IsStatement, AreStatements, AreArms, IsBody, AreDeclared, AreProcedures, IsWell, messages_in, messages_of, body_messages, function_scope, with_function, with_functions, procedure_scope, first_scope, typed_declarations}
use Rattle.cse_logic_names.proofs.ScopeLaws.{same_dictionary}
use Rattle.cse_meaning.specs.Meaning.{declarations, declarations_in}
use Rattle.cse_edit.proofs.Puts.{Puts, AllPut, ArmsPut, BodyPuts, ProceduresPut, FunctionsPut}
use Rattle.cse_edit.proofs.Left.{IsThere}

-- ---- of a sound source

-- a field that may be assigned
is_there : (s : Scope) (k : ItemKind) (f : Field) → IsField s k f → IsThere s.dictionary k f
unfolding kind_and_owner
is_there s k f h = by (slice_get s.dictionary.items f.item) refl h.1
  where
    by : (o : Option ItemText) → slice_get s.dictionary.items f.item ≡ o → option_map {U = ItemKind × ℕ} (λ (x : ItemText). (x.shape.kind, x.shape.owner)) o ≡ Some (k, f.owner) → IsThere s.dictionary k f
    by None is e = absurd (none-some _ e)
    by (Some x) is e = record { item = x; there = is; owner = ap (λ (p : ItemKind × ℕ). p.1) (same_Some _ _ e); kind = ap (λ (p : ItemKind × ℕ). p.0) (same_Some _ _ e) }

module _ (M : ℕ → Type 0) where
  abbrev pub Each : List ℕ → Type 0
  Each [] = Unit {0}
  Each (x ∷ xs) = M x × Each xs

  front : (xs ys : List ℕ) → Each (xs ++ ys) → Each xs
  front [] ys m = tt
  front (x ∷ xs) ys m = (m.0, front xs ys m.1)

  back : (xs ys : List ℕ) → Each (xs ++ ys) → Each ys
  back [] ys m = m
  back (x ∷ xs) ys m = back xs ys m.1

  -- a field that is there, and whose item is one of these
  abbrev pub Of : DictionaryText → ItemKind → Field → Type 0
  Of d k f = IsThere d k f × M f.item

  mutual
    statement_puts : (s : Scope) (n : ℕ) (x : Statement) → IsStatement s n x → Each (written_by x) → Puts (Of s.dictionary) x
    statement_puts s n Empty h m = tt
    statement_puts s n (Set name y x) h m = tt
    statement_puts s n (SetText name g x) h m = tt
    statement_puts s n (SetItem name f which x) h m = (is_there s _ f h.1, m.0)
    statement_puts s n (SetTextItem name f which x) h m = (is_there s _ f h.1, m.0)
    statement_puts s n (SetCell name array xs x) h m = tt
    statement_puts s n (CallOf name function xs) h m = tt
    statement_puts s n (If condition body others) h m =
        (block_puts s n body h.1 (front (written_by_all body) (written_by_arms others) m), arms_put s (n + length (messages_of (erase_block body))) others h.2 (back (written_by_all body) (written_by_arms others) m))
    statement_puts s n (For name y record_name of body) h m = block_puts (within s (Some of) y) n body h.4 m
    statement_puts s n (Do x body) h m = block_puts (within s None x.variable) n body h.1 m
    statement_puts s n (Jump' token x) h m = tt
    statement_puts s n (Impute name f which x) h m = (is_there s _ f h.1, m.0)
    statement_puts s n (PutDeck name array picks x) h m = tt
    statement_puts s n (ErrMsg message index xs summary) h m = tt

    block_puts : (s : Scope) (n : ℕ) (xs : Statements) → AreStatements s n xs → Each (written_by_all xs) → AllPut (Of s.dictionary) xs
    block_puts s n no_statement h m = tt
    block_puts s n (statement_and x xs) h m =
        (statement_puts s n x h.0 (front (written_by x) (written_by_all xs) m), block_puts s (n + length (messages_in (erase_statement x))) xs h.1 (back (written_by x) (written_by_all xs) m))

    arms_put : (s : Scope) (n : ℕ) (xs : Arms) → AreArms s n xs → Each (written_by_arms xs) → ArmsPut (Of s.dictionary) xs
    arms_put s n no_arm h m = tt
    arms_put s n (else_of body) h m = block_puts s n body h m
    arms_put s n (arm condition body others) h m =
        (block_puts s n body h.1 (front (written_by_all body) (written_by_arms others) m), arms_put s (n + length (messages_of (erase_block body))) others h.2 (back (written_by_all body) (written_by_arms others) m))

  -- ---- functions and procedures

  functions_put : (s : Scope) (n : ℕ) (ds : List Declaration) → AreDeclared s n ds → Each (written_by_functions ds) → FunctionsPut (Of s.dictionary) (functions_in ds)
  functions_put s n [] h m = tt
  functions_put s n (Numeric names ∷ ds) h m = functions_put s n ds h m
  functions_put s n (Alpha digits size names ∷ ds) h m = functions_put s n ds h.1 m
  functions_put s n (Array' array ∷ ds) h m = functions_put s n ds h.2 m
  functions_put s n (Function' f ∷ ds) h m = (
    block_puts (function_scope s (length s.functions) f.parameters) n f.body h.0.body (front (written_by_all f.body) (written_by_functions ds) m),
    functions_put (with_function s f) (n + length (messages_of (erase_block f.body))) ds h.1 (back (written_by_all f.body) (written_by_functions ds) m),
  )

  body_puts : (s : Scope) (n : ℕ) (body : Body) → IsBody s n body → Each (written_by_body body) → BodyPuts (Of s.dictionary) body
  body_puts s n (Plain xs) h m = (tt, block_puts s n xs h m)
  body_puts s n (Preproc xs) h m = (block_puts s n xs h m, tt)
  body_puts s n (Both xs ys) h m = (block_puts s n xs h.0 (front (written_by_all xs) (written_by_all ys) m), block_puts s (n + length (messages_of (erase_block xs))) ys h.1 (back (written_by_all xs) (written_by_all ys) m))
  body_puts s n (Postproc xs) h m = (tt, block_puts s n xs h m)

  procedures_put : (s : Scope) (n : ℕ) (ps : List Procedure) → AreProcedures s n ps → Each (written_by_procedures ps) → ProceduresPut (Of s.dictionary) ps
  procedures_put s n [] h m = tt
  procedures_put s n (p ∷ ps) h m = (
    body_puts (procedure_scope s p.owner) n p.body h.1 (front (written_by_body p.body) (written_by_procedures ps) m),
    procedures_put s (n + length (body_messages (erase_body p.body))) ps h.2 (back (written_by_body p.body) (written_by_procedures ps) m),
  )

  -- ---- sources

  same_declarations : (g : Option (List Declaration)) → typed_declarations g ≡ declarations_in g
  same_declarations None = refl
  same_declarations (Some ds) = refl

  same_written : (g : Option (List Declaration)) → written_by_globals g ≡ written_by_functions (declarations_in g)
  same_written None = refl
  same_written (Some ds) = refl

  pub functions_of_source : (d : DictionaryText) (messages : List MessageText) (t : Tree) → IsWell d messages t → Each (written_by_tree t) → FunctionsPut (Of d) (functions_in (declarations t))
  functions_of_source d messages t well m =
      functions_put (first_scope d messages t) 0 (declarations t) (subst (AreDeclared (first_scope d messages t) 0) (same_declarations t.globals) well.declarations)
      (subst Each (same_written t.globals) (front (written_by_globals t.globals) (written_by_procedures t.procedures) m))

  pub procedures_of_source : (d : DictionaryText) (messages : List MessageText) (t : Tree) → IsWell d messages t → Each (written_by_tree t) → ProceduresPut (Of d) t.procedures
  procedures_of_source d messages t well m =
      subst (λ (e : DictionaryText). ProceduresPut (Of e) t.procedures) (same_dictionary (first_scope d messages t) (typed_declarations t.globals))
      (procedures_put (with_functions (first_scope d messages t) (typed_declarations t.globals)) _ t.procedures well.procedures (back (written_by_globals t.globals) (written_by_procedures t.procedures) m))

-- ---- the list

-- the members of a list are in it
each_member : (M : ℕ → Type 0) (xs : List ℕ) → ((i : ℕ) → list_any (λ x. nat_eq i x) xs ≡ true → M i) → Each M xs
each_member M [] f = tt
each_member M (x ∷ xs) f = (f x (or_left _ _ (eq-eqb x x refl)), each_member M xs (λ i h. f i (or_right (nat_eq i x) _ h)))

abbrev pub IsWritten : Tree → ℕ → Type 0
IsWritten t i = is_written t i ≡ true

pub each_written : (t : Tree) → Each (IsWritten t) (written_by_tree t)
each_written t = each_member (IsWritten t) (written_by_tree t) (λ i h. h)

passes : (p : ℕ → Bool) (xs : List ℕ) (i : ℕ) → p i ≡ true → Contains xs i → Contains (filter p xs) i
passes p [] i e at = let none = at.1 in absurd (omega arith)
passes p (x ∷ xs) i e (zero, low, is) = subst (λ b. Contains (cond b (x ∷ filter p xs) (filter p xs)) i) (sym (ap p is ∙ e)) (0, omega arith, is)
passes p (x ∷ xs) i e (suc k, low, is) = by (p x) (passes p xs i e (k, omega arith, is))
  where
    by : (b : Bool) → Contains (filter p xs) i → Contains (cond b (x ∷ filter p xs) (filter p xs)) i
    by false at = at
    by true at = (suc at.0, (let low = at.1 in omega arith), at.2)

pub is_listed : (d : DictionaryText) (t : Tree) (i : ℕ) → i < length d.items → IsWritten t i → Contains (items_written d t) i
is_listed d t i low written =
    let same : 0 + i ≡ i = omega arith in
    passes (is_written t) (range_with_len 0 (length d.items)) i written
    (i, omega (arith, length-range_with_len 0 (length d.items)), get_or-range_with_len 0 (length d.items) i i low ∙ same)
