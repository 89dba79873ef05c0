-- The same of whole sources: of the statements of each routine, and of each message.
use Rattle.std.proofs.Common.{ℕ, ◌+◌, Bool, true, false, List, [], ◌∷◌, length, map, Option, Some, None}
use Rattle.std.specs.Prelude.{if◌then◌else◌}
use Rattle.std.specs.List.{AllByRecursion}
use Rattle.std.specs.Option.{option_map}
use Rattle.cse_lemmas.proofs.Lists.{AllByRecursion-append, AllByRecursion-map}
use Rattle.cse_dict.specs.Dictionary.{DictionaryText}
use Rattle.cse_syntax_tree.specs.declared.token.Mark.TheVariants as mark
use Rattle.cse_syntax_tree.specs.Tree as syntax
use Rattle.cse_syntax_tree.specs.Tree.{Spelling}
use Rattle.cse_syntax_tree.specs.Word.{Word, Name, Sign}
use Rattle.cse_syntax_tree.specs.Grammar.{Spells, Each, AreGlobals, AreStmts, IsDeclaration, IsBody as IsBodyOf, IsProcedure, spell_each, spell_list, spell_all, spell_mark, spell_name, spell_literal, spell_dimension, spell_parameter, spell_cells, spell_array, spell_stmts, spell_declaration, spell_body, spell_procedure, spell_globals, spell_tree}
use Rattle.cse_logic_tree.specs.declared.tree.Owner.{Owner}
use Rattle.cse_logic_tree.specs.Typed.{Statements, Declaration, Numeric, Alpha, Array', Function', Body, Plain, Preproc, Both, Postproc, Procedure, Tree}
use Rattle.cse_logic_tree.specs.Erase.{erase_block, erase_array, erase_declaration, erase_body, erase_procedure, erase_tree}
use Rattle.cse_compile.specs.declared.outlines.RoutineSort.TheVariants as sorts
use Rattle.cse_compile.specs.Outline.{Outline, Handler, functions_in, is_idle, event_of, handler_of, handlers_of_body, handlers_in}
use Rattle.cse_logic_names.specs.MessageFile.{MessageText}
use Rattle.cse_logic_names.specs.Scope.{Scope}
use Rattle.cse_logic_names.specs.WellTyped.{AreStatements, AreDeclared, AreProcedures, IsBody, IsWell, all_declarations, typed_declarations, function_scope, with_function, procedure_scope, messages_of, declared_messages, procedure_messages, body_messages, tree_messages, first_scope, with_functions}
use Rattle.cse_compile.specs.Program.{declarations_in, declarations, handlers, outlines}
use Rattle.cse_logic_names.specs.Texts.{AreUtf8}
use Rattle.cse_meaning.proofs.Leaves.{BlockHolds}
use Rattle.cse_meaning.proofs.HeldBlocks.{EntryHolds, mark_rest, literal_rest, block_held, block_messages}

-- ---- what stands around statements

module _ {A : Type 0} (spell : Spells A) (one : (x : A) (rest : List Word) → AreUtf8 (spell x rest) → AreUtf8 rest) where
  each_rest : (xs : List A) (rest : List Word) → AreUtf8 (spell_each spell xs rest) → AreUtf8 rest
  each_rest [] rest w = w
  each_rest (x ∷ xs) rest w = each_rest xs rest (one x (spell_each spell xs rest) w.1)

  list_rest : (xs : List A) (rest : List Word) → AreUtf8 (spell_list spell xs rest) → AreUtf8 rest
  list_rest [] rest w = w
  list_rest (x ∷ xs) rest w = each_rest xs rest (one x (spell_each spell xs rest) w)

name_rest : (x : Spelling) (rest : List Word) → AreUtf8 (spell_name x rest) → AreUtf8 rest
name_rest x rest w = w.1

dimension_rest : (x : syntax.Dimension) (rest : List Word) → AreUtf8 (spell_dimension x rest) → AreUtf8 rest
dimension_rest (syntax.Sized digits) rest w = w.1
dimension_rest (syntax.Rows set true) rest w = w.1.1.1.1
dimension_rest (syntax.Rows set false) rest w = w.1

parameter_rest : (x : syntax.Parameter) (rest : List Word) → AreUtf8 (spell_parameter x rest) → AreUtf8 rest
parameter_rest x rest w = let r = mark_rest mark.Numeric x.declared (Name x.name ∷ rest) w in r.1

cells_rest : (xs : List syntax.Literal) (rest : List Word) → AreUtf8 (spell_cells xs rest) → AreUtf8 rest
cells_rest [] rest w = w
cells_rest (x ∷ xs) rest w = list_rest spell_literal literal_rest (x ∷ xs) rest w.1

array_rest : (x : syntax.Array) (rest : List Word) → AreUtf8 (spell_array x rest) → AreUtf8 rest
array_rest x rest w =
    let a = list_rest spell_dimension dimension_rest x.dimensions (Sign mark.Close ∷ spell_mark mark.Save x.saved (spell_cells x.cells rest)) w.1.1 in
    let b = mark_rest mark.Save x.saved (spell_cells x.cells rest) a.1 in
    cells_rest x.cells rest b

-- ---- functions

abbrev pub OutlineHolds : Outline → Type 0
OutlineHolds o = BlockHolds o.body

-- what holds of the routines, of the messages, and of the words behind
pub record AreHeld (os : List Outline) (ms : List (syntax.Message × Bool)) (words : List Word) : Type 0 where
  pub routines : AllByRecursion OutlineHolds os
  pub messages : AllByRecursion EntryHolds ms
  pub rest : AreUtf8 words

declarations_held : (c : Scope) (n : ℕ) (ds : List Declaration) (rest : List Word) → AreDeclared c n ds → Each (IsDeclaration 64) (map erase_declaration ds) → AreUtf8 (spell_all spell_declaration (map erase_declaration ds) rest) → AreHeld (functions_in ds) (declared_messages (map erase_declaration ds)) rest
declarations_held c n [] rest h g w = record { routines = tt; messages = tt; rest = w }
declarations_held c n (Numeric names ∷ ds) rest h g w =
    let a = list_rest spell_name name_rest names (Sign mark.Semicolon ∷ spell_all spell_declaration (map erase_declaration ds) rest) w.1 in
    declarations_held c n ds rest h g.1 a.1
declarations_held c n (Alpha digits size names ∷ ds) rest h g w =
    let a = list_rest spell_name name_rest names (Sign mark.Semicolon ∷ spell_all spell_declaration (map erase_declaration ds) rest) w.1.1.1.1 in
    declarations_held c n ds rest h.1 g.1 a.1
declarations_held c n (Array' array ∷ ds) rest h g w =
    let a = array_rest (erase_array array) (Sign mark.Semicolon ∷ spell_all spell_declaration (map erase_declaration ds) rest) w.1 in
    declarations_held c n ds rest h.2 g.1 a.1
declarations_held c n (Function' f ∷ ds) rest h g w =
    let a = list_rest spell_parameter parameter_rest f.parameters (Sign mark.Close ∷ spell_stmts (erase_block f.body) (Sign mark.End ∷ Sign mark.Semicolon ∷ spell_all spell_declaration (map erase_declaration ds) rest)) w.1.1.1 in
    let b = block_held (function_scope c (length c.functions) f.parameters) n f.body 64 (Sign mark.End ∷ Sign mark.Semicolon ∷ spell_all spell_declaration (map erase_declaration ds) rest) h.0.body g.0.2 a.1 in
    let r = declarations_held (with_function c f) (n + length (messages_of (erase_block f.body))) ds rest h.1 g.1 b.1.1.1 in
    record { routines = (b.0, r.routines); messages = AllByRecursion-append EntryHolds (messages_of (erase_block f.body)) (declared_messages (map erase_declaration ds)) (block_messages f.body b.0) r.messages; rest = r.rest }

-- ---- procedures

abbrev HandlerHolds : Handler → Type 0
HandlerHolds h = BlockHolds h.outline.body

record BodyHeld (hs : List Handler) (ms : List (syntax.Message × Bool)) (words : List Word) : Type 0 where
  routines : AllByRecursion HandlerHolds hs
  messages : AllByRecursion EntryHolds ms
  rest : AreUtf8 words

part_held : (owner : Owner) (after : Bool) (body : Statements) → BlockHolds body → AllByRecursion HandlerHolds (handler_of owner after body)
part_held owner after body h = by (is_idle body)
  where
    by : (idle : Bool) → AllByRecursion HandlerHolds (if idle then [] else record { event = event_of owner after; outline = record { sort = sorts.Procedure owner; body = body } } ∷ [])
    by true = tt
    by false = (h, tt)

one_part : (c : Scope) (n : ℕ) (owner : Owner) (after : Bool) (body : Statements) (rest : List Word) → AreStatements c n body → AreStmts (erase_block body) 64 → AreUtf8 (spell_stmts (erase_block body) rest) → BodyHeld (handler_of owner after body) (messages_of (erase_block body)) rest
one_part c n owner after body rest h g w =
    let b = block_held c n body 64 rest h g w in
    record { routines = part_held owner after body b.0; messages = block_messages body b.0; rest = b.1 }

body_held : (c : Scope) (n : ℕ) (owner : Owner) (body : Body) (rest : List Word) → IsBody c n body → IsBodyOf 64 (erase_body body) → AreUtf8 (spell_body (erase_body body) rest) → BodyHeld (handlers_of_body owner body) (body_messages (erase_body body)) rest
body_held c n owner (Plain xs) rest h g w = one_part c n owner true xs rest h g w
body_held c n owner (Preproc xs) rest h g w = one_part c n owner false xs rest h g w.1
body_held c n owner (Both xs ys) rest h g w =
    let a = one_part c n owner false xs (Sign mark.Postproc ∷ spell_stmts (erase_block ys) rest) h.0 g.0 w.1 in
    let b = one_part c (n + length (messages_of (erase_block xs))) owner true ys rest h.1 g.1 a.rest.1 in
    record {
      routines = AllByRecursion-append HandlerHolds (handler_of owner false xs) (handler_of owner true ys) a.routines b.routines;
      messages = AllByRecursion-append EntryHolds (messages_of (erase_block xs)) (messages_of (erase_block ys)) a.messages b.messages;
      rest = b.rest;
    }
body_held c n owner (Postproc xs) rest h g w = one_part c n owner true xs rest h g w.1

procedures_held : (c : Scope) (n : ℕ) (ps : List Procedure) (rest : List Word) → AreProcedures c n ps → Each (IsProcedure 64) (map erase_procedure ps) → AreUtf8 (spell_all spell_procedure (map erase_procedure ps) rest) → BodyHeld (handlers_in ps) (procedure_messages (map erase_procedure ps)) rest
procedures_held c n [] rest h g w = record { routines = tt; messages = tt; rest = w }
procedures_held c n (x ∷ ps) rest h g w =
    let a = body_held (procedure_scope c x.owner) n x.owner x.body (spell_all spell_procedure (map erase_procedure ps) rest) h.1 g.0.1 w.1.1 in
    let b = procedures_held c (n + length (body_messages (erase_body x.body))) ps rest h.2 g.1 a.rest in
    record {
      routines = AllByRecursion-append HandlerHolds (handlers_of_body x.owner x.body) (handlers_in ps) a.routines b.routines;
      messages = AllByRecursion-append EntryHolds (body_messages (erase_body x.body)) (procedure_messages (map erase_procedure ps)) a.messages b.messages;
      rest = b.rest;
    }

-- ---- sources

globals_held : (c : Scope) (o : Option (List Declaration)) (rest : List Word) → AreDeclared c 0 (typed_declarations o) → AreGlobals 64 (option_map (λ ds. map erase_declaration ds) o) → AreUtf8 (spell_globals (option_map (λ ds. map erase_declaration ds) o) rest)
    → AreHeld (functions_in (declarations_in o)) (declared_messages (all_declarations (option_map (λ ds. map erase_declaration ds) o))) rest
globals_held c None rest h g w = record { routines = tt; messages = tt; rest = w }
globals_held c (Some ds) rest h g w = declarations_held c 0 ds rest h g w.1.1

pub tree_held : (d : DictionaryText) (messages : List MessageText) (t : Tree) → IsWell d messages t → AreGlobals 64 (erase_tree t).globals → Each (IsProcedure 64) (erase_tree t).procedures → AreUtf8 (spell_tree (erase_tree t))
    → AreHeld (outlines t) (tree_messages (erase_tree t)) []
tree_held d messages t h g k w =
    let a = globals_held (first_scope d messages t) t.globals (spell_all spell_procedure (map erase_procedure t.procedures) []) h.declarations g w in
    let b = procedures_held (with_functions (first_scope d messages t) (typed_declarations t.globals)) (length (declared_messages (all_declarations (erase_tree t).globals))) t.procedures [] h.procedures k a.rest in
    record {
      routines = AllByRecursion-append OutlineHolds (functions_in (declarations t)) (map (λ (x : Handler). x.outline) (handlers t)) a.routines (AllByRecursion-map OutlineHolds (λ (x : Handler). x.outline) (handlers t) b.routines);
      messages = AllByRecursion-append EntryHolds (declared_messages (all_declarations (erase_tree t).globals)) (procedure_messages (erase_tree t).procedures) a.messages b.messages;
      rest = tt;
    }
