-- A source is read.
use Rattle.std.proofs.Common.{◌≡◌, ℕ, zero, suc, ◌≤◌, Bool, true, false, List, [], ◌∷◌, ◌++◌, length, Option, Some, None, refl, arith, append_assoc}
use Rattle.std.proofs.lemmas.List.{append-nil}
use Rattle.cse_syntax_tree.specs.declared.token.Mark.TheVariants as m
use Rattle.cse_syntax_tree.specs.Word.{Word, Name, Sign}
use Rattle.cse_syntax_tree.specs.Tree.{Spelling, Stmts, no_stmt, stmt_and, Empty, Literal, Dimension, Sized, Rows, Parameter, Array, Declaration, Numeric, Alpha, Array', Function', Body, Plain, Preproc, Both, Postproc, Procedure, Tree}
use Rattle.cse_syntax_tree.specs.Grammar.{MOST, IsName, IsParameter, spell_mark, spell_each, spell_list, spell_all, spell_name, Each, IsSome, spell_stmts, AreStmts, spell_literal, spell_dimension, spell_parameter, spell_cells, spell_array, spell_declaration, spell_body, spell_procedure, spell_globals, IsDimension, IsLiteral, IsArray, IsDeclaration, IsBody, IsProcedure, AreGlobals, IsSource}
use Rattle.cse_syntax.specs.Reading.{Parser, sees, after, ends, take_name, name_before, loop, snoc, listed}
use Rattle.cse_syntax.specs.ReadingStmt.{literal, starts_stmt}
use Rattle.cse_syntax.specs.ReadingSource.{rows, dimension, parameter, parameters, cells, numeric, alpha, array, array_declaration, function, declaration, starts_declaration, declarations, globals, plain, postproc, preproc, body, procedure, procedures, source_at}
use Rattle.cse_syntax.proofs.Complete.{listed_reads}
use Rattle.cse_syntax.proofs.CompleteStmt.{literal_reads, longer_literal, longer_stmts, stmts-stmt_list, statements_at_read}

abbrev Any : {A : Type 0} → A → Type 0
Any x = Unit {0}

name_reads : (name : Spelling) (rest : List Word) → IsName name → take_name (Name name ∷ rest) ≡ Some (name, rest)
name_reads name rest h = rw h refl

names_read : (xs : List Spelling) (rest : List Word) → IsSome xs → Each IsName xs → sees m.Comma rest ≡ false → listed take_name (spell_list spell_name xs rest) ≡ Some (xs, rest)
names_read xs rest i h c = listed_reads spell_name IsName take_name Any (λ x rest h s. name_reads x rest h) (λ x rest. omega arith) (λ ws. tt) xs rest i h tt c

-- ---- dimensions, parameters and cells

abbrev NoOpen : List Word → Type 0
NoOpen rest = sees m.Open rest ≡ false

dimension_reads : (x : Dimension) (rest : List Word) → IsDimension x → NoOpen rest → dimension (spell_dimension x rest) ≡ Some (x, rest)
unfolding dimension rows
dimension_reads (Sized digits) rest h s = rw h refl
dimension_reads (Rows set true) rest h s = rw h refl
dimension_reads (Rows set false) rest h s = rw (h, s) refl

longer_dimension : (x : Dimension) (rest : List Word) → length rest ≤ length (spell_dimension x rest)
longer_dimension (Sized digits) rest = omega arith
longer_dimension (Rows set true) rest = omega arith
longer_dimension (Rows set false) rest = omega arith

dimensions_read : (xs : List Dimension) (rest : List Word) → IsSome xs → Each IsDimension xs → listed dimension (spell_list spell_dimension xs (Sign m.Close ∷ rest)) ≡ Some (xs, Sign m.Close ∷ rest)
dimensions_read xs rest i h = listed_reads spell_dimension IsDimension dimension NoOpen dimension_reads longer_dimension (λ ws. refl) xs (Sign m.Close ∷ rest) i h refl refl

parameter_reads : (x : Parameter) (rest : List Word) → IsParameter x → parameter (spell_parameter x rest) ≡ Some (x, rest)
unfolding parameter
parameter_reads x rest h =
    let by : (b : Bool) → parameter (spell_mark m.Numeric b (Name x.name ∷ rest)) ≡ Some (record { declared = b; name = x.name }, rest) = λ b. elim b as (λ b. parameter (spell_mark m.Numeric b (Name x.name ∷ rest)) ≡ Some (record { declared = b; name = x.name }, rest)) [
      | true ↦ rw h refl
      | false ↦ rw h refl
    ] in by x.declared

longer_name : (b : Bool) (name : Spelling) (rest : List Word) → length rest ≤ length (spell_mark m.Numeric b (Name name ∷ rest))
longer_name true name rest = omega arith
longer_name false name rest = omega arith

no_close : (b : Bool) (name : Spelling) (rest : List Word) → sees m.Close (spell_mark m.Numeric b (Name name ∷ rest)) ≡ false
no_close true name rest = refl
no_close false name rest = refl

parameters_read : (xs : List Parameter) (rest : List Word) → Each IsParameter xs → parameters (spell_list spell_parameter xs (Sign m.Close ∷ rest)) ≡ Some (xs, Sign m.Close ∷ rest)
unfolding parameters
parameters_read [] rest h = refl
parameters_read (x ∷ xs) rest h =
    let c = no_close x.declared x.name (spell_each spell_parameter xs (Sign m.Close ∷ rest)) in
    let go = listed_reads spell_parameter IsParameter parameter Any (λ x rest h s. parameter_reads x rest h) (λ x rest. longer_name x.declared x.name rest) (λ ws. tt) (x ∷ xs) (Sign m.Close ∷ rest) tt h tt refl in
    rw c go

cells_read : (xs : List Literal) (rest : List Word) → Each IsLiteral xs → cells (spell_cells xs (Sign m.Semicolon ∷ rest)) ≡ Some (xs, Sign m.Semicolon ∷ rest)
unfolding cells
cells_read [] rest h = refl
cells_read (x ∷ xs) rest h = listed_reads spell_literal IsLiteral (literal MOST) Any (λ x rest h s. literal_reads MOST x rest h) longer_literal (λ ws. tt) (x ∷ xs) (Sign m.Semicolon ∷ rest) tt h tt refl

no_save : (xs : List Literal) (rest : List Word) → sees m.Save (spell_cells xs (Sign m.Semicolon ∷ rest)) ≡ false
no_save [] rest = refl
no_save (x ∷ xs) rest = refl

saved_is : (b : Bool) (xs : List Literal) (rest : List Word) → sees m.Save (spell_mark m.Save b (spell_cells xs (Sign m.Semicolon ∷ rest))) ≡ b
saved_is true xs rest = refl
saved_is false xs rest = no_save xs rest

behind_save : (b : Bool) (xs : List Literal) (rest : List Word) → after m.Save (spell_mark m.Save b (spell_cells xs (Sign m.Semicolon ∷ rest))) ≡ spell_cells xs (Sign m.Semicolon ∷ rest)
behind_save true xs rest = refl
behind_save false xs rest = rw (no_save xs rest) refl

-- ---- declarations

array_reads : (x : Array) (rest : List Word) → IsArray x → array (spell_array x (Sign m.Semicolon ∷ rest)) ≡ Some (x, Sign m.Semicolon ∷ rest)
unfolding array name_before
array_reads x rest h =
    let dims = dimensions_read x.dimensions (spell_mark m.Save x.saved (spell_cells x.cells (Sign m.Semicolon ∷ rest))) h.1 h.2 in
    rw (h.0, dims, behind_save x.saved x.cells rest, saved_is x.saved x.cells rest, cells_read x.cells rest h.3) refl

module _ (room : ℕ) where
  function_reads : (name : Spelling) (ps : List Parameter) (xs : Stmts) (rest : List Word) → IsName name → Each IsParameter ps → AreStmts xs room
      → function room (Name name ∷ Sign m.Open ∷ spell_list spell_parameter ps (Sign m.Close ∷ spell_stmts xs (Sign m.End ∷ Sign m.Semicolon ∷ rest))) ≡ Some (Function' name ps xs, rest)
  unfolding function name_before ends
  function_reads name ps xs rest i k h =
      rw (i, parameters_read ps (spell_stmts xs (Sign m.End ∷ Sign m.Semicolon ∷ rest)) k, statements_at_read room xs (Sign m.End ∷ Sign m.Semicolon ∷ rest) h refl, stmts-stmt_list xs) refl

  declaration_reads : (x : Declaration) (rest : List Word) → IsDeclaration room x → declaration room (spell_declaration x rest) ≡ Some (x, rest)
  unfolding declaration numeric alpha array_declaration
  declaration_reads (Numeric names) rest h = rw (names_read names (Sign m.Semicolon ∷ rest) h.0 h.1 refl) refl
  declaration_reads (Alpha size names) rest h = rw (h.0, names_read names (Sign m.Semicolon ∷ rest) h.1 h.2 refl) refl
  declaration_reads (Array' x) rest h = rw (array_reads x rest h) refl
  declaration_reads (Function' name ps xs) rest h = function_reads name ps xs rest h.0 h.1 h.2

-- ---- one after the other

module _ {A : Type 0} (starts : List Word → Bool) (spell : A → List Word → List Word) (P : A → Type 0) (item : Parser A) (Stops : List Word → Type 0)
    (item_reads : (x : A) (rest : List Word) → P x → Stops rest → item (spell x rest) ≡ Some (x, rest)) (longer : (x : A) (rest : List Word) → suc (length rest) ≤ length (spell x rest))
    (starts_item : (x : A) (rest : List Word) → starts (spell x rest) ≡ true) (stops_item : (x : A) (rest : List Word) → Stops (spell x rest)) where
  stops_all : (xs : List A) (rest : List Word) → Stops rest → Stops (spell_all spell xs rest)
  stops_all [] rest s = s
  stops_all (x ∷ xs) rest s = stops_item x (spell_all spell xs rest)

  all_from : (xs : List A) (n : ℕ) (found : List A) (rest : List Word) → Each P xs → Stops rest → starts rest ≡ false → length (spell_all spell xs rest) ≤ n → loop starts item snoc n found (spell_all spell xs rest) ≡ Some (found ++ xs, rest)
  all_from [] zero found rest h s b le = rw append-nil refl
  all_from [] (suc n) found rest h s b le = rw (b, append-nil) refl
  all_from (x ∷ xs) zero found rest h s b le = absurd (omega (arith, longer x (spell_all spell xs rest)))
  all_from (x ∷ xs) (suc n) found rest h s b le =
      let one = item_reads x (spell_all spell xs rest) h.0 (stops_all xs rest s) in
      let go = all_from xs n (snoc found x) rest h.1 s b (omega (arith, longer x (spell_all spell xs rest))) in
      rw (starts_item x (spell_all spell xs rest), one, go) (rw append_assoc refl)

longer_names : (xs : List Spelling) (rest : List Word) → length rest ≤ length (spell_each spell_name xs rest)
longer_names [] rest = omega arith
longer_names (x ∷ xs) rest = omega (arith, longer_names xs rest)

longer_list : {A : Type 0} (spell : A → List Word → List Word) → ((x : A) (rest : List Word) → length rest ≤ length (spell x rest)) → (xs : List A) (rest : List Word) → length rest ≤ length (spell_each spell xs rest)
longer_list spell longer [] rest = omega arith
longer_list spell longer (x ∷ xs) rest = omega (arith, longer x (spell_each spell xs rest), longer_list spell longer xs rest)

longer_whole : {A : Type 0} (spell : A → List Word → List Word) → ((x : A) (rest : List Word) → length rest ≤ length (spell x rest)) → (xs : List A) (rest : List Word) → length rest ≤ length (spell_list spell xs rest)
longer_whole spell longer [] rest = omega arith
longer_whole spell longer (x ∷ xs) rest = omega (arith, longer x (spell_each spell xs rest), longer_list spell longer xs rest)

longer_save : (b : Bool) (rest : List Word) → length rest ≤ length (spell_mark m.Save b rest)
longer_save true rest = omega arith
longer_save false rest = omega arith

longer_cells : (xs : List Literal) (rest : List Word) → length rest ≤ length (spell_cells xs rest)
longer_cells [] rest = omega arith
longer_cells (x ∷ xs) rest = omega (arith, longer_whole spell_literal longer_literal (x ∷ xs) rest)

longer_declaration : (x : Declaration) (rest : List Word) → suc (length rest) ≤ length (spell_declaration x rest)
longer_declaration (Numeric names) rest = omega (arith, longer_whole spell_name (λ x rest. omega arith) names (Sign m.Semicolon ∷ rest))
longer_declaration (Alpha size names) rest = omega (arith, longer_whole spell_name (λ x rest. omega arith) names (Sign m.Semicolon ∷ rest))
longer_declaration (Array' x) rest =
    omega (arith, longer_whole spell_dimension longer_dimension x.dimensions (Sign m.Close ∷ spell_mark m.Save x.saved (spell_cells x.cells (Sign m.Semicolon ∷ rest))), longer_save x.saved (spell_cells x.cells (Sign m.Semicolon ∷ rest)), longer_cells x.cells (Sign m.Semicolon ∷ rest))
longer_declaration (Function' name ps xs) rest =
    omega (arith, longer_whole spell_parameter (λ x rest. longer_name x.declared x.name rest) ps (Sign m.Close ∷ spell_stmts xs (Sign m.End ∷ Sign m.Semicolon ∷ rest)), longer_stmts xs (Sign m.End ∷ Sign m.Semicolon ∷ rest))

starts_each : (x : Declaration) (rest : List Word) → starts_declaration (spell_declaration x rest) ≡ true
starts_each (Numeric names) rest = refl
starts_each (Alpha size names) rest = refl
starts_each (Array' x) rest = refl
starts_each (Function' name ps xs) rest = refl

declarations_read : (room : ℕ) (xs : List Declaration) (rest : List Word) → Each (IsDeclaration room) xs → starts_declaration rest ≡ false → declarations room (spell_all spell_declaration xs rest) ≡ Some (xs, rest)
unfolding declarations
declarations_read room xs rest h b =
    all_from starts_declaration spell_declaration (IsDeclaration room) (declaration room) Any (λ x rest h s. declaration_reads room x rest h) longer_declaration starts_each (λ x rest. tt) xs (length (spell_all spell_declaration xs rest)) [] rest h tt b (omega arith)

-- ---- procedures

-- what may stand behind a procedure
pub record Behind (rest : List Word) : Type 0 where
  pub no_statement : starts_stmt rest ≡ false
  pub no_preproc : sees m.Preproc rest ≡ false
  pub no_postproc : sees m.Postproc rest ≡ false

no_preproc_in : (xs : Stmts) (rest : List Word) → sees m.Preproc rest ≡ false → sees m.Preproc (spell_stmts xs rest) ≡ false
no_preproc_in no_stmt rest h = h
no_preproc_in (stmt_and Empty xs) rest h = refl
no_preproc_in (stmt_and x xs) rest h = refl

no_postproc_in : (xs : Stmts) (rest : List Word) → sees m.Postproc rest ≡ false → sees m.Postproc (spell_stmts xs rest) ≡ false
no_postproc_in no_stmt rest h = h
no_postproc_in (stmt_and Empty xs) rest h = refl
no_postproc_in (stmt_and x xs) rest h = refl

module _ (room : ℕ) where
  plain_reads : (xs : Stmts) (rest : List Word) → AreStmts xs room → Behind rest → plain room (spell_stmts xs rest) ≡ Some (Plain xs, rest)
  unfolding plain
  plain_reads xs rest h b = rw (statements_at_read room xs rest h b.no_statement, stmts-stmt_list xs) refl

  postproc_reads : (xs : Stmts) (rest : List Word) → AreStmts xs room → Behind rest → postproc room (spell_stmts xs rest) ≡ Some (Postproc xs, rest)
  unfolding postproc
  postproc_reads xs rest h b = rw (statements_at_read room xs rest h b.no_statement, stmts-stmt_list xs) refl

  preproc_reads : (xs : Stmts) (rest : List Word) → AreStmts xs room → Behind rest → preproc room (spell_stmts xs rest) ≡ Some (Preproc xs, rest)
  unfolding preproc
  preproc_reads xs rest h b = rw (statements_at_read room xs rest h b.no_statement, b.no_postproc, stmts-stmt_list xs) refl

  both_read : (xs ys : Stmts) (rest : List Word) → AreStmts xs room → AreStmts ys room → Behind rest → preproc room (spell_stmts xs (Sign m.Postproc ∷ spell_stmts ys rest)) ≡ Some (Both xs ys, rest)
  unfolding preproc
  both_read xs ys rest h i b = rw (statements_at_read room xs (Sign m.Postproc ∷ spell_stmts ys rest) h refl, statements_at_read room ys rest i b.no_statement, stmts-stmt_list xs, stmts-stmt_list ys) refl

  body_reads : (x : Body) (rest : List Word) → IsBody room x → Behind rest → body room (spell_body x rest) ≡ Some (x, rest)
  unfolding body
  body_reads (Plain xs) rest h b = rw (no_preproc_in xs rest b.no_preproc, no_postproc_in xs rest b.no_postproc) (plain_reads xs rest h b)
  body_reads (Preproc xs) rest h b = preproc_reads xs rest h b
  body_reads (Both xs ys) rest h b = both_read xs ys rest h.0 h.1 b
  body_reads (Postproc xs) rest h b = postproc_reads xs rest h b

  procedure_reads : (x : Procedure) (rest : List Word) → IsProcedure room x → Behind rest → procedure room (spell_procedure x rest) ≡ Some (x, rest)
  unfolding procedure
  procedure_reads x rest h b = rw (h.0, body_reads x.body rest h.1 b) refl

longer_body : (x : Body) (rest : List Word) → length rest ≤ length (spell_body x rest)
longer_body (Plain xs) rest = longer_stmts xs rest
longer_body (Preproc xs) rest = omega (arith, longer_stmts xs rest)
longer_body (Both xs ys) rest = omega (arith, longer_stmts xs (Sign m.Postproc ∷ spell_stmts ys rest), longer_stmts ys rest)
longer_body (Postproc xs) rest = omega (arith, longer_stmts xs rest)

longer_procedure : (x : Procedure) (rest : List Word) → suc (length rest) ≤ length (spell_procedure x rest)
longer_procedure x rest = omega (arith, longer_body x.body rest)

procedures_read : (room : ℕ) (xs : List Procedure) → Each (IsProcedure room) xs → procedures room (spell_all spell_procedure xs []) ≡ Some (xs, [])
unfolding procedures
procedures_read room xs h =
    let behind_each : (x : Procedure) (rest : List Word) → Behind (spell_procedure x rest) = λ x rest. record { no_statement = refl; no_preproc = refl; no_postproc = refl } in
    let end : Behind [] = record { no_statement = refl; no_preproc = refl; no_postproc = refl } in
    all_from (sees m.Proc) spell_procedure (IsProcedure room) (procedure room) Behind (procedure_reads room) longer_procedure (λ x rest. refl) behind_each xs (length (spell_all spell_procedure xs [])) [] [] h end refl (omega arith)

no_declaration : (xs : List Procedure) → starts_declaration (spell_all spell_procedure xs []) ≡ false
no_declaration [] = refl
no_declaration (x ∷ xs) = refl

globals_read : (room : ℕ) (x : Option (List Declaration)) (xs : List Procedure) → AreGlobals room x → globals room (spell_globals x (spell_all spell_procedure xs [])) ≡ Some (x, spell_all spell_procedure xs [])
unfolding globals
globals_read room None [] h = refl
globals_read room None (x ∷ xs) h = refl
globals_read room (Some ds) xs h = rw (declarations_read room ds (spell_all spell_procedure xs []) h (no_declaration xs)) refl

-- a source is read
pub source_reads : (room : ℕ) (tree : Tree) (ws : List Word) → IsSource room tree ws → source_at room ws ≡ Some tree
unfolding source_at
source_reads room tree ws h = rw (h.2, globals_read room tree.globals tree.procedures h.0, procedures_read room tree.procedures h.1) refl
