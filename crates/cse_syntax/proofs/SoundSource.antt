-- Sources that are read are of the grammar, and their words are those that were read.
use Rattle.std.proofs.Common.{◌≡◌, ℕ, Bool, true, false, ◌&&◌, ◌==◌, List, [], ◌∷◌, length, drop, Some, None, refl, ap, subst, ◌∙◌, inl, inr}
use Rattle.std.proofs.lemmas.Bool.{eqb-true}
use Rattle.std.proofs.lemmas.List.{nil_from_length}
use Rattle.std.proofs.lemmas.Option.{same_Some}
use Rattle.cse_syntax_tree.specs.declared.token.Mark.TheVariants as m
use Rattle.cse_syntax_tree.specs.Word.{Word, Name, Digits, Quoted, Value, Leave, Sign, Stray}
use Rattle.cse_syntax_tree.specs.Tree.{Spelling, stmts, Literal, Sized, Rows, Numeric, Alpha, Array', Function', Plain, Preproc, Both, Postproc, Tree}
use Rattle.cse_syntax_tree.specs.Grammar.{is_name, is_within, MOST, IsName, IsParameter, spell_mark, spell_list, spell_all, spell_name, Each, IsSome, spell_literal, spell_dimension, spell_parameter, spell_cells, spell_array, spell_declaration, spell_body, spell_procedure, spell_globals, spell_tree, IsDimension, IsLiteral, IsArray, IsDeclaration, IsBody, IsProcedure, AreGlobals, IsSource}
use Rattle.cse_syntax.specs.Reading.{Parser, sees, after, expect, ends, take_name, name_before, take_number, loop, snoc, listed}
use Rattle.cse_syntax.specs.ReadingStmt.{literal, statements_at}
use Rattle.cse_syntax.specs.ReadingSource.{rows, dimension, parameter, parameters, cells, numeric, alpha, array, array_declaration, function, declaration, starts_declaration, declarations, globals, plain, postproc, preproc, body, procedure, procedures, source_at}
use Rattle.cse_syntax.proofs.Steps.{bind_some, if_some, test_some, sees_is, expect_is, ends_is, take_name_is, name_before_is, take_number_is, after_is_spelled}
use Rattle.cse_syntax.proofs.Sound.{Sound, SoundAfter, made, loop_sound, listed_sound, Each-snoc}
use Rattle.cse_syntax.proofs.SoundStmt.{spell_block, literal_sound, statements_at_sound}

names_sound : Sound (spell_list spell_name) (λ xs. IsSome xs × Each IsName xs) (listed take_name)
names_sound = listed_sound spell_name IsName take_name take_name_is

rows_sound : (set : Spelling) → IsName set → SoundAfter (λ r. Name set ∷ r) spell_dimension IsDimension (rows set)
unfolding rows
rows_sound set is ws x rest e =
    elim (if_some (sees m.Open ws) _ _ _ e) [
      | inl h ↦
          let a = bind_some (expect m.Plus (drop 1 ws)) _ _ h.1 in
          let b = bind_some (expect m.Close a.0) _ _ a.2 in
          made spell_dimension IsDimension (Name set ∷ ws) (Rows set true) x b.0 rest b.2
          (ap (λ (r : List Word). Name set ∷ r) (sees_is m.Open ws h.0 ∙ ap (λ (r : List Word). Sign m.Open ∷ r) (expect_is m.Plus (drop 1 ws) a.0 a.1 ∙ ap (λ (r : List Word). Sign m.Plus ∷ r) (expect_is m.Close a.0 b.0 b.1)))) is
      | inr h ↦ made spell_dimension IsDimension (Name set ∷ ws) (Rows set false) x ws rest h.1 refl is
    ]

dimension_sound : Sound spell_dimension IsDimension dimension
unfolding dimension
dimension_sound [] x rest e = absurd cc
dimension_sound (Name name ∷ ws) x rest e =
    elim (if_some (is_name name.text) _ _ _ e) [
      | inl h ↦ rows_sound name h.0 ws x rest h.1
      | inr h ↦ absurd cc
    ]
dimension_sound (Digits s ∷ ws) x rest e =
    let t = test_some (is_within 1 65535 s.text) (Sized s, ws) (x, rest) e in
    made spell_dimension IsDimension (Digits s ∷ ws) (Sized s) x ws rest t.1 refl t.0
dimension_sound (Quoted s ∷ ws) x rest e = absurd cc
dimension_sound (Value t s ∷ ws) x rest e = absurd cc
dimension_sound (Leave t s ∷ ws) x rest e = absurd cc
dimension_sound (Sign s ∷ ws) x rest e = absurd cc
dimension_sound (Stray ∷ ws) x rest e = absurd cc

parameter_sound : Sound spell_parameter IsParameter parameter
unfolding parameter
parameter_sound ws x rest e =
    let a = bind_some (take_name (after m.Numeric ws)) _ _ e in
    let name = take_name_is (after m.Numeric ws) a.0.0 a.0.1 a.1 in
    made spell_parameter IsParameter ws (record { declared = sees m.Numeric ws; name = a.0.0 }) x a.0.1 rest a.2
    (after_is_spelled m.Numeric ws ∙ ap (spell_mark m.Numeric (sees m.Numeric ws)) name.0) name.1

parameters_sound : Sound (spell_list spell_parameter) (Each IsParameter) parameters
unfolding parameters
parameters_sound ws x rest e =
    elim (if_some (sees m.Close ws) _ _ _ e) [
      | inl h ↦ made (spell_list spell_parameter) (Each IsParameter) ws [] x ws rest h.1 refl tt
      | inr h ↦ let y = listed_sound spell_parameter IsParameter parameter parameter_sound ws x rest h.1 in (y.0, y.1.1)
    ]

cells_are : (xs : List Literal) (rest : List Word) → IsSome xs → Sign m.Equals ∷ spell_list spell_literal xs rest ≡ spell_cells xs rest
cells_are [] rest h = absurd h
cells_are (y ∷ xs) rest h = refl

cells_sound : Sound spell_cells (Each IsLiteral) cells
unfolding cells
cells_sound ws x rest e =
    elim (if_some (sees m.Equals ws) _ _ _ e) [
      | inl h ↦
          let y = listed_sound spell_literal IsLiteral (literal MOST) (literal_sound MOST) (drop 1 ws) x rest h.1 in
          (sees_is m.Equals ws h.0 ∙ ap (λ (r : List Word). Sign m.Equals ∷ r) y.0 ∙ cells_are x rest y.1.0, y.1.1)
      | inr h ↦ made spell_cells (Each IsLiteral) ws [] x ws rest h.1 refl tt
    ]

array_sound : Sound spell_array IsArray array
unfolding array
array_sound ws x rest e =
    let a = bind_some (name_before m.Open ws) _ _ e in
    let c = bind_some (listed dimension a.0.1) _ _ a.2 in
    let d = bind_some (expect m.Close c.0.1) _ _ c.2 in
    let f = bind_some (cells (after m.Save d.0)) _ _ d.2 in
    let name = name_before_is m.Open ws a.0.0 a.0.1 a.1 in
    let dims = listed_sound spell_dimension IsDimension dimension dimension_sound a.0.1 c.0.0 c.0.1 c.1 in
    let list = cells_sound (after m.Save d.0) f.0.0 f.0.1 f.1 in
    let end = dims.0 ∙ ap (spell_list spell_dimension c.0.0) (expect_is m.Close c.0.1 d.0 d.1 ∙ ap (λ (r : List Word). Sign m.Close ∷ r) (after_is_spelled m.Save d.0 ∙ ap (spell_mark m.Save (sees m.Save d.0)) list.0)) in
    made spell_array IsArray ws (record { name = a.0.0; dimensions = c.0.0; saved = sees m.Save d.0; cells = f.0.0 }) x f.0.1 rest f.2
    (name.0 ∙ ap (λ (r : List Word). Name a.0.0 ∷ Sign m.Open ∷ r) end) (name.1, dims.1.0, dims.1.1, list.1)

module _ (room : ℕ) where
  numeric_sound : SoundAfter (λ r. Sign m.Numeric ∷ r) spell_declaration (IsDeclaration room) numeric
  unfolding numeric
  numeric_sound ws x rest e =
      let a = bind_some (listed take_name ws) _ _ e in
      let b = bind_some (expect m.Semicolon a.0.1) _ _ a.2 in
      let names = names_sound ws a.0.0 a.0.1 a.1 in
      made spell_declaration (IsDeclaration room) (Sign m.Numeric ∷ ws) (Numeric a.0.0) x b.0 rest b.2
      (ap (λ (r : List Word). Sign m.Numeric ∷ r) (names.0 ∙ ap (spell_list spell_name a.0.0) (expect_is m.Semicolon a.0.1 b.0 b.1))) names.1

  alpha_sound : SoundAfter (λ r. Sign m.Alpha ∷ r) spell_declaration (IsDeclaration room) alpha
  unfolding alpha
  alpha_sound ws x rest e =
      let a = bind_some (expect m.Open ws) _ _ e in
      let b = bind_some (take_number 1 255 a.0) _ _ a.2 in
      let c = bind_some (expect m.Close b.0.1) _ _ b.2 in
      let d = bind_some (listed take_name c.0) _ _ c.2 in
      let f = bind_some (expect m.Semicolon d.0.1) _ _ d.2 in
      let size = take_number_is 1 255 a.0 b.0.0 b.0.1 b.1 in
      let names = names_sound c.0 d.0.0 d.0.1 d.1 in
      let end = names.0 ∙ ap (spell_list spell_name d.0.0) (expect_is m.Semicolon d.0.1 f.0 f.1) in
      let mid = size.0 ∙ ap (λ (r : List Word). Digits b.0.0 ∷ r) (expect_is m.Close b.0.1 c.0 c.1 ∙ ap (λ (r : List Word). Sign m.Close ∷ r) end) in
      made spell_declaration (IsDeclaration room) (Sign m.Alpha ∷ ws) (Alpha b.0.0 d.0.0) x f.0 rest f.2
      (ap (λ (r : List Word). Sign m.Alpha ∷ r) (expect_is m.Open ws a.0 a.1 ∙ ap (λ (r : List Word). Sign m.Open ∷ r) mid)) (size.1, names.1.0, names.1.1)

  array_declaration_sound : SoundAfter (λ r. Sign m.Array ∷ r) spell_declaration (IsDeclaration room) array_declaration
  unfolding array_declaration
  array_declaration_sound ws x rest e =
      let a = bind_some (array ws) _ _ e in
      let b = bind_some (expect m.Semicolon a.0.1) _ _ a.2 in
      let y = array_sound ws a.0.0 a.0.1 a.1 in
      made spell_declaration (IsDeclaration room) (Sign m.Array ∷ ws) (Array' a.0.0) x b.0 rest b.2
      (ap (λ (r : List Word). Sign m.Array ∷ r) (y.0 ∙ ap (spell_array a.0.0) (expect_is m.Semicolon a.0.1 b.0 b.1))) y.1

  function_sound : SoundAfter (λ r. Sign m.Function ∷ r) spell_declaration (IsDeclaration room) (function room)
  unfolding function
  function_sound ws x rest e =
      let a = bind_some (name_before m.Open ws) _ _ e in
      let c = bind_some (parameters a.0.1) _ _ a.2 in
      let d = bind_some (expect m.Close c.0.1) _ _ c.2 in
      let f = bind_some (statements_at room d.0) _ _ d.2 in
      let h = bind_some (ends m.End f.0.1) _ _ f.2 in
      let name = name_before_is m.Open ws a.0.0 a.0.1 a.1 in
      let ps = parameters_sound a.0.1 c.0.0 c.0.1 c.1 in
      let block = statements_at_sound room d.0 f.0.0 f.0.1 f.1 in
      let end = block.0 ∙ ap (spell_block f.0.0) (ends_is m.End f.0.1 h.0 h.1) in
      let mid = ps.0 ∙ ap (spell_list spell_parameter c.0.0) (expect_is m.Close c.0.1 d.0 d.1 ∙ ap (λ (r : List Word). Sign m.Close ∷ r) end) in
      made spell_declaration (IsDeclaration room) (Sign m.Function ∷ ws) (Function' a.0.0 c.0.0 (stmts f.0.0)) x h.0 rest h.2
      (ap (λ (r : List Word). Sign m.Function ∷ r) (name.0 ∙ ap (λ (r : List Word). Name a.0.0 ∷ Sign m.Open ∷ r) mid)) (name.1, ps.1, block.1)

  declaration_sound : Sound spell_declaration (IsDeclaration room) (declaration room)
  unfolding declaration
  declaration_sound [] x rest e = absurd cc
  declaration_sound (Name s ∷ ws) x rest e = absurd cc
  declaration_sound (Digits s ∷ ws) x rest e = absurd cc
  declaration_sound (Quoted s ∷ ws) x rest e = absurd cc
  declaration_sound (Value t s ∷ ws) x rest e = absurd cc
  declaration_sound (Leave t s ∷ ws) x rest e = absurd cc
  declaration_sound (Stray ∷ ws) x rest e = absurd cc
  declaration_sound (Sign m.Numeric ∷ ws) x rest e = numeric_sound ws x rest e
  declaration_sound (Sign m.Alpha ∷ ws) x rest e = alpha_sound ws x rest e
  declaration_sound (Sign m.Array ∷ ws) x rest e = array_declaration_sound ws x rest e
  declaration_sound (Sign m.Function ∷ ws) x rest e = function_sound ws x rest e
  declaration_sound (Sign _ ∷ ws) x rest e = absurd cc

-- ---- one after the other

spell_all_snoc : {A : Type 0} (spell : A → List Word → List Word) (xs : List A) (x : A) (rest : List Word) → spell_all spell (snoc xs x) rest ≡ spell_all spell xs (spell x rest)
spell_all_snoc spell [] x rest = refl
spell_all_snoc spell (y ∷ xs) x rest = ap (spell y) (spell_all_snoc spell xs x rest)

module _ {A : Type 0} (starts : List Word → Bool) (spell : A → List Word → List Word) (P : A → Type 0) (item : Parser A) (item_sound : Sound spell P item) where
  all_sound : (n : ℕ) → Sound (spell_all spell) (Each P) (loop starts item snoc n [])
  all_sound n ws x rest e =
      loop_sound starts item snoc (spell_all spell) (Each P) spell P item_sound (λ xs y r h. spell_all_snoc spell xs y r) (λ xs y h i. Each-snoc P xs y h i) n [] ws x rest tt e

module _ (room : ℕ) where
  declarations_sound : Sound (spell_all spell_declaration) (Each (IsDeclaration room)) (declarations room)
  unfolding declarations
  declarations_sound ws x rest e = all_sound starts_declaration spell_declaration (IsDeclaration room) (declaration room) (declaration_sound room) (length ws) ws x rest e

  globals_sound : Sound spell_globals (AreGlobals room) (globals room)
  unfolding globals
  globals_sound ws x rest e =
      elim (if_some (sees m.Proc ws && sees m.Global (drop 1 ws)) _ _ _ e) [
        | inl h ↦
            let a = bind_some (expect m.Proc ws) _ _ h.1 in
            let b = bind_some (expect m.Global a.0) _ _ a.2 in
            let c = bind_some (declarations room b.0) _ _ b.2 in
            let y = declarations_sound b.0 c.0.0 c.0.1 c.1 in
            made spell_globals (AreGlobals room) ws (Some c.0.0) x c.0.1 rest c.2
            (expect_is m.Proc ws a.0 a.1 ∙ ap (λ (r : List Word). Sign m.Proc ∷ r) (expect_is m.Global a.0 b.0 b.1 ∙ ap (λ (r : List Word). Sign m.Global ∷ r) y.0)) y.1
        | inr h ↦ made spell_globals (AreGlobals room) ws None x ws rest h.1 refl tt
      ]

  plain_sound : Sound spell_body (IsBody room) (plain room)
  unfolding plain
  plain_sound ws x rest e =
      let a = bind_some (statements_at room ws) _ _ e in
      let block = statements_at_sound room ws a.0.0 a.0.1 a.1 in
      made spell_body (IsBody room) ws (Plain (stmts a.0.0)) x a.0.1 rest a.2 block.0 block.1

  postproc_sound : SoundAfter (λ r. Sign m.Postproc ∷ r) spell_body (IsBody room) (postproc room)
  unfolding postproc
  postproc_sound ws x rest e =
      let a = bind_some (statements_at room ws) _ _ e in
      let block = statements_at_sound room ws a.0.0 a.0.1 a.1 in
      made spell_body (IsBody room) (Sign m.Postproc ∷ ws) (Postproc (stmts a.0.0)) x a.0.1 rest a.2 (ap (λ (r : List Word). Sign m.Postproc ∷ r) block.0) block.1

  preproc_sound : SoundAfter (λ r. Sign m.Preproc ∷ r) spell_body (IsBody room) (preproc room)
  unfolding preproc
  preproc_sound ws x rest e =
      let a = bind_some (statements_at room ws) _ _ e in
      let block = statements_at_sound room ws a.0.0 a.0.1 a.1 in
      elim (if_some (sees m.Postproc a.0.1) _ _ _ a.2) [
        | inl h ↦
            let b = bind_some (statements_at room (drop 1 a.0.1)) _ _ h.1 in
            let last = statements_at_sound room (drop 1 a.0.1) b.0.0 b.0.1 b.1 in
            made spell_body (IsBody room) (Sign m.Preproc ∷ ws) (Both (stmts a.0.0) (stmts b.0.0)) x b.0.1 rest b.2
            (ap (λ (r : List Word). Sign m.Preproc ∷ r) (block.0 ∙ ap (spell_block a.0.0) (sees_is m.Postproc a.0.1 h.0 ∙ ap (λ (r : List Word). Sign m.Postproc ∷ r) last.0))) (block.1, last.1)
        | inr h ↦ made spell_body (IsBody room) (Sign m.Preproc ∷ ws) (Preproc (stmts a.0.0)) x a.0.1 rest h.1 (ap (λ (r : List Word). Sign m.Preproc ∷ r) block.0) block.1
      ]

  body_sound : Sound spell_body (IsBody room) (body room)
  unfolding body
  body_sound ws x rest e =
      elim (if_some (sees m.Preproc ws) _ _ _ e) [
        | inl h ↦ let y = preproc_sound (drop 1 ws) x rest h.1 in (sees_is m.Preproc ws h.0 ∙ y.0, y.1)
        | inr h ↦
            elim (if_some (sees m.Postproc ws) _ _ _ h.1) [
              | inl i ↦ let y = postproc_sound (drop 1 ws) x rest i.1 in (sees_is m.Postproc ws i.0 ∙ y.0, y.1)
              | inr i ↦ plain_sound ws x rest i.1
            ]
      ]

  procedure_sound : Sound spell_procedure (IsProcedure room) (procedure room)
  unfolding procedure
  procedure_sound ws x rest e =
      let a = bind_some (expect m.Proc ws) _ _ e in
      let b = bind_some (take_name a.0) _ _ a.2 in
      let c = bind_some (body room b.0.1) _ _ b.2 in
      let name = take_name_is a.0 b.0.0 b.0.1 b.1 in
      let y = body_sound b.0.1 c.0.0 c.0.1 c.1 in
      made spell_procedure (IsProcedure room) ws (record { name = b.0.0; body = c.0.0 }) x c.0.1 rest c.2
      (expect_is m.Proc ws a.0 a.1 ∙ ap (λ (r : List Word). Sign m.Proc ∷ r) (name.0 ∙ ap (λ (r : List Word). Name b.0.0 ∷ r) y.0)) (name.1, y.1)

  procedures_sound : Sound (spell_all spell_procedure) (Each (IsProcedure room)) (procedures room)
  unfolding procedures
  procedures_sound ws x rest e = all_sound (sees m.Proc) spell_procedure (IsProcedure room) (procedure room) procedure_sound (length ws) ws x rest e

-- what is read is a source
pub source_sound : (room : ℕ) (ws : List Word) (tree : Tree) → source_at room ws ≡ Some tree → IsSource room tree ws
unfolding source_at
source_sound room ws tree e =
    let a = bind_some (globals room ws) _ _ e in
    let b = bind_some (procedures room a.0.1) _ _ a.2 in
    let first = globals_sound room ws a.0.0 a.0.1 a.1 in
    let others = procedures_sound room a.0.1 b.0.0 b.0.1 b.1 in
    let t = test_some (length b.0.1 == 0) (record { globals = a.0.0; procedures = b.0.0 }) tree b.2 in
    let end : b.0.1 ≡ [] = nil_from_length b.0.1 (eqb-true _ _ t.0) in
    let words : ws ≡ spell_tree (record { globals = a.0.0; procedures = b.0.0 }) = first.0 ∙ ap (spell_globals a.0.0) (others.0 ∙ ap (spell_all spell_procedure b.0.0) end) in
    subst (λ (t : Tree). IsSource room t ws) (same_Some _ _ t.1) (first.1, others.1, words)
