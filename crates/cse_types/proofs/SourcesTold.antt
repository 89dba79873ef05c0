-- A source's tree is judged to be sound exactly where it has no fault: its procedures, and the whole.
use Rattle.std.specs.Prelude.{Bool, true, false, ◌&&◌, not, ◌==◌, if◌then◌else◌, unwrap_or}
use Rattle.std.specs.List.{list_any}
use Rattle.std.specs.Str.{bytes_eq}
use Rattle.std.proofs.Common.{◌≡◌, ℕ, ◌+◌, List, [], ◌∷◌, ◌++◌, length, Option, Some, None, refl, sym, ap, ◌∙◌}
use Rattle.std.proofs.lemmas.Bool.{false≢true, and_parts, false_from_ne_true}
use Rattle.cse_lemmas.proofs.Booleans.{and-false, and_assoc, and-true}
use Rattle.cse_value.specs.declared.shape.ItemKind.{ItemKind}
use Rattle.cse_value.specs.declared.shape.ItemKind.TheVariants as kind
use Rattle.cse_dict.specs.Dictionary.{DictionaryText}
use Rattle.cse_dict.specs.Keys.{kept_name}
use Rattle.cse_syntax_tree.specs.Tree as syntax
use Rattle.cse_logic_tree.specs.declared.tree.Owner.{Owner}
use Rattle.cse_logic_tree.specs.declared.tree.Owner.TheVariants as o
use Rattle.cse_logic_tree.specs.Typed.{Declaration, Plain, Preproc, Both, Postproc, Procedure}
use Rattle.cse_logic_names.specs.declared.meaning.Meaning.{Meaning}
use Rattle.cse_logic_names.specs.declared.meaning.Meaning.TheVariants as m
use Rattle.cse_logic_names.specs.MessageFile.{MessageText}
use Rattle.cse_logic_names.specs.Scope.{Scope, in_dictionary, kind_and_owner}
use Rattle.cse_logic_names.specs.Walk.{is_there, joined}
use Rattle.cse_logic_names.specs.WellTyped.{owner_in, item_owner, owner_meant, body_messages, procedure_scope, all_declarations, declared_in, declared_messages, messages_of}
use Rattle.cse_logic_names.proofs.Walks.{there_map}
use Rattle.cse_logic_faults.specs.Faults.{Fault, unless, Counts, least_of}
use Rattle.cse_logic_faults.specs.FaultsOfStatements.{stmts_faults}
use Rattle.cse_logic_expressions.specs.JudgeStatement.{judge_block}
use Rattle.cse_types.specs.Counted.{IsCounted}
use Rattle.cse_types.proofs.Truths.{none, least_there, and_flip, and_pairs, none_both, none_unless, none_beside, there_if, there_both, told_both}
use Rattle.cse_types.proofs.Statements.{block_told}
use Rattle.cse_types.specs.JudgeTree.{arrays_judged, declarations_judged, behind_all, body_judged, procedure_of, owned, procedure_judged, procedures_judged, names_scope, start_scope, globals_judged, tree_of, typed_of}
use Rattle.cse_types.specs.Names.{are_new, is_free, names_of, owner_names}
use Rattle.cse_types.specs.TreeOver.{start_of}
use Rattle.cse_types.specs.SourceFaults.{declarations_faults, first_known, faults_of}
use Rattle.cse_types.specs.PartFaults.{may_own, own_item_faults, own_faults, owner_faults, body_faults, owner_or_level, procedure_faults, procedures_faults, counts_in}
use Rattle.cse_types.specs.NameFaults.{and_name, names_faults}
use Rattle.cse_types.proofs.TableLaws.{table_sound, table_names}
use Rattle.cse_types.proofs.TreeRight.{arrays_alone}
use Rattle.cse_types.proofs.NamesTold.{and_name_told, apart_of_none, names_in, declared_names, are_parameters, names_told}
use Rattle.cse_types.proofs.DeclarationsTold.{are_there, arrays_counted, arrays_sound, arrays_told, parameters_sound, IsReady, AreTold, declarations_told}

-- ---- procedures

module _ (c : Counts) where
  body_told : (s : Scope) → IsCounted c s → (n : ℕ) (x : syntax.Body) → is_there (body_judged s n x) ≡ none (body_faults c s x)
  body_told s k n (syntax.Plain xs) = there_map Plain (judge_block s n xs) ∙ block_told c s k n xs
  body_told s k n (syntax.Preproc xs) = there_map Preproc (judge_block s n xs) ∙ block_told c s k n xs
  body_told s k n (syntax.Both xs ys) =
      told_both Both (judge_block s n xs) (judge_block s (n + length (messages_of xs)) ys) (stmts_faults c s xs) (stmts_faults c s ys) (block_told c s k n xs) (block_told c s k (n + length (messages_of xs)) ys)
  body_told s k n (syntax.Postproc xs) = there_map Postproc (judge_block s n xs) ∙ block_told c s k n xs

  owner_in_told : (token item owner : ℕ) → is_there (owner_in item owner) ≡ none (unless (not (owner == 255)) 49 token)
  owner_in_told token item owner = by (owner == 255) ∙ sym (none_unless (not (owner == 255)) 49 token)
    where
      by : (b : Bool) → is_there (if b then None else Some (o.Item (record { owner = owner; item = item }))) ≡ not b
      by true = refl
      by false = refl

  item_owner_told : (token item : ℕ) (o : Option (ItemKind × ℕ)) → is_there (item_owner item o) ≡ none (own_item_faults token o)
  item_owner_told token item None = refl
  item_owner_told token item (Some (kind.Opaque, owner)) = refl
  item_owner_told token item (Some (kind.Number, owner)) = owner_in_told token item owner
  item_owner_told token item (Some (kind.Text, owner)) = owner_in_told token item owner

  owner_told : (d : DictionaryText) (token : ℕ) (o : Option Meaning) → is_there (owner_meant d o) ≡ (may_own o && none (own_faults d token o))
  owner_told d token None = refl
  owner_told d token (Some (m.Variable x)) = refl
  owner_told d token (Some (m.Text g)) = refl
  owner_told d token (Some (m.Array a)) = refl
  owner_told d token (Some (m.Function k)) = refl
  owner_told d token (Some (m.Record x)) = refl
  owner_told d token (Some (m.Item item)) = item_owner_told token item (kind_and_owner d item)
  owner_told d token (Some (m.Set x)) = refl
  owner_told d token (Some m.Application) = refl
  owner_told d token (Some m.Level) = refl

  owned_told : (s : Scope) → IsCounted c s → (n : ℕ) (x : syntax.Procedure) (found : Option Owner) → is_there (owned s n x found) ≡ (is_there found && none (body_faults c (procedure_scope s (unwrap_or found o.Level)) x.body))
  owned_told s k n x None = refl
  owned_told s k n x (Some owner) =
      there_map (procedure_of x.name owner) (body_judged (procedure_scope s owner) n x.body)
      ∙ body_told (procedure_scope s owner) (record { arrays = k.arrays; functions = k.functions }) n x.body

  procedure_order : (may own body new : Bool) → (((may && own) && body) && new) ≡ (((may && new) && own) && body)
  procedure_order may own body new =
      and_assoc (may && own) body new ∙ ap (λ b. (may && own) && b) (and_flip body new) ∙ sym (and_assoc (may && own) new body)
      ∙ ap (λ b. b && body) (and_assoc may own new ∙ ap (λ b. may && b) (and_flip own new) ∙ sym (and_assoc may new own))

  -- a procedure whose name stands once
  procedure_told : (s : Scope) → IsCounted c s → (n : ℕ) (before : List (List ℕ)) (x : syntax.Procedure)
      → (is_there (procedure_judged s n x) && not (list_any (bytes_eq (kept_name x.name.text)) before)) ≡ none (procedure_faults c s before x)
  procedure_told s k n before x =
      let meaning = in_dictionary s.dictionary x.name.text in
      let new = not (list_any (bytes_eq (kept_name x.name.text)) before) in
      let own = own_faults s.dictionary x.name.token meaning in
      let body = body_faults c (procedure_scope s (owner_or_level s.dictionary meaning)) x.body in
      ap (λ b. b && new) (owned_told s k n x (owner_meant s.dictionary meaning) ∙ ap (λ b. b && none body) (owner_told s.dictionary x.name.token meaning))
      ∙ procedure_order (may_own meaning) (none own) (none body) new
      ∙ ap (λ b. b && none body) (sym (none_beside (may_own meaning && new) 40 x.name.token own))
      ∙ sym (none_both (owner_faults s.dictionary before x.name meaning) body)

  procedures_told : (s : Scope) → IsCounted c s → (n : ℕ) (before : List (List ℕ)) (xs : List syntax.Procedure)
      → (is_there (procedures_judged s n xs) && are_new (λ name. true) before (owner_names xs)) ≡ none (procedures_faults c s before xs)
  procedures_told s k n before [] = refl
  procedures_told s k n before (x ∷ xs) =
      let name = kept_name x.name.text in
      let next = n + length (body_messages x.body) in
      let first = procedure_judged s n x in
      let rest = procedures_judged s next xs in
      let new = not (list_any (bytes_eq name) before) in
      let others = are_new (λ name. true) (before ++ name ∷ []) (owner_names xs) in
      ap (λ b. b && (new && others)) (there_both (λ y ys. y ∷ ys) first rest)
      ∙ and_pairs (is_there first) (is_there rest) new others
      ∙ ap (λ b. (is_there first && new) && b) (procedures_told s k next (before ++ name ∷ []) xs)
      ∙ sym (and_name_told (λ l. none (procedures_faults c s l xs)) before name (is_there first && new) (λ h. (and_parts (is_there first) new h).1))
      ∙ ap (λ b. b && none (procedures_faults c s (and_name before name) xs)) (procedure_told s k n before x)
      ∙ sym (none_both (procedure_faults c s before x) (procedures_faults c s (and_name before name) xs))

-- ---- sources

module _ (d : DictionaryText) (messages : List MessageText) (x : syntax.Tree) where
  abbrev ds : List syntax.Declaration
  ds = all_declarations x.globals

  abbrev counts : Counts
  counts = counts_in ds

  abbrev first : Scope
  first = start_scope d messages x

  abbrev new_names : Bool
  new_names = are_new (is_free d) [] (names_of (declared_in x))

  abbrev new_owners : Bool
  new_owners = are_new (λ name. true) [] (owner_names x.procedures)

  abbrev new_parameters : Bool
  new_parameters = are_parameters d (names_of (declared_in x)) ds

  abbrev declared : Option (List Declaration)
  declared = declarations_judged first 0 ds

  abbrev procedures : Option (List Procedure)
  procedures = procedures_judged (behind_all first 0 ds) (length (declared_messages ds)) x.procedures

  abbrev faults_declared : List Fault
  faults_declared = declarations_faults counts first 0 ds

  abbrev faults_behind : List Fault
  faults_behind = procedures_faults counts (behind_all first 0 ds) [] x.procedures

  globals_there : (g : Option (List syntax.Declaration)) → is_there (globals_judged first g) ≡ is_there (declarations_judged first 0 (all_declarations g))
  globals_there None = refl
  globals_there (Some ds) = there_map _ (declarations_judged first 0 ds)

  typed_there : is_there (typed_of d messages x) ≡ ((new_names && new_owners) && (is_there declared && is_there procedures))
  unfolding typed_of
  typed_there =
      there_if (new_names && new_owners) (joined (tree_of messages x) (globals_judged first x.globals) procedures)
      ∙ ap (λ b. (new_names && new_owners) && b) (there_both (tree_of messages x) (globals_judged first x.globals) procedures ∙ ap (λ b. b && is_there procedures) (globals_there x.globals))

  names_are_told : none (names_faults d [] [] ds) ≡ (new_names && new_parameters)
  names_are_told =
      let names = names_in ds in
      names_told d [] [] names ds refl
      ∙ ap (λ b. b && are_parameters d names ds) (ap (λ b. are_new (is_free d) [] names && b) (apart_of_none names) ∙ and-true (are_new (is_free d) [] names))
      ∙ ap (λ l. are_new (is_free d) [] l && are_parameters d l ds) (sym (declared_names 0 0 0 ds))

  -- where the names are new, each means what is declared
  scope_is : new_names ≡ true → first_known d messages ds ≡ first
  scope_is h = ap (λ names. start_of d messages names ds) (table_names d ds (table_sound d ds ∙ h))

  is_ready : new_parameters ≡ true → are_there (arrays_judged first ds) ≡ true → IsReady counts first ds
  is_ready h k =
      let names = names_scope d messages x in
      record {
        parameters = h;
        arrays = arrays_counted names ds (sym (ap are_there (arrays_alone names (arrays_judged names ds) [] ds)) ∙ k);
        functions = refl;
      }

  unsound : is_there declared ≡ false → (new_owners && (is_there declared && is_there procedures)) ≡ false
  unsound h = ap (λ b. new_owners && (b && is_there procedures)) h ∙ and-false new_owners

  none_behind : (b : Bool) → none faults_declared ≡ b → (b && none faults_behind) ≡ (none faults_declared && none faults_behind)
  none_behind b h = ap (λ t. t && none faults_behind) (sym h)

  declared_told : IsReady counts first ds → (new_owners && (is_there declared && is_there procedures)) ≡ (none faults_declared && none faults_behind)
  declared_told ready = by (is_there declared) refl
    where
      all : AreTold counts first 0 ds
      all = declarations_told counts first 0 ds ready

      by : (b : Bool) → is_there declared ≡ b → (new_owners && (is_there declared && is_there procedures)) ≡ (none faults_declared && none faults_behind)
      by false h = unsound h ∙ none_behind false (sym all.told ∙ h)
      by true h =
          ap (λ b. new_owners && (b && is_there procedures)) h
          ∙ and_flip new_owners (is_there procedures)
          ∙ procedures_told counts (behind_all first 0 ds) (all.counted h) (length (declared_messages ds)) [] x.procedures
          ∙ none_behind true (sym all.told ∙ h)

  parts_told : (new_owners && (is_there declared && is_there procedures)) ≡ (new_parameters && (none faults_declared && none faults_behind))
  parts_told = by new_parameters (are_there (arrays_judged first ds)) refl refl
    where
      by : (p a : Bool) → new_parameters ≡ p → are_there (arrays_judged first ds) ≡ a → (new_owners && (is_there declared && is_there procedures)) ≡ (p && (none faults_declared && none faults_behind))
      by false a h k = unsound (false_from_ne_true (is_there declared) (λ t. false≢true (sym h ∙ parameters_sound first 0 ds t)))
      by true false h k =
          unsound (false_from_ne_true (is_there declared) (λ t. false≢true (sym k ∙ arrays_sound first 0 ds t)))
          ∙ none_behind false (false_from_ne_true (none faults_declared) (λ t. false≢true (sym k ∙ arrays_told counts first 0 ds t)))
      by true true h k = declared_told (is_ready h k)

  pub source_told : is_there (typed_of d messages x) ≡ none (faults_of d messages x)
  unfolding faults_of
  source_told = typed_there ∙ by new_names refl
    where
      rest : Scope → List Fault
      rest s = declarations_faults counts s 0 ds ++ procedures_faults counts (behind_all s 0 ds) [] x.procedures

      names : (b : Bool) → new_names ≡ b → none (names_faults d [] [] ds ++ rest (first_known d messages ds)) ≡ ((b && new_parameters) && none (rest (first_known d messages ds)))
      names b h =
          none_both (names_faults d [] [] ds) (rest (first_known d messages ds)) ∙ ap (λ t. t && none (rest (first_known d messages ds))) (names_are_told ∙ ap (λ t. t && new_parameters) h)

      by : (b : Bool) → new_names ≡ b → ((b && new_owners) && (is_there declared && is_there procedures)) ≡ none (names_faults d [] [] ds ++ rest (first_known d messages ds))
      by false h = sym (names false h)
      by true h =
          parts_told
          ∙ ap (λ t. new_parameters && t) (sym (none_both faults_declared faults_behind) ∙ ap (λ s. none (rest s)) (sym (scope_is h)))
          ∙ sym (names true h)

  -- a fault is told exactly where the tree is not sound
  pub least_told : is_there (least_of (faults_of d messages x)) ≡ not (is_there (typed_of d messages x))
  least_told = least_there (faults_of d messages x) ∙ ap not (sym source_told)

  -- where a tree is not sound, a fault is told
  pub never_none : is_there (typed_of d messages x) ≡ false → least_of (faults_of d messages x) ≡ None → ⊥
  never_none unsound none = false≢true (sym (ap is_there none) ∙ least_told ∙ ap not unsound)
