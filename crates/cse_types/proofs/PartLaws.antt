-- A source's tree, from its names to the typed one: what the steps tell together.
use Rattle.std.proofs.Common.{◌≡◌, Bool, true, false, List, [], length, map, Option, Some, None, refl, sym, ap, ◌∙◌, option_map}
use Rattle.std.specs.Prelude.{◌&&◌, not}
use Rattle.std.proofs.lemmas.List.{length-map}
use Rattle.std.proofs.lemmas.Bool.{and_parts}
use Rattle.cse_dict.specs.Dictionary.{DictionaryText}
use Rattle.cse_syntax_tree.specs.Tree as syntax
use Rattle.cse_logic_tree.specs.Typed.{Declaration, Procedure, Tree}
use Rattle.cse_logic_names.specs.MessageFile.{MessageText}
use Rattle.cse_logic_names.specs.WellTyped.{all_declarations, declared_in, tree_messages, declared_messages}
use Rattle.cse_types.specs.JudgeTree.{typed_of, tree_of, start_scope, globals_judged, procedures_judged, behind_all}
use Rattle.cse_types.specs.Names.{are_new, is_free, names_of, owner_names}
use Rattle.cse_types.specs.Fresh.{fresh_names}
use Rattle.cse_types.specs.declared.told.Told.{Told}
use Rattle.cse_types.specs.Told.{told_of}
use Rattle.cse_logic_names.specs.Scope.{Scope}
use Rattle.cse_types.specs.Table.{table_of}
use Rattle.cse_types.specs.declared.table.Table.{Table}
use Rattle.cse_types.specs.TreeOver.{start_of, parts_of, parts_judged, tree_over, with_entries}
use Rattle.cse_logic_names.specs.Walk.{joined, only_if}
use Rattle.cse_types.proofs.FreshLaws.{fresh_sound}
use Rattle.cse_types.proofs.TableLaws.{table_sound, table_names}

module _ (d : DictionaryText) (messages : List MessageText) (x : syntax.Tree) where
  abbrev ds : List syntax.Declaration
  ds = all_declarations x.globals

  abbrev new_names : Bool
  new_names = are_new (is_free d) [] (names_of (declared_in x))

  abbrev new_owners : Bool
  new_owners = are_new (λ name. true) [] (owner_names x.procedures)

  as_entries : (g : Option (Option (List Declaration))) (ps : Option (List Procedure)) → joined (tree_of messages x) g ps ≡ option_map (with_entries messages (tree_messages x)) (joined parts_of g ps)
  as_entries None ps = refl
  as_entries (Some g) None = refl
  as_entries (Some g) (Some ps) = refl

  typed_is : typed_of d messages x ≡ only_if (new_names && new_owners) (option_map (with_entries messages (tree_messages x)) (parts_judged (start_scope d messages x) x))
  unfolding typed_of
  typed_is = ap (only_if (new_names && new_owners)) (as_entries (globals_judged (start_scope d messages x) x.globals) (procedures_judged (behind_all (start_scope d messages x) 0 ds) (length (declared_messages ds)) x.procedures))

  -- the same parts, where all names are new
  same_parts : new_names ≡ true → parts_judged (start_of d messages (table_of d ds).names ds) x ≡ parts_judged (start_scope d messages x) x
  same_parts h = ap (λ names. parts_judged (start_of d messages names ds) x) (table_names d ds (table_sound d ds ∙ h))

  abbrev AreApart : Bool → Type 0
  AreApart apart = apart ≡ (fresh_names (λ name. true) (owner_names x.procedures)).is_sound

  same_flags : (t : Table) (apart both : Bool) → t ≡ table_of d ds → AreApart apart → both ≡ (t.is_sound && apart) → both ≡ (new_names && new_owners)
  same_flags t apart both e f g =
      g ∙ ap (λ (z : Table). z.is_sound && apart) e ∙ ap (λ b. b && apart) (table_sound d ds)
      ∙ ap (λ b. new_names && b) (f ∙ fresh_sound (λ name. true) (owner_names x.procedures))

  -- the tree over the names that the table has, where each is new and each procedure has its own
  pub sound_value : (t : Table) (apart both : Bool) → t ≡ table_of d ds → AreApart apart → both ≡ (t.is_sound && apart) → both ≡ true → tree_over d messages t.names x ≡ typed_of d messages x
  sound_value t apart both e f g h =
      let all = sym (same_flags t apart both e f g) ∙ h in
      ap (option_map (with_entries messages (tree_messages x))) (ap (λ (z : Table). parts_judged (start_of d messages z.names ds) x) e ∙ same_parts (and_parts new_names new_owners all).0)
      ∙ ap (λ b. only_if b (option_map (with_entries messages (tree_messages x)) (parts_judged (start_scope d messages x) x))) (sym all)
      ∙ sym typed_is

  -- no tree, where a name is not new
  pub unsound_value : (t : Table) (apart both : Bool) → t ≡ table_of d ds → AreApart apart → both ≡ (t.is_sound && apart) → both ≡ false → None ≡ typed_of d messages x
  unsound_value t apart both e f g h =
      ap (λ b. only_if b (option_map (with_entries messages (tree_messages x)) (parts_judged (start_scope d messages x) x))) (sym (sym (same_flags t apart both e f g) ∙ h))
      ∙ sym typed_is

-- ---- the parts

told_length : (ts : List Told) (ms : List (syntax.Message × Bool)) → map told_of ts ≡ ms → length ts ≡ length ms
told_length ts ms e = sym (length-map ts told_of) ∙ ap length e

module _ (s mid : Scope) (x : syntax.Tree) (ts : List Told) (behind : mid ≡ behind_all s 0 (all_declarations x.globals)) (told : map told_of ts ≡ declared_messages (all_declarations x.globals)) where
  same_procedures : procedures_judged mid (length ts) x.procedures ≡ procedures_judged (behind_all s 0 (all_declarations x.globals)) (length (declared_messages (all_declarations x.globals))) x.procedures
  same_procedures = ap (λ z. procedures_judged z (length ts) x.procedures) behind ∙ ap (λ n. procedures_judged (behind_all s 0 (all_declarations x.globals)) n x.procedures) (told_length ts _ told)

  pub parts_value : (g : Option (Option (List Declaration))) (ps : Option (List Procedure)) → g ≡ globals_judged s x.globals → ps ≡ procedures_judged mid (length ts) x.procedures → joined parts_of g ps ≡ parts_judged s x
  parts_value g ps h k = ap (λ z. joined parts_of z ps) h ∙ ap (joined parts_of (globals_judged s x.globals)) (k ∙ same_procedures)
