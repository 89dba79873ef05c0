-- The names of declarations that are taken one after the other: whether all are new, and that they are the declared ones then.
use Rattle.std.proofs.Common.{◌≡◌, ℕ, ◌+◌, Bool, true, false, List, [], ◌∷◌, ◌++◌, length, map, refl, sym, ap, ◌∙◌, append_assoc, arith}
use Rattle.std.specs.Prelude.{◌&&◌, not, if◌then◌else◌}
use Rattle.std.specs.List.{list_any}
use Rattle.std.specs.Map.{lookup}
use Rattle.std.specs.Str.{bytes_eq}
use Rattle.std.proofs.lemmas.Bool.{false≢true, and_parts, not-true}
use Rattle.std.proofs.lemmas.List.{append-nil, map_push}
use Rattle.cse_lemmas.proofs.Booleans.{and-true, and-false}
use Rattle.cse_dict.specs.Dictionary.{DictionaryText}
use Rattle.cse_dict.specs.Keys.{kept_name}
use Rattle.cse_syntax_tree.specs.Tree as syntax
use Rattle.cse_syntax_tree.specs.Tree.{Spelling, written}
use Rattle.cse_syntax_tree.specs.declared.tree.Lexeme.{Lexeme}
use Rattle.cse_syntax_tree.specs.declared.tree.Declaration as rust
use Rattle.cse_logic_names.specs.declared.meaning.Meaning.{Meaning}
use Rattle.cse_logic_names.specs.declared.meaning.Meaning.TheVariants as m
use Rattle.cse_types.specs.declared.table.Table.{Table}
use Rattle.cse_logic_names.specs.Scope.{declared_from, numbered_from}
use Rattle.cse_types.specs.Names.{are_new, is_free, is_new, names_of}
use Rattle.cse_types.specs.Fresh.{all_after}
use Rattle.cse_types.specs.Table.{with_name, with_global, with_declaration, global_meaning, no_table, table_of}
use Rattle.cse_logic_names.specs.Walk.{is_there}
use Rattle.cse_logic_names.proofs.NameLaws.{has_named}
use Rattle.cse_logic_names.proofs.Walks.{some_there}

abbrev Pair : Type 0
Pair = List ℕ × Meaning

-- the names so far, and whether each was new
abbrev Core : Type 0
Core = List Pair × Bool

abbrev core : Table → Core
core t = (t.names, t.is_sound)

abbrev next_if : Core → Pair → Bool → Core
next_if c x b = if b then (c.0 ++ x ∷ [], c.1) else (c.0, false)

abbrev step : DictionaryText → Core → Pair → Core
step d c x = next_if c x (is_new d c.0 x.0)

module _ (d : DictionaryText) where
  core_name : (t : Table) (name : List ℕ) (meaning : Meaning) → core (with_name d t name meaning) ≡ step d (core t) (name, meaning)
  core_name t name meaning = by (is_new d t.names name)
    where
      by : (b : Bool) → core (if b then record t { names = t.names ++ (name, meaning) ∷ [] } else record t { is_sound = false }) ≡ next_if (core t) (name, meaning) b
      by true = refl
      by false = refl

  -- the counts stay
  counts_name : (t : Table) (name : List ℕ) (meaning : Meaning) → ((with_name d t name meaning).globals ≡ t.globals) × ((with_name d t name meaning).arrays ≡ t.arrays) × ((with_name d t name meaning).functions ≡ t.functions)
  counts_name t name meaning = by (is_new d t.names name)
    where
      after : Bool → Table
      after b = if b then record t { names = t.names ++ (name, meaning) ∷ [] } else record t { is_sound = false }

      by : (b : Bool) → ((after b).globals ≡ t.globals) × ((after b).arrays ≡ t.arrays) × ((after b).functions ≡ t.functions)
      by true = (refl, refl, refl)
      by false = (refl, refl, refl)

  after_both : (c : Core) (xs ys : List Pair) → all_after (step d) c (xs ++ ys) ≡ all_after (step d) (all_after (step d) c xs) ys
  after_both c [] ys = refl
  after_both c (x ∷ xs) ys = after_both (step d c x) xs ys

  record AreGlobals (is_text : Bool) (t : Table) (names : List Spelling) : Type 0 where
    core_is : core (all_after (with_global d is_text) t names) ≡ all_after (step d) (core t) (numbered_from (global_meaning is_text) t.globals names)
    globals_is : (all_after (with_global d is_text) t names).globals ≡ t.globals + length names
    arrays_is : (all_after (with_global d is_text) t names).arrays ≡ t.arrays
    functions_is : (all_after (with_global d is_text) t names).functions ≡ t.functions

  are_globals : (is_text : Bool) (t : Table) (names : List Spelling) → AreGlobals is_text t names
  are_globals is_text t [] = record { core_is = refl; globals_is = omega arith; arrays_is = refl; functions_is = refl }
  are_globals is_text t (x ∷ xs) =
      let one = record t { globals = t.globals + 1 } in
      let name = kept_name x.text in
      let meaning = global_meaning is_text t.globals in
      let rest = are_globals is_text (with_name d one name meaning) xs in
      let counts = counts_name one name meaning in
      record {
        core_is = rest.core_is
            ∙ ap (λ c. all_after (step d) c (numbered_from (global_meaning is_text) (with_name d one name meaning).globals xs)) (core_name one name meaning)
            ∙ ap (λ n. all_after (step d) (step d (core t) (name, meaning)) (numbered_from (global_meaning is_text) n xs)) counts.0;
        globals_is = omega (arith, rest.globals_is, counts.0);
        arrays_is = rest.arrays_is ∙ counts.1;
        functions_is = rest.functions_is ∙ counts.2;
      }

  -- one name more, and the declarations behind it
  after_name : (t : Table) (name : List ℕ) (meaning : Meaning) (ds : List syntax.Declaration) (total : Core)
      → total ≡ all_after (step d) (core (with_name d t name meaning)) (declared_from (with_name d t name meaning).globals (with_name d t name meaning).arrays (with_name d t name meaning).functions ds)
      → total ≡ all_after (step d) (step d (core t) (name, meaning)) (declared_from t.globals t.arrays t.functions ds)
  after_name t name meaning ds total h =
      let next = with_name d t name meaning in
      let counts = counts_name t name meaning in
      h
      ∙ ap (λ n. all_after (step d) (core next) (declared_from n next.arrays next.functions ds)) counts.0
      ∙ ap (λ n. all_after (step d) (core next) (declared_from t.globals n next.functions ds)) counts.1
      ∙ ap (λ n. all_after (step d) (core next) (declared_from t.globals t.arrays n ds)) counts.2
      ∙ ap (λ c. all_after (step d) c (declared_from t.globals t.arrays t.functions ds)) (core_name t name meaning)

  after_globals : (is_text : Bool) (t : Table) (names : List Spelling) (ds : List syntax.Declaration) (total : Core)
      → total ≡ all_after (step d) (core (all_after (with_global d is_text) t names)) (declared_from (all_after (with_global d is_text) t names).globals (all_after (with_global d is_text) t names).arrays (all_after (with_global d is_text) t names).functions ds)
      → total ≡ all_after (step d) (core t) (numbered_from (global_meaning is_text) t.globals names ++ declared_from (t.globals + length names) t.arrays t.functions ds)
  after_globals is_text t names ds total h =
      let next = all_after (with_global d is_text) t names in
      let e = are_globals is_text t names in
      h
      ∙ ap (λ n. all_after (step d) (core next) (declared_from n next.arrays next.functions ds)) e.globals_is
      ∙ ap (λ n. all_after (step d) (core next) (declared_from (t.globals + length names) n next.functions ds)) e.arrays_is
      ∙ ap (λ n. all_after (step d) (core next) (declared_from (t.globals + length names) t.arrays n ds)) e.functions_is
      ∙ ap (λ c. all_after (step d) c (declared_from (t.globals + length names) t.arrays t.functions ds)) e.core_is
      ∙ sym (after_both (core t) (numbered_from (global_meaning is_text) t.globals names) (declared_from (t.globals + length names) t.arrays t.functions ds))

  core_is : (t : Table) (ds : List syntax.Declaration) → core (all_after (with_declaration d) t ds) ≡ all_after (step d) (core t) (declared_from t.globals t.arrays t.functions ds)
  core_is t [] = refl
  core_is t (syntax.Numeric names ∷ ds) = after_globals false t names ds _ (core_is (all_after (with_global d false) t names) ds)
  core_is t (syntax.Alpha digits names ∷ ds) = after_globals true t names ds _ (core_is (all_after (with_global d true) t names) ds)
  core_is t (syntax.Array' x ∷ ds) =
      let one = record t { arrays = t.arrays + 1 } in
      after_name one (kept_name x.name.text) (m.Array t.arrays) ds _ (core_is (with_name d one (kept_name x.name.text) (m.Array t.arrays)) ds)
  core_is t (syntax.Function' name parameters body ∷ ds) =
      let one = record t { functions = t.functions + 1 } in
      after_name one (kept_name name.text) (m.Function t.functions) ds _ (core_is (with_name d one (kept_name name.text) (m.Function t.functions)) ds)

  -- a name is new where it is free, and none of those found
  new_is : (names : List Pair) (name : List ℕ) → (is_free d name && not (list_any (bytes_eq name) (names_of names))) ≡ is_new d names name
  new_is names name = ap (λ b. is_free d name && not b) (has_named (λ k. k) (bytes_eq name) names ∙ some_there (lookup (bytes_eq name) names))

  record AreSound (c : Core) (xs : List Pair) : Type 0 where
    sound : (all_after (step d) c xs).1 ≡ (c.1 && are_new (is_free d) (names_of c.0) (names_of xs))
    names : (all_after (step d) c xs).1 ≡ true → (all_after (step d) c xs).0 ≡ c.0 ++ xs

  are_sound : (c : Core) (xs : List Pair) → AreSound c xs
  are_sound c [] = record { sound = sym (and-true c.1); names = λ h. sym (append-nil c.0) }
  are_sound c (x ∷ xs) = by (is_new d c.0 x.0) refl (λ z. are_sound z xs)
    where
      by : (b : Bool) → is_new d c.0 x.0 ≡ b → ((z : Core) → AreSound z xs) → AreSound c (x ∷ xs)
      by true e ih =
          let z : Core = (c.0 ++ x ∷ [], c.1) in
          let one : step d c x ≡ z = ap (next_if c x) e in
          let rest = ih z in
          record {
            sound = ap (λ (y : Core). (all_after (step d) y xs).1) one ∙ rest.sound
                ∙ ap (λ ns. c.1 && are_new (is_free d) ns (names_of xs)) (map_push (λ (p : Pair). p.0) c.0 x)
                ∙ ap (λ b. c.1 && (b && are_new (is_free d) (names_of c.0 ++ x.0 ∷ []) (names_of xs))) (sym (new_is c.0 x.0 ∙ e));
            names = λ h. ap (λ (y : Core). (all_after (step d) y xs).0) one ∙ rest.names (sym (ap (λ (y : Core). (all_after (step d) y xs).1) one) ∙ h) ∙ append_assoc c.0 (x ∷ []) xs;
          }
      by false e ih =
          let z : Core = (c.0, false) in
          let one : step d c x ≡ z = ap (next_if c x) e in
          let rest = ih z in
          record {
            sound = ap (λ (y : Core). (all_after (step d) y xs).1) one ∙ rest.sound ∙ sym (and-false c.1)
                ∙ ap (λ b. c.1 && (b && are_new (is_free d) (names_of c.0 ++ x.0 ∷ []) (names_of xs))) (sym (new_is c.0 x.0 ∙ e));
            names = λ h. absurd (false≢true (sym rest.sound ∙ sym (ap (λ (y : Core). (all_after (step d) y xs).1) one) ∙ h));
          }

  pub table_sound : (ds : List syntax.Declaration) → (table_of d ds).is_sound ≡ are_new (is_free d) [] (names_of (declared_from 0 0 0 ds))
  table_sound ds = ap (λ (c : Core). c.1) (core_is no_table ds) ∙ (are_sound ([], true) (declared_from 0 0 0 ds)).sound

  pub table_names : (ds : List syntax.Declaration) → (table_of d ds).is_sound ≡ true → (table_of d ds).names ≡ declared_from 0 0 0 ds
  table_names ds h =
      ap (λ (c : Core). c.0) (core_is no_table ds) ∙ (are_sound ([], true) (declared_from 0 0 0 ds)).names (sym (ap (λ (c : Core). c.1) (core_is no_table ds)) ∙ h)

-- ---- one name

pub new_gone : (d : DictionaryText) (names : List Pair) (name : List ℕ) (b : Bool) → b ≡ true → b ≡ is_new d names name → is_there (lookup (bytes_eq name) names) ≡ false
new_gone d names name b h e = not-true (is_there (lookup (bytes_eq name) names)) (and_parts (is_free d name) (not (is_there (lookup (bytes_eq name) names))) (sym e ∙ h)).1

-- ---- loops

abbrev pub with_written : DictionaryText → Bool → Table → Lexeme → Table
with_written d is_text t x = with_global d is_text t (written x)

abbrev pub with_parsed : DictionaryText → Table → rust.Declaration → Table
with_parsed d t x = with_declaration d t (syntax.declaration x)

pub written_after : (d : DictionaryText) (is_text : Bool) (t : Table) (xs : List Lexeme) → all_after (with_written d is_text) t xs ≡ all_after (with_global d is_text) t (map written xs)
written_after d is_text t [] = refl
written_after d is_text t (x ∷ xs) = written_after d is_text (with_global d is_text t (written x)) xs

pub parsed_after : (d : DictionaryText) (t : Table) (xs : List rust.Declaration) → all_after (with_parsed d) t xs ≡ all_after (with_declaration d) t (map syntax.declaration xs)
parsed_after d t [] = refl
parsed_after d t (x ∷ xs) = parsed_after d (with_declaration d t (syntax.declaration x)) xs
