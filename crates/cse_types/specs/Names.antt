-- Names that are new: neither the dictionary nor what is declared has them, and each stands there once.
use Rattle.std.specs.Prelude.{ℕ, Bool, true, ◌&&◌, not, List, [], ◌∷◌, ◌++◌, map}
use Rattle.std.specs.List.{list_any}
use Rattle.std.specs.Map.{lookup}
use Rattle.std.specs.Str.{bytes_eq}
use Rattle.cse_dict.specs.Dictionary.{DictionaryText}
use Rattle.cse_dict.specs.Keys.{kept_name}
use Rattle.cse_syntax_tree.specs.Tree as syntax
use Rattle.cse_logic_names.specs.declared.meaning.Meaning.{Meaning}
use Rattle.cse_logic_names.specs.Scope.{in_dictionary}
use Rattle.cse_logic_names.specs.Walk.{is_there}

-- each passes the test, and is none of those before it
abbrev pub are_new : (List ℕ → Bool) → List (List ℕ) → List (List ℕ) → Bool
are_new test found [] = true
are_new test found (x ∷ xs) = (test x && not (list_any (bytes_eq x) found)) && are_new test (found ++ x ∷ []) xs

-- the dictionary has no such name
abbrev pub is_free : DictionaryText → List ℕ → Bool
is_free d name = not (is_there (in_dictionary d name))

-- no such name is in the dictionary, or declared
abbrev pub is_new : DictionaryText → List (List ℕ × Meaning) → List ℕ → Bool
is_new d declared name = is_free d name && not (is_there (lookup (bytes_eq name) declared))

abbrev pub names_of : List (List ℕ × Meaning) → List (List ℕ)
names_of declared = map (λ (x : List ℕ × Meaning). x.0) declared

abbrev pub owner_names : List syntax.Procedure → List (List ℕ)
owner_names ps = map (λ (p : syntax.Procedure). kept_name p.name.text) ps
