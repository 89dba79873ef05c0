-- The faults of names that are declared: of two that are one, the later is at fault.
use Rattle.std.specs.Prelude.{ℕ, Bool, ◌&&◌, ◌||◌, not, if◌then◌else◌, List, [], ◌∷◌, ◌++◌, map}
use Rattle.std.specs.List.{list_any}
use Rattle.std.specs.Str.{bytes_eq}
use Rattle.cse_dict.specs.Dictionary.{DictionaryText}
use Rattle.cse_dict.specs.Keys.{kept_name}
use Rattle.cse_syntax_tree.specs.Tree as syntax
use Rattle.cse_syntax_tree.specs.Tree.{Spelling}
use Rattle.cse_logic_faults.specs.Faults.{Fault, unless}
use Rattle.cse_types.specs.Names.{is_free}

-- one name more, unless it is there
abbrev pub and_name : List (List ℕ) → List ℕ → List (List ℕ)
and_name found x = if list_any (bytes_eq x) found then found else found ++ x ∷ []

abbrev pub and_names : List (List ℕ) → List (List ℕ) → List (List ℕ)
and_names found [] = found
and_names found (x ∷ xs) = and_names (and_name found x) xs

abbrev pub kept_names : List Spelling → List (List ℕ)
kept_names xs = map (λ (x : Spelling). kept_name x.text) xs

-- neither the dictionary nor one of these bears the name
abbrev pub is_untaken : DictionaryText → List (List ℕ) → List (List ℕ) → List ℕ → Bool
is_untaken d mine others name = is_free d name && not (list_any (bytes_eq name) mine || list_any (bytes_eq name) others)

abbrev pub name_faults : DictionaryText → List (List ℕ) → List (List ℕ) → Spelling → List Fault
name_faults d mine others x = unless (is_untaken d mine others (kept_name x.text)) 40 x.token

-- names, each of which is one more of the first list
abbrev pub new_names_faults : DictionaryText → List (List ℕ) → List (List ℕ) → List Spelling → List Fault
new_names_faults d mine others [] = []
new_names_faults d mine others (x ∷ xs) = name_faults d mine others x ++ new_names_faults d (and_name mine (kept_name x.text)) others xs

abbrev pub spelled : List syntax.Parameter → List Spelling
spelled ps = map (λ (p : syntax.Parameter). p.name) ps

-- The names of a declaration and of its parameters, behind such names and such parameters. Of two that are one, the later is at fault;
-- parameters of two functions may have one name.
abbrev pub declared_faults : DictionaryText → List (List ℕ) → List (List ℕ) → syntax.Declaration → List Fault
declared_faults d names parameters (syntax.Numeric xs) = new_names_faults d names parameters xs
declared_faults d names parameters (syntax.Alpha size xs) = new_names_faults d names parameters xs
declared_faults d names parameters (syntax.Array' x) = name_faults d names parameters x.name
declared_faults d names parameters (syntax.Function' name ps body) =
    name_faults d names parameters name ++ new_names_faults d [] (and_name names (kept_name name.text)) (spelled ps)

abbrev pub names_behind : List (List ℕ) → syntax.Declaration → List (List ℕ)
names_behind names (syntax.Numeric xs) = and_names names (kept_names xs)
names_behind names (syntax.Alpha size xs) = and_names names (kept_names xs)
names_behind names (syntax.Array' x) = and_name names (kept_name x.name.text)
names_behind names (syntax.Function' name ps body) = and_name names (kept_name name.text)

abbrev pub parameters_behind : List (List ℕ) → syntax.Declaration → List (List ℕ)
parameters_behind parameters (syntax.Numeric xs) = parameters
parameters_behind parameters (syntax.Alpha size xs) = parameters
parameters_behind parameters (syntax.Array' x) = parameters
parameters_behind parameters (syntax.Function' name ps body) = and_names parameters (kept_names (spelled ps))

abbrev pub names_faults : DictionaryText → List (List ℕ) → List (List ℕ) → List syntax.Declaration → List Fault
names_faults d names parameters [] = []
names_faults d names parameters (x ∷ xs) = declared_faults d names parameters x ++ names_faults d (names_behind names x) (parameters_behind parameters x) xs
