-- What a scope keeps where names come in.
use Rattle.std.proofs.Common.{◌≡◌, List, [], ◌∷◌, refl}
use Rattle.cse_logic_tree.specs.Typed.{Declaration, Numeric, Alpha, Array', Function'}
use Rattle.cse_logic_names.specs.Scope.{Scope}
use Rattle.cse_logic_names.specs.WellTyped.{with_function, with_functions}

-- functions change no dictionary
pub same_dictionary : (s : Scope) (ds : List Declaration) → (with_functions s ds).dictionary ≡ s.dictionary
same_dictionary s [] = refl
same_dictionary s (Numeric names ∷ ds) = same_dictionary s ds
same_dictionary s (Alpha digits size names ∷ ds) = same_dictionary s ds
same_dictionary s (Array' array ∷ ds) = same_dictionary s ds
same_dictionary s (Function' f ∷ ds) = same_dictionary (with_function s f) ds
