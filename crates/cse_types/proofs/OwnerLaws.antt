-- The names of procedures, which are taken one after the other.
use Rattle.std.proofs.Common.{◌≡◌, List, [], ◌∷◌, map, refl, true}
use Rattle.cse_dict.specs.Keys.{kept_name}
use Rattle.cse_syntax_tree.specs.Tree as syntax
use Rattle.cse_syntax_tree.specs.declared.tree.Procedure.{Procedure}
use Rattle.cse_types.specs.declared.fresh.Fresh.{Fresh}
use Rattle.cse_types.specs.Fresh.{all_after, with_fresh}
use Rattle.cse_types.specs.Names.{owner_names}

abbrev pub with_owner : Fresh → Procedure → Fresh
with_owner s x = with_fresh (λ name. true) s (kept_name x.name.text.now)

pub owners_after : (s : Fresh) (xs : List Procedure) → all_after with_owner s xs ≡ all_after (with_fresh (λ name. true)) s (owner_names (map syntax.procedure xs))
owners_after s [] = refl
owners_after s (x ∷ xs) = owners_after (with_owner s x) xs
