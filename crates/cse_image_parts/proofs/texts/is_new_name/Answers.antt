use Rattle.std.proofs.Common.{◌≡◌, ℕ, Bool, not, List, [], ◌∷◌, map, ap, refl, ◌||◌}
use Rattle.std.specs.List.{list_any}
use Rattle.std.specs.Str.{bytes_eq}
use Rattle.std.specs.String.{string_bytes}
use Rattle.cse_image_parts.specs.declared.entries.Array.{Array}
use Rattle.cse_image_parts.specs.Image.{array_lists}
use Rattle.cse_image_parts.specs.Texts.{is_new}
use Rattle.cse_image_parts.proofs.texts.is_new_name.Goals as goal

same : (name : List ℕ) (xs : List Array) → list_any (λ x. bytes_eq (string_bytes x.name) name) xs ≡ list_any (λ x. bytes_eq x.name name) (map array_lists xs)
same name [] = refl
same name (x ∷ xs) = ap (λ (b : Bool). bytes_eq (string_bytes x.name) name || b) (same name xs)

pub returns : goal.returns
unfolding is_new
returns c = rw (c.is_name_among.ensures) (ap not (same c.args.name.now c.args.before.now))
