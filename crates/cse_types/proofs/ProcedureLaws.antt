-- Procedures that are judged one after the other: what a loop over them keeps.
use Rattle.std.proofs.Common.{◌≡◌, ℕ, ◌+◌, ◌<◌, List, ◌∷◌, ◌++◌, length, map, drop, get_or, Option, Some, None, refl, sym, ap, ◌∙◌, append_assoc, option_map}
use Rattle.std.specs.Prelude.{Bool, ◌&&◌, unwrap_or}
use Rattle.cse_lemmas.proofs.Lists.{drop_read}
use Rattle.cse_syntax_tree.specs.Tree as syntax
use Rattle.cse_syntax_tree.specs.declared.tree.Procedure as rust
use Rattle.cse_logic_tree.specs.declared.tree.Owner.{Owner}
use Rattle.cse_logic_tree.specs.declared.tree.Owner.TheVariants as o
use Rattle.cse_logic_tree.specs.Typed.{Body}
use Rattle.cse_types.specs.declared.told.Told.{Told}
use Rattle.cse_types.specs.Told.{told_of}
use Rattle.cse_logic_names.specs.Scope.{Scope}
use Rattle.cse_logic_names.specs.WellTyped.{body_messages, procedure_messages, procedure_scope}
use Rattle.cse_types.specs.JudgeTree.{body_judged, owned, procedure_judged, procedure_of, procedures_judged}
use Rattle.cse_logic_names.specs.Walk.{is_there, joined, so_far, found_more}
use Rattle.cse_logic_names.proofs.Walks.{turn_is, map_found, there_map}
use Rattle.cse_types.proofs.MadeLaws.{told_count}

module _ (items : List rust.Procedure) (i : ℕ) (x : rust.Procedure) (lt : i < length items) (is : x ≡ get_or items i x) where
  next : drop i items ≡ x ∷ drop (i + 1) items
  next = drop_read items i x lt is

  pub procedures_head : (s s' : Scope) (ts ts' : List Told) → s' ≡ s → map told_of ts' ≡ map told_of ts ++ body_messages (syntax.body_tree x.body)
      → procedures_judged s (length ts) (map syntax.procedure (drop i items)) ≡ joined (λ y ys. y ∷ ys) (procedure_judged s (length ts) (syntax.procedure x)) (procedures_judged s' (length ts') (map syntax.procedure (drop (i + 1) items)))
  procedures_head s s' ts ts' e t =
      ap (λ l. procedures_judged s (length ts) (map syntax.procedure l)) next
      ∙ ap (λ z. joined (λ y ys. y ∷ ys) (procedure_judged s (length ts) (syntax.procedure x)) (procedures_judged z (length ts + length (body_messages (syntax.body_tree x.body))) (map syntax.procedure (drop (i + 1) items)))) (sym e)
      ∙ ap (λ n. joined (λ y ys. y ∷ ys) (procedure_judged s (length ts) (syntax.procedure x)) (procedures_judged s' n (map syntax.procedure (drop (i + 1) items)))) (sym (told_count ts ts' (body_messages (syntax.body_tree x.body)) t))

  pub procedures_told : (ts ts' : List Told) (total : List (syntax.Message × Bool)) → map told_of ts' ≡ map told_of ts ++ body_messages (syntax.body_tree x.body) → map told_of ts ++ procedure_messages (map syntax.procedure (drop i items)) ≡ total
      → map told_of ts' ++ procedure_messages (map syntax.procedure (drop (i + 1) items)) ≡ total
  procedures_told ts ts' total t inv =
      ap (λ ms. ms ++ procedure_messages (map syntax.procedure (drop (i + 1) items))) t
      ∙ append_assoc (map told_of ts) (body_messages (syntax.body_tree x.body)) (procedure_messages (map syntax.procedure (drop (i + 1) items)))
      ∙ ap (λ l. map told_of ts ++ procedure_messages (map syntax.procedure l)) (sym next)
      ∙ inv

-- one member of a list more, where a call kept it
pub judged_turn : {R B : Type 0} (g : R → B) (b both there : Bool) (xs xs' : List R) (judged : Option B) (head rest all : Option (List B)) → so_far b (map g xs) head ≡ all → head ≡ joined (λ y ys. y ∷ ys) judged rest → map g xs' ≡ found_more (map g xs) judged
    → there ≡ is_there judged → both ≡ (b && there) → so_far both (map g xs') rest ≡ all
judged_turn g b both there xs xs' judged head rest all inv h k t j =
    ap (λ c. so_far c (map g xs') rest) (j ∙ ap (λ c. b && c) t)
    ∙ ap (λ l. so_far (b && is_there judged) l rest) k
    ∙ turn_is b (map g xs) judged rest
    ∙ ap (so_far b (map g xs)) (sym h)
    ∙ inv

-- what is kept of what is made
pub kept_made : {R B : Type 0} (g : R → B) (xs xs' : List R) (y : Option R) (judged : Option B) → xs' ≡ found_more xs y → option_map g y ≡ judged → map g xs' ≡ found_more (map g xs) judged
kept_made g xs xs' y judged k e = ap (map g) k ∙ map_found g xs y ∙ ap (found_more (map g xs)) e

pub made_there : {R B : Type 0} (g : R → B) (there : Bool) (y : Option R) (judged : Option B) → there ≡ is_there y → option_map g y ≡ judged → there ≡ is_there judged
made_there g there y judged t e = t ∙ sym (there_map g y) ∙ ap is_there e

-- a procedure of this owner, if it has one; else its body is judged as the level's
pub owned_is : (s : Scope) (n : ℕ) (x : syntax.Procedure) (owner : Option Owner) → joined (procedure_of x.name) owner (body_judged (procedure_scope s (unwrap_or owner o.Level)) n x.body) ≡ owned s n x owner
owned_is s n x None = refl
owned_is s n x (Some owner) = by (body_judged (procedure_scope s owner) n x.body)
  where
    by : (y : Option Body) → joined (procedure_of x.name) (Some owner) y ≡ option_map (procedure_of x.name owner) y
    by None = refl
    by (Some y) = refl
