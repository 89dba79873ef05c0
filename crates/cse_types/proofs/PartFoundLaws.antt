-- Faults and counts that are found one after the other.
use Rattle.std.proofs.Common.{◌≡◌, ℕ, ◌+◌, ◌<◌, ◌≤◌, get_or, List, [], ◌∷◌, ◌++◌, length, map, drop, refl, ap, sym, ◌∙◌, append_assoc}
use Rattle.std.proofs.lemmas.List.{append-nil}
use Rattle.cse_dict.specs.Keys.{kept_name}
use Rattle.cse_syntax_tree.specs.Tree as syntax
use Rattle.cse_syntax_tree.specs.declared.tree.Declaration.{Declaration}
use Rattle.cse_syntax_tree.specs.declared.tree.Dimension.{Dimension}
use Rattle.cse_syntax_tree.specs.declared.tree.Literal.{Literal}
use Rattle.cse_syntax_tree.specs.declared.tree.Procedure.{Procedure}
use Rattle.cse_logic_names.specs.Scope.{Scope}
use Rattle.cse_logic_faults.specs.Faults.{Fault, Counts}
use Rattle.cse_logic_faults.proofs.Lists.{turn_with, state_turn}
use Rattle.cse_types.specs.PartFaults.{procedure_faults, procedures_faults, dimension_faults, dimensions_faults, cells_faults, parameters_in, dimensions_in}
use Rattle.cse_types.specs.NameFaults.{and_name}
use Rattle.cse_types.proofs.FoundNames.{next_in, state_end}
use Rattle.cse_types.specs.CountsBehind.{count_behind, counts_after}
use Rattle.cse_logic_faults.specs.FaultsOfStatements.{digits_faults}

-- ---- procedures

pub procedures_turn : (c : Counts) (s : Scope) (here rest : List Procedure) (x : Procedure) → here ≡ x ∷ rest → (b b' : List (List ℕ)) (g g' total : List Fault) → g ++ procedures_faults c s b (map syntax.procedure here) ≡ total
    → b' ≡ and_name b (kept_name x.name.text.now) → g' ≡ g ++ procedure_faults c s b (syntax.procedure x) → g' ++ procedures_faults c s b' (map syntax.procedure rest) ≡ total
procedures_turn c s = turn_with (λ b (x : Procedure). and_name b (kept_name x.name.text.now)) (λ b (x : Procedure). procedure_faults c s b (syntax.procedure x)) (λ b (xs : List Procedure). procedures_faults c s b (map syntax.procedure xs)) (λ b x xs. refl)

-- ---- arrays

pub dimensions_turn : (s : Scope) (copied items : List Dimension) → copied ≡ items → (i : ℕ) (x : Dimension) → i < length copied → (g g' total : List Fault) → g ++ dimensions_faults s (map syntax.dimension (drop i items)) ≡ total
    → g' ≡ g ++ dimension_faults s (syntax.dimension (get_or copied i x)) → g' ++ dimensions_faults s (map syntax.dimension (drop (i + 1) items)) ≡ total
dimensions_turn s copied items same i x lt g g' total inv e =
    turn_with (λ (u : ℕ) (y : Dimension). u) (λ (u : ℕ) (y : Dimension). dimension_faults s (syntax.dimension y)) (λ (u : ℕ) (ys : List Dimension). dimensions_faults s (map syntax.dimension ys)) (λ u y ys. refl)
    _ _ (get_or copied i x) (next_in copied items same i x lt) 0 0 g g' total inv refl e

pub cells_turn : (copied items : List Literal) → copied ≡ items → (i : ℕ) (x : Literal) → i < length copied → (g g' total : List Fault) → g ++ cells_faults (map syntax.literal (drop i items)) ≡ total
    → g' ≡ g ++ digits_faults (syntax.literal (get_or copied i x)).digits → g' ++ cells_faults (map syntax.literal (drop (i + 1) items)) ≡ total
cells_turn copied items same i x lt g g' total inv e =
    turn_with (λ (u : ℕ) (y : Literal). u) (λ (u : ℕ) (y : Literal). digits_faults (syntax.literal y).digits) (λ (u : ℕ) (ys : List Literal). cells_faults (map syntax.literal ys)) (λ u y ys. refl)
    _ _ (get_or copied i x) (next_in copied items same i x lt) 0 0 g g' total inv refl e

-- ---- counts

more_parameters : (x : syntax.Declaration) (ds : List syntax.Declaration) → parameters_in (x ∷ ds) ≡ parameters_in (x ∷ []) ++ parameters_in ds
more_parameters (syntax.Numeric names) ds = refl
more_parameters (syntax.Alpha size names) ds = refl
more_parameters (syntax.Array' x) ds = refl
more_parameters (syntax.Function' name ps body) ds = refl

more_dimensions : (x : syntax.Declaration) (ds : List syntax.Declaration) → dimensions_in (x ∷ ds) ≡ dimensions_in (x ∷ []) ++ dimensions_in ds
more_dimensions (syntax.Numeric names) ds = refl
more_dimensions (syntax.Alpha size names) ds = refl
more_dimensions (syntax.Array' x) ds = refl
more_dimensions (syntax.Function' name ps body) ds = refl

more_counts : (c : Counts) (x : syntax.Declaration) (ds : List syntax.Declaration) → counts_after c (x ∷ ds) ≡ counts_after (count_behind c x) ds
more_counts c x ds =
    ap (λ ps. record { parameters = c.parameters ++ ps; dimensions = c.dimensions ++ dimensions_in (x ∷ ds) }) (more_parameters x ds)
    ∙ ap (λ ps. record { parameters = ps; dimensions = c.dimensions ++ dimensions_in (x ∷ ds) }) (sym (append_assoc c.parameters (parameters_in (x ∷ [])) (parameters_in ds)))
    ∙ ap (λ ns. record { parameters = (c.parameters ++ parameters_in (x ∷ [])) ++ parameters_in ds; dimensions = c.dimensions ++ ns }) (more_dimensions x ds)
    ∙ ap (λ ns. record { parameters = (c.parameters ++ parameters_in (x ∷ [])) ++ parameters_in ds; dimensions = ns }) (sym (append_assoc c.dimensions (dimensions_in (x ∷ [])) (dimensions_in ds)))

pub counts_turn : (here rest : List Declaration) (x : Declaration) → here ≡ x ∷ rest → (c c' total : Counts) → counts_after c (map syntax.declaration here) ≡ total → c' ≡ count_behind c (syntax.declaration x) → counts_after c' (map syntax.declaration rest) ≡ total
counts_turn = state_turn (λ c (x : Declaration). count_behind c (syntax.declaration x)) (λ c (xs : List Declaration). counts_after c (map syntax.declaration xs)) (λ c x xs. more_counts c (syntax.declaration x) (map syntax.declaration xs))

none_more : (c : Counts) → counts_after c [] ≡ c
none_more c = ap (λ ps. record { parameters = ps; dimensions = c.dimensions ++ [] }) (append-nil c.parameters) ∙ ap (λ ns. record { parameters = c.parameters; dimensions = ns }) (append-nil c.dimensions)

pub counts_end : (items : List Declaration) (i : ℕ) → length items ≤ i → (c total : Counts) → counts_after c (map syntax.declaration (drop i items)) ≡ total → c ≡ total
counts_end = state_end (λ c (xs : List Declaration). counts_after c (map syntax.declaration xs)) none_more
