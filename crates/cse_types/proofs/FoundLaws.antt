-- Faults of declarations that are found one after the other.
use Rattle.std.proofs.Common.{◌≡◌, ℕ, ◌+◌, List, ◌∷◌, ◌++◌, length, map, refl}
use Rattle.cse_syntax_tree.specs.Tree as syntax
use Rattle.cse_syntax_tree.specs.declared.tree.Declaration.{Declaration}
use Rattle.cse_logic_names.specs.Scope.{Scope}
use Rattle.cse_logic_faults.specs.Faults.{Fault, Counts}
use Rattle.cse_logic_faults.proofs.Lists.{turn_with}
use Rattle.cse_types.specs.declared.told.Told.{Told}
use Rattle.cse_types.specs.Told.{told_of}
use Rattle.cse_types.specs.JudgeTree.{behind, messages_past, messages_with}
use Rattle.cse_types.specs.PartFaults.{declaration_faults}
use Rattle.cse_types.specs.SourceFaults.{declarations_faults}
use Rattle.cse_types.proofs.FoundNames.{pair_is}
use Rattle.cse_types.proofs.DeclarationLaws.{told_past}

pub declarations_turn : (c : Counts) (here rest : List Declaration) (x : Declaration) → here ≡ x ∷ rest → (s s' : Scope) (ts ts' : List Told) (g g' total : List Fault) → g ++ declarations_faults c s (length ts) (map syntax.declaration here) ≡ total
    → s' ≡ behind s (length ts) (syntax.declaration x) → map told_of ts' ≡ map told_of ts ++ messages_with (syntax.declaration x) → g' ≡ g ++ declaration_faults c s (syntax.declaration x)
    → g' ++ declarations_faults c s' (length ts') (map syntax.declaration rest) ≡ total
declarations_turn c here rest x next s s' ts ts' g g' total inv e told found =
    turn_with (λ (p : Scope × ℕ) (x : Declaration). (behind p.0 p.1 (syntax.declaration x), messages_past p.1 (syntax.declaration x))) (λ (p : Scope × ℕ) (x : Declaration). declaration_faults c p.0 (syntax.declaration x))
    (λ (p : Scope × ℕ) (xs : List Declaration). declarations_faults c p.0 p.1 (map syntax.declaration xs)) (λ p x xs. refl) here rest x next (s, length ts) (s', length ts') g g' total inv (pair_is s' _ (length ts') _ e (told_past ts ts' (syntax.declaration x) told)) found
