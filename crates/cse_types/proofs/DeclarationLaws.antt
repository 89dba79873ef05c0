-- Declarations that are judged one after the other: what a loop over them keeps.
use Rattle.std.proofs.Common.{◌≡◌, ℕ, ◌+◌, ◌<◌, Bool, List, ◌∷◌, ◌++◌, length, map, drop, get_or, refl, sym, ap, ◌∙◌, arith, append_assoc}
use Rattle.cse_lemmas.proofs.Lists.{drop_read}
use Rattle.cse_syntax_tree.specs.Tree as syntax
use Rattle.cse_syntax_tree.specs.declared.tree.Declaration as rust
use Rattle.cse_types.specs.declared.told.Told.{Told}
use Rattle.cse_types.specs.Told.{told_of}
use Rattle.cse_logic_names.specs.Scope.{Scope}
use Rattle.cse_logic_names.specs.WellTyped.{declared_messages}
use Rattle.cse_types.specs.JudgeTree.{declaration_judged, behind, messages_with, messages_past, declarations_judged, behind_all}
use Rattle.cse_logic_names.specs.Walk.{joined}
use Rattle.cse_types.proofs.MadeLaws.{told_count}

past_with : (n : ℕ) (d : syntax.Declaration) → n + length (messages_with d) ≡ messages_past n d
past_with n (syntax.Numeric names) = omega arith
past_with n (syntax.Alpha digits names) = omega arith
past_with n (syntax.Array' x) = omega arith
past_with n (syntax.Function' name parameters body) = refl

pub told_past : (ts ts' : List Told) (d : syntax.Declaration) → map told_of ts' ≡ map told_of ts ++ messages_with d → length ts' ≡ messages_past (length ts) d
told_past ts ts' d e = told_count ts ts' (messages_with d) e ∙ past_with (length ts) d

module _ (items : List rust.Declaration) (i : ℕ) (x : rust.Declaration) (lt : i < length items) (is : x ≡ get_or items i x) where
  d : syntax.Declaration
  d = syntax.declaration x

  next : drop i items ≡ x ∷ drop (i + 1) items
  next = drop_read items i x lt is

  pub declarations_head : (s s' : Scope) (ts ts' : List Told) → s' ≡ behind s (length ts) (syntax.declaration x) → map told_of ts' ≡ map told_of ts ++ messages_with (syntax.declaration x)
      → declarations_judged s (length ts) (map syntax.declaration (drop i items)) ≡ joined (λ y ys. y ∷ ys) (declaration_judged s (length ts) (syntax.declaration x)) (declarations_judged s' (length ts') (map syntax.declaration (drop (i + 1) items)))
  declarations_head s s' ts ts' e t =
      ap (λ l. declarations_judged s (length ts) (map syntax.declaration l)) next
      ∙ ap (λ z. joined (λ y ys. y ∷ ys) (declaration_judged s (length ts) (syntax.declaration x)) (declarations_judged z (messages_past (length ts) (syntax.declaration x)) (map syntax.declaration (drop (i + 1) items)))) (sym e)
      ∙ ap (λ n. joined (λ y ys. y ∷ ys) (declaration_judged s (length ts) (syntax.declaration x)) (declarations_judged s' n (map syntax.declaration (drop (i + 1) items)))) (sym (told_past ts ts' (syntax.declaration x) t))

  pub behind_turn : (s s' total : Scope) (ts ts' : List Told) → s' ≡ behind s (length ts) (syntax.declaration x) → map told_of ts' ≡ map told_of ts ++ messages_with (syntax.declaration x) → behind_all s (length ts) (map syntax.declaration (drop i items)) ≡ total
      → behind_all s' (length ts') (map syntax.declaration (drop (i + 1) items)) ≡ total
  behind_turn s s' total ts ts' e t inv =
      ap (λ z. behind_all z (length ts') (map syntax.declaration (drop (i + 1) items))) e
      ∙ ap (λ n. behind_all (behind s (length ts) (syntax.declaration x)) n (map syntax.declaration (drop (i + 1) items))) (told_past ts ts' (syntax.declaration x) t)
      ∙ ap (λ l. behind_all s (length ts) (map syntax.declaration l)) (sym next)
      ∙ inv

  messages_first : (ds : List syntax.Declaration) → messages_with (syntax.declaration x) ++ declared_messages ds ≡ declared_messages (syntax.declaration x ∷ ds)
  messages_first ds = by (syntax.declaration x)
    where
      by : (d : syntax.Declaration) → messages_with d ++ declared_messages ds ≡ declared_messages (d ∷ ds)
      by (syntax.Numeric names) = refl
      by (syntax.Alpha digits names) = refl
      by (syntax.Array' x) = refl
      by (syntax.Function' name parameters body) = refl

  pub told_turn : (ts ts' : List Told) (total : List (syntax.Message × Bool)) → map told_of ts' ≡ map told_of ts ++ messages_with (syntax.declaration x) → map told_of ts ++ declared_messages (map syntax.declaration (drop i items)) ≡ total
      → map told_of ts' ++ declared_messages (map syntax.declaration (drop (i + 1) items)) ≡ total
  told_turn ts ts' total t inv =
      ap (λ ms. ms ++ declared_messages (map syntax.declaration (drop (i + 1) items))) t
      ∙ append_assoc (map told_of ts) (messages_with (syntax.declaration x)) (declared_messages (map syntax.declaration (drop (i + 1) items)))
      ∙ ap (λ ms. map told_of ts ++ ms) (messages_first (map syntax.declaration (drop (i + 1) items)))
      ∙ ap (λ l. map told_of ts ++ declared_messages (map syntax.declaration l)) (sym next)
      ∙ inv
