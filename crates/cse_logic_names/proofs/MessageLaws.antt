-- Messages as the entries of a map.
use Rattle.std.proofs.Common.{◌≡◌, ◌∙◌, ℕ, Bool, true, false, cond, List, [], ◌∷◌, ◌++◌, map, refl, sym, ap, Option, Some, is_some}
use Rattle.std.specs.Prelude.{if◌then◌else◌, find, nat_eq, ◌||◌, option_map}
use Rattle.std.proofs.lemmas.Bool.{eqb-true}
use Rattle.std.specs.List.{list_any}
use Rattle.std.specs.Map.{lookup, keys_of}
use Rattle.cse_logic_names.specs.MessageFile.{MessageText, with_message}

abbrev pub made : ℕ → List ℕ → MessageText
made n text = record { number = n; text = text }

-- an entry as a message
abbrev pub message : {X : Type 0} → (X → List ℕ) → ℕ × X → MessageText
message f e = made e.0 (f e.1)

abbrev pub told : {X : Type 0} → (X → List ℕ) → List (ℕ × X) → List MessageText
told f es = map (message f) es

pub any_told : {X : Type 0} (f : X → List ℕ) (n : ℕ) (es : List (ℕ × X)) → list_any (λ (x : MessageText). nat_eq n x.number) (told f es) ≡ is_some (lookup (nat_eq n) es)
any_told f n [] = refl
any_told f n (e ∷ es) = by (any_told f n es) (nat_eq n e.0) refl
  where
    by : list_any (λ (x : MessageText). nat_eq n x.number) (told f es) ≡ is_some (lookup (nat_eq n) es) → (v : Bool) → nat_eq n e.0 ≡ v
        → (nat_eq n e.0 || list_any (λ (x : MessageText). nat_eq n x.number) (told f es)) ≡ is_some (cond (nat_eq n e.0) (Some e.1) (lookup (nat_eq n) es))
    by rest true is = rw is refl
    by rest false is = rw is rest

pub numbers_told : {X : Type 0} (f : X → List ℕ) (es : List (ℕ × X)) → map (λ (m : MessageText). m.number) (told f es) ≡ keys_of es
numbers_told f [] = refl
numbers_told f (e ∷ es) = ap (λ ns. e.0 ∷ ns) (numbers_told f es)

module _ (found : List MessageText) (m : MessageText) where
  pub with_message-there : list_any (λ (x : MessageText). nat_eq m.number x.number) found ≡ true → with_message found m ≡ found
  with_message-there e = ap (λ v. if v then found else found ++ m ∷ []) e

  pub with_message-new : list_any (λ (x : MessageText). nat_eq m.number x.number) found ≡ false → with_message found m ≡ found ++ m ∷ []
  with_message-new e = ap (λ v. if v then found else found ++ m ∷ []) e

pub told_more : {X : Type 0} (f : X → List ℕ) (es : List (ℕ × X)) (n : ℕ) (x : X) → told f (es ++ (n, x) ∷ []) ≡ told f es ++ made n (f x) ∷ []
told_more f [] n x = refl
told_more f (e ∷ es) n x = ap (λ ms. message f e ∷ ms) (told_more f es n x)

-- the first message of a number
pub find_told : {X : Type 0} (f : X → List ℕ) (n : ℕ) (es : List (ℕ × X)) → find (λ (x : MessageText). nat_eq n x.number) (told f es) ≡ option_map (λ x. made n (f x)) (lookup (nat_eq n) es)
find_told f n [] = refl
find_told f n (e ∷ es) = by (find_told f n es) (nat_eq n e.0) refl
  where
    by : find (λ (x : MessageText). nat_eq n x.number) (told f es) ≡ option_map (λ x. made n (f x)) (lookup (nat_eq n) es) → (v : Bool) → nat_eq n e.0 ≡ v
        → find (λ (x : MessageText). nat_eq n x.number) (message f e ∷ told f es) ≡ option_map (λ x. made n (f x)) (lookup (nat_eq n) (e ∷ es))
    by rest true is = rw is (ap (λ k. Some (made k (f e.1))) (sym (eqb-true n e.0 is)))
    by rest false is = rw is rest
