-- Names with their places, as a list and as a map.
use Rattle.std.proofs.Common.{◌≡◌, ◌<◌, ◌+◌, length, ℕ, Bool, true, false, cond, List, [], ◌∷◌, ◌++◌, map, refl, sym, ap, ◌∙◌, subst, Option, None, Some, is_some}
use Rattle.std.specs.Prelude.{if◌then◌else◌, position, nat_le, IfSome}
use Rattle.std.specs.List.{position_from}
use Rattle.std.specs.Map.{lookup}
use Rattle.std.specs.Option.{option_copied}
use Rattle.std.specs.Borrow.{Bor}
use Rattle.std.specs.Str.{bytes_eq}
use Rattle.std.proofs.lemmas.Bool.{false≢true}
use Rattle.std.proofs.lemmas.List.Quantifiers.{position-Some}
use Rattle.std.proofs.lemmas.Slice.Eq.{bytes_eq-Decides}
use Rattle.std.proofs.lemmas.Iterator.Adapters.{position_from-zero}
use Rattle.std.proofs.lemmas.List.{length-map}
use Rattle.cse_dict.specs.Dictionary.{number_named, places_from, with_place}
use Rattle.cse_dict.specs.Keys.{kept_name}

-- the entries of a map, as names with their places
abbrev pub named : {K : Type 0} → (K → List ℕ) → List (K × ℕ) → List (List ℕ × ℕ)
named f es = map (λ e. (f e.0, e.1)) es

pub lookup-named : {K : Type 0} (f : K → List ℕ) (t : List ℕ → Bool) (es : List (K × ℕ)) → lookup t (named f es) ≡ lookup (λ k. t (f k)) es
lookup-named f t [] = refl
lookup-named f t (e ∷ es) = ap (λ r. cond (t (f e.0)) (Some e.1) r) (lookup-named f t es)

pub is_some-copied : {T : Type 0} (o : Option (Bor T)) → is_some (option_copied o) ≡ is_some o
is_some-copied None = refl
is_some-copied (Some x) = refl

module _ (ps : List (List ℕ × ℕ)) (n : ℕ) (name : List ℕ) where
  pub with_place-there : is_some (lookup (bytes_eq name) ps) ≡ true → with_place ps n name ≡ ps
  with_place-there e = ap (λ v. if v then ps else ps ++ (name, n) ∷ []) e

  pub with_place-new : is_some (lookup (bytes_eq name) ps) ≡ false → with_place ps n name ≡ ps ++ (name, n) ∷ []
  with_place-new e = ap (λ v. if v then ps else ps ++ (name, n) ∷ []) e

-- one of two, the first where it is there
abbrev or_else : Option ℕ → Option ℕ → Option ℕ
or_else None b = b
or_else (Some x) b = Some x

or_else-or_else : (a r : Option ℕ) (v : Bool) (n : ℕ) → or_else (or_else a (cond v (Some n) None)) r ≡ or_else a (cond v (Some n) r)
or_else-or_else None r true n = refl
or_else-or_else None r false n = refl
or_else-or_else (Some x) r v n = refl

lookup-push : (t : List ℕ → Bool) (ps : List (List ℕ × ℕ)) (name : List ℕ) (n : ℕ)
    → lookup t (ps ++ (name, n) ∷ []) ≡ or_else (lookup t ps) (cond (t name) (Some n) None)
lookup-push t [] name n = refl
lookup-push t (p ∷ ps) name n = by (lookup-push t ps name n) (t p.0) refl
  where
    by : lookup t (ps ++ (name, n) ∷ []) ≡ or_else (lookup t ps) (cond (t name) (Some n) None)
        → (v : Bool) → t p.0 ≡ v → cond (t p.0) (Some p.1) (lookup t (ps ++ (name, n) ∷ [])) ≡ or_else (cond (t p.0) (Some p.1) (lookup t ps)) (cond (t name) (Some n) None)
    by rest true e = rw e refl
    by rest false e = rw e rest

-- a name that is there isn't found later
there_first : (q name : List ℕ) (ps : List (List ℕ × ℕ)) (n : ℕ) (r : Option ℕ) → is_some (lookup (bytes_eq name) ps) ≡ true
    → or_else (lookup (bytes_eq q) ps) r ≡ or_else (lookup (bytes_eq q) ps) (cond (bytes_eq q name) (Some n) r)
there_first q name ps n r there = by (lookup (bytes_eq q) ps) refl (bytes_eq q name) refl
  where
    same : bytes_eq q name ≡ true → lookup (bytes_eq q) ps ≡ None → ⊥
    same e none =
        let is : q ≡ name = (bytes_eq-Decides q name).0 e in
        let gone : is_some (lookup (bytes_eq name) ps) ≡ false = ap (λ m. is_some (lookup (bytes_eq m) ps)) (sym is) ∙ ap is_some none in
        false≢true (sym gone ∙ there)

    by : (o : Option ℕ) → lookup (bytes_eq q) ps ≡ o → (v : Bool) → bytes_eq q name ≡ v
        → or_else (lookup (bytes_eq q) ps) r ≡ or_else (lookup (bytes_eq q) ps) (cond (bytes_eq q name) (Some n) r)
    by (Some x) e v d = rw e refl
    by None e true d = absurd (same d e)
    by None e false d = rw d refl

lookup-from : (q : List ℕ) (names : List (List ℕ)) (ps : List (List ℕ × ℕ)) (n : ℕ)
    → lookup (bytes_eq q) (places_from ps n names) ≡ or_else (lookup (bytes_eq q) ps) (position_from (bytes_eq q) n names)
lookup-from q [] ps n = by (lookup (bytes_eq q) ps)
  where
    by : (o : Option ℕ) → o ≡ or_else o None
    by None = refl
    by (Some x) = refl
lookup-from q (name ∷ names) ps n = lookup-from q names (with_place ps n name) (n + 1) ∙ by (is_some (lookup (bytes_eq name) ps)) refl
  where
    by : (v : Bool) → is_some (lookup (bytes_eq name) ps) ≡ v
        → or_else (lookup (bytes_eq q) (with_place ps n name)) (position_from (bytes_eq q) (n + 1) names)
        ≡ or_else (lookup (bytes_eq q) ps) (cond (bytes_eq q name) (Some n) (position_from (bytes_eq q) (n + 1) names))
    by true e =
        ap (λ l. or_else (lookup (bytes_eq q) l) (position_from (bytes_eq q) (n + 1) names)) (with_place-there ps n name e)
        ∙ there_first q name ps n (position_from (bytes_eq q) (n + 1) names) e
    by false e =
        ap (λ l. or_else (lookup (bytes_eq q) l) (position_from (bytes_eq q) (n + 1) names)) (with_place-new ps n name e)
        ∙ ap (λ o. or_else o (position_from (bytes_eq q) (n + 1) names)) (lookup-push (bytes_eq q) ps name n)
        ∙ or_else-or_else (lookup (bytes_eq q) ps) (position_from (bytes_eq q) (n + 1) names) (bytes_eq q name) n

-- the place of a name is where it first stands
pub lookup-places : (q : List ℕ) (names : List (List ℕ)) → lookup (bytes_eq q) (places_from [] 0 names) ≡ position (bytes_eq q) names
lookup-places q names = lookup-from q names [] 0 ∙ sym (position_from-zero (bytes_eq q) names)

-- the look-up of a name in the places of names
pub number_named-places : (name : List ℕ) (names : List (List ℕ)) (places : List (List ℕ × ℕ)) (o : Option ℕ)
    → o ≡ (if nat_le (length name) 32 then lookup (bytes_eq (kept_name name)) places else None) → places ≡ places_from [] 0 names → o ≡ number_named name names
number_named-places name names places o is from =
    is ∙ ap (λ r. if nat_le (length name) 32 then r else None) (ap (lookup (bytes_eq (kept_name name))) from ∙ lookup-places (kept_name name) names)

number_there : (name : List ℕ) (names : List (List ℕ)) (n : ℕ) → Some n ≡ number_named name names → n < length names
number_there name names n is = by (nat_le (length name) 32) is
  where
    by : (v : Bool) → Some n ≡ (if v then position (bytes_eq (kept_name name)) names else None) → n < length names
    by true e = (position-Some (bytes_eq (kept_name name)) names n [] (sym e)).0
    by false e = cc

-- a number that is found is there
pub number_named-there : {X : Type 0} (f : X → List ℕ) (name : List ℕ) (xs : List X) (o : Option ℕ) → o ≡ number_named name (map f xs) → IfSome o (λ n. n < length xs)
number_named-there f name xs None is = tt
number_named-there f name xs (Some n) is = let P : ℕ → Type 0 = λ m. n < m in subst P (length-map xs f) (number_there name (map f xs) n is)
