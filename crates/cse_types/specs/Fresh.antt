-- Names that are taken one after the other, each if it is new.
use Rattle.std.specs.Prelude.{ℕ, Bool, true, false, ◌&&◌, not, if◌then◌else◌, List, [], ◌∷◌, ◌++◌, length}
use Rattle.std.specs.List.{list_any}
use Rattle.std.specs.Str.{bytes_eq}
use Rattle.cse_types.specs.declared.fresh.Fresh.{Fresh}
use Rattle.cse_logic_names.specs.declared.meaning.Routine.TheVariants as r
use Rattle.cse_logic_names.specs.Scope.{Scope}

-- what is known behind the members of a list, each of which makes a step
abbrev pub all_after : {S A : Type 0} → (S → A → S) → S → List A → S
all_after step s [] = s
all_after step s (x ∷ xs) = all_after step (step s x) xs

abbrev pub is_fresh : (List ℕ → Bool) → List (List ℕ) → List ℕ → Bool
is_fresh test found x = test x && not (list_any (bytes_eq x) found)

-- one name more, if it passes the test and isn't there
abbrev pub with_fresh : (List ℕ → Bool) → Fresh → List ℕ → Fresh
with_fresh test s x =
    if is_fresh test s.names x then record { names = s.names ++ x ∷ []; is_sound = s.is_sound } else record { names = s.names; is_sound = false }

abbrev pub no_names : Fresh
no_names = record { names = []; is_sound = true }

abbrev pub fresh_names : (List ℕ → Bool) → List (List ℕ) → Fresh
fresh_names test names = all_after (with_fresh test) no_names names

-- the scope of the body of the next function, where these names are its parameters
abbrev pub body_scope : Scope → List (List ℕ) → Scope
body_scope s names = record s { routine = r.Function (length s.functions); parameters = names }
