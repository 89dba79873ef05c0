-- Names that are taken one after the other: whether all were new, and that they are the names then.
use Rattle.std.proofs.Common.{◌≡◌, ℕ, ◌+◌, ◌<◌, ◌≤◌, Bool, true, false, List, [], ◌∷◌, ◌++◌, length, map, drop, get_or, refl, sym, ap, ◌∙◌, append_assoc, arith, suc, drop-cons}
use Rattle.std.specs.Prelude.{◌&&◌, if◌then◌else◌}
use Rattle.std.specs.Char.{to_ascii_uppercase}
use Rattle.std.proofs.lemmas.Bool.{false≢true}
use Rattle.std.proofs.lemmas.List.{length-map, append-nil, drop_all}
use Rattle.std.proofs.lemmas.Str.Ascii.{uppercase-uppercase}
use Rattle.cse_lemmas.proofs.Booleans.{and-false, and-true}
use Rattle.cse_lemmas.proofs.Lists.{drop_read}
use Rattle.cse_dict.specs.Dictionary.{DictionaryText}
use Rattle.cse_dict.specs.Keys.{kept_name}
use Rattle.cse_syntax_tree.specs.Tree as syntax
use Rattle.cse_syntax_tree.specs.declared.tree.Parameter.{Parameter}
use Rattle.cse_logic_names.specs.WellTyped.{parameter_names}
use Rattle.cse_types.specs.declared.fresh.Fresh.{Fresh}
use Rattle.cse_logic_names.specs.Scope.{in_dictionary}
use Rattle.cse_types.specs.Fresh.{all_after, is_fresh, with_fresh, fresh_names}
use Rattle.cse_types.specs.Names.{are_new}

kept_twice : (xs : List ℕ) → kept_name (kept_name xs) ≡ kept_name xs
kept_twice [] = refl
kept_twice (x ∷ xs) = ap (λ y. y ∷ kept_name (kept_name xs)) (uppercase-uppercase x) ∙ ap (λ ys. to_ascii_uppercase x ∷ ys) (kept_twice xs)

pub kept_in_dictionary : (d : DictionaryText) (xs : List ℕ) → in_dictionary d (kept_name xs) ≡ in_dictionary d xs
kept_in_dictionary d xs = rw (kept_twice xs, length-map xs _) refl

pub kept_there : (d : DictionaryText) (kept xs : List ℕ) → kept ≡ kept_name xs → in_dictionary d xs ≡ in_dictionary d kept
kept_there d kept xs e = sym (ap (in_dictionary d) e ∙ kept_in_dictionary d xs)

-- one member of a list more
pub after_turn : {S A : Type 0} (step : S → A → S) (items : List A) (i : ℕ) (x : A) → i < length items → x ≡ get_or items i x → (s s' total : S) → all_after step s (drop i items) ≡ total → s' ≡ step s x
    → all_after step s' (drop (i + 1) items) ≡ total
after_turn step items i x lt is s s' total inv e =
    ap (λ z. all_after step z (drop (i + 1) items)) e ∙ ap (all_after step s) (sym (drop_read items i x lt is)) ∙ inv

pub after_end : {S A : Type 0} (step : S → A → S) (items : List A) (i : ℕ) → length items ≤ i → (s total : S) → all_after step s (drop i items) ≡ total → s ≡ total
after_end step items i le s total inv = ap (all_after step s) (sym (drop_all i items le)) ∙ inv

-- the same, where the member is copied
pub after_at : {S A : Type 0} (step : S → A → S) (items : List A) (i : ℕ) (d : A) (s s' total : S) → i < length items → all_after step s (drop i items) ≡ total → s' ≡ step s (get_or items i d)
    → all_after step s' (drop (i + 1) items) ≡ total
after_at step items i d s s' total lt inv e =
    let one : suc i ≡ i + 1 = omega arith in
    let next : drop i items ≡ get_or items i d ∷ drop (i + 1) items = drop-cons items i d lt ∙ ap (λ n. get_or items i d ∷ drop n items) one in
    ap (λ z. all_after step z (drop (i + 1) items)) e ∙ ap (all_after step s) (sym next) ∙ inv

-- what is known behind names
record AreFresh (test : List ℕ → Bool) (s : Fresh) (xs : List (List ℕ)) : Type 0 where
  sound : (all_after (with_fresh test) s xs).is_sound ≡ (s.is_sound && are_new test s.names xs)
  names : (all_after (with_fresh test) s xs).is_sound ≡ true → (all_after (with_fresh test) s xs).names ≡ s.names ++ xs

are_fresh : (test : List ℕ → Bool) (s : Fresh) (xs : List (List ℕ)) → AreFresh test s xs
are_fresh test s [] = record { sound = sym (and-true s.is_sound); names = λ h. sym (append-nil s.names) }
are_fresh test s (x ∷ xs) = by (is_fresh test s.names x) refl (λ z. are_fresh test z xs)
  where
    by : (b : Bool) → is_fresh test s.names x ≡ b → ((z : Fresh) → AreFresh test z xs) → AreFresh test s (x ∷ xs)
    by true e ih =
        let z : Fresh = record { names = s.names ++ x ∷ []; is_sound = s.is_sound } in
        let step : with_fresh test s x ≡ z = ap (λ b. if b then z else record { names = s.names; is_sound = false }) e in
        let rest = ih z in
        record {
          sound = ap (λ (y : Fresh). (all_after (with_fresh test) y xs).is_sound) step ∙ rest.sound ∙ ap (λ b. s.is_sound && (b && are_new test (s.names ++ x ∷ []) xs)) (sym e);
          names = λ h. ap (λ (y : Fresh). (all_after (with_fresh test) y xs).names) step ∙ rest.names (sym (ap (λ (y : Fresh). (all_after (with_fresh test) y xs).is_sound) step) ∙ h) ∙ append_assoc s.names (x ∷ []) xs;
        }
    by false e ih =
        let z : Fresh = record { names = s.names; is_sound = false } in
        let step : with_fresh test s x ≡ z = ap (λ b. if b then record { names = s.names ++ x ∷ []; is_sound = s.is_sound } else z) e in
        let rest = ih z in
        record {
          sound = ap (λ (y : Fresh). (all_after (with_fresh test) y xs).is_sound) step ∙ rest.sound ∙ sym (and-false s.is_sound) ∙ ap (λ b. s.is_sound && (b && are_new test (s.names ++ x ∷ []) xs)) (sym e);
          names = λ h. absurd (false≢true (sym rest.sound ∙ sym (ap (λ (y : Fresh). (all_after (with_fresh test) y xs).is_sound) step) ∙ h));
        }

pub fresh_sound : (test : List ℕ → Bool) (xs : List (List ℕ)) → (fresh_names test xs).is_sound ≡ are_new test [] xs
fresh_sound test xs = (are_fresh test (record { names = []; is_sound = true }) xs).sound

pub fresh_are : (test : List ℕ → Bool) (xs : List (List ℕ)) → (fresh_names test xs).is_sound ≡ true → (fresh_names test xs).names ≡ xs
fresh_are test xs h = (are_fresh test (record { names = []; is_sound = true }) xs).names h

-- ---- parameters

abbrev pub with_parameter : (List ℕ → Bool) → Fresh → Parameter → Fresh
with_parameter test s x = with_fresh test s (kept_name x.name.text.now)

pub parameters_after : (test : List ℕ → Bool) (s : Fresh) (xs : List Parameter) → all_after (with_parameter test) s xs ≡ all_after (with_fresh test) s (parameter_names (map syntax.parameter xs))
parameters_after test s [] = refl
parameters_after test s (x ∷ xs) = parameters_after test (with_parameter test s x) xs

pub parameter_turn : (test : List ℕ → Bool) (items : List Parameter) (i : ℕ) (x : Parameter) (s s' total : Fresh) → i < length items → x ≡ get_or items i x → all_after (with_parameter test) s (drop i items) ≡ total → s' ≡ with_fresh test s (kept_name x.name.text.now)
    → all_after (with_parameter test) s' (drop (i + 1) items) ≡ total
parameter_turn test items i x s s' total lt is inv e = after_turn (with_parameter test) items i x lt is s s' total inv e

pub parameter_at : (test : List ℕ → Bool) (items : List Parameter) (i : ℕ) (d : Parameter) (s s' total : Fresh) → i < length items → all_after (with_parameter test) s (drop i items) ≡ total → s' ≡ with_fresh test s (kept_name (get_or items i d).name.text.now)
    → all_after (with_parameter test) s' (drop (i + 1) items) ≡ total
parameter_at test items i d s s' total lt inv e =
    let one : suc i ≡ i + 1 = omega arith in
    let next : drop i items ≡ get_or items i d ∷ drop (i + 1) items = drop-cons items i d lt ∙ ap (λ n. get_or items i d ∷ drop n items) one in
    ap (λ z. all_after (with_parameter test) z (drop (i + 1) items)) e ∙ ap (all_after (with_parameter test) s) (sym next) ∙ inv
