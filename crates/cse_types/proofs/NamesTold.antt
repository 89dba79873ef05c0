-- The names of declarations and of parameters have no fault exactly where each is new.
use Rattle.std.specs.Prelude.{Bool, true, false, ◌&&◌, ◌||◌, not, if◌then◌else◌}
use Rattle.std.specs.List.{list_any}
use Rattle.std.specs.Map.{lookup}
use Rattle.std.specs.Str.{bytes_eq}
use Rattle.std.proofs.Common.{◌≡◌, ℕ, ◌+◌, List, [], ◌∷◌, ◌++◌, length, refl, sym, ap, ◌∙◌, append_assoc}
use Rattle.std.proofs.lemmas.Bool.{and_parts, not-true}
use Rattle.std.proofs.lemmas.Cmp.{nat_list_eq_equiv}
use Rattle.std.proofs.lemmas.Slice.Eq.{bytes_eq-Decides}
use Rattle.std.proofs.lemmas.List.Folds.{list_any-append}
use Rattle.std.proofs.lemmas.List.{append-nil}
use Rattle.cse_lemmas.proofs.Booleans.{and_assoc, and-true}
use Rattle.cse_dict.specs.Dictionary.{DictionaryText}
use Rattle.cse_dict.specs.Keys.{kept_name}
use Rattle.cse_syntax_tree.specs.Tree as syntax
use Rattle.cse_syntax_tree.specs.Tree.{Spelling}
use Rattle.cse_logic_names.specs.declared.meaning.Meaning.{Meaning}
use Rattle.cse_logic_names.specs.Scope.{declared_from, numbered_from}
use Rattle.cse_logic_names.specs.WellTyped.{parameter_names}
use Rattle.cse_logic_names.proofs.NameLaws.{has_named}
use Rattle.cse_logic_names.proofs.Walks.{some_there}
use Rattle.cse_logic_faults.specs.Faults.{Fault}
use Rattle.cse_types.proofs.Truths.{none, and_both, and_flip, and_second, and_pairs, none_both, none_beside}
use Rattle.cse_types.specs.Names.{are_new, is_free, is_new, names_of}
use Rattle.cse_types.specs.NameFaults.{and_name, and_names, kept_names, is_untaken, name_faults, new_names_faults, spelled, names_faults}

-- ---- names that are apart

-- none of these names is one of those found
abbrev pub are_apart : List (List ℕ) → List (List ℕ) → Bool
are_apart found [] = true
are_apart found (x ∷ xs) = not (list_any (bytes_eq x) found) && are_apart found xs

-- names that are equal letter by letter are one
same_name : (x y : List ℕ) → bytes_eq x y ≡ true → x ≡ y
same_name x y h = (bytes_eq-Decides x y).0 h

neither : (a b : Bool) → not (a || b) ≡ (not a && not b)
neither true b = refl
neither false b = refl

pub apart_of_none : (xs : List (List ℕ)) → are_apart [] xs ≡ true
apart_of_none [] = refl
apart_of_none (x ∷ xs) = apart_of_none xs

apart_more : (found xs ys : List (List ℕ)) → are_apart found (xs ++ ys) ≡ (are_apart found xs && are_apart found ys)
apart_more found [] ys = refl
apart_more found (x ∷ xs) ys =
    ap (λ b. not (list_any (bytes_eq x) found) && b) (apart_more found xs ys) ∙ sym (and_assoc (not (list_any (bytes_eq x) found)) (are_apart found xs) (are_apart found ys))

apart_of_both : (xs ys zs : List (List ℕ)) → are_apart (xs ++ ys) zs ≡ (are_apart xs zs && are_apart ys zs)
apart_of_both xs ys [] = refl
apart_of_both xs ys (z ∷ zs) =
    let p = list_any (bytes_eq z) xs in
    let q = list_any (bytes_eq z) ys in
    and_both (ap not (list_any-append (bytes_eq z) xs ys) ∙ neither p q) (apart_of_both xs ys zs) ∙ and_pairs (not p) (not q) (are_apart xs zs) (are_apart ys zs)

apart_of_first : (x : List ℕ) (xs ys : List (List ℕ)) → are_apart (x ∷ xs) ys ≡ (not (list_any (bytes_eq x) ys) && are_apart xs ys)
apart_of_first x xs [] = refl
apart_of_first x xs (y ∷ ys) =
    let e = bytes_eq x y in
    let found = list_any (bytes_eq y) xs in
    let later = list_any (bytes_eq x) ys in
    and_both (ap (λ b. not (b || found)) (nat_list_eq_equiv.symm y x) ∙ neither e found) (apart_of_first x xs ys)
    ∙ and_pairs (not e) (not found) (not later) (are_apart xs ys)
    ∙ ap (λ b. b && (not found && are_apart xs ys)) (sym (neither e later))

apart_flip : (xs ys : List (List ℕ)) → are_apart xs ys ≡ are_apart ys xs
apart_flip xs [] = sym (apart_of_none xs)
apart_flip xs (y ∷ ys) = ap (λ b. not (list_any (bytes_eq y) xs) && b) (apart_flip xs ys) ∙ sym (apart_of_first y ys xs)

-- ---- names that are new

new_more : (test : List ℕ → Bool) (found xs ys : List (List ℕ)) → are_new test found (xs ++ ys) ≡ (are_new test found xs && are_new test (found ++ xs) ys)
new_more test found [] ys = ap (λ l. are_new test l ys) (sym (append-nil found))
new_more test found (x ∷ xs) ys =
    let one = test x && not (list_any (bytes_eq x) found) in
    ap (λ b. one && b) (new_more test (found ++ x ∷ []) xs ys ∙ ap (λ l. are_new test (found ++ x ∷ []) xs && are_new test l ys) (append_assoc found (x ∷ []) xs))
    ∙ sym (and_assoc one (are_new test (found ++ x ∷ []) xs) (are_new test (found ++ x ∷ xs) ys))

-- a name that nothing bears is free, and none of those declared
new_is : (d : DictionaryText) (declared : List (List ℕ × Meaning)) (name : List ℕ) → is_new d declared name ≡ (is_free d name && not (list_any (bytes_eq name) (names_of declared)))
new_is d declared name = ap (λ b. is_free d name && not b) (sym (has_named (λ k. k) (bytes_eq name) declared ∙ some_there (lookup (bytes_eq name) declared)))

middle_last : (a b c : Bool) → ((a && b) && c) ≡ ((a && c) && b)
middle_last a b c = and_assoc a b c ∙ ap (λ t. a && t) (and_flip b c) ∙ sym (and_assoc a c b)

pub parameters_are_new : (d : DictionaryText) (declared : List (List ℕ × Meaning)) (found xs : List (List ℕ))
    → are_new (is_new d declared) found xs ≡ (are_new (is_free d) found xs && are_apart (names_of declared) xs)
parameters_are_new d declared found [] = refl
parameters_are_new d declared found (x ∷ xs) =
    let free = is_free d x in
    let other = not (list_any (bytes_eq x) (names_of declared)) in
    let first = not (list_any (bytes_eq x) found) in
    and_both (ap (λ b. b && first) (new_is d declared x) ∙ middle_last free other first) (parameters_are_new d declared (found ++ x ∷ []) xs)
    ∙ and_pairs (free && first) other (are_new (is_free d) (found ++ x ∷ []) xs) (are_apart (names_of declared) xs)

-- ---- one name more

-- a name that isn't there yet goes behind the others
and_new : (found : List (List ℕ)) (x : List ℕ) → not (list_any (bytes_eq x) found) ≡ true → and_name found x ≡ found ++ x ∷ []
and_new found x h = ap (λ b. if b then found else found ++ x ∷ []) (not-true (list_any (bytes_eq x) found) h)

and_all_new : (test : List ℕ → Bool) (found xs : List (List ℕ)) → are_new test found xs ≡ true → and_names found xs ≡ found ++ xs
and_all_new test found [] h = sym (append-nil found)
and_all_new test found (x ∷ xs) h =
    let parts = and_parts (test x && not (list_any (bytes_eq x) found)) (are_new test (found ++ x ∷ []) xs) h in
    let new = and_parts (test x) (not (list_any (bytes_eq x) found)) parts.0 in
    ap (λ l. and_names l xs) (and_new found x new.1) ∙ and_all_new test (found ++ x ∷ []) xs parts.1 ∙ append_assoc found (x ∷ []) xs

-- what stands behind a name counts where it is new
pub and_name_told : (behind : List (List ℕ) → Bool) (found : List (List ℕ)) (x : List ℕ) (b : Bool) → (b ≡ true → not (list_any (bytes_eq x) found) ≡ true)
    → (b && behind (and_name found x)) ≡ (b && behind (found ++ x ∷ []))
and_name_told behind found x true h = ap behind (and_new found x (h refl))
and_name_told behind found x false h = refl

and_names_told : (behind : List (List ℕ) → Bool) (test : List ℕ → Bool) (found xs : List (List ℕ)) (b : Bool) → (b ≡ true → are_new test found xs ≡ true)
    → (b && behind (and_names found xs)) ≡ (b && behind (found ++ xs))
and_names_told behind test found xs true h = ap behind (and_all_new test found xs (h refl))
and_names_told behind test found xs false h = refl

any_and_name : (x y : List ℕ) (found : List (List ℕ)) → list_any (bytes_eq y) (and_name found x) ≡ list_any (bytes_eq y) (found ++ x ∷ [])
any_and_name x y found = by (list_any (bytes_eq x) found) refl (bytes_eq y x) refl
  where
    is_there_too : list_any (bytes_eq x) found ≡ true → bytes_eq y x ≡ true → list_any (bytes_eq y) found ≡ true
    is_there_too h e = ap (λ z. list_any (bytes_eq z) found) (same_name y x e) ∙ h

    or_none : (b : Bool) → (b || (false || false)) ≡ b
    or_none true = refl
    or_none false = refl

    by : (b : Bool) → list_any (bytes_eq x) found ≡ b → (e : Bool) → bytes_eq y x ≡ e → list_any (bytes_eq y) (if b then found else found ++ x ∷ []) ≡ list_any (bytes_eq y) (found ++ x ∷ [])
    by false h e k = refl
    by true h true k = is_there_too h k ∙ sym (list_any-append (bytes_eq y) found (x ∷ []) ∙ ap (λ b. b || (bytes_eq y x || false)) (is_there_too h k))
    by true h false k = sym (list_any-append (bytes_eq y) found (x ∷ []) ∙ ap (λ b. list_any (bytes_eq y) found || (b || false)) k ∙ or_none (list_any (bytes_eq y) found))

apart_and_name : (found : List (List ℕ)) (x : List ℕ) (ys : List (List ℕ)) → are_apart (and_name found x) ys ≡ are_apart (found ++ x ∷ []) ys
apart_and_name found x [] = refl
apart_and_name found x (y ∷ ys) = and_both (ap not (any_and_name x y found)) (apart_and_name found x ys)

apart_and_names : (found xs ys : List (List ℕ)) → are_apart (and_names found xs) ys ≡ (are_apart found ys && are_apart xs ys)
apart_and_names found [] ys = sym (ap (λ b. are_apart found ys && b) (apart_of_none ys) ∙ and-true (are_apart found ys))
apart_and_names found (x ∷ xs) ys =
    let one = x ∷ [] in
    apart_and_names (and_name found x) xs ys
    ∙ ap (λ b. b && are_apart xs ys) (apart_and_name found x ys ∙ apart_of_both found one ys)
    ∙ and_assoc (are_apart found ys) (are_apart one ys) (are_apart xs ys)
    ∙ ap (λ b. are_apart found ys && b) (sym (apart_of_both one xs ys))

-- ---- the names of declarations

abbrev pub names_in : List syntax.Declaration → List (List ℕ)
names_in [] = []
names_in (syntax.Numeric xs ∷ ds) = kept_names xs ++ names_in ds
names_in (syntax.Alpha size xs ∷ ds) = kept_names xs ++ names_in ds
names_in (syntax.Array' x ∷ ds) = kept_name x.name.text ∷ names_in ds
names_in (syntax.Function' name ps body ∷ ds) = kept_name name.text ∷ names_in ds

numbered_names : (meaning : ℕ → Meaning) (n : ℕ) (xs : List Spelling) (rest : List (List ℕ × Meaning)) → names_of (numbered_from meaning n xs ++ rest) ≡ kept_names xs ++ names_of rest
numbered_names meaning n [] rest = refl
numbered_names meaning n (x ∷ xs) rest = ap (λ l. kept_name x.text ∷ l) (numbered_names meaning (n + 1) xs rest)

pub declared_names : (g a f : ℕ) (ds : List syntax.Declaration) → names_of (declared_from g a f ds) ≡ names_in ds
declared_names g a f [] = refl
declared_names g a f (syntax.Numeric xs ∷ ds) = numbered_names _ g xs (declared_from (g + length xs) a f ds) ∙ ap (λ l. kept_names xs ++ l) (declared_names (g + length xs) a f ds)
declared_names g a f (syntax.Alpha size xs ∷ ds) = numbered_names _ g xs (declared_from (g + length xs) a f ds) ∙ ap (λ l. kept_names xs ++ l) (declared_names (g + length xs) a f ds)
declared_names g a f (syntax.Array' x ∷ ds) = ap (λ l. kept_name x.name.text ∷ l) (declared_names g (a + 1) f ds)
declared_names g a f (syntax.Function' name ps body ∷ ds) = ap (λ l. kept_name name.text ∷ l) (declared_names g a (f + 1) ds)

-- the parameters of each function are free names, each once, and none of these
abbrev pub are_parameters : DictionaryText → List (List ℕ) → List syntax.Declaration → Bool
are_parameters d names [] = true
are_parameters d names (syntax.Numeric xs ∷ ds) = are_parameters d names ds
are_parameters d names (syntax.Alpha size xs ∷ ds) = are_parameters d names ds
are_parameters d names (syntax.Array' x ∷ ds) = are_parameters d names ds
are_parameters d names (syntax.Function' name ps body ∷ ds) = (are_new (is_free d) [] (parameter_names ps) && are_apart names (parameter_names ps)) && are_parameters d names ds

spelled_names : (ps : List syntax.Parameter) → kept_names (spelled ps) ≡ parameter_names ps
spelled_names [] = refl
spelled_names (p ∷ ps) = ap (λ l. kept_name p.name.text ∷ l) (spelled_names ps)

-- ---- their faults

untaken_is : (free mine other : Bool) → (free && not (mine || other)) ≡ ((free && not mine) && not other)
untaken_is true true other = refl
untaken_is true false other = refl
untaken_is false mine other = refl

-- the truths of a function's name, of its parameters and of what stands behind it
function_order : (name apart names others parameters now later rest : Bool)
    → ((name && apart) && ((parameters && now) && ((names && (others && later)) && rest))) ≡ (((name && names) && (apart && others)) && ((parameters && (now && later)) && rest))
function_order name apart names others parameters now later rest =
    let p = parameters && now in
    ap (λ b. (name && apart) && (p && b)) (ap (λ b. b && rest) (sym (and_assoc names others later)) ∙ and_assoc (names && others) later rest)
    ∙ ap (λ b. (name && apart) && b) (and_second p (names && others) (later && rest))
    ∙ sym (and_assoc (name && apart) (names && others) (p && (later && rest)))
    ∙ and_both (and_pairs name apart names others) (sym (and_assoc p later rest) ∙ ap (λ b. b && rest) (and_assoc parameters now later))

module _ (d : DictionaryText) where
  -- a name, and what stands behind it
  name_told : (names parameters : List (List ℕ)) (x : Spelling) (behind : List (List ℕ) → List Fault)
      → none (name_faults d names parameters x ++ behind (and_name names (kept_name x.text)))
      ≡ (((is_free d (kept_name x.text) && not (list_any (bytes_eq (kept_name x.text)) names)) && not (list_any (bytes_eq (kept_name x.text)) parameters)) && none (behind (names ++ kept_name x.text ∷ [])))
  name_told names parameters x behind =
      let name = kept_name x.text in
      let new = is_free d name && not (list_any (bytes_eq name) names) in
      let other = not (list_any (bytes_eq name) parameters) in
      none_beside (is_untaken d names parameters name) 40 x.token (behind (and_name names name))
      ∙ ap (λ b. b && none (behind (and_name names name))) (untaken_is (is_free d name) (list_any (bytes_eq name) names) (list_any (bytes_eq name) parameters))
      ∙ and_name_told (λ l. none (behind l)) names name (new && other) (λ h. (and_parts (is_free d name) _ (and_parts new other h).0).1)

  new_names_told : (mine others : List (List ℕ)) (xs : List Spelling) → none (new_names_faults d mine others xs) ≡ (are_new (is_free d) mine (kept_names xs) && are_apart others (kept_names xs))
  new_names_told mine others [] = refl
  new_names_told mine others (x ∷ xs) =
      let name = kept_name x.text in
      let new = is_free d name && not (list_any (bytes_eq name) mine) in
      let other = not (list_any (bytes_eq name) others) in
      name_told mine others x (λ l. new_names_faults d l others xs)
      ∙ ap (λ b. (new && other) && b) (new_names_told (mine ++ name ∷ []) others xs)
      ∙ and_pairs new other (are_new (is_free d) (mine ++ name ∷ []) (kept_names xs)) (are_apart others (kept_names xs))

  -- names of one declaration, and those behind it
  more_told : (names parameters new total : List (List ℕ)) (ds : List syntax.Declaration) (first rest : Bool)
      → first ≡ (are_new (is_free d) names new && are_apart parameters new)
      → rest ≡ ((are_new (is_free d) (names ++ new) (names_in ds) && are_apart parameters (names_in ds)) && are_parameters d total ds)
      → (first && rest) ≡ ((are_new (is_free d) names (new ++ names_in ds) && are_apart parameters (new ++ names_in ds)) && are_parameters d total ds)
  more_told names parameters new total ds first rest h k =
      let one = are_new (is_free d) names new in
      let apart = are_apart parameters new in
      let others = are_new (is_free d) (names ++ new) (names_in ds) in
      let others_apart = are_apart parameters (names_in ds) in
      and_both h k
      ∙ sym (and_assoc (one && apart) (others && others_apart) (are_parameters d total ds))
      ∙ ap (λ b. b && are_parameters d total ds) (and_pairs one apart others others_apart ∙ and_both (sym (new_more (is_free d) names new (names_in ds))) (sym (apart_more parameters new (names_in ds))))

  globals_told : (names parameters total : List (List ℕ)) (xs : List Spelling) (ds : List syntax.Declaration)
      → none (names_faults d (names ++ kept_names xs) parameters ds) ≡ ((are_new (is_free d) (names ++ kept_names xs) (names_in ds) && are_apart parameters (names_in ds)) && are_parameters d total ds)
      → none (new_names_faults d names parameters xs ++ names_faults d (and_names names (kept_names xs)) parameters ds)
      ≡ ((are_new (is_free d) names (kept_names xs ++ names_in ds) && are_apart parameters (kept_names xs ++ names_in ds)) && are_parameters d total ds)
  globals_told names parameters total xs ds told =
      let kept = kept_names xs in
      let new = are_new (is_free d) names kept in
      let apart = are_apart parameters kept in
      none_both (new_names_faults d names parameters xs) (names_faults d (and_names names kept) parameters ds)
      ∙ ap (λ b. b && none (names_faults d (and_names names kept) parameters ds)) (new_names_told names parameters xs)
      ∙ and_names_told (λ l. none (names_faults d l parameters ds)) (is_free d) names kept (new && apart) (λ h. (and_parts new apart h).0)
      ∙ more_told names parameters kept total ds (new && apart) (none (names_faults d (names ++ kept) parameters ds)) refl told

  pub names_told : (names parameters total : List (List ℕ)) (ds : List syntax.Declaration) → total ≡ names ++ names_in ds
      → none (names_faults d names parameters ds) ≡ ((are_new (is_free d) names (names_in ds) && are_apart parameters (names_in ds)) && are_parameters d total ds)
  names_told names parameters total [] e = refl
  names_told names parameters total (syntax.Numeric xs ∷ ds) e = globals_told names parameters total xs ds (names_told (names ++ kept_names xs) parameters total ds (e ∙ sym (append_assoc names (kept_names xs) (names_in ds))))
  names_told names parameters total (syntax.Alpha size xs ∷ ds) e = globals_told names parameters total xs ds (names_told (names ++ kept_names xs) parameters total ds (e ∙ sym (append_assoc names (kept_names xs) (names_in ds))))
  names_told names parameters total (syntax.Array' x ∷ ds) e =
      let kept = kept_name x.name.text in
      let new = is_free d kept && not (list_any (bytes_eq kept) names) in
      let other = not (list_any (bytes_eq kept) parameters) in
      name_told names parameters x.name (λ l. names_faults d l parameters ds)
      ∙ more_told names parameters (kept ∷ []) total ds (new && other) _ (sym (and_both (and-true new) (and-true other)))
      (names_told (names ++ kept ∷ []) parameters total ds (e ∙ sym (append_assoc names (kept ∷ []) (names_in ds))))
  names_told names parameters total (syntax.Function' name ps body ∷ ds) e =
      let kept = kept_name name.text in
      let with_name = names ++ kept ∷ [] in
      let own = parameter_names ps in
      let later = names_in ds in
      let new = is_free d kept && not (list_any (bytes_eq kept) names) in
      let other = not (list_any (bytes_eq kept) parameters) in
      let fine = are_new (is_free d) [] own in
      let others = are_new (is_free d) with_name later in
      let same : total ≡ with_name ++ later = e ∙ sym (append_assoc names (kept ∷ []) later) in
      let inner = λ (l : List (List ℕ)). new_names_faults d [] l (spelled ps) in
      let behind = λ (l : List (List ℕ)). names_faults d l (and_names parameters (kept_names (spelled ps))) ds in
      ap none (append_assoc (name_faults d names parameters name) (inner (and_name names kept)) (behind (and_name names kept)))
      ∙ name_told names parameters name (λ l. inner l ++ behind l)
      ∙ ap (λ b. (new && other) && b) (
      none_both (inner with_name) (behind with_name)
      ∙ and_both (new_names_told [] with_name (spelled ps) ∙ ap (λ l. are_new (is_free d) [] l && are_apart with_name l) (spelled_names ps))
      (names_told with_name (and_names parameters (kept_names (spelled ps))) total ds same
      ∙ ap (λ b. (others && b) && are_parameters d total ds) (apart_and_names parameters (kept_names (spelled ps)) later ∙ ap (λ l. are_apart parameters later && are_apart l later) (spelled_names ps)))
      )
      ∙ function_order new other others (are_apart parameters later) fine (are_apart with_name own) (are_apart own later) (are_parameters d total ds)
      ∙ ap (λ b. ((new && others) && (other && are_apart parameters later)) && ((fine && b) && are_parameters d total ds))
      (ap (λ b. are_apart with_name own && b) (apart_flip own later) ∙ sym (apart_of_both with_name later own) ∙ ap (λ l. are_apart l own) (sym same))
