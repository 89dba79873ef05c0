-- The names of arrays are names of the format, and each is new.
use Rattle.std.proofs.Common.{◌≡◌, ℕ, ◌+◌, true, false, ◌&&◌, not, List, [], ◌∷◌, ◌++◌, length, map, refl, ap, subst, ◌∙◌, arith}
use Rattle.std.specs.Prelude.{nat_le, slice_index}
use Rattle.std.specs.Char.{to_ascii_uppercase, is_ascii_alphabetic}
use Rattle.std.specs.List.{AllByRecursion, IsDistinct, list_all}
use Rattle.std.specs.Str.{bytes_eq}
use Rattle.std.proofs.lemmas.Bool.{and_parts, and_from}
use Rattle.std.proofs.lemmas.Bool.Decides.{nat_tests}
use Rattle.std.proofs.lemmas.List.{length-map, map-append}
use Rattle.std.proofs.lemmas.Str.Ascii.{uppercase_is}
use Rattle.cse_lemmas.proofs.Lists.{AllByRecursion-back}
use Rattle.cse_dict.specs.Keys.{kept_name}
use Rattle.cse_image_parts.specs.Image.{ArrayLists}
use Rattle.cse_image_parts.specs.Texts.{is_upper, is_name_char, is_name}
use Rattle.cse_syntax_tree.specs.Leaf as leaf
use Rattle.cse_syntax_tree.specs.Leaf.{starts_with_letter, is_word_byte, is_none, reserved, is_left_out}
use Rattle.cse_logic_tree.specs.Typed.{Declaration, Numeric, Alpha, Array', Function'}
use Rattle.cse_logic_tree.specs.Erase.{erase_declaration}
use Rattle.cse_compile.specs.Tables.{arrays_in}
use Rattle.cse_logic_names.specs.declared.meaning.Meaning.{Meaning}
use Rattle.cse_logic_names.specs.declared.meaning.Meaning.TheVariants as m
use Rattle.cse_logic_tree.specs.declared.tree.Variable.TheVariants as v
use Rattle.cse_logic_names.specs.Scope.{numbered_from, declared_from}

-- ---- their form

letter_up : (c : ℕ) → is_ascii_alphabetic c ≡ true → is_upper (to_ascii_uppercase c) ≡ true
letter_up c h = grind (arith, nat_tests, uppercase_is c)

byte_up : (c : ℕ) → is_word_byte c ≡ true → is_name_char (to_ascii_uppercase c) ≡ true
byte_up c h = grind (arith, nat_tests, uppercase_is c)

all_up : (cs : List ℕ) → list_all is_word_byte cs ≡ true → list_all is_name_char (kept_name cs) ≡ true
all_up [] h = refl
all_up (c ∷ cs) h =
    let p = and_parts (is_word_byte c) (list_all is_word_byte cs) h in
    and_from (is_name_char (to_ascii_uppercase c)) (list_all is_name_char (kept_name cs)) (byte_up c p.0) (all_up cs p.1)

first_up : (cs : List ℕ) → starts_with_letter cs ≡ true → is_upper (slice_index (kept_name cs) 0) ≡ true
first_up [] h = absurd cc
first_up (c ∷ cs) h = letter_up c h

pub name_fits : (text : List ℕ) → leaf.is_name text ≡ true → is_name (kept_name text) ≡ true
unfolding is_name leaf.is_name
name_fits text h =
    let a = and_parts (starts_with_letter text) (list_all is_word_byte text && (nat_le (length text) 32 && (is_none (reserved text) && not (is_left_out text)))) h in
    let b = and_parts (list_all is_word_byte text) (nat_le (length text) 32 && (is_none (reserved text) && not (is_left_out text))) a.1 in
    let c = and_parts (nat_le (length text) 32) (is_none (reserved text) && not (is_left_out text)) b.1 in
    let n = length-map text to_ascii_uppercase in
    and_from (is_upper (slice_index (kept_name text) 0) && list_all is_name_char (kept_name text)) (nat_le (length (kept_name text)) 32)
    (and_from (is_upper (slice_index (kept_name text) 0)) (list_all is_name_char (kept_name text)) (first_up text a.0) (all_up text b.0))
    (ap (λ k. nat_le k 32) n ∙ c.0)

-- ---- each once

abbrev named : List ℕ × Meaning → List ℕ
named x = x.0

abbrev pub names_of : List ArrayLists → List (List ℕ)
names_of xs = map (λ (x : ArrayLists). x.name) xs

module _ (P : List ℕ → Type 0) where
  behind_names : (xs ys : List (List ℕ × Meaning)) → AllByRecursion P (map named (xs ++ ys)) → AllByRecursion P (map named ys)
  behind_names xs ys h = AllByRecursion-back P (map named xs) (map named ys) (subst (AllByRecursion P) (map-append named xs ys) h)

  among : (g a f : ℕ) (ds : List Declaration) → AllByRecursion P (map named (declared_from g a f (map erase_declaration ds))) → AllByRecursion P (names_of (arrays_in ds))
  among g a f [] h = tt
  among g a f (Numeric names ∷ ds) h = among (g + length names) a f ds (behind_names (numbered_from (λ n. m.Variable (v.Global n)) g names) (declared_from (g + length names) a f (map erase_declaration ds)) h)
  among g a f (Alpha digits size names ∷ ds) h = among (g + length names) a f ds (behind_names (numbered_from m.Text g names) (declared_from (g + length names) a f (map erase_declaration ds)) h)
  among g a f (Array' array ∷ ds) h = (h.0, among g (a + 1) f ds h.1)
  among g a f (Function' function ∷ ds) h = among g a (f + 1) ds h.1

distinct_behind : (xs ys : List (List ℕ)) → IsDistinct bytes_eq (xs ++ ys) → IsDistinct bytes_eq ys
unfolding IsDistinct
distinct_behind [] ys h = h
distinct_behind (x ∷ xs) ys h = distinct_behind xs ys h.1

behind_declared : (xs ys : List (List ℕ × Meaning)) → IsDistinct bytes_eq (map named (xs ++ ys)) → IsDistinct bytes_eq (map named ys)
behind_declared xs ys h = distinct_behind (map named xs) (map named ys) (subst (IsDistinct bytes_eq) (map-append named xs ys) h)

pub names_once : (g a f : ℕ) (ds : List Declaration) → IsDistinct bytes_eq (map named (declared_from g a f (map erase_declaration ds))) → IsDistinct bytes_eq (names_of (arrays_in ds))
unfolding IsDistinct
names_once g a f [] h = tt
names_once g a f (Numeric names ∷ ds) h = names_once (g + length names) a f ds (behind_declared (numbered_from (λ n. m.Variable (v.Global n)) g names) (declared_from (g + length names) a f (map erase_declaration ds)) h)
names_once g a f (Alpha digits size names ∷ ds) h = names_once (g + length names) a f ds (behind_declared (numbered_from m.Text g names) (declared_from (g + length names) a f (map erase_declaration ds)) h)
names_once g a f (Array' array ∷ ds) h = (among (λ y. bytes_eq (kept_name array.name.text) y ≡ false) g (a + 1) f ds h.0, names_once g (a + 1) f ds h.1)
names_once g a f (Function' function ∷ ds) h = names_once g a (f + 1) ds h.1
