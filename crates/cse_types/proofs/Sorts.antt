-- The sort of an expression is that of what it is judged to be.
use Rattle.std.specs.Prelude.{Bool, false, ◌&&◌, not}
use Rattle.std.proofs.Common.{◌≡◌, ℕ, List, ◌++◌, Option, Some, None, refl, sym, ap, ◌∙◌}
use Rattle.cse_value.specs.declared.shape.ItemKind.{ItemKind}
use Rattle.cse_value.specs.declared.shape.ItemKind.TheVariants as kind
use Rattle.cse_syntax_tree.specs.declared.tree.Function.TheVariants as f
use Rattle.cse_syntax_tree.specs.Tree as syntax
use Rattle.cse_syntax_tree.specs.Tree.{Spelling}
use Rattle.cse_logic_tree.specs.declared.tree.Variable.{Variable}
use Rattle.cse_logic_tree.specs.Typed.{Numbers}
use Rattle.cse_logic_names.specs.declared.meaning.Meaning.{Meaning}
use Rattle.cse_logic_names.specs.declared.meaning.Meaning.TheVariants as m
use Rattle.cse_logic_names.specs.Scope.{Scope, meant, own_result, kind_and_owner}
use Rattle.cse_logic_names.specs.Walk.{is_there}
use Rattle.cse_logic_faults.specs.Faults.{Fault, Sort, ANumber, AText, NoSort, is_text, is_number, item_sort, result_sort, bare_sort, indexed_sort, sort_of}
use Rattle.cse_logic_faults.specs.FaultsOfExpressions.{text_faults}
use Rattle.cse_logic_expressions.specs.Judge.{Judged, AsNumber, AsWords, Unknown, is_sound, as_number, item_judged, item_at_judged, result_judged, bare, expr_count, indexed, grouped, judge, judge_all}
use Rattle.cse_logic_expressions.specs.JudgeStatement.{as_words}
use Rattle.cse_types.proofs.Truths.{none, and_both, none_both, none_unless}

abbrev pub sort_judged : Judged → Sort
sort_judged (AsNumber x) = ANumber
sort_judged (AsWords x) = AText
sort_judged Unknown = NoSort

pub number_there : (v : Judged) → is_there (as_number v) ≡ (is_sound v && not (is_text (sort_judged v)))
number_there (AsNumber (Some x)) = refl
number_there (AsNumber None) = refl
number_there (AsWords (Some x)) = refl
number_there (AsWords None) = refl
number_there Unknown = refl

pub words_there : (v : Judged) → is_there (as_words v) ≡ (is_sound v && not (is_number (sort_judged v)))
words_there (AsNumber (Some x)) = refl
words_there (AsNumber None) = refl
words_there (AsWords (Some x)) = refl
words_there (AsWords None) = refl
words_there Unknown = refl

module _ (s : Scope) (name : Spelling) where
  item_sort_is : (item : ℕ) (o : Option (ItemKind × ℕ)) → sort_judged (item_judged s name item o) ≡ item_sort o
  item_sort_is item None = refl
  item_sort_is item (Some (kind.Opaque, owner)) = refl
  item_sort_is item (Some (kind.Number, owner)) = refl
  item_sort_is item (Some (kind.Text, owner)) = refl

  item_at_sort_is : (item : ℕ) (o : Option (ItemKind × ℕ)) (xs : Option Numbers) → sort_judged (item_at_judged s name item o xs) ≡ item_sort o
  item_at_sort_is item None xs = refl
  item_at_sort_is item (Some (kind.Opaque, owner)) xs = refl
  item_at_sort_is item (Some (kind.Number, owner)) xs = refl
  item_at_sort_is item (Some (kind.Text, owner)) xs = refl

  result_sort_is : (o : Option Variable) → sort_judged (result_judged name o) ≡ result_sort (is_there o)
  result_sort_is None = refl
  result_sort_is (Some x) = refl

  bare_sort_is : (o : Option Meaning) → sort_judged (bare s name o) ≡ bare_sort s o
  bare_sort_is None = refl
  bare_sort_is (Some (m.Variable x)) = refl
  bare_sort_is (Some (m.Text g)) = refl
  bare_sort_is (Some (m.Array a)) = refl
  bare_sort_is (Some (m.Function k)) = result_sort_is (own_result s.routine k)
  bare_sort_is (Some (m.Record x)) = refl
  bare_sort_is (Some (m.Item item)) = item_sort_is item (kind_and_owner s.dictionary item)
  bare_sort_is (Some (m.Set x)) = refl
  bare_sort_is (Some m.Application) = refl
  bare_sort_is (Some m.Level) = refl

  indexed_sort_is : (o : Option Meaning) (n : ℕ) (xs : Option Numbers) → sort_judged (indexed s name o n xs) ≡ indexed_sort s o
  indexed_sort_is None n xs = refl
  indexed_sort_is (Some (m.Variable x)) n xs = refl
  indexed_sort_is (Some (m.Text g)) n xs = refl
  indexed_sort_is (Some (m.Array a)) n xs = refl
  indexed_sort_is (Some (m.Function k)) n xs = refl
  indexed_sort_is (Some (m.Record x)) n xs = refl
  indexed_sort_is (Some (m.Item item)) n xs = item_at_sort_is item (kind_and_owner s.dictionary item) xs
  indexed_sort_is (Some (m.Set x)) n xs = refl
  indexed_sort_is (Some m.Application) n xs = refl
  indexed_sort_is (Some m.Level) n xs = refl

grouped_sort : (v : Judged) → sort_judged (grouped v) ≡ sort_judged v
grouped_sort (AsNumber x) = refl
grouped_sort (AsWords x) = refl
grouped_sort Unknown = refl

pub sort_is : (s : Scope) (top : Bool) (x : syntax.Expr) → sort_judged (judge s top x) ≡ sort_of s x
unfolding judge sort_of
sort_is s top (syntax.Number digits) = refl
sort_is s top (syntax.Text text) = refl
sort_is s top (syntax.Special' token value) = refl
sort_is s top (syntax.Bare name) = bare_sort_is s name (meant s name)
sort_is s top (syntax.Indexed name arguments) = indexed_sort_is s name (meant s name) (expr_count arguments) (judge_all s arguments)
sort_is s top (syntax.Group x) = grouped_sort (judge s false x) ∙ sort_is s false x
sort_is s top (syntax.Apply f.Int x) = refl
sort_is s top (syntax.Apply f.Special x) = refl
sort_is s top (syntax.Query' query name) = refl
sort_is s top (syntax.InValueSet name set) = refl
sort_is s top (syntax.Minus x) = refl
sort_is s top (syntax.Not x) = refl
sort_is s top (syntax.Compare relation x y) = refl
sort_is s top (syntax.Chain x others) = refl

-- what is wanted as a number, or as a text, where the faults of the expression are known
module _ (s : Scope) (top : Bool) (x : syntax.Expr) (faults : List Fault) (told : is_sound (judge s top x) ≡ none faults) where
  pub number_told : (token : ℕ) → is_there (as_number (judge s top x)) ≡ none (faults ++ text_faults (sort_of s x) token)
  number_told token =
      number_there (judge s top x)
      ∙ and_both told (ap (λ z. not (is_text z)) (sort_is s top x) ∙ sym (none_unless (not (is_text (sort_of s x))) 44 token))
      ∙ sym (none_both faults (text_faults (sort_of s x) token))
