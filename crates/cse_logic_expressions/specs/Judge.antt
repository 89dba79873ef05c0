-- What an expression of syntax is as a typed one, and where it is none: the tool that the checker follows.
use Rattle.std.specs.Prelude.{ℕ, ◌+◌, Bool, true, false, ◌&&◌, not, ◌==◌, if◌then◌else◌, List, slice_get, Option, Some, None}
use Rattle.std.specs.Option.{option_map}
use Rattle.cse_value.specs.declared.shape.ItemKind.{ItemKind}
use Rattle.cse_value.specs.declared.shape.ItemKind.TheVariants as kind
use Rattle.cse_syntax_tree.specs.declared.tree.Operator.{Operator}
use Rattle.cse_syntax_tree.specs.declared.tree.Relation.{Relation}
use Rattle.cse_syntax_tree.specs.declared.tree.Function.TheVariants as f
use Rattle.cse_syntax_tree.specs.declared.tree.Query.{Query}
use Rattle.cse_syntax_tree.specs.declared.tree.Query.TheVariants as q
use Rattle.cse_syntax_tree.specs.Tree as syntax
use Rattle.cse_syntax_tree.specs.Tree.{Spelling}
use Rattle.cse_logic_tree.specs.declared.tree.Variable.{Variable}
use Rattle.cse_logic_tree.specs.declared.tree.Field.{Field}
use Rattle.cse_logic_tree.specs.declared.tree.Present.{Present}
use Rattle.cse_logic_tree.specs.declared.tree.Present.TheVariants as p
use Rattle.cse_logic_tree.specs.declared.tree.Pick.{Pick}
use Rattle.cse_logic_tree.specs.Typed.{Number, Words, Numbers, Operations, Constant, Special', Variable', Item, ItemAt, Cell, Call, Group, Int, IsSpecial, Deck, TotOcc, MaxOcc, CurOcc, InSet, Minus, Not, Compare, CompareTexts, Chain}
use Rattle.cse_logic_tree.specs.Typed.{Quoted, TextGlobal, TextItem, TextItemAt, TextGroup, no_number, number_and, no_operation, operation_and, number, words}
use Rattle.cse_logic_tree.specs.Typed.{Dimension, Sized, Rows}
use Rattle.cse_logic_expressions.specs.declared.judged.Judged.{Judged as RustJudged}
use Rattle.cse_logic_expressions.specs.declared.judged.Judged.TheVariants as j
use Rattle.cse_logic_names.specs.declared.meaning.Meaning.{Meaning}
use Rattle.cse_logic_names.specs.declared.meaning.Meaning.TheVariants as m
use Rattle.cse_logic_names.specs.Walk.{is_there, joined, only_if, walk}
use Rattle.cse_logic_names.specs.Scope.{Scope, meant, own_result, has_case, kind_and_owner, found}
use Rattle.cse_logic_names.specs.WellTyped.{whole_set, set_kind, set_meant, dimensions_of, may_call, may_divide, value_of}

-- a number or a text, with its tree where it is sound; or of no known kind
pub data Judged : Type 0 where
  AsNumber : Option Number → Judged
  AsWords : Option Words → Judged
  Unknown : Judged

abbrev pub judged : RustJudged → Judged
judged (j.Number x) = AsNumber (option_map number x)
judged (j.Words x) = AsWords (option_map words x)
judged j.Unknown = Unknown

abbrev pub is_sound : Judged → Bool
is_sound (AsNumber x) = is_there x
is_sound (AsWords x) = is_there x
is_sound Unknown = false

-- the number, if it is one and sound
abbrev pub as_number : Judged → Option Number
as_number (AsNumber x) = x
as_number (AsWords x) = None
as_number Unknown = None

-- ---- items

-- the item without a subscript, where there is a case and its occurrence is known
unfoldable pub present_at : Scope → ℕ → ℕ → Option Present
present_at s item owner =
    only_if (has_case s.routine) (if owner == 255 then Some (p.Id item) else option_map (p.Here (record { owner = owner; item = item })) (found s owner))

-- an item of a record, where there is a case
unfoldable pub field_at : Scope → ℕ → ℕ → Option Field
field_at s item owner = only_if (has_case s.routine && not (owner == 255)) (Some (record { owner = owner; item = item }))

abbrev pub item_judged : Scope → Spelling → ℕ → Option (ItemKind × ℕ) → Judged
item_judged s name item None = Unknown
item_judged s name item (Some (kind.Opaque, owner)) = Unknown
item_judged s name item (Some (kind.Number, owner)) = AsNumber (option_map (Item name) (present_at s item owner))
item_judged s name item (Some (kind.Text, owner)) = AsWords (option_map (TextItem name) (present_at s item owner))

-- the only one
abbrev pub sole : Option Numbers → Option Number
sole (Some (number_and x no_number)) = Some x
sole _ = None

abbrev pub item_at_judged : Scope → Spelling → ℕ → Option (ItemKind × ℕ) → Option Numbers → Judged
item_at_judged s name item None xs = Unknown
item_at_judged s name item (Some (kind.Opaque, owner)) xs = Unknown
item_at_judged s name item (Some (kind.Number, owner)) xs = AsNumber (joined (ItemAt name) (field_at s item owner) (sole xs))
item_at_judged s name item (Some (kind.Text, owner)) xs = AsWords (joined (TextItemAt name) (field_at s item owner) (sole xs))

-- ---- names

abbrev pub result_judged : Spelling → Option Variable → Judged
result_judged name None = Unknown
result_judged name (Some x) = AsNumber (Some (Variable' name x))

abbrev pub bare : Scope → Spelling → Option Meaning → Judged
bare s name None = Unknown
bare s name (Some (m.Variable x)) = AsNumber (Some (Variable' name x))
bare s name (Some (m.Text g)) = AsWords (Some (TextGlobal name g))
bare s name (Some (m.Array a)) = AsNumber None
bare s name (Some (m.Function k)) = result_judged name (own_result s.routine k)
bare s name (Some (m.Record x)) = Unknown
bare s name (Some (m.Item item)) = item_judged s name item (kind_and_owner s.dictionary item)
bare s name (Some (m.Set x)) = Unknown
bare s name (Some m.Application) = Unknown
bare s name (Some m.Level) = Unknown

abbrev pub is_count : ℕ → Option ℕ → Bool
is_count n None = false
is_count n (Some k) = k == n

abbrev pub indexed : Scope → Spelling → Option Meaning → ℕ → Option Numbers → Judged
indexed s name None n xs = Unknown
indexed s name (Some (m.Variable x)) n xs = AsNumber None
indexed s name (Some (m.Text g)) n xs = AsWords None
indexed s name (Some (m.Array a)) n xs = AsNumber (only_if (is_count n (dimensions_of s a)) (option_map (Cell name a) xs))
indexed s name (Some (m.Function k)) n xs = AsNumber (only_if (may_call s n (slice_get s.functions k)) (option_map (Call name k) xs))
indexed s name (Some (m.Record x)) n xs = Unknown
indexed s name (Some (m.Item item)) n xs = item_at_judged s name item (kind_and_owner s.dictionary item) xs
indexed s name (Some (m.Set x)) n xs = Unknown
indexed s name (Some m.Application) n xs = Unknown
indexed s name (Some m.Level) n xs = Unknown

-- ---- sets and records

abbrev pub present_if : Scope → ℕ → Option (ItemKind × ℕ) → Option Present
present_if s item (Some (kind.Number, owner)) = present_at s item owner
present_if s item _ = None

-- a numeric item without a subscript
abbrev pub number_present : Scope → ℕ → Option Present
number_present s item = present_if s item (kind_and_owner s.dictionary item)

abbrev pub pick : ℕ → Bool → Present → Pick
pick set one_more item = record { item = item; set = set; has_leftover = one_more }

abbrev pub set_present : Scope → Option ℕ → Option Present
set_present s None = None
set_present s (Some item) = number_present s item

abbrev pub dimension_pick : Scope → Dimension → Option Pick
dimension_pick s (Sized digits size) = None
dimension_pick s (Rows name set one_more size) = option_map (pick set one_more) (set_present s (whole_set (slice_get s.dictionary.sets set)))

-- one pick for each dimension
abbrev pub picks_for : Scope → List Dimension → Option (List Pick)
picks_for s ds = walk (λ d rest. dimension_pick s d) ds

abbrev pub picks_of : Scope → Option (Option (List Dimension)) → Option (List Pick)
picks_of s (Some (Some dimensions)) = only_if (has_case s.routine) (picks_for s dimensions)
picks_of s (Some None) = None
picks_of s None = None

abbrev pub deck_of : Scope → Spelling → Option Meaning → Option Number
deck_of s name (Some (m.Array a)) = option_map (Deck name a) (picks_of s (slice_get s.arrays a))
deck_of s name _ = None

-- the record that a name means, where there is a case
abbrev pub record_of : Scope → Option Meaning → Option ℕ
record_of s (Some (m.Record x)) = only_if (has_case s.routine) (Some x)
record_of s _ = None

abbrev pub current : Scope → Spelling → Option ℕ → Option Number
current s name None = None
current s name (Some x) = option_map (CurOcc name x) (found s x)

abbrev pub queried : Scope → Query → Spelling → Option Meaning → Option Number
queried s q.GetDeck name meaning = deck_of s name meaning
queried s q.TotOcc name meaning = option_map (TotOcc name) (record_of s meaning)
queried s q.MaxOcc name meaning = option_map (MaxOcc name) (record_of s meaning)
queried s q.CurOcc name meaning = current s name (record_of s meaning)

abbrev pub is_number_kind : Option ItemKind → Bool
is_number_kind (Some kind.Number) = true
is_number_kind _ = false

abbrev pub number_set : Scope → Option Meaning → Option ℕ
number_set s (Some (m.Set k)) = only_if (is_number_kind (set_kind s.dictionary k)) (Some k)
number_set s _ = None

abbrev pub in_set : Spelling → Option Spelling → Present → ℕ → Number
in_set name set_name x k = InSet name x set_name k

abbrev pub member : Scope → Spelling → Option Spelling → Option Meaning → Option Number
member s name set_name (Some (m.Item item)) = joined (in_set name set_name) (number_present s item) (number_set s (set_meant s item set_name))
member s name set_name _ = None

-- ---- operators

abbrev pub grouped : Judged → Judged
grouped (AsNumber x) = AsNumber (option_map Group x)
grouped (AsWords x) = AsWords (option_map TextGroup x)
grouped Unknown = Unknown

abbrev pub compared : Relation → Judged → Judged → Option Number
compared relation (AsNumber x) (AsNumber y) = joined (Compare relation) x y
compared relation (AsWords x) (AsWords y) = joined (CompareTexts relation) x y
compared relation (AsNumber x) (AsWords y) = None
compared relation (AsNumber x) Unknown = None
compared relation (AsWords x) (AsNumber y) = None
compared relation (AsWords x) Unknown = None
compared relation Unknown y = None

abbrev pub expr_count : syntax.Exprs → ℕ
expr_count syntax.no_expr = 0
expr_count (syntax.expr_and x xs) = expr_count xs + 1

abbrev pub is_end : syntax.Operations → Bool
is_end syntax.no_operation = true
is_end (syntax.operation_and operator x xs) = false

-- `/` is the topmost operator of what stands in `int`
abbrev pub is_allowed : Bool → Operator → syntax.Operations → Bool
is_allowed top operator others = may_divide top operator (is_end others)

-- one operator, and its operand
abbrev pub operation_judged : Bool → Operator → Bool → Option Number → Option (Operator × Number)
operation_judged top operator last x = only_if (may_divide top operator last) (option_map (λ y. (operator, y)) x)

unfoldable mutual
  pub judge : Scope → Bool → syntax.Expr → Judged
  judge s top (syntax.Number digits) = AsNumber (option_map (Constant digits) (value_of digits))
  judge s top (syntax.Text text) = AsWords (Some (Quoted text))
  judge s top (syntax.Special' token value) = AsNumber (Some (Special' token value))
  judge s top (syntax.Bare name) = bare s name (meant s name)
  judge s top (syntax.Indexed name arguments) = indexed s name (meant s name) (expr_count arguments) (judge_all s arguments)
  judge s top (syntax.Group x) = grouped (judge s false x)
  judge s top (syntax.Apply f.Int x) = AsNumber (option_map Int (as_number (judge s true x)))
  judge s top (syntax.Apply f.Special x) = AsNumber (option_map IsSpecial (as_number (judge s false x)))
  judge s top (syntax.Query' query name) = AsNumber (queried s query name (meant s name))
  judge s top (syntax.InValueSet name set_name) = AsNumber (member s name set_name (meant s name))
  judge s top (syntax.Minus x) = AsNumber (option_map Minus (as_number (judge s false x)))
  judge s top (syntax.Not x) = AsNumber (option_map Not (as_number (judge s false x)))
  judge s top (syntax.Compare relation x y) = AsNumber (compared relation (judge s false x) (judge s false y))
  judge s top (syntax.Chain x others) = AsNumber (joined Chain (as_number (judge s false x)) (judge_operations s top others))

  pub judge_all : Scope → syntax.Exprs → Option Numbers
  judge_all s syntax.no_expr = Some no_number
  judge_all s (syntax.expr_and x xs) = joined number_and (as_number (judge s false x)) (judge_all s xs)

  pub judge_operations : Scope → Bool → syntax.Operations → Option Operations
  judge_operations s top syntax.no_operation = Some no_operation
  judge_operations s top (syntax.operation_and operator x xs) =
      only_if (is_allowed top operator xs) (joined (operation_and operator) (as_number (judge s false x)) (judge_operations s top xs))

abbrev pub judge_operation : Scope → Bool → Operator × syntax.Expr → Bool → Option (Operator × Number)
judge_operation s top x last = operation_judged top x.0 last (as_number (judge s false x.1))
