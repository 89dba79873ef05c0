-- Which typed trees are sound: one line for each node, with the number of the rule that each part keeps.
--
--   40 a name that is unknown, stands twice, or means another sort; an unknown message number     41 an opaque item, or a set of one
--   42 a set that is partial     43 an id item is assigned     44 kinds differ, or the count of subscripts or arguments
--   45 a function is used before its end     46 `/` outside `int`     47 the variable of an open loop is assigned
--   48 placeholders and arguments differ in number     49 a wrong place
--
-- Kinds are those of the types: a number and a text are of different types, so that most of 44 is in the tree itself.
use Rattle.std.specs.Prelude.{◌≡◌, ◌≤◌, ℕ, ◌+◌, ℤ, pos, neg_ℤ, Bool, true, false, ◌&&◌, ◌||◌, not, ◌==◌, nat_eq, nat_le, if◌then◌else◌, List, [], ◌∷◌, ◌++◌, length, map, find, position, slice_get, unwrap_or, Option, Some, None}
use Rattle.std.specs.List.{AllByRecursion, IsDistinct}
use Rattle.std.specs.Option.{option_map, option_map_or, option_and_then}
use Rattle.std.specs.Map.{lookup}
use Rattle.std.specs.Str.{bytes_eq}
use Rattle.cse_value.specs.declared.shape.ItemKind.{ItemKind}
use Rattle.cse_value.specs.declared.shape.ItemKind.TheVariants as kind
use Rattle.cse_image_parts.specs.declared.placeholders.ArgumentKind.{ArgumentKind}
use Rattle.cse_image_parts.specs.declared.placeholders.ArgumentKind.TheVariants as argument
use Rattle.cse_image_parts.specs.Placeholders.{message_kinds}
use Rattle.cse_dict.specs.Dictionary.{DictionaryText, SetText as ValueSet}
use Rattle.cse_dict.specs.Keys.{kept_name}
use Rattle.cse_syntax_tree.specs.declared.tree.Operator.{Operator}
use Rattle.cse_syntax_tree.specs.declared.tree.Operator.TheVariants as op
use Rattle.cse_syntax_tree.specs.declared.tree.Jump.{Jump}
use Rattle.cse_syntax_tree.specs.declared.tree.Jump.TheVariants as j
use Rattle.cse_syntax_tree.specs.Leaf.{number_of, text_of, is_within, MOST}
use Rattle.cse_syntax_tree.specs.Tree as syntax
use Rattle.cse_syntax_tree.specs.Tree.{Spelling}
use Rattle.cse_logic_tree.specs.declared.tree.Variable.{Variable}
use Rattle.cse_logic_tree.specs.declared.tree.Field.{Field}
use Rattle.cse_logic_tree.specs.declared.tree.Present.{Present}
use Rattle.cse_logic_tree.specs.declared.tree.Present.TheVariants as p
use Rattle.cse_logic_tree.specs.declared.tree.Pick.{Pick}
use Rattle.cse_logic_tree.specs.declared.tree.Owner.{Owner}
use Rattle.cse_logic_tree.specs.declared.tree.Owner.TheVariants as o
use Rattle.cse_logic_tree.specs.Typed.{Number, Words, Numbers, Operations, Constant, Special', Variable', Item, ItemAt, Cell, Call, Group, Int, IsSpecial, Deck, TotOcc, MaxOcc, CurOcc, InSet, Minus, Not, Compare, CompareTexts, Chain}
use Rattle.cse_logic_tree.specs.Typed.{Quoted, TextGlobal, TextItem, TextItemAt, TextGroup, no_number, number_and, no_operation, operation_and}
use Rattle.cse_logic_tree.specs.Typed.{Which, Here, At, Argument, OfNumber, OfWords, Whole, Limit, Fixed, Counted, Counting, Statement, Statements, Arms}
use Rattle.cse_logic_tree.specs.Typed.{Empty, Set, SetText, SetItem, SetTextItem, SetCell, CallOf, If, For, Do, Jump', Impute, PutDeck, ErrMsg, no_statement, statement_and, no_arm, else_of, arm}
use Rattle.cse_logic_tree.specs.Typed.{Dimension, Sized, Rows, Array, Function, Declaration, Numeric, Alpha, Array', Function', Body, Plain, Preproc, Both, Postproc, Procedure, MessageEntry, Tree}
use Rattle.cse_logic_tree.specs.Erase.{erase_statement, erase_block, erase_arms, erase_body, erase_declaration, erase_tree}
use Rattle.cse_logic_names.specs.declared.meaning.Meaning.{Meaning}
use Rattle.cse_logic_names.specs.declared.meaning.Meaning.TheVariants as m
use Rattle.cse_logic_names.specs.declared.meaning.Routine.{Routine}
use Rattle.cse_logic_names.specs.declared.meaning.Routine.TheVariants as r
use Rattle.cse_logic_names.specs.MessageFile.{MessageText}
use Rattle.cse_logic_names.specs.Scope.{Scope, Facts, Loops, meant, in_dictionary, variable_named, loop_variable, has_case, kind_and_owner, found, is_free, are_free, within, declared_from}
use Rattle.cse_logic_names.specs.Uses.{facts_of}

abbrev pub Holds : Bool → Type 0
Holds b = b ≡ true

-- ---- items, sets and hot decks

-- an item of a record and of this kind (41, 43, 44), where there is a case (49)
abbrev pub IsField : Scope → ItemKind → Field → Type 0
IsField s k f = Holds (has_case s.routine) × (kind_and_owner s.dictionary f.item ≡ Some (k, f.owner)) × (f.owner == 255 ≡ false)

-- an id item of this kind (41, 44), or an item of a record whose occurrence is known (49)
abbrev pub IsPresent : Scope → ItemKind → Present → Type 0
IsPresent s k (p.Id item) = Holds (has_case s.routine) × (kind_and_owner s.dictionary item ≡ Some (k, 255))
IsPresent s k (p.Here f how) = IsField s k f × (found s f.owner ≡ Some how)

abbrev pub item_of : Present → ℕ
item_of (p.Id item) = item
item_of (p.Here f how) = f.item

-- the item of a whole set
abbrev pub whole_set : Option ValueSet → Option ℕ
whole_set None = None
whole_set (Some x) = if x.shape.partial then None else Some x.shape.item

abbrev pub kind_of : DictionaryText → Option ℕ → Option ItemKind
kind_of d None = None
kind_of d (Some item) = option_map (λ x. x.0) (kind_and_owner d item)

-- the kind of the item of a set that is whole
unfoldable pub set_kind : DictionaryText → ℕ → Option ItemKind
set_kind d set = kind_of d (whole_set (slice_get d.sets set))

-- a set of a numeric item (41, 44) that is whole (42)
abbrev pub IsNumberSet : DictionaryText → ℕ → Type 0
IsNumberSet d set = set_kind d set ≡ Some kind.Number

abbrev pub first_set : DictionaryText → ℕ → Option ℕ
first_set d item = position (λ (x : ValueSet). nat_eq x.shape.item item) d.sets

-- the set that an item is looked for in: the one that is named, or the item's first
abbrev pub set_meant : Scope → ℕ → Option Spelling → Option Meaning
set_meant s item None = option_map m.Set (first_set s.dictionary item)
set_meant s item (Some name) = meant s name

-- one pick for each dimension, and each dimension a set: the set's item has an occurrence (49)
abbrev pub ArePicks : Scope → List Dimension → List Pick → Type 0
ArePicks s [] [] = Unit {0}
ArePicks s (Rows name set one_more size ∷ ds) (x ∷ xs) =
    (x.set ≡ set) × (x.has_leftover ≡ one_more) × (whole_set (slice_get s.dictionary.sets set) ≡ Some (item_of x.item)) × IsPresent s kind.Number x.item × ArePicks s ds xs
ArePicks s _ _ = ⊥

abbrev pub AreDeckPicks : Scope → Option (Option (List Dimension)) → List Pick → Type 0
AreDeckPicks s (Some (Some dimensions)) picks = ArePicks s dimensions picks
AreDeckPicks s _ picks = ⊥

-- how many dimensions an array has
unfoldable pub dimensions_of : Scope → ℕ → Option ℕ
dimensions_of s array = option_map length (option_and_then (λ x. x) (slice_get s.arrays array))

-- ---- calls

-- a function that has ended (45) may be called with so many arguments (44), where there is a case if it needs one (49), and if it assigns no
-- variable of an open loop (47)
unfoldable pub suits : Scope → ℕ → Facts → Bool
suits s arguments f = (f.parameters == arguments) && ((has_case s.routine || not f.needs_case) && are_free s.loops f.assigned)

abbrev pub may_call : Scope → ℕ → Option (Option Facts) → Bool
may_call s arguments (Some (Some f)) = suits s arguments f
may_call s arguments (Some None) = false
may_call s arguments None = false

-- ---- expressions

abbrev pub count : Numbers → ℕ
count no_number = 0
count (number_and x xs) = count xs + 1

abbrev pub is_divide : Operator → Bool
is_divide op.Divide = true
is_divide _ = false

abbrev pub is_last : Operations → Bool
is_last no_operation = true
is_last (operation_and operator x xs) = false

-- `/` is the topmost operator of what stands in `int`
abbrev pub may_divide : Bool → Operator → Bool → Bool
may_divide top operator last = not (is_divide operator) || (top && last)

-- the number that digits write, which is at most 9,223,372,036,854,775,807
unfoldable pub value_of : Spelling → Option ℤ
value_of digits = if is_within 0 MOST digits.text then Some (pos (number_of digits.text)) else None

-- The number is sound; `top` tells that it stands right inside `int`.
abbrev mutual
  pub IsNumber : Scope → Bool → Number → Type 0
  IsNumber s top (Constant digits value) = value_of digits ≡ Some value
  IsNumber s top (Special' token value) = Unit {0}
  IsNumber s top (Variable' name variable) = variable_named s name ≡ Some variable  -- 40, 44
  IsNumber s top (Item name item) = (meant s name ≡ Some (m.Item (item_of item))) × IsPresent s kind.Number item  -- 40; 41, 44, 49
  IsNumber s top (ItemAt name field place) = (meant s name ≡ Some (m.Item field.item)) × IsField s kind.Number field × IsNumber s false place  -- 40; 41, 44, 49
  IsNumber s top (Cell name array subscripts) = (meant s name ≡ Some (m.Array array)) × (dimensions_of s array ≡ Some (count subscripts)) × AreNumbers s subscripts  -- 40; 44
  IsNumber s top (Call name function arguments) = (meant s name ≡ Some (m.Function function)) × Holds (may_call s (count arguments) (slice_get s.functions function)) × AreNumbers s arguments  -- 40; 44, 45, 47, 49
  IsNumber s top (Group x) = IsNumber s false x
  IsNumber s top (Int x) = IsNumber s true x  -- 46
  IsNumber s top (IsSpecial x) = IsNumber s false x
  IsNumber s top (Deck name array picks) = (meant s name ≡ Some (m.Array array)) × Holds (has_case s.routine) × AreDeckPicks s (slice_get s.arrays array) picks  -- 40; 49
  IsNumber s top (TotOcc name of) = (meant s name ≡ Some (m.Record of)) × Holds (has_case s.routine)  -- 40; 49
  IsNumber s top (MaxOcc name of) = (meant s name ≡ Some (m.Record of)) × Holds (has_case s.routine)  -- 40; 49
  IsNumber s top (CurOcc name of how) = (meant s name ≡ Some (m.Record of)) × Holds (has_case s.routine) × (found s of ≡ Some how)  -- 40; 49
  IsNumber s top (InSet name item set_name set) = (meant s name ≡ Some (m.Item (item_of item))) × IsPresent s kind.Number item × (set_meant s (item_of item) set_name ≡ Some (m.Set set)) × IsNumberSet s.dictionary set  -- 40; 41, 44, 49; 40; 41, 42, 44
  IsNumber s top (Minus x) = IsNumber s false x
  IsNumber s top (Not x) = IsNumber s false x
  IsNumber s top (Compare relation x y) = IsNumber s false x × IsNumber s false y
  IsNumber s top (CompareTexts relation x y) = IsWords s x × IsWords s y
  IsNumber s top (Chain x others) = IsNumber s false x × AreOperands s top others

  pub IsWords : Scope → Words → Type 0
  IsWords s (Quoted text) = Unit {0}
  IsWords s (TextGlobal name variable) = meant s name ≡ Some (m.Text variable)  -- 40, 44
  IsWords s (TextItem name item) = (meant s name ≡ Some (m.Item (item_of item))) × IsPresent s kind.Text item  -- 40; 41, 44, 49
  IsWords s (TextItemAt name field place) = (meant s name ≡ Some (m.Item field.item)) × IsField s kind.Text field × IsNumber s false place  -- 40; 41, 44, 49
  IsWords s (TextGroup x) = IsWords s x

  pub AreNumbers : Scope → Numbers → Type 0
  AreNumbers s no_number = Unit {0}
  AreNumbers s (number_and x xs) = IsNumber s false x × AreNumbers s xs

  pub AreOperands : Scope → Bool → Operations → Type 0
  AreOperands s top no_operation = Unit {0}
  AreOperands s top (operation_and operator x xs) = Holds (may_divide top operator (is_last xs)) × IsNumber s false x × AreOperands s top xs  -- 46

-- ---- messages

-- the messages of a statement, in order of the source, and whether each is only counted
abbrev mutual
  pub messages_in : syntax.Stmt → List (syntax.Message × Bool)
  messages_in syntax.Empty = []
  messages_in (syntax.Assign name subscripts value) = []
  messages_in (syntax.Call name arguments) = []
  messages_in (syntax.If condition body others) = messages_of body ++ messages_behind others
  messages_in (syntax.For variable record_name body) = messages_of body
  messages_in (syntax.Do counting body) = messages_of body
  messages_in (syntax.Jump' token jump) = []
  messages_in (syntax.Impute name subscripts value) = []
  messages_in (syntax.PutDeck deck value) = []
  messages_in (syntax.ErrMsg message values summary) = (message, summary) ∷ []

  pub messages_of : syntax.Stmts → List (syntax.Message × Bool)
  messages_of syntax.no_stmt = []
  messages_of (syntax.stmt_and x xs) = messages_in x ++ messages_of xs

  pub messages_behind : syntax.Arms → List (syntax.Message × Bool)
  messages_behind syntax.no_arm = []
  messages_behind (syntax.else_of body) = messages_of body
  messages_behind (syntax.arm condition body others) = messages_of body ++ messages_behind others

-- the number of a message that digits write, from 1 to 999,999,999
abbrev pub message_number : List ℕ → Option ℕ
message_number digits = if is_within 1 999999999 digits then Some (number_of digits) else None

abbrev pub numbered : List MessageText → Option ℕ → Option MessageText
numbered messages None = None
numbered messages (Some n) = find (λ (x : MessageText). nat_eq n x.number) messages

-- the number and the text of a message: 0 for a text of its own; none for an unknown number
abbrev pub message_meant : List MessageText → syntax.Message → Option MessageText
message_meant messages (syntax.Own text) = Some (record { number = 0; text = text_of text.text })
message_meant messages (syntax.Numbered digits) = numbered messages (message_number digits.text)

-- the kinds of the values that a message wants
abbrev pub kinds_of : List MessageText → syntax.Message → Option (List ArgumentKind)
kinds_of messages message = option_map (λ (x : MessageText). message_kinds x.text) (message_meant messages message)

abbrev pub no_message : MessageText
no_message = record { number = 0; text = [] }

abbrev pub entry_of : List MessageText → syntax.Message × Bool → MessageEntry
entry_of messages x = let said = unwrap_or (message_meant messages x.0) no_message in record { number = said.number; text = said.text; summary = x.1 }

abbrev pub argument_kind : Argument → ArgumentKind
argument_kind (OfNumber x) = argument.Number
argument_kind (OfWords x) = argument.Text

abbrev pub IsArgument : Scope → Argument → Type 0
IsArgument s (OfNumber x) = IsNumber s false x
IsArgument s (OfWords x) = IsWords s x

abbrev pub AreArguments : Scope → List Argument → Type 0
AreArguments s [] = Unit {0}
AreArguments s (x ∷ xs) = IsArgument s x × AreArguments s xs

-- ---- statements

-- a place of an item of this record: the occurrence that is meant (49), or a subscript
abbrev pub IsWhich : Scope → ℕ → Which → Type 0
IsWhich s owner (Here how) = found s owner ≡ Some how
IsWhich s owner (At place) = IsNumber s false place

-- the value of a literal with its sign
abbrev pub signed_value : syntax.Literal → Option ℤ
signed_value x = option_map (λ value. if x.minus then neg_ℤ value else value) (value_of x.digits)

-- the value is that of the literal
abbrev pub IsWhole : Whole → Type 0
IsWhole x = signed_value x.literal ≡ Some x.value

abbrev pub IsLimit : Scope → Limit → Type 0
IsLimit s (Fixed x) = IsWhole x
IsLimit s (Counted counted name of) = (meant s name ≡ Some (m.Record of)) × Holds (has_case s.routine)  -- 40; 49

-- what each turn adds
abbrev pub step_of : Option Spelling → Option ℤ
step_of None = Some (pos 1)
step_of (Some digits) = value_of digits

abbrev pub IsCounting : Scope → Counting → Type 0
IsCounting s x =
    (loop_variable s x.name ≡ Some x.variable)  -- 40
    × Holds (is_free s.loops x.variable)  -- 47
    × IsLimit s x.start × IsLimit s x.stop × (step_of x.by ≡ Some x.step)

-- `break` and `next` stand in a loop
abbrev pub may_jump : Loops → Jump → Bool
may_jump loops j.Exit = true
may_jump [] _ = false
may_jump (l ∷ ls) _ = true

-- The statement is sound; so many messages stand before it in the source.
abbrev mutual
  pub IsStatement : Scope → ℕ → Statement → Type 0
  IsStatement s n Empty = Unit {0}
  IsStatement s n (Set name variable value) = (variable_named s name ≡ Some variable) × Holds (is_free s.loops variable) × IsNumber s false value  -- 40, 44; 47
  IsStatement s n (SetText name variable value) = (meant s name ≡ Some (m.Text variable)) × IsWords s value  -- 40, 44
  IsStatement s n (SetItem name f which value) = (meant s name ≡ Some (m.Item f.item)) × IsField s kind.Number f × IsWhich s f.owner which × IsNumber s false value  -- 40; 41, 43, 44, 49; 49
  IsStatement s n (SetTextItem name f which value) = (meant s name ≡ Some (m.Item f.item)) × IsField s kind.Text f × IsWhich s f.owner which × IsWords s value  -- 40; 41, 43, 44, 49; 49
  IsStatement s n (SetCell name array subscripts value) = (meant s name ≡ Some (m.Array array)) × (dimensions_of s array ≡ Some (count subscripts)) × AreNumbers s subscripts × IsNumber s false value  -- 40; 44
  IsStatement s n (CallOf name function arguments) = (meant s name ≡ Some (m.Function function)) × Holds (may_call s (count arguments) (slice_get s.functions function)) × AreNumbers s arguments  -- 40; 44, 45, 47, 49
  IsStatement s n (If condition body others) = IsNumber s false condition × AreStatements s n body × AreArms s (n + length (messages_of (erase_block body))) others
  IsStatement s n (For name variable record_name of body) = (loop_variable s name ≡ Some variable) × Holds (is_free s.loops variable) × (meant s record_name ≡ Some (m.Record of)) × Holds (has_case s.routine) × AreStatements (within s (Some of) variable) n body  -- 40; 47; 40; 49
  IsStatement s n (Do counting body) = IsCounting s counting × AreStatements (within s None counting.variable) n body
  IsStatement s n (Jump' token jump) = Holds (may_jump s.loops jump)  -- 49
  IsStatement s n (Impute name f which value) = (meant s name ≡ Some (m.Item f.item)) × IsField s kind.Number f × IsWhich s f.owner which × IsNumber s false value  -- 40; 41, 43, 44, 49; 49
  IsStatement s n (PutDeck name array picks value) = (meant s name ≡ Some (m.Array array)) × Holds (has_case s.routine) × AreDeckPicks s (slice_get s.arrays array) picks × IsNumber s false value  -- 40; 49
  IsStatement s n (ErrMsg message index values summary) = (index ≡ n) × (kinds_of s.messages message ≡ Some (map argument_kind values)) × AreArguments s values  -- 40, 44, 48

  pub AreStatements : Scope → ℕ → Statements → Type 0
  AreStatements s n no_statement = Unit {0}
  AreStatements s n (statement_and x xs) = IsStatement s n x × AreStatements s (n + length (messages_in (erase_statement x))) xs

  pub AreArms : Scope → ℕ → Arms → Type 0
  AreArms s n no_arm = Unit {0}
  AreArms s n (else_of body) = AreStatements s n body
  AreArms s n (arm condition body others) = IsNumber s false condition × AreStatements s n body × AreArms s (n + length (messages_of (erase_block body))) others

-- ---- declarations

abbrev pub one_if : Bool → ℕ
one_if true = 1
one_if false = 0

-- the rows of a set; none where it has none
abbrev pub rows_of : Option ValueSet → Option ℕ
rows_of None = None
rows_of (Some x) = if x.shape.rows == 0 then None else Some x.shape.rows

-- the size that digits write: from 1 to the most
unfoldable pub size_in : ℕ → List ℕ → Option ℕ
size_in most digits = if is_within 1 most digits then Some (number_of digits) else None

-- the same, where it is known that they are digits, and what they write
abbrev pub size_fit : ℕ → ℕ → Option ℕ
size_fit most n = if nat_le 1 n && nat_le n most then Some n else None

abbrev pub size_of : ℕ → Spelling → Option ℕ
size_of most digits = size_in most digits.text

-- a number, or a whole set of a numeric item (40; 41, 42, 44) with rows (49)
abbrev pub IsDimension : Scope → Dimension → Type 0
IsDimension s (Sized digits size) = size_of 65535 digits ≡ Some size
IsDimension s (Rows name set one_more size) = (meant s name ≡ Some (m.Set set)) × IsNumberSet s.dictionary set × (option_map (λ rows. rows + one_if one_more) (rows_of (slice_get s.dictionary.sets set)) ≡ Some size)

-- a name that nothing else bears (40)
abbrev pub IsNew : DictionaryText → List (List ℕ × Meaning) → List ℕ → Type 0
IsNew d declared name = (in_dictionary d name ≡ None) × (lookup (bytes_eq name) declared ≡ None)

abbrev pub parameter_names : List syntax.Parameter → List (List ℕ)
parameter_names ps = map (λ p. kept_name p.name.text) ps

-- the scope of a function's body, where so many functions stand before it
abbrev pub function_scope : Scope → ℕ → List syntax.Parameter → Scope
function_scope s k ps = record s { routine = r.Function k; parameters = parameter_names ps }

-- the scope behind a function
abbrev pub with_function : Scope → Function → Scope
with_function s f = record s { functions = s.functions ++ Some (facts_of s.functions f) ∷ [] }

-- a function is sound: its parameters are new names, each once (40); its body is sound after the functions before it
pub record IsFunction (s : Scope) (n : ℕ) (f : Function) : Type 0 where
  pub parameters_new : AllByRecursion (IsNew s.dictionary s.declared) (parameter_names f.parameters)
  pub parameters_once : IsDistinct bytes_eq (parameter_names f.parameters)
  pub body : AreStatements (function_scope s (length s.functions) f.parameters) n f.body
  pub needs : f.needs_case ≡ (facts_of s.functions f).needs_case

-- the declarations are sound, in order
abbrev pub AreDeclared : Scope → ℕ → List Declaration → Type 0
AreDeclared s n [] = Unit {0}
AreDeclared s n (Numeric names ∷ ds) = AreDeclared s n ds
AreDeclared s n (Alpha digits size names ∷ ds) = (size_of 255 digits ≡ Some size) × AreDeclared s n ds
AreDeclared s n (Array' array ∷ ds) = AllByRecursion (IsDimension s) array.dimensions × AllByRecursion IsWhole array.cells × AreDeclared s n ds
AreDeclared s n (Function' f ∷ ds) = IsFunction s n f × AreDeclared (with_function s f) (n + length (messages_of (erase_block f.body))) ds

-- ---- procedures

-- what a procedure of this name belongs to: an item's is that of an item of a record that isn't opaque
abbrev pub owner_in : ℕ → ℕ → Option Owner
owner_in item owner = if owner == 255 then None else Some (o.Item (record { owner = owner; item = item }))

abbrev pub item_owner : ℕ → Option (ItemKind × ℕ) → Option Owner
item_owner item None = None
item_owner item (Some (kind.Opaque, owner)) = None
item_owner item (Some (k, owner)) = owner_in item owner

abbrev pub owner_meant : DictionaryText → Option Meaning → Option Owner
owner_meant d (Some m.Application) = Some o.Application
owner_meant d (Some m.Level) = Some o.Level
owner_meant d (Some (m.Record x)) = Some (o.Record x)
owner_meant d (Some (m.Item item)) = item_owner item (kind_and_owner d item)
owner_meant d _ = None

abbrev pub body_messages : syntax.Body → List (syntax.Message × Bool)
body_messages (syntax.Plain xs) = messages_of xs
body_messages (syntax.Preproc xs) = messages_of xs
body_messages (syntax.Both xs ys) = messages_of xs ++ messages_of ys
body_messages (syntax.Postproc xs) = messages_of xs

abbrev pub IsBody : Scope → ℕ → Body → Type 0
IsBody s n (Plain xs) = AreStatements s n xs
IsBody s n (Preproc xs) = AreStatements s n xs
IsBody s n (Both xs ys) = AreStatements s n xs × AreStatements s (n + length (messages_of (erase_block xs))) ys
IsBody s n (Postproc xs) = AreStatements s n xs

abbrev pub procedure_scope : Scope → Owner → Scope
procedure_scope s owner = record s { routine = r.Procedure owner }

-- the procedures are sound, in order: each is of a name of the dictionary (40), of no opaque item (41) and no id item (49)
abbrev pub AreProcedures : Scope → ℕ → List Procedure → Type 0
AreProcedures s n [] = Unit {0}
AreProcedures s n (x ∷ xs) =
    (owner_meant s.dictionary (in_dictionary s.dictionary x.name.text) ≡ Some x.owner)
    × IsBody (procedure_scope s x.owner) n x.body
    × AreProcedures s (n + length (body_messages (erase_body x.body))) xs

-- ---- sources

abbrev pub all_declarations : Option (List syntax.Declaration) → List syntax.Declaration
all_declarations None = []
all_declarations (Some ds) = ds

abbrev pub typed_declarations : Option (List Declaration) → List Declaration
typed_declarations None = []
typed_declarations (Some ds) = ds

abbrev pub declared_in : syntax.Tree → List (List ℕ × Meaning)
declared_in x = declared_from 0 0 0 (all_declarations x.globals)

-- the messages of the declarations, and of the procedures
abbrev pub declared_messages : List syntax.Declaration → List (syntax.Message × Bool)
declared_messages [] = []
declared_messages (syntax.Function' name parameters body ∷ ds) = messages_of body ++ declared_messages ds
declared_messages (_ ∷ ds) = declared_messages ds

abbrev pub procedure_messages : List syntax.Procedure → List (syntax.Message × Bool)
procedure_messages [] = []
procedure_messages (x ∷ xs) = body_messages x.body ++ procedure_messages xs

abbrev pub tree_messages : syntax.Tree → List (syntax.Message × Bool)
tree_messages x = declared_messages (all_declarations x.globals) ++ procedure_messages x.procedures

abbrev pub arrays_in : List Declaration → List (Option (List Dimension))
arrays_in [] = []
arrays_in (Array' array ∷ ds) = Some array.dimensions ∷ arrays_in ds
arrays_in (_ ∷ ds) = arrays_in ds

-- the scope behind all declarations
abbrev pub with_functions : Scope → List Declaration → Scope
with_functions s [] = s
with_functions s (Function' f ∷ ds) = with_functions (with_function s f) ds
with_functions s (_ ∷ ds) = with_functions s ds

-- what is known before the first function ends
abbrev pub first_scope : DictionaryText → List MessageText → Tree → Scope
first_scope d messages t = record {
  dictionary = d;
  messages = messages;
  declared = declared_in (erase_tree t);
  arrays = arrays_in (typed_declarations t.globals);
  functions = [];
  parameters = [];
  routine = r.Procedure o.Application;
  loops = [];
}

-- A typed tree is sound for a dictionary and the messages of a message file.
pub record IsWell (d : DictionaryText) (messages : List MessageText) (t : Tree) : Type 0 where
  -- 40: each declared name is new, and stands once
  pub names_new : AllByRecursion (λ (x : List ℕ × Meaning). in_dictionary d x.0 ≡ None) (declared_in (erase_tree t))
  pub names_once : IsDistinct bytes_eq (map (λ (x : List ℕ × Meaning). x.0) (declared_in (erase_tree t)))
  pub declarations : AreDeclared (first_scope d messages t) 0 (typed_declarations t.globals)
  -- 40: each owner has one procedure
  pub procedures_once : IsDistinct bytes_eq (map (λ (x : Procedure). kept_name x.name.text) t.procedures)
  pub procedures : AreProcedures (with_functions (first_scope d messages t) (typed_declarations t.globals)) (length (declared_messages (all_declarations (erase_tree t).globals))) t.procedures
  -- one message for each `errmsg`, in order of the source
  pub messages_are : t.messages ≡ map (entry_of messages) (tree_messages (erase_tree t))

-- The tree is sound as this typed tree: it is what the typed tree was made of, and that keeps each rule.
pub record IsTypedAs (d : DictionaryText) (messages : List MessageText) (x : syntax.Tree) (t : Tree) : Type 0 where
  pub erased : erase_tree t ≡ x
  pub well : IsWell d messages t
