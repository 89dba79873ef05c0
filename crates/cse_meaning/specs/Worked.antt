-- Worked rows: small sources, and what their events leave.
use Rattle.std.specs.Prelude.{◌≡◌, ℕ, ℤ, pos, negsuc, Bool, true, false, codes, List, [], ◌∷◌, ◌++◌, map, replicate, Option, Some, None, option_map}
use Rattle.cse_value.specs.declared.number.Num.{Num}
use Rattle.cse_value.specs.declared.number.Num.TheVariants.{Whole, NotAppl, Undef}
use Rattle.cse_value.specs.declared.shape.ItemKind.TheVariants as kinds
use Rattle.cse_image_parts.specs.declared.entries.EventCode.TheVariants as events
use Rattle.cse_dict.specs.declared.rows.NumberSpan.{NumberSpan}
use Rattle.cse_dict.specs.Dictionary.{DictionaryText, ItemText}
use Rattle.cse_case.specs.Columns.{LineText, no_line}
use Rattle.cse_case.specs.Case.{CaseText}
use Rattle.cse_verify.specs.CaseEvents.{Moment, moment}
use Rattle.cse_decks.specs.Store.{Kept}
use Rattle.cse_decks.specs.declared.global.GlobalValue.TheVariants as globals
use Rattle.cse_report.specs.declared.argument.Arg.{Arg}
use Rattle.cse_report.specs.declared.argument.Arg.TheVariants as args
use Rattle.cse_syntax_tree.specs.Tree.{Spelling, Own}
use Rattle.cse_syntax_tree.specs.declared.tree.Operator.TheVariants as operators
use Rattle.cse_syntax_tree.specs.declared.tree.Relation.TheVariants as relations
use Rattle.cse_syntax_tree.specs.declared.tree.Special.TheVariants as specials
use Rattle.cse_logic_tree.specs.declared.tree.Variable.TheVariants as v
use Rattle.cse_logic_tree.specs.declared.tree.Found.TheVariants as h
use Rattle.cse_logic_tree.specs.declared.tree.Field.{Field}
use Rattle.cse_logic_tree.specs.declared.tree.Present.{Present}
use Rattle.cse_logic_tree.specs.declared.tree.Present.TheVariants as p
use Rattle.cse_logic_tree.specs.declared.tree.Pick.{Pick}
use Rattle.cse_logic_tree.specs.declared.tree.Owner.{Owner}
use Rattle.cse_logic_tree.specs.declared.tree.Owner.TheVariants as owners
use Rattle.cse_logic_tree.specs.Typed.{Number, numbers, Constant, Special', Variable', Item, ItemAt, Cell, Call, Int, Deck, TotOcc, Minus, Compare, Chain, no_operation, operation_and}
use Rattle.cse_logic_tree.specs.Typed.{Here, OfNumber, Fixed, Statement, statements, Set, SetItem, SetCell, If, For, Do, Impute, PutDeck, ErrMsg, no_arm, else_of, arm}
use Rattle.cse_logic_tree.specs.Typed.{Sized, Whole as Signed, Declaration, Numeric, Array', Function', Plain, Tree}
use Rattle.cse_steps.specs.State.{World, nothing_told}
use Rattle.cse_meaning.specs.Meaning.{meaning}

-- ---- sources

-- names say nothing here
abbrev pub name : Spelling
name = record { token = 0; text = [] }

abbrev pub whole : ℤ → Number
whole z = Constant name z

abbrev pub signed : ℤ → Signed
signed z = record { literal = record { minus = false; digits = name }; value = z }

abbrev pub errmsg : ℕ → List Number → Statement
errmsg index xs = ErrMsg (Own name) index (map OfNumber xs) false

-- the statements of one owner
abbrev pub source : List Declaration → Owner → List Statement → Tree
source ds owner xs = record { globals = Some ds; procedures = record { name = name; owner = owner; body = Plain (statements xs) } ∷ []; messages = [] }

-- ---- a dictionary of persons: sex in column 5, relation in 6, age in 7 to 9

abbrev pub item : ℕ → ℕ → Bool → Option ℤ → ItemText
item start len zero_fill code = record { name = []; shape = record { owner = 0; kind = kinds.Number; len = len; start = start }; zero_fill = zero_fill; code = code }

abbrev pub span : ℤ → ℤ → ℕ → NumberSpan
span low high row = record { low = low; high = high; row = row }

abbrev pub persons : Bool → Option ℤ → DictionaryText
persons zero_fill code = record {
  name = [];
  level_name = [];
  type_columns = record { start = 1; len = 1 };
  records = record { name = []; record_type = codes "P"; shape = record { max_records = 30; record_len = 12 } } ∷ [];
  items = item 5 1 false None ∷ item 6 1 false None ∷ item 7 3 zero_fill code ∷ [];
  sets =
      record { name = []; shape = record { item = 0; rows = 2; partial = false }; spans = span (pos 1) (pos 1) 0 ∷ span (pos 2) (pos 2) 1 ∷ [] } ∷
      record { name = []; shape = record { item = 1; rows = 3; partial = false }; spans = span (pos 1) (pos 1) 0 ∷ span (pos 2) (pos 2) 1 ∷ span (pos 3) (pos 8) 2 ∷ [] } ∷
      [];
}

abbrev pub plain : DictionaryText
plain = persons false None

-- a line of 12 columns
abbrev pub line : List ℕ → LineText
line columns = record no_line { columns = columns ++ codes "   "; len = 9; record_number = Some 0 }

abbrev pub case_of : DictionaryText → List (List ℕ) → CaseText
case_of d lines = record { dictionary = d; ids = []; run = record { lines = map line lines; marked = false; first_line = 1 } }

abbrev pub field : ℕ → Field
field k = record { owner = 0; item = k }

-- of the event's person
abbrev pub own : ℕ → Present
own k = p.Here (field k) h.Event

abbrev pub age : Number
age = Item name (own 2)

-- ---- what an event leaves

abbrev pub store_of : List ℤ → List (List ℤ) → Kept
store_of numbers arrays = record { globals = map (λ z. globals.Number (Whole z)) numbers; arrays = map (map Whole) arrays }

abbrev pub left : DictionaryText → Tree → Moment → List (List ℕ) → Kept → World
left d t m lines store = meaning d t m (record { case = Some (case_of d lines); store = store; told = nothing_told })

abbrev pub left_plain : Tree → Kept → World
left_plain t store = meaning plain t (moment events.ApplicationPostproc 0 0) (record { case = None; store = store; told = nothing_told })

abbrev pub nothing_kept : Kept
nothing_kept = record { globals = []; arrays = [] }

abbrev pub said : ℕ → List Num → List (ℕ × List Arg)
said index xs = (index, map args.Number xs) ∷ []

-- the age of the first line, as it stands there
abbrev pub columns : World → Option (List (List ℕ))
columns w = option_map (λ (t : CaseText). map (λ (l : LineText). l.columns) t.run.lines) w.case

-- ---- sums beyond 64 bits, a divisor 0, quotients toward 0

abbrev pub sums : Tree
sums =
    source []
    owners.Application
    (errmsg 0
    (Chain (whole (pos 9223372036854775807)) (operation_and operators.Add (whole (pos 1)) no_operation)
    ∷ Chain (whole (pos 7)) (operation_and operators.Remainder (whole (pos 0)) no_operation)
    ∷ Int (Chain (Minus (whole (pos 7))) (operation_and operators.Divide (whole (pos 2)) no_operation))
    ∷ Chain (Minus (whole (pos 7))) (operation_and operators.Remainder (whole (pos 2)) no_operation)
    ∷ [])
    ∷ [])

-- ---- cells: an array of ten, and a function that counts its calls in a global and gives 5

abbrev pub ten : Declaration
ten = Array' (record { name = name; dimensions = Sized name 10 ∷ []; saved = false; cells = [] })

abbrev pub counting_calls : Declaration
counting_calls = Function' (record {
  name = name;
  parameters = [];
  body = statements (Set name (v.Global 0) (Chain (Variable' name (v.Global 0)) (operation_and operators.Add (whole (pos 1)) no_operation)) ∷ Set name v.Result (whole (pos 5)) ∷ []);
  needs_case = false;
})

abbrev pub ten_cells : Kept
ten_cells = store_of (pos 0 ∷ []) ((pos 11 ∷ pos 12 ∷ pos 13 ∷ pos 14 ∷ pos 15 ∷ pos 16 ∷ pos 17 ∷ pos 18 ∷ pos 19 ∷ pos 20 ∷ []) ∷ [])

abbrev pub at : ℤ → Number
at z = Cell name 0 (numbers (whole z ∷ []))

abbrev pub cells : Tree
cells = source (ten ∷ []) owners.Application (errmsg 0 (at (pos 0) ∷ at (pos 1) ∷ at (pos 10) ∷ at (pos 11) ∷ []) ∷ [])

-- a cell is set to what the function gives
abbrev pub sets : ℤ → Tree
sets z = source (Numeric (name ∷ []) ∷ ten ∷ counting_calls ∷ []) owners.Application (SetCell name 0 (numbers (whole z ∷ [])) (Call name 0 (numbers [])) ∷ [])

-- ---- ages

abbrev pub if_below : ℤ → Number
if_below z = Compare relations.Less age (whole z)

abbrev pub ages : Tree
ages =
    source []
    (owners.Item (field 2))
    (If (if_below (pos 15)) (statements (errmsg 0 [] ∷ []))
    (arm (if_below (pos 65)) (statements (errmsg 1 (age ∷ []) ∷ []))
    (arm (if_below (pos 200)) (statements (errmsg 2 (age ∷ []) ∷ []))
    (else_of (statements (errmsg 3 (age ∷ []) ∷ [])))))
    ∷ [])

abbrev pub of_age : Moment
of_age = moment events.ItemPostproc 2 1

abbrev pub told_of : List ℕ → List (ℕ × List Arg)
told_of text = (left plain ages of_age (text ∷ []) nothing_kept).told.given

-- the age becomes this number
abbrev pub becomes : Number → Tree
becomes x = source [] (owners.Item (field 2)) (SetItem name (field 2) (Here h.Event) x ∷ [])

abbrev pub line_after : Bool → Option ℤ → Number → Option (List (List ℕ))
line_after zero_fill code x = columns (left (persons zero_fill code) (becomes x) of_age (codes "P001111 2" ∷ []) nothing_kept)

abbrev pub missing : Number
missing = Special' 0 specials.Missing

-- ---- turns of a `do`

abbrev pub loop : ℤ → ℤ → ℤ → Tree
loop a b k = source (Numeric (name ∷ []) ∷ []) owners.Application (Do (record { name = name; variable = v.Global 0; start = Fixed (signed a); again = name; stop = Fixed (signed b); by = Some name; step = k }) (statements []) ∷ [])

-- ---- a hot deck of sexes and relations, other relations in a row of their own

abbrev pub deck : Declaration
deck = Array' (record { name = name; dimensions = Sized name 2 ∷ Sized name 4 ∷ []; saved = true; cells = [] })

abbrev pub picks : List Pick
picks = record { item = own 0; set = 0; has_leftover = false } ∷ record { item = own 1; set = 1; has_leftover = true } ∷ []

abbrev pub imputing : Tree
imputing =
    source (deck ∷ [])
    (owners.Item (field 2))
    (If (Compare relations.Equal age (Special' 0 specials.NotAppl)) (statements (Impute name (field 2) (Here h.Event) (Deck name 0 picks) ∷ []))
    (else_of (statements (PutDeck name 0 picks age ∷ [])))
    ∷ [])

abbrev pub eight : ℤ → Kept
eight z = store_of [] ((z ∷ replicate 7 (pos 0)) ∷ [])

abbrev pub deck_after : List ℕ → ℤ → World
deck_after text z = left plain imputing of_age (text ∷ []) (eight z)

-- ---- a `for` over the persons

abbrev pub adults : Tree
adults =
    source (Numeric (name ∷ name ∷ []) ∷ [])
    owners.Level
    (Set name (v.Global 1) (whole (pos 0))
    ∷ For name (v.Global 0) name 0 (statements
    (If (Compare relations.AtLeast (ItemAt name (field 2) (Variable' name (v.Global 0))) (whole (pos 15)))
    (statements (Set name (v.Global 1) (Chain (Variable' name (v.Global 1)) (operation_and operators.Add (whole (pos 1)) no_operation)) ∷ []))
    no_arm
    ∷ []))
    ∷ errmsg 0 (Variable' name (v.Global 1) ∷ TotOcc name 0 ∷ [])
    ∷ [])

abbrev pub of_three : World
of_three = left plain adults (moment events.LevelPostproc 0 0) (codes "P00111 35" ∷ codes "P00122 30" ∷ codes "P00113  5" ∷ []) (store_of (pos 0 ∷ pos 0 ∷ []) [])

pub record AreWorked : Type 0 where
  pub sums_are_cut : (left_plain sums nothing_kept).told.given ≡ said 0 (Undef ∷ Undef ∷ Whole (negsuc 2) ∷ Whole (negsuc 0) ∷ [])
  pub cells_are_read : (left_plain cells ten_cells).told.given ≡ said 0 (Undef ∷ Whole (pos 11) ∷ Whole (pos 20) ∷ Undef ∷ [])
  pub cell_is_set : (left_plain (sets (pos 2)) ten_cells).store ≡ store_of (pos 1 ∷ []) ((pos 11 ∷ pos 5 ∷ pos 13 ∷ pos 14 ∷ pos 15 ∷ pos 16 ∷ pos 17 ∷ pos 18 ∷ pos 19 ∷ pos 20 ∷ []) ∷ [])
  pub nothing_is_called : (left_plain (sets (pos 11)) ten_cells).store ≡ ten_cells
  pub child : told_of (codes "P00111  7") ≡ said 0 []
  pub adult : told_of (codes "P00211 40") ≡ said 1 (Whole (pos 40) ∷ [])
  pub old : told_of (codes "P00311 70") ≡ said 2 (Whole (pos 70) ∷ [])
  pub odd : told_of (codes "P00411   ") ≡ said 3 (NotAppl ∷ [])
  pub undefined_is_stars : line_after false None age ≡ Some (codes "P00111***   " ∷ [])
  pub negative : line_after false None (Minus (whole (pos 5))) ≡ Some (codes "P00111 -5   " ∷ [])
  pub zero_filled : line_after true None (Minus (whole (pos 5))) ≡ Some (codes "P00111-05   " ∷ [])
  pub no_code : line_after false None missing ≡ Some (codes "P00111***   " ∷ [])
  pub code : line_after false (Some (pos 999)) missing ≡ Some (codes "P00111999   " ∷ [])
  pub no_turn : (left_plain (loop (pos 5) (pos 4) (pos 1)) (store_of (pos 0 ∷ []) [])).store ≡ store_of (pos 5 ∷ []) []
  pub three_turns : (left_plain (loop (pos 1) (pos 10) (pos 4)) (store_of (pos 0 ∷ []) [])).store ≡ store_of (pos 13 ∷ []) []
  pub deck_is_put : (deck_after (codes "P00111 35") (pos 0)).store ≡ eight (pos 35)
  pub deck_is_got : columns (deck_after (codes "P00211   ") (pos 35)) ≡ Some (codes "P00211 35   " ∷ [])
  pub imputation_is_told : (deck_after (codes "P00211   ") (pos 35)).told.imputed ≡ (2, Whole (pos 35)) ∷ []
  pub two_of_three : of_three.told.given ≡ said 0 (Whole (pos 2) ∷ Whole (pos 3) ∷ [])
  pub last_is_kept : of_three.store ≡ store_of (pos 3 ∷ pos 2 ∷ []) []
