-- What a statement of syntax is as a typed one, and where it is none: the tool that the checker follows.
use Rattle.std.specs.Prelude.{ℕ, ◌+◌, ℤ, Bool, false, ◌&&◌, ◌==◌, if◌then◌else◌, nat_le, List, [], ◌∷◌, ◌++◌, length, slice_get, Option, Some, None}
use Rattle.std.specs.Option.{option_map}
use Rattle.cse_value.specs.declared.shape.ItemKind.{ItemKind}
use Rattle.cse_value.specs.declared.shape.ItemKind.TheVariants as kind
use Rattle.cse_image_parts.specs.declared.placeholders.ArgumentKind.{ArgumentKind}
use Rattle.cse_image_parts.specs.declared.placeholders.ArgumentKind.TheVariants as a
use Rattle.cse_syntax_tree.specs.Tree as syntax
use Rattle.cse_syntax_tree.specs.Tree.{Spelling}
use Rattle.cse_logic_tree.specs.declared.tree.Variable.{Variable}
use Rattle.cse_logic_tree.specs.declared.tree.Field.{Field}
use Rattle.cse_logic_tree.specs.declared.tree.Found.{Found}
use Rattle.cse_logic_tree.specs.declared.tree.Which as rustwhich
use Rattle.cse_logic_tree.specs.declared.tree.Limit as rustlimit
use Rattle.cse_logic_tree.specs.Typed.{which, limit, Number, Words, Numbers, Which, Here, At, Argument, OfNumber, OfWords, Whole, Limit, Fixed, Counted, Counting, Statement, Statements, Arms}
use Rattle.cse_logic_tree.specs.Typed.{Empty, Set, SetText, SetItem, SetTextItem, SetCell, CallOf, If, For, Do, Jump', Impute, PutDeck, ErrMsg, no_statement, statement_and, no_arm, else_of, arm, arms}
use Rattle.cse_logic_names.specs.declared.meaning.Meaning.{Meaning}
use Rattle.cse_logic_names.specs.declared.meaning.Meaning.TheVariants as m
use Rattle.cse_logic_names.specs.Scope.{Scope, Loops, meant, own_result, loop_variable, kind_and_owner, found, is_free, within}
use Rattle.cse_logic_names.specs.WellTyped.{dimensions_of, may_call, messages_in, messages_of, kinds_of, signed_value, step_of, may_jump}
use Rattle.cse_logic_expressions.specs.Judge.{Judged, AsNumber, AsWords, Unknown, as_number, field_at, sole, is_count, picks_of, record_of, expr_count, judge, judge_all}
use Rattle.cse_logic_names.specs.Walk.{joined, only_if}

-- the text, if it is one and sound
abbrev pub as_words : Judged → Option Words
as_words (AsNumber x) = None
as_words (AsWords x) = x
as_words Unknown = None

-- ---- what is assigned

-- the variable, if no open loop is over it
abbrev pub free_variable : Loops → Option Variable → Option Variable
free_variable loops None = None
free_variable loops (Some x) = only_if (is_free loops x) (Some x)

-- which occurrence of an item is meant: without subscripts the one that is found, else that of a single one
abbrev pub which_at : ℕ → Option Found → Option Numbers → Option Which
which_at n how subscripts = if n == 0 then option_map Here how else option_map At (sole subscripts)

-- a place of an item of a record; so many subscripts stand behind it
abbrev pub place_at : Scope → ℕ → ℕ → ℕ → Option Numbers → Option (Field × Which)
place_at s n item owner subscripts = joined (λ f w. (f, w)) (field_at s item owner) (which_at n (found s owner) subscripts)

abbrev pub placed : Field × rustwhich.Which → Field × Which
placed p = (p.0, which p.1)

abbrev pub set_item : Spelling → Field × Which → Number → Statement
set_item name place value = SetItem name place.0 place.1 value

abbrev pub set_text_item : Spelling → Field × Which → Words → Statement
set_text_item name place value = SetTextItem name place.0 place.1 value

abbrev pub impute_item : Spelling → Field × Which → Number → Statement
impute_item name place value = Impute name place.0 place.1 value

abbrev pub assign_variable : Scope → Spelling → Option Variable → ℕ → Judged → Option Statement
assign_variable s name x n value = only_if (n == 0) (joined (Set name) (free_variable s.loops x) (as_number value))

abbrev pub assign_item : Scope → Spelling → ℕ → ℕ → Option (ItemKind × ℕ) → Option Numbers → Judged → Option Statement
assign_item s name n item None subscripts value = None
assign_item s name n item (Some (kind.Opaque, owner)) subscripts value = None
assign_item s name n item (Some (kind.Number, owner)) subscripts value = joined (set_item name) (place_at s n item owner subscripts) (as_number value)
assign_item s name n item (Some (kind.Text, owner)) subscripts value = joined (set_text_item name) (place_at s n item owner subscripts) (as_words value)

-- a value, assigned to what a name means; so many subscripts stand behind it
abbrev pub assign : Scope → Spelling → Option Meaning → ℕ → Option Numbers → Judged → Option Statement
assign s name None n subscripts value = None
assign s name (Some (m.Variable x)) n subscripts value = assign_variable s name (Some x) n value
assign s name (Some (m.Text g)) n subscripts value = only_if (n == 0) (option_map (SetText name g) (as_words value))
assign s name (Some (m.Array k)) n subscripts value = only_if (is_count n (dimensions_of s k)) (joined (SetCell name k) subscripts (as_number value))
assign s name (Some (m.Function k)) n subscripts value = assign_variable s name (own_result s.routine k) n value
assign s name (Some (m.Record x)) n subscripts value = None
assign s name (Some (m.Item item)) n subscripts value = assign_item s name n item (kind_and_owner s.dictionary item) subscripts value
assign s name (Some (m.Set x)) n subscripts value = None
assign s name (Some m.Application) n subscripts value = None
assign s name (Some m.Level) n subscripts value = None

abbrev pub impute_number : Scope → Spelling → ℕ → ℕ → Option (ItemKind × ℕ) → Option Numbers → Option Number → Option Statement
impute_number s name n item (Some (kind.Number, owner)) subscripts value = joined (impute_item name) (place_at s n item owner subscripts) value
impute_number s name n item _ subscripts value = None

abbrev pub impute : Scope → Spelling → Option Meaning → ℕ → Option Numbers → Option Number → Option Statement
impute s name (Some (m.Item item)) n subscripts value = impute_number s name n item (kind_and_owner s.dictionary item) subscripts value
impute s name _ n subscripts value = None

abbrev pub put_deck : Scope → Spelling → Option Meaning → Option Number → Option Statement
put_deck s name (Some (m.Array k)) value = joined (PutDeck name k) (picks_of s (slice_get s.arrays k)) value
put_deck s name _ value = None

abbrev pub call_of : Scope → Spelling → Option Meaning → ℕ → Option Numbers → Option Statement
call_of s name (Some (m.Function k)) n arguments = only_if (may_call s n (slice_get s.functions k)) (option_map (CallOf name k) arguments)
call_of s name _ n arguments = None

-- ---- loops

-- the scope of a loop's body, if its head is sound
abbrev pub opened : Scope → Option (Option ℕ × Variable) → Scope
opened s None = s
opened s (Some l) = within s l.0 l.1

-- the loop of a `for`, and that of a `do`
abbrev pub for_loop : Variable × ℕ → Option ℕ × Variable
for_loop x = (Some x.1, x.0)

abbrev pub do_loop : Counting → Option ℕ × Variable
do_loop x = (None, x.variable)

-- the variable and the record of a `for`
abbrev pub head : Variable → ℕ → Variable × ℕ
head x k = (x, k)

abbrev pub for_head : Scope → Spelling → Spelling → Option (Variable × ℕ)
for_head s variable record_name = joined head (free_variable s.loops (loop_variable s variable)) (record_of s (meant s record_name))

abbrev pub in_for : Scope → Option (Variable × ℕ) → Scope
in_for s x = opened s (option_map for_loop x)

abbrev pub for_of : Spelling → Spelling → Variable × ℕ → Statements → Statement
for_of variable record_name x body = For variable x.0 record_name x.1 body

abbrev pub whole_judged : syntax.Literal → Option Whole
whole_judged x = option_map (λ value. record { literal = x; value = value }) (signed_value x)

abbrev pub limit_judged : Scope → syntax.Limit → Option Limit
limit_judged s (syntax.Fixed x) = option_map Fixed (whole_judged x)
limit_judged s (syntax.Counted count name) = option_map (Counted count name) (record_of s (meant s name))

abbrev pub limits_of : rustlimit.Limit × rustlimit.Limit → Limit × Limit
limits_of x = (limit x.0, limit x.1)

abbrev pub limit_pair : Limit → Limit → Limit × Limit
limit_pair x y = (x, y)

abbrev pub with_step : Variable → ℤ → Variable × ℤ
with_step x step = (x, step)

abbrev pub counting_of : syntax.Counting → Variable × ℤ → Limit × Limit → Counting
counting_of x v limits = record { name = x.variable; variable = v.0; start = limits.0; again = x.again; stop = limits.1; by = x.by; step = v.1 }

abbrev pub counting_judged : Scope → syntax.Counting → Option Counting
counting_judged s x =
    joined (counting_of x)
    (joined with_step (free_variable s.loops (loop_variable s x.variable)) (step_of x.by))
    (joined limit_pair (limit_judged s x.start) (limit_judged s x.stop))

abbrev pub in_do : Scope → Option Counting → Scope
in_do s x = opened s (option_map do_loop x)

-- ---- messages

-- a number that a message may have
abbrev pub ranged : ℕ → Option ℕ
ranged n = if nat_le 1 n && nat_le n 999999999 then Some n else None

-- a value of this kind
abbrev pub as_argument : Option ArgumentKind → Judged → Option Argument
as_argument (Some a.Number) x = option_map OfNumber (as_number x)
as_argument (Some a.Text) x = option_map OfWords (as_words x)
as_argument None x = None

abbrev pub first_kind : List ArgumentKind → Option ArgumentKind
first_kind [] = None
first_kind (k ∷ ks) = Some k

abbrev pub other_kinds : List ArgumentKind → List ArgumentKind
other_kinds [] = []
other_kinds (k ∷ ks) = ks

-- a value of each kind
abbrev pub judge_arguments : Scope → List ArgumentKind → syntax.Exprs → Option (List Argument)
judge_arguments s kinds syntax.no_expr = Some []
judge_arguments s kinds (syntax.expr_and x xs) = joined (λ y ys. y ∷ ys) (as_argument (first_kind kinds) (judge s false x)) (judge_arguments s (other_kinds kinds) xs)

abbrev pub message_of : syntax.Message → ℕ → Bool → List Argument → Statement
message_of message index summary values = ErrMsg message index values summary

-- a message that has values of these kinds, as many as stand there
abbrev pub err_msg : Scope → Option (List ArgumentKind) → syntax.Message → ℕ → Bool → syntax.Exprs → Option Statement
err_msg s None message index summary values = None
err_msg s (Some kinds) message index summary values = only_if (length kinds == expr_count values) (option_map (message_of message index summary) (judge_arguments s kinds values))

-- ---- statements

abbrev pub if_of : Number → Statements × Arms → Statement
if_of condition x = If condition x.0 x.1

abbrev pub arm_of : Number → Statements × Arms → Arms
arm_of condition x = arm condition x.0 x.1

-- so many messages stand before it in the source
unfoldable mutual
  pub judge_statement : Scope → ℕ → syntax.Stmt → Option Statement
  judge_statement s n syntax.Empty = Some Empty
  judge_statement s n (syntax.Assign name subscripts value) = assign s name (meant s name) (expr_count subscripts) (judge_all s subscripts) (judge s false value)
  judge_statement s n (syntax.Call name arguments) = call_of s name (meant s name) (expr_count arguments) (judge_all s arguments)
  judge_statement s n (syntax.If condition body others) =
      joined if_of (as_number (judge s false condition)) (joined (λ b o. (b, o)) (judge_block s n body) (judge_arms s (n + length (messages_of body)) others))
  judge_statement s n (syntax.For variable record_name body) =
      joined (for_of variable record_name) (for_head s variable record_name) (judge_block (in_for s (for_head s variable record_name)) n body)
  judge_statement s n (syntax.Do counting body) = joined Do (counting_judged s counting) (judge_block (in_do s (counting_judged s counting)) n body)
  judge_statement s n (syntax.Jump' token jump) = only_if (may_jump s.loops jump) (Some (Jump' token jump))
  judge_statement s n (syntax.Impute name subscripts value) = impute s name (meant s name) (expr_count subscripts) (judge_all s subscripts) (as_number (judge s false value))
  judge_statement s n (syntax.PutDeck deck value) = put_deck s deck (meant s deck) (as_number (judge s false value))
  judge_statement s n (syntax.ErrMsg message values summary) = err_msg s (kinds_of s.messages message) message n summary values

  pub judge_block : Scope → ℕ → syntax.Stmts → Option Statements
  judge_block s n syntax.no_stmt = Some no_statement
  judge_block s n (syntax.stmt_and x xs) = joined statement_and (judge_statement s n x) (judge_block s (n + length (messages_in x)) xs)

  pub judge_arms : Scope → ℕ → syntax.Arms → Option Arms
  judge_arms s n syntax.no_arm = Some no_arm
  judge_arms s n (syntax.else_of body) = option_map else_of (judge_block s n body)
  judge_arms s n (syntax.arm condition body others) =
      joined arm_of (as_number (judge s false condition)) (joined (λ b o. (b, o)) (judge_block s n body) (judge_arms s (n + length (messages_of body)) others))

-- ---- arms

abbrev pub guarded : Number → Statements → Number × Statements
guarded condition body = (condition, body)

-- a condition and the statements that it guards
abbrev pub judge_arm : Scope → ℕ → syntax.Expr × syntax.Stmts → Option (Number × Statements)
judge_arm s n x = joined guarded (as_number (judge s false x.0)) (judge_block s n x.1)

-- one after the other
abbrev pub judge_each : Scope → ℕ → List (syntax.Expr × syntax.Stmts) → Option (List (Number × Statements))
judge_each s n [] = Some []
judge_each s n (x ∷ xs) = joined (λ y ys. y ∷ ys) (judge_arm s n x) (judge_each s (n + length (messages_of x.1)) xs)

abbrev pub messages_each : List (syntax.Expr × syntax.Stmts) → List (syntax.Message × Bool)
messages_each [] = []
messages_each (x ∷ xs) = messages_of x.1 ++ messages_each xs

-- an `if` of its first arm, the others, and what stands behind them
abbrev pub chosen : Option (Number × Statements) → Option (List (Number × Statements)) → Option Arms → Option Statement
chosen first others last = joined (λ x rest. If x.0 x.1 rest) first (joined arms others last)
