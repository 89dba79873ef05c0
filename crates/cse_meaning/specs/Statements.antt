-- What statements do.
use Rattle.std.specs.Prelude.{ℕ, ℤ, zero, suc, pos, negsuc, ◌+◌, ◌+ℤ◌, ◌-ℤ◌, int_div, if◌then◌else◌, List, [], ◌∷◌, Option, Some, None}
use Rattle.cse_value.specs.declared.number.Num.{Num}
use Rattle.cse_value.specs.declared.number.Num.TheVariants.{Whole}
use Rattle.cse_value.specs.Number.{sum_of, is_condition}
use Rattle.cse_report.specs.declared.argument.Arg.{Arg}
use Rattle.cse_report.specs.declared.argument.Arg.TheVariants as args
use Rattle.cse_syntax_tree.specs.declared.tree.Count.TheVariants as counts
use Rattle.cse_syntax_tree.specs.declared.tree.Jump.{Jump}
use Rattle.cse_syntax_tree.specs.declared.tree.Jump.TheVariants as j
use Rattle.cse_logic_tree.specs.declared.tree.Variable.{Variable}
use Rattle.cse_logic_tree.specs.Typed.{Which, Here, At, Argument, OfNumber, OfWords, Limit, Fixed, Counted, Counting, Statement, Statements, Arms}
use Rattle.cse_logic_tree.specs.Typed.{Empty, Set, SetText, SetItem, SetTextItem, SetCell, CallOf, If, For, Do, Jump', Impute, PutDeck, ErrMsg, no_statement, statement_and, no_arm, else_of, arm}
use Rattle.cse_steps.specs.State.{World, with_given}
use Rattle.cse_meaning.specs.Setting.{Context, Locals, Valued, Functions, within}
use Rattle.cse_meaning.specs.Reading.{number_of_one, many, found, variable, sizes_of, deck_place}
use Rattle.cse_meaning.specs.Writing.{local_set, global_set, text_set, item_set, text_item_set, imputed, cell_set}
use Rattle.cse_meaning.specs.Expressions.{altered, joined, and_then, number_of, words_of, numbers_of, indexes_of, most}

-- How statements end: they fell through to what follows, or did `break`, `next` or `exit`.
pub data Flow : Type 0 where
  Fell : (locals : Locals) (world : World) → Flow
  Broke : (locals : Locals) (world : World) → Flow
  Skipped : (locals : Locals) (world : World) → Flow
  Left : (locals : Locals) (world : World) → Flow

abbrev pub Does : Type 0
Does = Locals → World → Flow

abbrev pub then_do : Flow → Does → Flow
then_do (Fell ls w) go = go ls w
then_do (Broke ls w) go = Broke ls w
then_do (Skipped ls w) go = Skipped ls w
then_do (Left ls w) go = Left ls w

-- a variable is set
abbrev pub set : Variable → Num → Does
set x n ls w = Fell (local_set x n ls) (global_set x n w)

-- ---- loops

-- after a turn: `next` goes on like the end of the turn, `break` ends the loop, and `exit` all
abbrev pub after_turn : Flow → Does → Flow
after_turn (Fell ls w) go = go ls w
after_turn (Skipped ls w) go = go ls w
after_turn (Broke ls w) go = Fell ls w
after_turn (Left ls w) go = Left ls w

-- so many turns
abbrev pub repeated : ℕ → Does → Does
repeated zero turn ls w = Fell ls w
repeated (suc n) turn ls w = after_turn (turn ls w) (repeated n turn)

-- so many turns, the first of them with this occurrence
abbrev pub over : ℕ → ℕ → (ℕ → Does) → Does
over zero o turn ls w = Fell ls w
over (suc n) o turn ls w = after_turn (turn o ls w) (over n (o + 1) turn)

-- what ends each turn of a `do`, unless `break` or `exit` left it
abbrev pub turn_and : Flow → Does → Flow
turn_and (Fell ls w) go = go ls w
turn_and (Skipped ls w) go = go ls w
turn_and (Broke ls w) go = Broke ls w
turn_and (Left ls w) go = Left ls w

-- (b - a + k) / k, truncated; none where below 1
abbrev pub no_less : ℤ → ℕ
no_less (pos n) = n
no_less (negsuc n) = 0

abbrev pub turns : ℤ → ℤ → ℤ → ℕ
turns a b k = no_less (int_div ((b -ℤ a) +ℤ k) k)

abbrev pub limit : Context → World → Limit → ℤ
limit c w (Fixed x) = x.value
limit c w (Counted counts.MaxOcc name of) = pos (most c of)
limit c w (Counted counts.TotOcc name of) = pos (many w of)

-- the variable is set, the turns are counted before the first of them, and after each the variable is counted on
abbrev pub counted : Context → Counting → Does → Does
counted c x body ls w =
    then_do (set x.variable (Whole (limit c w x.start)) ls w)
    (repeated (turns (limit c w x.start) (limit c w x.stop) x.step) (λ ls w. turn_and (body ls w) (λ ls w. set x.variable (sum_of (variable w ls x.variable) (Whole x.step)) ls w)))

-- ---- leaving

abbrev pub jumped : Jump → Does
jumped j.Break = Broke
jumped j.Next = Skipped
jumped j.Exit = Left

-- ---- places and values

-- which occurrence a value is put into
abbrev pub which_of : Functions → Context → ℕ → Which → Locals → World → Valued (Option ℕ)
which_of fn c of (Here x) ls w = (found c w of x, w)
which_of fn c of (At x) ls w = and_then (number_of fn c x ls w) (λ n w. (number_of_one (many w of) n, w))

-- The value is put where the place leads. Where it leads nowhere the statement ends, and the value isn't evaluated.
abbrev pub put_at : {P X : Type 0} → Option P → World → (World → Valued X) → (P → X → World → World) → World
put_at None w value after = w
put_at (Some place) w value after = after place (value w).0 (value w).1

abbrev pub put : {P X : Type 0} → Valued (Option P) → (World → Valued X) → (P → X → World → World) → Locals → Flow
put place value after ls = Fell ls (put_at place.0 place.1 value after)

-- ---- messages

abbrev pub argument_of : Functions → Context → Argument → Locals → World → Valued Arg
argument_of fn c (OfNumber x) ls w = altered args.Number (number_of fn c x ls w)
argument_of fn c (OfWords x) ls w = altered (λ t. args.Words (record { items = t })) (words_of fn c x ls w)

unfoldable pub arguments_of : Functions → Context → List Argument → Locals → World → Valued (List Arg)
arguments_of fn c [] ls w = ([], w)
arguments_of fn c (x ∷ xs) ls w = joined (λ y ys. y ∷ ys) (argument_of fn c x ls w) (arguments_of fn c xs ls)

-- ---- statements

-- the statements of a condition that holds, and else the others
abbrev pub chosen : Valued Num → Does → Does → Locals → Flow
chosen r body others ls = if is_condition r.0 then body ls r.1 else others ls r.1

unfoldable mutual
  pub does : Functions → Context → Statement → Does
  does fn c Empty ls w = Fell ls w
  does fn c (Set name x value) ls w = set x (number_of fn c value ls w).0 ls (number_of fn c value ls w).1
  does fn c (SetText name g value) ls w = Fell ls (text_set g (words_of fn c value ls w).0 (words_of fn c value ls w).1)
  does fn c (SetItem name field which value) ls w = put (which_of fn c field.owner which ls w) (number_of fn c value ls) (item_set field) ls
  does fn c (SetTextItem name field which value) ls w = put (which_of fn c field.owner which ls w) (words_of fn c value ls) (text_item_set field) ls
  does fn c (SetCell name array xs value) ls w = put (indexes_of fn c (sizes_of c array) xs ls w) (number_of fn c value ls) (cell_set c array) ls
  does fn c (CallOf name function xs) ls w = Fell ls (and_then (numbers_of fn c xs ls w) (fn function)).1
  does fn c (If condition body others) ls w = chosen (number_of fn c condition ls w) (all_do fn c body) (arms_do fn c others) ls
  does fn c (For name x record_name of body) ls w = over (many w of) 1 (λ o ls w. then_do (set x (Whole (pos o)) ls w) (all_do fn (within c of o) body)) ls w
  does fn c (Do counting body) ls w = counted c counting (all_do fn c body) ls w
  does fn c (Jump' token x) ls w = jumped x ls w
  does fn c (Impute name field which value) ls w = put (which_of fn c field.owner which ls w) (number_of fn c value ls) (imputed field) ls
  does fn c (PutDeck name array picks value) ls w = put (deck_place c w array picks, w) (number_of fn c value ls) (cell_set c array) ls
  does fn c (ErrMsg message index xs summary) ls w = Fell ls (with_given (arguments_of fn c xs ls w).1 index (arguments_of fn c xs ls w).0)

  -- one after the other
  pub all_do : Functions → Context → Statements → Does
  all_do fn c no_statement ls w = Fell ls w
  all_do fn c (statement_and x xs) ls w = then_do (does fn c x ls w) (all_do fn c xs)

  -- the first whose condition holds, or the `else`
  pub arms_do : Functions → Context → Arms → Does
  arms_do fn c no_arm ls w = Fell ls w
  arms_do fn c (else_of body) ls w = all_do fn c body ls w
  arms_do fn c (arm condition body others) ls w = chosen (number_of fn c condition ls w) (all_do fn c body) (arms_do fn c others) ls
