-- What holds of a case and stays so when an allowed item is written holds after each event.
use Rattle.std.proofs.Common.{◌≡◌, ℕ, zero, suc, ◌+◌, ◌≤◌, Bool, true, false, List, [], ◌∷◌, length, map, Option, Some, None, refl, subst, cond}
use Rattle.std.specs.Prelude.{pos, negsuc, ◌&&◌, not, nat_le, if◌then◌else◌, find, slice_get, ◌==◌}
use Rattle.std.specs.Option.{option_map_or}
use Rattle.std.proofs.lemmas.Option.{same_Some, none-some}
use Rattle.std.proofs.lemmas.Bool.{and_parts, leb-true}
use Rattle.cse_value.specs.declared.shape.ItemKind.{ItemKind}
use Rattle.cse_value.specs.declared.shape.ItemKind.TheVariants as kind
use Rattle.cse_value.specs.declared.number.Num.{Num}
use Rattle.cse_value.specs.declared.number.Num.TheVariants.{Whole, NotAppl, Missing, Undef}
use Rattle.cse_value.specs.Number.{sum_of, is_condition}
use Rattle.cse_image_parts.specs.declared.entries.Event.{Event}
use Rattle.cse_dict.specs.Dictionary.{DictionaryText}
use Rattle.cse_case.specs.Case.{CaseText, with_number, with_text}
use Rattle.cse_verify.specs.CaseEvents.{Moment}
use Rattle.cse_decks.specs.declared.global.GlobalValue.{GlobalValue}
use Rattle.cse_decks.specs.Store.{with_global, rewritten}
use Rattle.cse_logic_tree.specs.declared.tree.Variable.{Variable}
use Rattle.cse_logic_tree.specs.declared.tree.Variable.TheVariants as v
use Rattle.cse_syntax_tree.specs.declared.tree.Jump.{Jump}
use Rattle.cse_syntax_tree.specs.declared.tree.Jump.TheVariants as j
use Rattle.cse_logic_tree.specs.declared.tree.Field.{Field}
use Rattle.cse_logic_tree.specs.declared.tree.Owner.{Owner}
use Rattle.cse_logic_tree.specs.Typed.{Number, Words, Numbers, Operations, Constant, Special', Variable', Item, ItemAt, Cell, Call, Group, Int, IsSpecial, Deck, TotOcc, MaxOcc, CurOcc, InSet, Minus, Not, Compare, CompareTexts, Chain}
use Rattle.cse_logic_tree.specs.Typed.{Quoted, TextGlobal, TextItem, TextItemAt, TextGroup, no_number, number_and, no_operation, operation_and}
use Rattle.cse_logic_tree.specs.Typed.{Which, Here, At, Argument, OfNumber, OfWords, Counting, Statement, Statements, Arms, Function, Body, Procedure, Tree}
use Rattle.cse_logic_tree.specs.Typed.{Empty, Set, SetText, SetItem, SetTextItem, SetCell, CallOf, If, For, Do, Jump', Impute, PutDeck, ErrMsg, no_statement, statement_and, no_arm, else_of, arm}
use Rattle.cse_compile.specs.Tables.{functions_in}
use Rattle.cse_steps.specs.State.{World, in_case, in_store}
use Rattle.cse_meaning.specs.Setting.{Context, Locals, Valued, Functions, within}
use Rattle.cse_meaning.specs.Reading.{one_of, number_of_one, many, variable, sizes_of, first_size, other_sizes, operated, deck_place}
use Rattle.cse_meaning.specs.Writing.{text_set, item_set, text_item_set, imputed, cell_set}
use Rattle.cse_meaning.specs.Expressions.{index_and, number_of, words_of, numbers_of, indexes_of, chained}
use Rattle.cse_meaning.specs.Statements.{Flow, Fell, Broke, Skipped, Left, Does, then_do, set, after_turn, repeated, over, turn_and, turns, limit, counted, jumped, which_of, put_at, argument_of, arguments_of, chosen, does, all_do, arms_do}
use Rattle.cse_meaning.specs.Meaning.{world_of, begun, function_of, functions_below, functions, context, declarations, before, after, is_before, is_after, part, is_silent, statements_of, done_by, meaning}
use Rattle.cse_edit.proofs.Puts.{Puts, AllPut, ArmsPut, BodyPuts, ProceduresPut, FunctionsPut}

-- a value put into an allowed item of an occurrence that is there keeps it, and so does all that leaves the case alone
pub record Keeps (A : ItemKind → Field → Type 0) (Q : Option CaseText → Type 0) : Type 0 where
  pub count : ℕ → ℕ
  pub many_are : (w : World) (of : ℕ) → Q w.case → many w of ≡ count of
  pub number_put : (c : CaseText) (f : Field) (o : ℕ) (x : Num) → A kind.Number f → Q (Some c) → 1 ≤ o → o ≤ count f.owner → Q (Some (with_number c f.owner o f.item x))
  pub text_put : (c : CaseText) (f : Field) (o : ℕ) (x : List ℕ) → A kind.Text f → Q (Some c) → 1 ≤ o → o ≤ count f.owner → Q (Some (with_text c f.owner o f.item x))

one_below : (n i o : ℕ) → one_of n i ≡ Some o → (1 ≤ o) × (o ≤ n)
one_below n i o e = by (nat_le 1 i && nat_le i n) refl e
  where
    by : (b : Bool) → (nat_le 1 i && nat_le i n) ≡ b → (if b then Some i else None) ≡ Some o → (1 ≤ o) × (o ≤ n)
    by false is e = absurd (none-some o e)
    by true is e =
        let p = and_parts _ _ is in
        subst (λ k. (1 ≤ k) × (k ≤ n)) (same_Some i o e) (leb-true 1 i p.0, leb-true i n p.1)

number_below : (n : ℕ) (x : Num) (o : ℕ) → number_of_one n x ≡ Some o → (1 ≤ o) × (o ≤ n)
number_below n (Whole (pos i)) o e = one_below n i o e
number_below n (Whole (negsuc i)) o e = absurd (none-some o e)
number_below n NotAppl o e = absurd (none-some o e)
number_below n Missing o e = absurd (none-some o e)
number_below n Undef o e = absurd (none-some o e)

module _ (A : ItemKind → Field → Type 0) (Q : Option CaseText → Type 0) (keeps : Keeps A Q) where
  abbrev On : Flow → Type 0
  On flow = Q (world_of flow).case

  abbrev Stay : Does → Type 0
  Stay go = (ls : Locals) (w : World) → Q w.case → On (go ls w)

  abbrev Gives : {X : Type 0} → (World → Valued X) → Type 0
  Gives go = (w : World) → Q w.case → Q (go w).1.case

  abbrev FunctionsKeep : Functions → Type 0
  FunctionsKeep fn = (k : ℕ) (xs : List Num) → Gives (fn k xs)

  index_keeps : (o : Option ℕ) (w : World) (go : World → Valued (Option (List ℕ))) → Q w.case → Gives go → Q (index_and o w go).1.case
  index_keeps None w go q rest = q
  index_keeps (Some i) w go q rest = rest w q

  -- ---- puts

  item_keeps : (f : Field) (o : ℕ) (x : Num) → A kind.Number f → 1 ≤ o → o ≤ keeps.count f.owner → (w : World) → Q w.case → Q (item_set f o x w).case
  item_keeps f o x a low high w q = by w.case q
    where
      by : (c : Option CaseText) → Q c → Q (option_map_or (λ t. in_case w (with_number t f.owner o f.item x)) c w).case
      by None r = q
      by (Some t) r = keeps.number_put t f o x a r low high

  text_item_keeps : (f : Field) (o : ℕ) (x : List ℕ) → A kind.Text f → 1 ≤ o → o ≤ keeps.count f.owner → (w : World) → Q w.case → Q (text_item_set f o x w).case
  text_item_keeps f o x a low high w q = by w.case q
    where
      by : (c : Option CaseText) → Q c → Q (option_map_or (λ t. in_case w (with_text t f.owner o f.item x)) c w).case
      by None r = q
      by (Some t) r = keeps.text_put t f o x a r low high

  put_keeps : {P X : Type 0} (o : Option P) (w : World) (value : World → Valued X) (into : P → X → World → World) → Q w.case → Gives value
      → ((p : P) → o ≡ Some p → (x : X) (w : World) → Q w.case → Q (into p x w).case) → Q (put_at o w value into).case
  put_keeps None w value into q gives puts = q
  put_keeps (Some p) w value into q gives puts = puts p refl (value w).0 (value w).1 (gives w q)

  -- ---- flows

  then_keeps : (flow : Flow) (go : Does) → On flow → Stay go → On (then_do flow go)
  then_keeps (Fell ls w) go q stay = stay ls w q
  then_keeps (Broke ls w) go q stay = q
  then_keeps (Skipped ls w) go q stay = q
  then_keeps (Left ls w) go q stay = q

  after_keeps : (flow : Flow) (go : Does) → On flow → Stay go → On (after_turn flow go)
  after_keeps (Fell ls w) go q stay = stay ls w q
  after_keeps (Skipped ls w) go q stay = stay ls w q
  after_keeps (Broke ls w) go q stay = q
  after_keeps (Left ls w) go q stay = q

  turn_keeps : (flow : Flow) (go : Does) → On flow → Stay go → On (turn_and flow go)
  turn_keeps (Fell ls w) go q stay = stay ls w q
  turn_keeps (Skipped ls w) go q stay = stay ls w q
  turn_keeps (Broke ls w) go q stay = q
  turn_keeps (Left ls w) go q stay = q

  repeated_keeps : (n : ℕ) (turn : Does) → Stay turn → Stay (repeated n turn)
  repeated_keeps zero turn stay ls w q = q
  repeated_keeps (suc n) turn stay ls w q = after_keeps (turn ls w) (repeated n turn) (stay ls w q) (repeated_keeps n turn stay)

  over_keeps : (n o : ℕ) (turn : ℕ → Does) → ((o : ℕ) → Stay (turn o)) → Stay (over n o turn)
  over_keeps zero o turn stay ls w q = q
  over_keeps (suc n) o turn stay ls w q = after_keeps (turn o ls w) (over n (o + 1) turn) (stay o ls w q) (over_keeps n (o + 1) turn stay)

  set_keeps : (x : Variable) (n : Num) → Stay (set x n)
  set_keeps (v.Global g) n ls w q = q
  set_keeps (v.Parameter k) n ls w q = q
  set_keeps v.Result n ls w q = q

  text_keeps : (g : ℕ) (t : List ℕ) (w : World) → Q w.case → Q (text_set g t w).case
  text_keeps g t w q = by (slice_get w.store.globals g)
    where
      by : (o : Option GlobalValue) → Q (option_map_or (λ before. in_store w (with_global w.store g (rewritten t before))) o w).case
      by None = q
      by (Some before) = q

  counted_keeps : (c : Context) (x : Counting) (body : Does) → Stay body → Stay (counted c x body)
  counted_keeps c x body stay ls w q =
      let turn : Does = λ ls w. turn_and (body ls w) (λ ls w. set x.variable (sum_of (variable w ls x.variable) (Whole x.step)) ls w) in
      then_keeps (set x.variable (Whole (limit c w x.start)) ls w) (repeated (turns (limit c w x.start) (limit c w x.stop) x.step) turn) (set_keeps x.variable (Whole (limit c w x.start)) ls w q)
      (repeated_keeps (turns (limit c w x.start) (limit c w x.stop) x.step) turn (λ ls w q. turn_keeps (body ls w) (λ ls w. set x.variable (sum_of (variable w ls x.variable) (Whole x.step)) ls w) (stay ls w q)
      (λ ls w q. set_keeps x.variable (sum_of (variable w ls x.variable) (Whole x.step)) ls w q)))

  jump_keeps : (x : Jump) → Stay (jumped x)
  jump_keeps j.Break ls w q = q
  jump_keeps j.Next ls w q = q
  jump_keeps j.Exit ls w q = q

  chosen_keeps : (r : Valued Num) (body others : Does) (ls : Locals) → Q r.1.case → Stay body → Stay others → On (chosen r body others ls)
  chosen_keeps r body others ls q one other = by (is_condition r.0)
    where
      by : (b : Bool) → On (if b then body ls r.1 else others ls r.1)
      by true = one ls r.1 q
      by false = other ls r.1 q

  -- ---- with functions that keep it

  module _ (fn : Functions) (fns : FunctionsKeep fn) where
    mutual
      unfolding number_of words_of numbers_of indexes_of chained

      number_keeps : (c : Context) (x : Number) (ls : Locals) → Gives (number_of fn c x ls)
      number_keeps c (Constant digits value) ls w q = q
      number_keeps c (Special' token value) ls w q = q
      number_keeps c (Variable' name x) ls w q = q
      number_keeps c (Item name item) ls w q = q
      number_keeps c (ItemAt name field x) ls w q = number_keeps c x ls w q
      number_keeps c (Cell name array xs) ls w q = indexes_keep c (sizes_of c array) xs ls w q
      number_keeps c (Call name function xs) ls w q = fns function (numbers_of fn c xs ls w).0 (numbers_of fn c xs ls w).1 (numbers_keep c xs ls w q)
      number_keeps c (Group x) ls w q = number_keeps c x ls w q
      number_keeps c (Int x) ls w q = number_keeps c x ls w q
      number_keeps c (IsSpecial x) ls w q = number_keeps c x ls w q
      number_keeps c (Deck name array picks) ls w q = q
      number_keeps c (TotOcc name of) ls w q = q
      number_keeps c (MaxOcc name of) ls w q = q
      number_keeps c (CurOcc name of x) ls w q = q
      number_keeps c (InSet name item set_name set) ls w q = q
      number_keeps c (Minus x) ls w q = number_keeps c x ls w q
      number_keeps c (Not x) ls w q = number_keeps c x ls w q
      number_keeps c (Compare relation x y) ls w q = number_keeps c y ls (number_of fn c x ls w).1 (number_keeps c x ls w q)
      number_keeps c (CompareTexts relation x y) ls w q = words_keep c y ls (words_of fn c x ls w).1 (words_keep c x ls w q)
      number_keeps c (Chain x xs) ls w q = chain_keeps c xs ls (number_of fn c x ls w).0 (number_of fn c x ls w).1 (number_keeps c x ls w q)

      words_keep : (c : Context) (x : Words) (ls : Locals) → Gives (words_of fn c x ls)
      words_keep c (Quoted x) ls w q = q
      words_keep c (TextGlobal name g) ls w q = q
      words_keep c (TextItem name item) ls w q = q
      words_keep c (TextItemAt name field x) ls w q = number_keeps c x ls w q
      words_keep c (TextGroup x) ls w q = words_keep c x ls w q

      numbers_keep : (c : Context) (xs : Numbers) (ls : Locals) → Gives (numbers_of fn c xs ls)
      numbers_keep c no_number ls w q = q
      numbers_keep c (number_and x xs) ls w q = numbers_keep c xs ls (number_of fn c x ls w).1 (number_keeps c x ls w q)

      indexes_keep : (c : Context) (sizes : List ℕ) (xs : Numbers) (ls : Locals) → Gives (indexes_of fn c sizes xs ls)
      indexes_keep c sizes no_number ls w q = q
      indexes_keep c sizes (number_and x xs) ls w q =
          index_keeps (number_of_one (first_size sizes) (number_of fn c x ls w).0) (number_of fn c x ls w).1 (indexes_of fn c (other_sizes sizes) xs ls) (number_keeps c x ls w q) (indexes_keep c (other_sizes sizes) xs ls)

      chain_keeps : (c : Context) (xs : Operations) (ls : Locals) (n : Num) → Gives (chained fn c xs ls n)
      chain_keeps c no_operation ls n w q = q
      chain_keeps c (operation_and operator x xs) ls n w q = chain_keeps c xs ls (operated operator n (number_of fn c x ls w).0) (number_of fn c x ls w).1 (number_keeps c x ls w q)

    argument_keeps : (c : Context) (x : Argument) (ls : Locals) → Gives (argument_of fn c x ls)
    argument_keeps c (OfNumber x) ls w q = number_keeps c x ls w q
    argument_keeps c (OfWords x) ls w q = words_keep c x ls w q

    arguments_keep : (c : Context) (xs : List Argument) (ls : Locals) → Gives (arguments_of fn c xs ls)
    unfolding arguments_of
    arguments_keep c [] ls w q = q
    arguments_keep c (x ∷ xs) ls w q = arguments_keep c xs ls (argument_of fn c x ls w).1 (argument_keeps c x ls w q)

    -- the occurrence that a value is put into is there
    which_keeps : (c : Context) (of : ℕ) (x : Which) (ls : Locals) → Gives (which_of fn c of x ls)
    which_keeps c of (Here x) ls w q = q
    which_keeps c of (At x) ls w q = number_keeps c x ls w q

    which_below : (c : Context) (of : ℕ) (x : Which) (ls : Locals) (w : World) → Q w.case → (o : ℕ) → (which_of fn c of x ls w).0 ≡ Some o → (1 ≤ o) × (o ≤ keeps.count of)
    which_below c of (Here x) ls w q o e = subst (λ n. (1 ≤ o) × (o ≤ n)) (keeps.many_are w of q) (one_below (many w of) _ o e)
    which_below c of (At x) ls w q o e =
        let r = number_of fn c x ls w in
        subst (λ n. (1 ≤ o) × (o ≤ n)) (keeps.many_are r.1 of (number_keeps c x ls w q)) (number_below (many r.1 of) r.0 o e)

    mutual
      unfolding does all_do arms_do

      does_keep : (c : Context) (x : Statement) → Puts A x → Stay (does fn c x)
      does_keep c Empty a ls w q = q
      does_keep c (Set name x value) a ls w q = set_keeps x (number_of fn c value ls w).0 ls (number_of fn c value ls w).1 (number_keeps c value ls w q)
      does_keep c (SetText name g value) a ls w q = text_keeps g (words_of fn c value ls w).0 (words_of fn c value ls w).1 (words_keep c value ls w q)
      does_keep c (SetItem name f which value) a ls w q =
          let place = which_of fn c f.owner which ls w in
          put_keeps place.0 place.1 (number_of fn c value ls) (item_set f) (which_keeps c f.owner which ls w q) (number_keeps c value ls)
          (λ o e x w' q'. let p = which_below c f.owner which ls w q o e in item_keeps f o x a p.0 p.1 w' q')
      does_keep c (SetTextItem name f which value) a ls w q =
          let place = which_of fn c f.owner which ls w in
          put_keeps place.0 place.1 (words_of fn c value ls) (text_item_set f) (which_keeps c f.owner which ls w q) (words_keep c value ls)
          (λ o e x w' q'. let p = which_below c f.owner which ls w q o e in text_item_keeps f o x a p.0 p.1 w' q')
      does_keep c (SetCell name array xs value) a ls w q =
          let place = indexes_of fn c (sizes_of c array) xs ls w in
          put_keeps place.0 place.1 (number_of fn c value ls) (cell_set c array) (indexes_keep c (sizes_of c array) xs ls w q) (number_keeps c value ls) (λ o e x w' q'. q')
      does_keep c (CallOf name function xs) a ls w q = fns function (numbers_of fn c xs ls w).0 (numbers_of fn c xs ls w).1 (numbers_keep c xs ls w q)
      does_keep c (If condition body others) a ls w q =
          chosen_keeps (number_of fn c condition ls w) (all_do fn c body) (arms_do fn c others) ls (number_keeps c condition ls w q) (all_keep c body a.0) (arms_keep c others a.1)
      does_keep c (For name x record_name of body) a ls w q =
          over_keeps (many w of) 1 (λ o ls w. then_do (set x (Whole (pos o)) ls w) (all_do fn (within c of o) body))
          (λ o ls w q. then_keeps (set x (Whole (pos o)) ls w) (all_do fn (within c of o) body) (set_keeps x (Whole (pos o)) ls w q) (all_keep (within c of o) body a)) ls w q
      does_keep c (Do counting body) a ls w q = counted_keeps c counting (all_do fn c body) (all_keep c body a) ls w q
      does_keep c (Jump' token x) a ls w q = jump_keeps x ls w q
      does_keep c (Impute name f which value) a ls w q =
          let place = which_of fn c f.owner which ls w in
          put_keeps place.0 place.1 (number_of fn c value ls) (imputed f) (which_keeps c f.owner which ls w q) (number_keeps c value ls)
          (λ o e x w' q'. let p = which_below c f.owner which ls w q o e in item_keeps f o x a p.0 p.1 w' q')
      does_keep c (PutDeck name array picks value) a ls w q =
          put_keeps (deck_place c w array picks) w (number_of fn c value ls) (cell_set c array) q (number_keeps c value ls) (λ o e x w' q'. q')
      does_keep c (ErrMsg message index xs summary) a ls w q = arguments_keep c xs ls w q

      all_keep : (c : Context) (xs : Statements) → AllPut A xs → Stay (all_do fn c xs)
      all_keep c no_statement a ls w q = q
      all_keep c (statement_and x xs) a ls w q = then_keeps (does fn c x ls w) (all_do fn c xs) (does_keep c x a.0 ls w q) (all_keep c xs a.1)

      arms_keep : (c : Context) (xs : Arms) → ArmsPut A xs → Stay (arms_do fn c xs)
      arms_keep c no_arm a ls w q = q
      arms_keep c (else_of body) a ls w q = all_keep c body a ls w q
      arms_keep c (arm condition body others) a ls w q =
          chosen_keeps (number_of fn c condition ls w) (all_do fn c body) (arms_do fn c others) ls (number_keeps c condition ls w q) (all_keep c body a.0) (arms_keep c others a.1)

  -- ---- functions

  function_puts : (fs : List Function) (k : ℕ) (f : Function) → FunctionsPut A fs → slice_get fs k ≡ Some f → AllPut A f.body
  function_puts [] k f a e = absurd (none-some f e)
  function_puts (g ∷ fs) zero f a e = subst (λ (x : Function). AllPut A x.body) (same_Some g f e) a.0
  function_puts (g ∷ fs) (suc k) f a e = function_puts fs k f a.1 e

  functions_keep : (c : Context) (fs : List Function) (n : ℕ) → FunctionsPut A fs → FunctionsKeep (functions_below c fs n)
  unfolding functions_below
  functions_keep c fs zero a k xs w q = q
  functions_keep c fs (suc n) a k xs w q = by (functions_keep c fs n a) (k == n)
    where
      called : FunctionsKeep (functions_below c fs n) → (o : Option Function) → ((f : Function) → o ≡ Some f → AllPut A f.body) → Q (function_of (functions_below c fs n) c o xs w).1.case
      called below None puts = q
      called below (Some f) puts = all_keep (functions_below c fs n) below c f.body (puts f refl) (begun xs) w q

      by : FunctionsKeep (functions_below c fs n) → (b : Bool) → Q (if b then function_of (functions_below c fs n) c (slice_get fs n) xs w else functions_below c fs n k xs w).1.case
      by below true = called below (slice_get fs n) (λ f e. function_puts fs n f a e)
      by below false = below k xs w q

  -- ---- events

  part_puts : (e : Event) (owner : Owner) (body : Body) → BodyPuts A body → AllPut A (part e owner body)
  part_puts e owner body a = by (is_before e.code e.index owner) (is_after e.code e.index owner)
    where
      by : (x y : Bool) → AllPut A (if x then before body else (if y then after body else no_statement))
      by true y = a.0
      by false true = a.1
      by false false = tt

  found_puts : (e : Event) (ps : List Procedure) (xs : Statements) → ProceduresPut A ps → find (λ xs. not (is_silent xs)) (map (λ (x : Procedure). part e x.owner x.body) ps) ≡ Some xs → AllPut A xs
  found_puts e [] xs a is = absurd (none-some xs is)
  found_puts e (p ∷ ps) xs a is = by (found_puts e ps xs a.1) (not (is_silent (part e p.owner p.body))) is
    where
      by : (find (λ xs. not (is_silent xs)) (map (λ (x : Procedure). part e x.owner x.body) ps) ≡ Some xs → AllPut A xs) → (b : Bool) → cond b (Some (part e p.owner p.body)) (find (λ xs. not (is_silent xs)) (map (λ (x : Procedure). part e x.owner x.body) ps)) ≡ Some xs → AllPut A xs
      by later true is = subst (AllPut A) (same_Some (part e p.owner p.body) xs is) (part_puts e p.owner p.body a.0)
      by later false is = later is

  -- an event leaves it so
  pub event_keeps : (d : DictionaryText) (t : Tree) (m : Moment) → FunctionsPut A (functions_in (declarations t)) → ProceduresPut A t.procedures → (w : World) → Q w.case → Q (meaning d t m w).case
  unfolding meaning functions
  event_keeps d t m fs ps w q = by (statements_of t m.event) (λ xs e. found_puts m.event t.procedures xs ps e)
    where
      by : (o : Option Statements) → ((xs : Statements) → o ≡ Some xs → AllPut A xs) → Q (done_by d t m.occurrence w o).case
      by None puts = q
      by (Some xs) puts = all_keep (functions d t) (functions_keep (context d t 0) (functions_in (declarations t)) (length (functions_in (declarations t))) fs) (context d t m.occurrence) xs (puts xs refl) (begun []) w q
