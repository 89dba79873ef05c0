-- A sound routine names its own parameters alone.
use Rattle.std.proofs.Common.{◌≡◌, ℕ, ◌+◌, ◌<◌, Bool, true, false, List, [], ◌∷◌, ◌++◌, cond, length, Option, Some, None, refl, subst}
use Rattle.std.specs.Prelude.{option_map, if◌then◌else◌, nat_le, position, ◌==◌}
use Rattle.std.specs.Map.{lookup}
use Rattle.std.specs.Str.{bytes_eq}
use Rattle.std.proofs.lemmas.Option.{same_Some, none-some}
use Rattle.cse_value.specs.declared.shape.RecordShape.{RecordShape}
use Rattle.cse_dict.specs.Dictionary.{DictionaryText, number_named, record_names, item_names, set_names}
use Rattle.cse_dict.specs.Keys.{kept_name}
use Rattle.cse_syntax_tree.specs.Tree as syntax
use Rattle.cse_syntax_tree.specs.Tree.{Spelling}
use Rattle.cse_logic_tree.specs.declared.tree.Variable.{Variable}
use Rattle.cse_logic_tree.specs.declared.tree.Variable.TheVariants as v
use Rattle.cse_logic_tree.specs.Typed as tree
use Rattle.cse_logic_tree.specs.Typed.{Which, Here, At, Argument, OfNumber, OfWords, Statement, Statements, Arms}
use Rattle.cse_logic_tree.specs.Typed.{Empty, Set, SetText, SetItem, SetTextItem, SetCell, CallOf, If, For, Do, Jump', Impute, PutDeck, ErrMsg, no_statement, statement_and, no_arm, else_of, arm}
use Rattle.cse_logic_tree.specs.Typed.{Numbers, Operations, no_number, number_and, no_operation, operation_and}
use Rattle.cse_logic_tree.specs.Erase.{erase_statement, erase_block}
use Rattle.cse_logic_names.specs.declared.meaning.Meaning.{Meaning}
use Rattle.cse_logic_names.specs.declared.meaning.Meaning.TheVariants as m
use Rattle.cse_logic_names.specs.declared.meaning.Routine.{Routine}
use Rattle.cse_logic_names.specs.declared.meaning.Routine.TheVariants as r
use Rattle.cse_logic_names.specs.Scope.{Scope, first_of, in_dictionary, meant, meant_in, own_result, variable_meant, variable_named, loop_variable_meant, loop_variable, numbered_from, declared_from, within}
use Rattle.cse_logic_names.specs.WellTyped.{IsNumber, IsWords, AreNumbers, AreOperands, IsArgument, AreArguments, IsWhich, IsStatement, AreStatements, AreArms, messages_in, messages_of}
use Rattle.cse_meaning.proofs.SoundNames.{place_within}
use Rattle.cse_meaning.specs.Plain.{IsOwn, IsPlain, ArePlain, EachPlain, AllPlain, IsPlainPlace, IsPlainArgument, ArePlainArguments, IsPlainStatement, IsPlainBlock, ArePlainArms}
use Rattle.cse_meaning.proofs.ProgramTurns.{HoldTurns, AllHoldTurns, ArmsHoldTurns}

-- ---- names

-- of variables a global, or a parameter below this number
abbrev OwnMeaning : ℕ → Meaning → Type 0
OwnMeaning n (m.Variable x) = IsOwn n x
OwnMeaning n _ = Unit {0}

abbrev pub OwnMeanings : ℕ → List (List ℕ × Meaning) → Type 0
OwnMeanings n [] = Unit {0}
OwnMeanings n (x ∷ xs) = OwnMeaning n x.1 × OwnMeanings n xs

both_own : (n : ℕ) (xs ys : List (List ℕ × Meaning)) → OwnMeanings n xs → OwnMeanings n ys → OwnMeanings n (xs ++ ys)
both_own n [] ys h k = k
both_own n (x ∷ xs) ys h k = (h.0, both_own n xs ys h.1 k)

globals_own : (n g : ℕ) (names : List Spelling) → OwnMeanings n (numbered_from (λ k. m.Variable (v.Global k)) g names)
globals_own n g [] = tt
globals_own n g (x ∷ xs) = (tt, globals_own n (g + 1) xs)

texts_own : (n g : ℕ) (names : List Spelling) → OwnMeanings n (numbered_from m.Text g names)
texts_own n g [] = tt
texts_own n g (x ∷ xs) = (tt, texts_own n (g + 1) xs)

-- what is declared outside of functions is no parameter
pub declared_own : (n g a f : ℕ) (ds : List syntax.Declaration) → OwnMeanings n (declared_from g a f ds)
declared_own n g a f [] = tt
declared_own n g a f (syntax.Numeric names ∷ ds) = both_own n (numbered_from (λ k. m.Variable (v.Global k)) g names) (declared_from (g + length names) a f ds) (globals_own n g names) (declared_own n (g + length names) a f ds)
declared_own n g a f (syntax.Alpha digits names ∷ ds) = both_own n (numbered_from m.Text g names) (declared_from (g + length names) a f ds) (texts_own n g names) (declared_own n (g + length names) a f ds)
declared_own n g a f (syntax.Array' array ∷ ds) = (tt, declared_own n g (a + 1) f ds)
declared_own n g a f (syntax.Function' name parameters body ∷ ds) = (tt, declared_own n g a (f + 1) ds)

looked_up : (n : ℕ) (test : List ℕ → Bool) (xs : List (List ℕ × Meaning)) (y : Meaning) → OwnMeanings n xs → lookup test xs ≡ Some y → OwnMeaning n y
looked_up n test [] y h e = absurd (none-some y e)
looked_up n test (x ∷ xs) y h e = by (test x.0) e (looked_up n test xs y h.1)
  where
    by : (b : Bool) → cond b (Some x.1) (lookup test xs) ≡ Some y → (lookup test xs ≡ Some y → OwnMeaning n y) → OwnMeaning n y
    by true e further = subst (OwnMeaning n) (same_Some x.1 y e) h.0
    by false e further = further e

-- the first of two that are there
either : (n : ℕ) (a b : Option Meaning) (y : Meaning) → ((z : Meaning) → a ≡ Some z → OwnMeaning n z) → ((z : Meaning) → b ≡ Some z → OwnMeaning n z) → first_of a b ≡ Some y → OwnMeaning n y
either n None b y f g e = g y e
either n (Some z) b y f g e = subst (OwnMeaning n) (same_Some z y e) (f z refl)

records_own : (n : ℕ) (o : Option ℕ) (z : Meaning) → option_map m.Record o ≡ Some z → OwnMeaning n z
records_own n None z e = absurd (none-some z e)
records_own n (Some k) z e = subst (OwnMeaning n) (same_Some (m.Record k) z e) tt

items_own : (n : ℕ) (o : Option ℕ) (z : Meaning) → option_map m.Item o ≡ Some z → OwnMeaning n z
items_own n None z e = absurd (none-some z e)
items_own n (Some k) z e = subst (OwnMeaning n) (same_Some (m.Item k) z e) tt

sets_own : (n : ℕ) (o : Option ℕ) (z : Meaning) → option_map m.Set o ≡ Some z → OwnMeaning n z
sets_own n None z e = absurd (none-some z e)
sets_own n (Some k) z e = subst (OwnMeaning n) (same_Some (m.Set k) z e) tt

last_own : (n : ℕ) (a b : Bool) (z : Meaning) → (if a then Some m.Application else (if b then Some m.Level else None)) ≡ Some z → OwnMeaning n z
last_own n true b z e = subst (OwnMeaning n) (same_Some m.Application z e) tt
last_own n false true z e = subst (OwnMeaning n) (same_Some m.Level z e) tt
last_own n false false z e = absurd (none-some z e)

dictionary_own : (n : ℕ) (d : DictionaryText) (text : List ℕ) (y : Meaning) → in_dictionary d text ≡ Some y → OwnMeaning n y
dictionary_own n d text y e =
    either n (option_map m.Record (number_named text (record_names d))) _ y (records_own n (number_named text (record_names d)))
    (λ y e. either n (option_map m.Item (number_named text (item_names d))) _ y (items_own n (number_named text (item_names d)))
    (λ y e. either n (option_map m.Set (number_named text (set_names d))) _ y (sets_own n (number_named text (set_names d))) (last_own n (bytes_eq (kept_name text) d.name) (bytes_eq (kept_name text) d.level_name)) e) e) e

-- ---- a scope

-- what is declared is no parameter
abbrev pub IsKnown : Scope → Type 0
IsKnown s = OwnMeanings (length s.parameters) s.declared

parameters_own : (n : ℕ) (o : Option ℕ) (z : Meaning) → ((k : ℕ) → o ≡ Some k → k < n) → option_map (λ k. m.Variable (v.Parameter k)) o ≡ Some z → OwnMeaning n z
parameters_own n None z f e = absurd (none-some z e)
parameters_own n (Some k) z f e = subst (OwnMeaning n) (same_Some (m.Variable (v.Parameter k)) z e) (f k refl)

meant_own : (s : Scope) (name : Spelling) (y : Meaning) → IsKnown s → meant s name ≡ Some y → OwnMeaning (length s.parameters) y
unfolding meant
meant_own s name y known e = by (nat_le (length name.text) 32) e
  where
    by : (b : Bool) → (if b then meant_in s name.text else None) ≡ Some y → OwnMeaning (length s.parameters) y
    by false e = absurd (none-some y e)
    by true e =
        either (length s.parameters) (option_map (λ k. m.Variable (v.Parameter k)) (position (bytes_eq (kept_name name.text)) s.parameters)) _ y
        (λ z f. parameters_own (length s.parameters) (position (bytes_eq (kept_name name.text)) s.parameters) z (λ k g. place_within (bytes_eq (kept_name name.text)) s.parameters k g) f)
        (λ y e. either (length s.parameters) (lookup (bytes_eq (kept_name name.text)) s.declared) _ y (λ z f. looked_up (length s.parameters) (bytes_eq (kept_name name.text)) s.declared z known f) (λ z f. dictionary_own (length s.parameters) s.dictionary name.text z f) e) e

named_own : (s : Scope) (name : Spelling) (x : Variable) → IsKnown s → variable_named s name ≡ Some x → IsOwn (length s.parameters) x
named_own s name x known e = by (meant s name) (λ y. meant_own s name y known) e
  where
    result_own : (routine : Routine) (f : ℕ) → own_result routine f ≡ Some x → IsOwn (length s.parameters) x
    result_own (r.Procedure owner) f e = absurd (none-some x e)
    result_own (r.Function k) f e = cased (k == f) e
      where
        cased : (b : Bool) → (if b then Some v.Result else None) ≡ Some x → IsOwn (length s.parameters) x
        cased true e = subst (IsOwn (length s.parameters)) (same_Some v.Result x e) tt
        cased false e = absurd (none-some x e)

    by : (o : Option Meaning) → ((y : Meaning) → o ≡ Some y → OwnMeaning (length s.parameters) y) → variable_meant s.routine o ≡ Some x → IsOwn (length s.parameters) x
    by None own e = absurd (none-some x e)
    by (Some (m.Variable y)) own e = subst (IsOwn (length s.parameters)) (same_Some y x e) (own (m.Variable y) refl)
    by (Some (m.Function f)) own e = result_own s.routine f e
    by (Some (m.Text g)) own e = absurd (none-some x e)
    by (Some (m.Array a)) own e = absurd (none-some x e)
    by (Some (m.Record a)) own e = absurd (none-some x e)
    by (Some (m.Item a)) own e = absurd (none-some x e)
    by (Some (m.Set a)) own e = absurd (none-some x e)
    by (Some m.Application) own e = absurd (none-some x e)
    by (Some m.Level) own e = absurd (none-some x e)

loop_own : (s : Scope) (name : Spelling) (x : Variable) → IsKnown s → loop_variable s name ≡ Some x → IsOwn (length s.parameters) x
loop_own s name x known e = by (meant s name) (λ y. meant_own s name y known) e
  where
    by : (o : Option Meaning) → ((y : Meaning) → o ≡ Some y → OwnMeaning (length s.parameters) y) → loop_variable_meant o ≡ Some x → IsOwn (length s.parameters) x
    by None own e = absurd (none-some x e)
    by (Some (m.Variable y)) own e = subst (IsOwn (length s.parameters)) (same_Some y x e) (own (m.Variable y) refl)
    by (Some (m.Function f)) own e = absurd (none-some x e)
    by (Some (m.Text g)) own e = absurd (none-some x e)
    by (Some (m.Array a)) own e = absurd (none-some x e)
    by (Some (m.Record a)) own e = absurd (none-some x e)
    by (Some (m.Item a)) own e = absurd (none-some x e)
    by (Some (m.Set a)) own e = absurd (none-some x e)
    by (Some m.Application) own e = absurd (none-some x e)
    by (Some m.Level) own e = absurd (none-some x e)

-- ---- expressions

abbrev own_count : Scope → ℕ
own_count s = length s.parameters

mutual
  number_own : (s : Scope) (top : Bool) (x : tree.Number) → IsKnown s → IsNumber s top x → IsPlain (own_count s) x
  number_own s top (tree.Constant digits value) known h = tt
  number_own s top (tree.Special' token value) known h = tt
  number_own s top (tree.Variable' name x) known h = named_own s name x known h
  number_own s top (tree.Item name item) known h = tt
  number_own s top (tree.ItemAt name field x) known h = number_own s false x known h.2
  number_own s top (tree.Cell name array xs) known h = numbers_own s xs known h.2
  number_own s top (tree.Call name function xs) known h = numbers_own s xs known h.2
  number_own s top (tree.Group x) known h = number_own s false x known h
  number_own s top (tree.Int x) known h = number_own s true x known h
  number_own s top (tree.IsSpecial x) known h = number_own s false x known h
  number_own s top (tree.Deck name array picks) known h = tt
  number_own s top (tree.TotOcc name of) known h = tt
  number_own s top (tree.MaxOcc name of) known h = tt
  number_own s top (tree.CurOcc name of found) known h = tt
  number_own s top (tree.InSet name item set_name set) known h = tt
  number_own s top (tree.Minus x) known h = number_own s false x known h
  number_own s top (tree.Not x) known h = number_own s false x known h
  number_own s top (tree.Compare relation x y) known h = (number_own s false x known h.0, number_own s false y known h.1)
  number_own s top (tree.CompareTexts relation x y) known h = (words_own s x known h.0, words_own s y known h.1)
  number_own s top (tree.Chain x xs) known h = (number_own s false x known h.0, operands_own s top xs known h.1)

  words_own : (s : Scope) (x : tree.Words) → IsKnown s → IsWords s x → ArePlain (own_count s) x
  words_own s (tree.Quoted text) known h = tt
  words_own s (tree.TextGlobal name g) known h = tt
  words_own s (tree.TextItem name item) known h = tt
  words_own s (tree.TextItemAt name field x) known h = number_own s false x known h.2
  words_own s (tree.TextGroup x) known h = words_own s x known h

  numbers_own : (s : Scope) (xs : Numbers) → IsKnown s → AreNumbers s xs → EachPlain (own_count s) xs
  numbers_own s no_number known h = tt
  numbers_own s (number_and x xs) known h = (number_own s false x known h.0, numbers_own s xs known h.1)

  operands_own : (s : Scope) (top : Bool) (xs : Operations) → IsKnown s → AreOperands s top xs → AllPlain (own_count s) xs
  operands_own s top no_operation known h = tt
  operands_own s top (operation_and operator x xs) known h = (number_own s false x known h.1, operands_own s top xs known h.2)

place_own : (s : Scope) (owner : ℕ) (which : Which) → IsKnown s → IsWhich s owner which → IsPlainPlace (own_count s) which
place_own s owner (Here how) known h = tt
place_own s owner (At x) known h = number_own s false x known h

argument_own : (s : Scope) (x : Argument) → IsKnown s → IsArgument s x → IsPlainArgument (own_count s) x
argument_own s (OfNumber x) known h = number_own s false x known h
argument_own s (OfWords x) known h = words_own s x known h

arguments_own : (s : Scope) (xs : List Argument) → IsKnown s → AreArguments s xs → ArePlainArguments (own_count s) xs
arguments_own s [] known h = tt
arguments_own s (x ∷ xs) known h = (argument_own s x known h.0, arguments_own s xs known h.1)

-- ---- statements

module _ (rs : List RecordShape) where
  mutual
    statement_own : (s : Scope) (n : ℕ) (x : Statement) → IsKnown s → IsStatement s n x → HoldTurns rs x → IsPlainStatement rs (own_count s) x
    statement_own s n Empty known h k = tt
    statement_own s n (Set name y x) known h k = (named_own s name y known h.0, number_own s false x known h.2)
    statement_own s n (SetText name g x) known h k = words_own s x known h.1
    statement_own s n (SetItem name field which x) known h k = (place_own s field.owner which known h.2, number_own s false x known h.3)
    statement_own s n (SetTextItem name field which x) known h k = (place_own s field.owner which known h.2, words_own s x known h.3)
    statement_own s n (SetCell name array xs x) known h k = (numbers_own s xs known h.2, number_own s false x known h.3)
    statement_own s n (CallOf name function xs) known h k = numbers_own s xs known h.2
    statement_own s n (If condition body others) known h k = (number_own s false condition known h.0, block_own s n body known h.1 k.0, arms_own s (n + length (messages_of (erase_block body))) others known h.2 k.1)
    statement_own s n (For name y record_name of body) known h k = (loop_own s name y known h.0, block_own (within s (Some of) y) n body known h.4 k)
    statement_own s n (Do x body) known h k = (loop_own s x.name x.variable known h.0.0, k.0, block_own (within s None x.variable) n body known h.1 k.1)
    statement_own s n (Jump' token x) known h k = tt
    statement_own s n (Impute name field which x) known h k = (place_own s field.owner which known h.2, number_own s false x known h.3)
    statement_own s n (PutDeck name array picks x) known h k = number_own s false x known h.3
    statement_own s n (ErrMsg message index xs summary) known h k = arguments_own s xs known h.2

    pub block_own : (s : Scope) (n : ℕ) (xs : Statements) → IsKnown s → AreStatements s n xs → AllHoldTurns rs xs → IsPlainBlock rs (own_count s) xs
    block_own s n no_statement known h k = tt
    block_own s n (statement_and x xs) known h k = (statement_own s n x known h.0 k.0, block_own s (n + length (messages_in (erase_statement x))) xs known h.1 k.1)

    arms_own : (s : Scope) (n : ℕ) (xs : Arms) → IsKnown s → AreArms s n xs → ArmsHoldTurns rs xs → ArePlainArms rs (own_count s) xs
    arms_own s n no_arm known h k = tt
    arms_own s n (else_of body) known h k = block_own s n body known h k
    arms_own s n (arm condition body others) known h k = (number_own s false condition known h.0, block_own s n body known h.1 k.0, arms_own s (n + length (messages_of (erase_block body))) others known h.2 k.1)
