-- A source within the limits has a program with a spelling: that whose tables have each entry as often as the code names it.
use Rattle.std.proofs.Common.{◌≡◌, ◌≤◌, ◌<◌, ◌^◌, ℕ, zero, suc, Bool, true, false, List, [], ◌∷◌, ◌++◌, length, map, Option, Some, None, refl, sym, ap, subst, ◌∙◌, arith}
use Rattle.std.specs.Prelude.{slice_get}
use Rattle.std.specs.List.{AllByRecursion, IsDistinct, list_all}
use Rattle.std.specs.Option.{option_map, option_map_or}
use Rattle.std.specs.Str.{bytes_eq}
use Rattle.std.proofs.Math.Logic.{∥∥₁_elim}
use Rattle.std.proofs.lemmas.Bool.{and_parts, le-leb, false≢true}
use Rattle.std.proofs.lemmas.List.{length-map}
use Rattle.std.proofs.lemmas.Option.{same_Some, none-some, slice_get_within}
use Rattle.cse_lemmas.proofs.Lists.{AllByRecursion-at, AllByRecursion-weaker}
use Rattle.cse_value.specs.declared.shape.RecordShape.{RecordShape}
use Rattle.cse_value.specs.Occurrences.{most_occurrences}
use Rattle.cse_value.specs.Shape.{ShapeLists}
use Rattle.cse_image_parts.specs.declared.entries.EventEntry.{EventEntry}
use Rattle.cse_image_parts.specs.declared.version.Version.TheVariants as versions
use Rattle.cse_image_parts.specs.Fields.{instructions_in}
use Rattle.cse_image_parts.specs.Image.{Image, Lists, ArrayLists, RoutineLists}
use Rattle.cse_image.specs.Spelling.{Fits, ListsFit, RecordFits, ItemFits, SetFits, OrderFits, GlobalFits, MessageFits}
use Rattle.cse_dict.specs.Dictionary.{DictionaryText, RecordText, ItemText, SetText, shape_of}
use Rattle.cse_dict.specs.Sound.{IsSound as IsSoundDictionary}
use Rattle.cse_syntax_tree.specs.Tree as syntax
use Rattle.cse_syntax_tree.specs.Word.{Word}
use Rattle.cse_syntax_tree.specs.Grammar.{IsSource, spell_tree}
use Rattle.cse_logic_tree.specs.Typed.{Declaration, MessageEntry, Tree}
use Rattle.cse_logic_tree.specs.Erase.{erase_declaration, erase_tree}
use Rattle.cse_logic_tree.specs.Tokens.{all_tokens, declaration_tokens, globals_tokens}
use Rattle.cse_code_typing.specs.Order.{NamesEachOnce, is_handled_by, fits_event, all_events_fit}
use Rattle.cse_code_typing.specs.Typed.{scene_of}
use Rattle.cse_compile.specs.declared.outlines.RoutineSort.{RoutineSort}
use Rattle.cse_compile.specs.declared.outlines.RoutineSort.TheVariants as sorts
use Rattle.cse_compile.specs.Events as event
use Rattle.cse_compile.specs.Events.{table_from}
use Rattle.cse_compile.specs.Order.{edit_order}
use Rattle.cse_compile.specs.Outline.{Outline, Handler, functions_in, handlers_in, result_at}
use Rattle.cse_compile.specs.Tables.{globals_in, arrays_in, message_of}
use Rattle.cse_logic_names.specs.declared.meaning.Meaning.{Meaning}
use Rattle.cse_logic_names.specs.MessageFile.{MessageText}
use Rattle.cse_logic_names.specs.Scope.{Scope, declared_from}
use Rattle.cse_logic_names.specs.WellTyped.{IsTypedAs, AreDeclared, all_declarations, typed_declarations, declared_messages, tree_messages, entry_of as said, first_scope, with_functions}
use Rattle.cse_compile.specs.Wide.{Wide}
use Rattle.cse_compile.specs.Setting.{Setting}
use Rattle.cse_meaning.specs.Fit.{BlockFits}
use Rattle.cse_compile.specs.Program.{IsProgramOf, all_code, code_of, declarations_in, declarations, entry_of, events, handlers, outlines, setting_for, sizes}
use Rattle.cse_compile.specs.Compiled.{HasNoRoom}
use Rattle.cse_meaning.specs.Entries.{Table, entries}
use Rattle.cse_meaning.specs.Few.{BlockIsFew}
use Rattle.cse_meaning.specs.Totals as measure
use Rattle.cse_meaning.specs.Totals.{AreFew, tokens_of}
use Rattle.cse_meaning.proofs.Totals.{all_code_short, all_entries_few}
use Rattle.cse_meaning.specs.Checked.{IsCompiled, spot_for}
use Rattle.cse_meaning.specs.Sound.{IsOrdered}
use Rattle.cse_meaning.proofs.EditOrder.{orders_name_all}
use Rattle.cse_meaning.proofs.EventsFit as checked
use Rattle.cse_meaning.proofs.SoundRoutines.{same_declarations, same_erased, each_declaration, OfGrammar, statements_fit}
use Rattle.cse_logic_names.specs.Texts.{AreUtf8, AreTexts}
use Rattle.cse_logic_names.proofs.ScopeLaws.{same_dictionary}
use Rattle.cse_meaning.specs.Given.{ShapeFits}
use Rattle.cse_meaning.specs.Within.{IsMessageWithin, IsWithin}
use Rattle.cse_meaning.specs.Room.{LargeAlone}
use Rattle.cse_meaning.proofs.Lists.{each_flat, by_place}
use Rattle.cse_meaning.proofs.Pooled.{WideFits, CodeFits, constants_of, limits_of, texts_of, placed, pools_fit, all_stand, code_fits, placed_length}
use Rattle.cse_meaning.proofs.RoomFacts.{IsSized, IsRoomy}
use Rattle.cse_meaning.proofs.Few.{block_few}
use Rattle.cse_meaning.proofs.RoomBlocks.{routine_fits}
use Rattle.cse_meaning.proofs.HeldSource.{OutlineHolds, AreHeld, tree_held}
use Rattle.cse_meaning.proofs.RoomMessages.{globals_fit, globals_few, messages_fit}
use Rattle.cse_meaning.proofs.RoomCounts.{messages_few}
use Rattle.cse_meaning.proofs.Order.{order_few, order_below}
use Rattle.cse_meaning.proofs.RoomNames.{names_of, names_once}
use Rattle.cse_meaning.proofs.RoomArrays.{IsGood, arrays_good, all_arrays_fit}
use Rattle.cse_meaning.proofs.RoomRoutines.{SortFits, OutlineFits, outlines_fit, few_locals, size_of, total, code_length, instructions_are, all_routines_fit}
use Rattle.cse_meaning.proofs.RoomEvents as order
use Rattle.cse_image_parts.proofs.Algebra.{each_after}

-- ---- declarations, if there are any

same_measured : (o : Option (List Declaration)) → measure.declarations_in o ≡ declarations_in o
same_measured None = refl
same_measured (Some ds) = refl

few_declared : (o : Option (List Declaration)) → all_tokens declaration_tokens (map erase_declaration (declarations_in o)) ≤ globals_tokens (option_map (λ ds. map erase_declaration ds) o)
few_declared None = omega arith
few_declared (Some ds) = omega arith

-- ---- small parts

result_small : (sort : RoutineSort) (r : ℕ) → SortFits sort → result_at sort ≡ Some r → r < 2 ^ 32
result_small (sorts.Function count needs) r h e = let same = same_Some count r e in omega (arith, h, same)
result_small (sorts.Procedure owner) r h e = absurd (none-some r e)

most_small : (records : List RecordShape) → AllByRecursion RecordFits records → (of : ℕ) → most_occurrences records of < 2 ^ 16
most_small records h of = by (slice_get records of) refl
  where
    by : (o : Option RecordShape) → slice_get records of ≡ o → option_map_or (λ (x : RecordShape). x.max_records) o 0 < 2 ^ 16
    by None e = omega arith
    by (Some x) e = (AllByRecursion-at RecordFits records of x h e).max_records

each_passes : {A : Type 0} (test : A → Bool) (xs : List A) → list_all test xs ≡ true → AllByRecursion (λ x. test x ≡ true) xs
each_passes test [] h = tt
each_passes test (x ∷ xs) h = let p = and_parts (test x) (list_all test xs) h in (p.0, each_passes test xs p.1)

handled_within : (s : ShapeLists) (x : Lists) (e : EventEntry) → fits_event s x e ≡ true → e.routine < length x.routines
handled_within s x e h = by (slice_get x.routines e.routine) refl h
  where
    by : (o : Option RoutineLists) → slice_get x.routines e.routine ≡ o → is_handled_by s e o ≡ true → e.routine < length x.routines
    by None f g = absurd (false≢true g)
    by (Some y) f g = slice_get_within x.routines e.routine y f

size_within : (records : List RecordShape) (arrays : List (List ℕ)) (os : List Outline) (k : ℕ) (o : Outline) → slice_get os k ≡ Some o → size_of records arrays o ≤ total records arrays os
size_within records arrays [] k o e = absurd (none-some o e)
size_within records arrays (p ∷ os) zero o e = let same = ap (size_of records arrays) (same_Some p o e) in omega (arith, same)
size_within records arrays (p ∷ os) (suc k) o e = let ih = size_within records arrays os k o e in omega (arith, ih)

-- ---- the program

module _ (d : DictionaryText) (messages : List MessageText) (named : List ℕ) (source : syntax.Tree) (words : List Word) (t : Tree)
    (sound : IsSoundDictionary d) (shape : ShapeFits (shape_of d)) (grammar : IsSource 64 source words) (utf8 : AreUtf8 words) (texts : AreTexts messages)
    (typed : IsTypedAs d messages source t) (ordered : IsOrdered d named) (within : IsWithin t) where
  abbrev records : List RecordShape
  records = (shape_of d).records

  abbrev os : List Outline
  os = outlines t

  abbrev ws : List Wide
  ws = all_code records (sizes t) os

  abbrev program : Image
  program = record {
    lists = record {
      records = records;
      items = (shape_of d).items;
      sets = (shape_of d).sets;
      order = edit_order (length records) named;
      constants = constants_of ws;
      limits = limits_of ws;
      texts = texts_of ws;
      globals = globals_in (declarations t);
      arrays = arrays_in (declarations t);
      messages = map message_of t.messages;
      routines = map (entry_of records (sizes t)) os;
      events = events d t;
    };
    code = placed 0 0 0 ws;
  }

  is_program : IsProgramOf d named t program
  is_program = record { shape = refl; order = refl; globals = refl; arrays = refl; messages = refl; routines = refl; events = refl; code = all_stand ws }

  compiled : IsCompiled d messages named source words t program
  compiled = record { dictionary = sound; grammar = grammar; typed = typed; shape = refl; program = is_program }

  -- ---- what the source is

  of_grammar : OfGrammar (erase_tree t)
  of_grammar = subst OfGrammar (sym typed.erased) (grammar.0, grammar.1)

  held : AreHeld os (tree_messages (erase_tree t)) []
  held = tree_held d messages t typed.well of_grammar.0 of_grammar.1 (subst AreUtf8 (grammar.2 ∙ ap spell_tree (sym typed.erased)) utf8)

  declared : AreDeclared (first_scope d messages t) 0 (declarations t)
  declared = subst (AreDeclared (first_scope d messages t) 0) (same_declarations t.globals) typed.well.declarations

  good : AllByRecursion IsGood (arrays_in (declarations t))
  good = arrays_good (first_scope d messages t) 0 (declarations t) declared (each_declaration t.globals of_grammar.0) within.arrays.each

  once : IsDistinct bytes_eq (names_of (arrays_in (declarations t)))
  once = names_once 0 0 0 (declarations t) (subst (λ ds. IsDistinct bytes_eq (map (λ (x : List ℕ × Meaning). x.0) (declared_from 0 0 0 ds))) (same_erased t.globals) typed.well.names_once)

  abbrev behind : Scope
  behind = with_functions (first_scope d messages t) (typed_declarations t.globals)

  of_dictionary : behind.dictionary ≡ d
  of_dictionary = same_dictionary (first_scope d messages t) (typed_declarations t.globals)

  sorts_fit : AllByRecursion OutlineFits os
  sorts_fit =
      outlines_fit behind (length (declared_messages (all_declarations (erase_tree t).globals))) (declarations t) t.procedures
      (subst (λ (e : DictionaryText). AllByRecursion ItemFits (shape_of e).items) (sym of_dictionary) shape.items) within.functions typed.well.procedures

  -- ---- how much of each

  records_few : length records ≤ 200
  records_few = let a = length-map d.records (λ (r : RecordText). r.shape) in let b = sound.small.records in omega (arith, a, b)

  items_few : length (shape_of d).items ≤ 10000
  items_few = let a = length-map d.items (λ (i : ItemText). i.shape) in let b = sound.small.items in omega (arith, a, b)

  sets_few : length (shape_of d).sets ≤ 10000
  sets_few = let a = length-map d.sets (λ (s : SetText). s.shape) in let b = sound.small.sets in omega (arith, a, b)

  few_globals : length (globals_in (declarations t)) ≤ 60000
  few_globals = let a = globals_few (declarations t) in let b = few_declared t.globals in let c = within.tokens in omega (arith, a, b, c)

  few_messages : length (map message_of t.messages) ≤ 60000
  few_messages =
      let a = length-map t.messages message_of in
      let b = ap (λ (l : List MessageEntry). length l) typed.well.messages_are in
      let c = length-map (tree_messages (erase_tree t)) (said messages) in
      let e = messages_few (erase_tree t) in
      let f = within.tokens in
      omega (arith, a, b, c, e, f)

  few_routines : length (map (entry_of records (sizes t)) os) ≤ 4096
  few_routines = let a = length-map os (entry_of records (sizes t)) in let b = within.routines in omega (arith, a, b)

  sized : (a : ℕ) (y : ArrayLists) → slice_get (arrays_in (declarations t)) a ≡ Some y → IsSized y
  sized a y e = let g = AllByRecursion-at IsGood (arrays_in (declarations t)) a y good e in (g.few, g.dimensions)

  roomy : (k : ℕ) (o : Outline) → slice_get os k ≡ Some o → IsRoomy (scene_of (shape_of d) program (entry_of records (sizes t) o)) (setting_for records (sizes t) o)
  roomy k o e =
      let sort = AllByRecursion-at OutlineFits os k o sorts_fit e in
      record {
        globals = (let a = few_globals in omega (arith, a));
        locals = few_locals o.sort sort;
        records = records_few;
        items = items_few;
        sets = sets_few;
        arrays = within.arrays.count;
        messages = (let a = few_messages in omega (arith, a));
        routines = few_routines;
        sizes = sized;
        occurrences = most_small records shape.records;
        result = λ r f. result_small o.sort r sort f;
      }

  block_there : (k : ℕ) (o : Outline) → slice_get os k ≡ Some o → BlockFits (spot_for d t program k o) 64 false o.body
  block_there k o e = statements_fit d messages named source words t program compiled k o e

  few_decks : AreFew os
  few_decks = by_place (λ (o : Outline). BlockIsFew o.body) os (λ k o e. block_few (spot_for d t program k o) 64 false o.body (λ a y f. (sized a y f).0) (block_there k o e))

  -- ---- code

  abbrev settings : Outline → Setting
  settings o = setting_for records (sizes t) o

  same_outlines : measure.outlines t ≡ os
  same_outlines = ap (λ ds. functions_in ds ++ map (λ (x : Handler). x.outline) (handlers_in t.procedures)) (same_measured t.globals)

  few_measured : AreFew (measure.outlines t)
  few_measured = subst AreFew (sym same_outlines) few_decks

  short : total records (sizes t) os ≤ 960000
  short =
      let a = all_code_short settings t few_measured in
      let b = ap (λ (xs : List Outline). length (measure.all_code settings xs)) same_outlines in
      let c = code_length records (sizes t) os in
      let e = within.tokens in
      omega (arith, a, b, c, e)

  few_entries : (k : Table) → entries k ws ≤ 65536
  few_entries k =
      let a = all_entries_few k settings t few_measured in
      let b = ap (λ (xs : List Outline). entries k (measure.all_code settings xs)) same_outlines in
      let e = within.tokens in
      omega (arith, a, b, e)

  code_of_routine : (k : ℕ) (o : Outline) → slice_get os k ≡ Some o → CodeFits (code_of records (sizes t) o)
  code_of_routine k o e =
      routine_fits (spot_for d t program k o) o.body (roomy k o e) (block_there k o e) (AllByRecursion-at OutlineHolds os k o held.routines e)
      (let a = size_within records (sizes t) os k o e in let b = short in omega (arith, a, b))

  all_fits : CodeFits ws
  all_fits = each_flat WideFits (code_of records (sizes t)) os (by_place (λ o. CodeFits (code_of records (sizes t) o)) os code_of_routine)

  -- ---- lists

  names_all : NamesEachOnce (length records) (edit_order (length records) named)
  names_all = orders_name_all d named ordered

  events_handled : all_events_fit (shape_of d) program.lists ≡ true
  events_handled =
      checked.events_fit d behind (length (declared_messages (all_declarations (erase_tree t).globals))) t.procedures (size_of records (sizes t)) program.lists (functions_in (declarations t))
      of_dictionary typed.well.procedures refl refl

  routines_there : AllByRecursion (λ (e : EventEntry). e.routine < 2 ^ 32) (events d t)
  routines_there =
      AllByRecursion-weaker (λ (e : EventEntry). fits_event (shape_of d) program.lists e ≡ true) (λ (e : EventEntry). e.routine < 2 ^ 32)
      (λ e h. let a = handled_within (shape_of d) program.lists e h in let b = few_routines in omega (arith, a, b)) (events d t) (each_passes (fits_event (shape_of d) program.lists) (events d t) events_handled)

  abbrev table : event.Table
  table = table_from [] (length (functions_in (declarations t))) (handlers t)

  few_events : length (events d t) ≤ 50000
  few_events = let a = order.events_few table (length records) (length (shape_of d).items) in let b = records_few in let c = items_few in omega (arith, a, b, c)

  all_messages : AllByRecursion MessageFits (map message_of t.messages)
  all_messages =
      subst (λ (es : List MessageEntry). AllByRecursion MessageFits (map message_of es)) (sym typed.well.messages_are)
      (messages_fit messages (tree_messages (erase_tree t)) texts held.messages (subst (AllByRecursion IsMessageWithin) typed.well.messages_are within.messages))

  orders_small : AllByRecursion OrderFits (edit_order (length records) named)
  orders_small = AllByRecursion-weaker (λ k. k < length records) OrderFits (λ k lt. let a = records_few in omega (arith, lt, a)) (edit_order (length records) named) (order_below (length records) (edit_order (length records) named) names_all)

  lists_fit : ListsFit versions.Two program.lists
  lists_fit =
      let pools = pools_fit ws few_entries all_fits in
      record {
        records = record { count = le-leb (length records) 200 records_few; each = each_after RecordFits [] records shape.records };
        items = record { count = le-leb (length (shape_of d).items) 10000 items_few; each = each_after ItemFits [] (shape_of d).items shape.items };
        sets = record { count = le-leb (length (shape_of d).sets) 10000 sets_few; each = each_after SetFits [] (shape_of d).sets shape.sets };
        order = record {
          count = le-leb (length (edit_order (length records) named)) 200 (let a = order_few (length records) (edit_order (length records) named) names_all in let b = records_few in omega (arith, a, b));
          each = each_after OrderFits [] (edit_order (length records) named) orders_small;
        };
        constants = pools.constants;
        limits = pools.limits;
        texts = pools.texts;
        globals = record { count = le-leb (length (globals_in (declarations t))) 65536 (let a = few_globals in omega (arith, a)); each = each_after GlobalFits [] (globals_in (declarations t)) (globals_fit (first_scope d messages t) 0 (declarations t) declared) };
        arrays = record { count = le-leb (length (arrays_in (declarations t))) 4096 within.arrays.count; each = all_arrays_fit (arrays_in (declarations t)) good once within.arrays.cells };
        messages = record { count = le-leb (length (map message_of t.messages)) 65536 (let a = few_messages in omega (arith, a)); each = each_after MessageFits [] (map message_of t.messages) all_messages };
        routines = record { count = le-leb (length (map (entry_of records (sizes t)) os)) 4096 few_routines; each = all_routines_fit records (sizes t) os (let a = short in omega (arith, a)) sorts_fit };
        events = record {
          count = le-leb (length (events d t)) 50000 few_events;
          each = order.events_fit table (length records) (length (shape_of d).items) (let a = records_few in omega (arith, a)) (let a = items_few in omega (arith, a)) routines_there;
        };
      }

  count_is : length (placed 0 0 0 ws) ≡ instructions_in (map (entry_of records (sizes t)) os)
  count_is =
      let a = placed_length 0 0 0 ws in
      let b = code_length records (sizes t) os in
      let c = instructions_are records (sizes t) os in
      omega (arith, a, b, c)

  program_fits : Fits program
  program_fits = record { lists = lists_fit; code = code_fits ws few_entries all_fits; count = count_is }

  pub has_room : HasNoRoom d named t → ⊥
  has_room none = none program is_program program_fits

pub large_alone : LargeAlone
large_alone d messages named source words t sound shape grammar utf8 texts typed ordered within none =
    ∥∥₁_elim grammar (λ a b. absurd a) (λ g. has_room d messages named source words t sound shape g utf8 texts typed ordered within none)
