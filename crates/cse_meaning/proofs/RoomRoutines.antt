-- Which routines fit, and how many instructions they have.
use Rattle.std.proofs.Common.{◌≡◌, ◌≤◌, ◌<◌, ℕ, zero, suc, ◌+◌, Bool, true, false, List, [], ◌∷◌, ◌++◌, length, map, Option, Some, None, refl, ap, subst, ◌∙◌, arith, length-append}
use Rattle.std.specs.Prelude.{nat_le, slice_get, replicate, if◌then◌else◌, ◌==◌}
use Rattle.std.specs.List.{AllByRecursion}
use Rattle.std.specs.Option.{option_map}
use Rattle.std.proofs.lemmas.Bool.{and_from, le-leb}
use Rattle.std.proofs.lemmas.List.{length-replicate}
use Rattle.std.proofs.lemmas.List.Sums.{sum_by-cons, sum_by-append}
use Rattle.std.proofs.lemmas.Option.{same_Some, none-some, slice_get-map}
use Rattle.cse_lemmas.proofs.Lists.{AllByRecursion-append, AllByRecursion-at, AllByRecursion-map}
use Rattle.cse_value.specs.declared.shape.ItemKind.{ItemKind}
use Rattle.cse_value.specs.declared.shape.ItemKind.TheVariants as kinds
use Rattle.cse_value.specs.declared.shape.RecordShape.{RecordShape}
use Rattle.cse_image_parts.specs.declared.entries.Local.{Local}
use Rattle.cse_image_parts.specs.declared.version.Version.TheVariants as versions
use Rattle.cse_image_parts.specs.Fields.{instructions_in}
use Rattle.cse_image_parts.specs.Image.{RoutineLists}
use Rattle.cse_image_parts.specs.Limits.{most_instructions}
use Rattle.cse_image_parts.specs.Reader.{AllAfter}
use Rattle.cse_image.specs.Spelling.{ItemFits, LocalFits, LocalsFit, RoutineFits}
use Rattle.cse_dict.specs.Dictionary.{DictionaryText, ItemText, shape_of}
use Rattle.cse_logic_tree.specs.declared.tree.Owner.{Owner}
use Rattle.cse_logic_tree.specs.declared.tree.Owner.TheVariants as owners
use Rattle.cse_logic_tree.specs.Typed.{Statements, Declaration, Numeric, Alpha, Array', Function', Body, Plain, Preproc, Both, Postproc, Procedure}
use Rattle.cse_logic_tree.specs.Erase.{erase_body}
use Rattle.cse_compile.specs.declared.outlines.RoutineSort.{RoutineSort}
use Rattle.cse_compile.specs.declared.outlines.RoutineSort.TheVariants as sorts
use Rattle.cse_compile.specs.Tables as tables
use Rattle.cse_compile.specs.Outline.{Outline, Handler, parameters_of, number_local, numbers, locals_of, functions_in, is_idle, event_of, handler_of, handlers_of_body, handlers_in}
use Rattle.cse_logic_names.specs.declared.meaning.Meaning.{Meaning}
use Rattle.cse_logic_names.specs.declared.meaning.Meaning.TheVariants as m
use Rattle.cse_logic_names.specs.Scope.{Scope, in_dictionary, kind_and_owner}
use Rattle.cse_logic_names.specs.WellTyped.{item_owner, owner_meant, body_messages, AreProcedures}
use Rattle.cse_compile.specs.Routines.{routine_size}
use Rattle.cse_compile.proofs.Small.{exit_some}
use Rattle.cse_meaning.proofs.TypedBlocks.{routine_length}
use Rattle.cse_compile.specs.Program.{setting_for, code_of, all_code, entry_of}
use Rattle.cse_meaning.specs.Within.{IsFunctionWithin}

-- ---- owners

-- the record of an item's procedure is a number of eight bits
abbrev pub OwnerFits : Owner → Type 0
OwnerFits owners.Application = Unit {0}
OwnerFits owners.Level = Unit {0}
OwnerFits (owners.Record r) = Unit {0}
OwnerFits (owners.Item f) = f.owner < 256

module _ (d : DictionaryText) (items : AllByRecursion ItemFits (shape_of d).items) where
  owned_if : (item owner : ℕ) (o : Owner) (b : Bool) → owner < 256 → (if b then None else Some (owners.Item (record { owner = owner; item = item }))) ≡ Some o → OwnerFits o
  owned_if item owner o true small e = absurd (none-some o e)
  owned_if item owner o false small e = subst OwnerFits (same_Some _ o e) small

  owned_by : (item owner : ℕ) (o : Owner) (k : ItemKind) → owner < 256 → item_owner item (Some (k, owner)) ≡ Some o → OwnerFits o
  owned_by item owner o kinds.Opaque small e = absurd (none-some o e)
  owned_by item owner o kinds.Number small e = owned_if item owner o (owner == 255) small e
  owned_by item owner o kinds.Text small e = owned_if item owner o (owner == 255) small e

  owner_of_item : (item : ℕ) (o : Owner) → item_owner item (kind_and_owner d item) ≡ Some o → OwnerFits o
  unfolding kind_and_owner
  owner_of_item item o e = by (slice_get d.items item) refl e
    where
      by : (q : Option ItemText) → slice_get d.items item ≡ q → item_owner item (option_map (λ (x : ItemText). (x.shape.kind, x.shape.owner)) q) ≡ Some o → OwnerFits o
      by None f e = absurd (none-some o e)
      by (Some i) f e =
          let there : slice_get (shape_of d).items item ≡ Some i.shape = slice_get-map (λ (x : ItemText). x.shape) d.items item ∙ ap (option_map (λ (x : ItemText). x.shape)) f in
          let fits : ItemFits i.shape = AllByRecursion-at ItemFits (shape_of d).items item i.shape items there in
          let small = fits.owner in
          owned_by item i.shape.owner o i.shape.kind (omega (arith, small)) e

  owner_fits : (y : Option Meaning) (o : Owner) → owner_meant d y ≡ Some o → OwnerFits o
  owner_fits None o e = absurd (none-some o e)
  owner_fits (Some m.Application) o e = subst OwnerFits (same_Some owners.Application o e) tt
  owner_fits (Some m.Level) o e = subst OwnerFits (same_Some owners.Level o e) tt
  owner_fits (Some (m.Record r)) o e = subst OwnerFits (same_Some (owners.Record r) o e) tt
  owner_fits (Some (m.Item i)) o e = owner_of_item i o e
  owner_fits (Some (m.Variable x)) o e = absurd (none-some o e)
  owner_fits (Some (m.Text x)) o e = absurd (none-some o e)
  owner_fits (Some (m.Array x)) o e = absurd (none-some o e)
  owner_fits (Some (m.Function x)) o e = absurd (none-some o e)
  owner_fits (Some (m.Set x)) o e = absurd (none-some o e)

-- ---- sorts

-- a function has at most 254 parameters
abbrev pub SortFits : RoutineSort → Type 0
SortFits (sorts.Function count needs) = count ≤ 254
SortFits (sorts.Procedure owner) = OwnerFits owner

abbrev pub OutlineFits : Outline → Type 0
OutlineFits o = SortFits o.sort

abbrev HandlerFits : Handler → Type 0
HandlerFits h = SortFits h.outline.sort

functions_fit : (ds : List Declaration) → AllByRecursion IsFunctionWithin (tables.functions_in ds) → AllByRecursion OutlineFits (functions_in ds)
functions_fit [] h = tt
functions_fit (Numeric names ∷ ds) h = functions_fit ds h
functions_fit (Alpha digits size names ∷ ds) h = functions_fit ds h
functions_fit (Array' array ∷ ds) h = functions_fit ds h
functions_fit (Function' f ∷ ds) h = (h.0, functions_fit ds h.1)

part_fits : (owner : Owner) (after : Bool) (body : Statements) → OwnerFits owner → AllByRecursion HandlerFits (handler_of owner after body)
part_fits owner after body h = by (is_idle body)
  where
    by : (idle : Bool) → AllByRecursion HandlerFits (if idle then [] else record { event = event_of owner after; outline = record { sort = sorts.Procedure owner; body = body } } ∷ [])
    by true = tt
    by false = (h, tt)

body_fits : (owner : Owner) (body : Body) → OwnerFits owner → AllByRecursion HandlerFits (handlers_of_body owner body)
body_fits owner (Plain xs) h = part_fits owner true xs h
body_fits owner (Preproc xs) h = part_fits owner false xs h
body_fits owner (Both xs ys) h = AllByRecursion-append HandlerFits (handler_of owner false xs) (handler_of owner true ys) (part_fits owner false xs h) (part_fits owner true ys h)
body_fits owner (Postproc xs) h = part_fits owner true xs h

procedures_fit : (c : Scope) (items : AllByRecursion ItemFits (shape_of c.dictionary).items) (n : ℕ) (ps : List Procedure) → AreProcedures c n ps → AllByRecursion HandlerFits (handlers_in ps)
procedures_fit c items n [] h = tt
procedures_fit c items n (x ∷ ps) h =
    AllByRecursion-append HandlerFits (handlers_of_body x.owner x.body) (handlers_in ps)
    (body_fits x.owner x.body (owner_fits c.dictionary items (in_dictionary c.dictionary x.name.text) x.owner h.0))
    (procedures_fit c items (n + length (body_messages (erase_body x.body))) ps h.2)

pub outlines_fit : (c : Scope) (n : ℕ) (ds : List Declaration) (ps : List Procedure) → AllByRecursion ItemFits (shape_of c.dictionary).items → AllByRecursion IsFunctionWithin (tables.functions_in ds) → AreProcedures c n ps → AllByRecursion OutlineFits (functions_in ds ++ map (λ (x : Handler). x.outline) (handlers_in ps))
outlines_fit c n ds ps items few h =
    AllByRecursion-append OutlineFits (functions_in ds) (map (λ (x : Handler). x.outline) (handlers_in ps)) (functions_fit ds few) (AllByRecursion-map OutlineFits (λ (x : Handler). x.outline) (handlers_in ps) (procedures_fit c items n ps h))

-- ---- locals

numbers_after : (P : List Local → Local → Type 0) (x : Local) → ((before : List Local) → P before x) → (before : List Local) (n : ℕ) → AllAfter P before (replicate n x ++ x ∷ [])
numbers_after P x h before zero = (h before, tt)
numbers_after P x h before (suc n) = (h before, numbers_after P x h (before ++ x ∷ []) n)

locals_fit : (sort : RoutineSort) → SortFits sort → LocalsFit (parameters_of sort) (locals_of sort)
locals_fit (sorts.Function count needs) h =
    let a = length-append (numbers count) (number_local ∷ []) in
    let b = length-replicate count number_local in
    record {
      count = omega (arith, a, b, h);
      among = le-leb count (length (numbers count ++ number_local ∷ [])) (omega (arith, a, b));
      each = numbers_after (λ before. LocalFits count (length before)) number_local (λ before. record { kind = refl; owner_size = omega arith; owner = refl; length_size = omega arith; length = refl }) [] count;
    }
locals_fit (sorts.Procedure owners.Application) h = record { count = omega arith; among = refl; each = tt }
locals_fit (sorts.Procedure owners.Level) h = record { count = omega arith; among = refl; each = tt }
locals_fit (sorts.Procedure (owners.Record r)) h = record { count = omega arith; among = refl; each = tt }
locals_fit (sorts.Procedure (owners.Item f)) h = record { count = omega arith; among = refl; each = (record { kind = refl; owner_size = omega (arith, h); owner = refl; length_size = omega arith; length = refl }, tt) }

pub few_parameters : (sort : RoutineSort) → SortFits sort → parameters_of sort < 256
few_parameters (sorts.Function count needs) h = omega (arith, h)
few_parameters (sorts.Procedure owners.Application) h = omega arith
few_parameters (sorts.Procedure owners.Level) h = omega arith
few_parameters (sorts.Procedure (owners.Record r)) h = omega arith
few_parameters (sorts.Procedure (owners.Item f)) h = omega arith

pub few_locals : (sort : RoutineSort) → SortFits sort → length (locals_of sort) ≤ 256
few_locals sort h = let f = (locals_fit sort h).count in omega (arith, f)

-- ---- routines

module _ (records : List RecordShape) (arrays : List (List ℕ)) where
  abbrev pub size_of : Outline → ℕ
  size_of o = routine_size (setting_for records arrays o) o.body

  abbrev pub total : List Outline → ℕ
  total [] = 0
  total (o ∷ os) = size_of o + total os

  pub code_length : (os : List Outline) → length (all_code records arrays os) ≡ total os
  code_length [] = refl
  code_length (o ∷ os) =
      let a = length-append (code_of records arrays o) (all_code records arrays os) in
      let b = routine_length (setting_for records arrays o) o.body in
      let ih = code_length os in
      omega (arith, a, b, ih)

  pub instructions_are : (os : List Outline) → instructions_in (map (entry_of records arrays) os) ≡ total os
  instructions_are [] = refl
  instructions_are (o ∷ os) =
      let a = sum_by-cons (λ (r : RoutineLists). r.instructions) (entry_of records arrays o) (map (entry_of records arrays) os) in
      let ih = instructions_are os in
      omega (arith, a, ih)

  one_at_least : (o : Outline) → 1 ≤ size_of o
  unfolding routine_size
  one_at_least o = let e = exit_some (setting_for records arrays o).result_at in omega (arith, e)

  routines_fit : (before : List RoutineLists) (os : List Outline) → instructions_in before + total os ≤ most_instructions → AllByRecursion OutlineFits os → AllAfter (λ before. RoutineFits versions.Two (instructions_in before)) before (map (entry_of records arrays) os)
  routines_fit before [] room h = tt
  routines_fit before (o ∷ os) room h =
      let n = size_of o in
      let more = sum_by-append (λ (r : RoutineLists). r.instructions) before (entry_of records arrays o ∷ []) in
      let last = sum_by-cons (λ (r : RoutineLists). r.instructions) (entry_of records arrays o) [] in (
        record {
          gives = refl;
          parameters = few_parameters o.sort h.0;
          locals = locals_fit o.sort h.0;
          size = omega (arith, room);
          room = and_from (nat_le 1 n) (nat_le (instructions_in before + n) most_instructions) (le-leb 1 n (one_at_least o)) (le-leb (instructions_in before + n) most_instructions (omega (arith, room)));
        },
        routines_fit (before ++ entry_of records arrays o ∷ []) os (omega (arith, room, more, last)) h.1,
      )

  pub all_routines_fit : (os : List Outline) → total os ≤ most_instructions → AllByRecursion OutlineFits os → AllAfter (λ before. RoutineFits versions.Two (instructions_in before)) [] (map (entry_of records arrays) os)
  all_routines_fit os room h = routines_fit [] os (omega (arith, room)) h
