-- The routines of a program have the code of the source's functions and procedures.
use Rattle.std.proofs.Common.{◌≡◌, ℕ, zero, suc, ◌+◌, ◌-◌, Bool, true, false, List, [], ◌∷◌, ◌++◌, length, map, Option, Some, None, refl, sym, ap, ◌∙◌, subst, arith, append_assoc, length-append}
use Rattle.std.specs.Prelude.{slice_get, option_map, if◌then◌else◌}
use Rattle.std.proofs.lemmas.List.{length-map}
use Rattle.std.proofs.lemmas.Option.{same_Some, none-some, slice_get-map}
use Rattle.cse_lemmas.proofs.Lists.{slice_get_append_left, slice_get-append-add, slice_get_at}
use Rattle.cse_image_parts.specs.declared.entries.Gift.TheVariants as gifts
use Rattle.cse_image_parts.specs.declared.instruction.Instr.{Instr}
use Rattle.cse_image_parts.specs.Image.{Lists, ArrayLists, RoutineLists}
use Rattle.cse_dict.specs.Dictionary.{DictionaryText, shape_of}
use Rattle.cse_syntax_tree.specs.Tree as syntax
use Rattle.cse_syntax_tree.specs.Word.{Word}
use Rattle.cse_code_typing.specs.Code.{code_of}
use Rattle.cse_verify.specs.Verified.{VerifiedProgram}
use Rattle.cse_logic_tree.specs.declared.tree.Owner.{Owner}
use Rattle.cse_logic_tree.specs.Typed.{Statements, Function, Declaration, Numeric, Alpha, Array', Function', Body, Plain, Preproc, Both, Postproc, Procedure, Tree}
use Rattle.cse_logic_names.specs.MessageFile.{MessageText}
use Rattle.cse_compile.specs.declared.outlines.RoutineSort.TheVariants as sorts
use Rattle.cse_compile.specs.Tables as tables
use Rattle.cse_compile.specs.Tables.{arrays_in}
use Rattle.cse_compile.specs.Outline as outline
use Rattle.cse_compile.specs.Outline.{Outline, Handler, outline_of, is_idle, event_of, handler_of, handlers_of_body, handlers_in, routine_of}
use Rattle.cse_compile.specs.Routines.{routine_size}
use Rattle.cse_compile.specs.Wide.{Wide}
use Rattle.cse_meaning.specs.Stands.{AllStand}
use Rattle.cse_compile.specs.Program as program
use Rattle.cse_compile.specs.Program.{outlines, sizes, setting_for, entry_of, handlers}
use Rattle.cse_meaning.specs.Checked.{IsCompiled}
use Rattle.cse_meaning.proofs.SoundWhole.{sources_fit}
use Rattle.cse_meaning.proofs.SoundParts.{routine_stands}
use Rattle.cse_meaning.specs.Meaning as meaning
use Rattle.cse_meaning.specs.Meaning.{context}
use Rattle.cse_meaning.specs.Runs.{StandAt}
use Rattle.cse_meaning.specs.Whole.{IsRoutineOf, HasFunctions}
use Rattle.cse_meaning.proofs.Sound.{named_by, routine_plain}

-- ---- the same lists

same_declared : (o : Option (List Declaration)) → meaning.declarations_in o ≡ program.declarations_in o
same_declared None = refl
same_declared (Some ds) = refl

pub same_declarations : (t : Tree) → meaning.declarations t ≡ program.declarations t
same_declarations t = same_declared t.globals

-- functions, and their routines
pub same_functions : (ds : List Declaration) → outline.functions_in ds ≡ map outline_of (tables.functions_in ds)
same_functions [] = refl
same_functions (Numeric names ∷ ds) = same_functions ds
same_functions (Alpha digits size names ∷ ds) = same_functions ds
same_functions (Array' array ∷ ds) = same_functions ds
same_functions (Function' f ∷ ds) = ap (λ os. outline_of f ∷ os) (same_functions ds)

-- ---- code

-- instructions that stand for code stand for it from their place on
stand_from : (x : Lists) (front is : List Instr) (ws : List Wide) → AllStand x is ws → StandAt x (front ++ is) (length front) ws
stand_from x front [] [] h = tt
stand_from x front (i ∷ is) [] h = tt
stand_from x front [] (w ∷ ws) h = absurd h
stand_from x front (i ∷ is) (w ∷ ws) h =
    let more : length (front ++ i ∷ []) ≡ length front + 1 = length-append front (i ∷ []) in (
      (i, slice_get_at front i is, h.0),
      subst (λ p. StandAt x (front ++ i ∷ is) p ws) more (subst (λ code. StandAt x code (length (front ++ i ∷ [])) ws) (append_assoc front (i ∷ []) is) (stand_from x (front ++ i ∷ []) is ws h.1)),
    )

-- ---- procedures

-- the event is that of an owner, and the routine is the owner's
pub record IsPart (x : Handler) : Type 0 where
  pub owner : Owner
  pub after : Bool
  pub event : x.event ≡ event_of owner after
  pub sort : x.outline.sort ≡ sorts.Procedure owner

pub record AreParts (xs : List Handler) : Type 0 where
  pub at : (k : ℕ) (x : Handler) → slice_get xs k ≡ Some x → IsPart x

no_parts : AreParts []
no_parts = record { at = λ k x e. absurd (none-some x e) }

one_part : (owner : Owner) (after : Bool) (body : Statements) (xs : List Handler) → AreParts xs → AreParts (record { event = event_of owner after; outline = record { sort = sorts.Procedure owner; body = body } } ∷ xs)
one_part owner after body xs h = record { at = λ k x e. by k x e }
  where
    first : Handler
    first = record { event = event_of owner after; outline = record { sort = sorts.Procedure owner; body = body } }

    by : (k : ℕ) (x : Handler) → slice_get (first ∷ xs) k ≡ Some x → IsPart x
    by zero x e = subst IsPart (same_Some first x e) (record { owner = owner; after = after; event = refl; sort = refl })
    by (suc k) x e = h.at k x e

part : (owner : Owner) (after : Bool) (body : Statements) (xs : List Handler) → AreParts xs → AreParts (handler_of owner after body ++ xs)
part owner after body xs h = by (is_idle body)
  where
    by : (idle : Bool) → AreParts ((if idle then [] else record { event = event_of owner after; outline = record { sort = sorts.Procedure owner; body = body } } ∷ []) ++ xs)
    by true = h
    by false = one_part owner after body xs h

body_parts : (owner : Owner) (body : Body) (xs : List Handler) → AreParts xs → AreParts (handlers_of_body owner body ++ xs)
body_parts owner (Plain b) xs h = part owner true b xs h
body_parts owner (Preproc b) xs h = part owner false b xs h
body_parts owner (Both a b) xs h = subst AreParts (sym (append_assoc (handler_of owner false a) (handler_of owner true b) xs)) (part owner false a (handler_of owner true b ++ xs) (part owner true b xs h))
body_parts owner (Postproc b) xs h = part owner true b xs h

pub all_parts : (ps : List Procedure) → AreParts (handlers_in ps)
all_parts [] = no_parts
all_parts (p ∷ ps) = body_parts p.owner p.body (handlers_in ps) (all_parts ps)

-- ---- routines

module _ (v : VerifiedProgram) (messages : List MessageText) (named : List ℕ) (source : syntax.Tree) (words : List Word) (t : Tree) (compiled : IsCompiled v.dictionary messages named source words t v.image) where
  abbrev d : DictionaryText
  d = v.dictionary

  sizes_are : sizes t ≡ (context d t 0).arrays
  sizes_are = ap (λ ds. map (λ (x : ArrayLists). x.dimensions) (arrays_in ds)) (sym (same_declarations t))

  pub is_routine : (r : ℕ) (o : Outline) → slice_get (outlines t) r ≡ Some o → IsRoutineOf v (context d t 0).arrays r o (named_by o.sort)
  is_routine r o e =
      let entry = entry_of (shape_of d).records (sizes t) in
      let here : IsRoutineOf v (sizes t) r o (named_by o.sort) = record {
        instructions = routine_size (setting_for (shape_of d).records (sizes t) o) o.body;
        there = ap (λ l. slice_get l r) compiled.program.routines ∙ (slice_get-map entry (outlines t) r ∙ ap (option_map entry) e);
        fits = sources_fit d messages named source words t v.image compiled r o e;
        stands = stand_from v.image.lists [] (code_of v.image r) _ (routine_stands v.image (shape_of d).records (sizes t) (outlines t) compiled.program.routines compiled.program.code r o e);
        plain = routine_plain d messages named source words t v.image compiled r o e;
      } in
      subst (λ arrays. IsRoutineOf v arrays r o (named_by o.sort)) sizes_are here

  -- the functions come first
  abbrev many_functions : ℕ
  many_functions = length (tables.functions_in (meaning.declarations t))

  functions_are : outline.functions_in (program.declarations t) ≡ map outline_of (tables.functions_in (meaning.declarations t))
  functions_are = same_functions (program.declarations t) ∙ ap (λ ds. map outline_of (tables.functions_in ds)) (sym (same_declarations t))

  pub as_many : length (outline.functions_in (program.declarations t)) ≡ many_functions
  as_many = ap length functions_are ∙ length-map (tables.functions_in (meaning.declarations t)) outline_of

  function_at : (k : ℕ) (f : Function) → slice_get (tables.functions_in (meaning.declarations t)) k ≡ Some f → slice_get (outlines t) k ≡ Some (outline_of f)
  function_at k f e =
      slice_get_append_left (outline.functions_in (program.declarations t)) (map (λ (x : Handler). x.outline) (handlers t)) k (outline_of f)
      (ap (λ l. slice_get l k) functions_are ∙ (slice_get-map outline_of (tables.functions_in (meaning.declarations t)) k ∙ ap (option_map outline_of) e))

  pub handler_at : (k : ℕ) (h : Handler) → slice_get (handlers t) k ≡ Some h → slice_get (outlines t) (many_functions + k) ≡ Some h.outline
  handler_at k h e =
      ap (λ n. slice_get (outlines t) (n + k)) (sym as_many)
      ∙ (slice_get-append-add (outline.functions_in (program.declarations t)) (map (λ (x : Handler). x.outline) (handlers t)) k
      ∙ (slice_get-map (λ (x : Handler). x.outline) (handlers t) k ∙ ap (option_map (λ (x : Handler). x.outline)) e))

  -- no other routine gives a number
  gives_by : (k : ℕ) (y : RoutineLists) (o : Option Handler) → slice_get (handlers t) k ≡ o → slice_get v.image.lists.routines (many_functions + k) ≡ Some y → y.gives ≡ gifts.Number → ⊥
  gives_by k y None none is gives =
      let entry = entry_of (shape_of d).records (sizes t) in
      let past : slice_get (outlines t) (many_functions + k) ≡ None =
      ap (λ n. slice_get (outlines t) (n + k)) (sym as_many)
      ∙ (slice_get-append-add (outline.functions_in (program.declarations t)) (map (λ (x : Handler). x.outline) (handlers t)) k
      ∙ (slice_get-map (λ (x : Handler). x.outline) (handlers t) k ∙ ap (option_map (λ (x : Handler). x.outline)) none)) in
      none-some y (sym (ap (λ l. slice_get l (many_functions + k)) compiled.program.routines ∙ (slice_get-map entry (outlines t) (many_functions + k) ∙ ap (option_map entry) past)) ∙ is)
  gives_by k y (Some h) some is gives =
      let r = is_routine (many_functions + k) h.outline (handler_at k h some) in
      let p = (all_parts t.procedures).at k h some in
      let same = same_Some (routine_of h.outline.sort r.instructions) y (sym r.there ∙ is) in
      nothing_given (sym (ap (λ (y : RoutineLists). y.gives) (ap (λ s. routine_of s r.instructions) (sym p.sort) ∙ same)))
    where
      nothing_given : y.gives ≡ gifts.Nothing → ⊥
      nothing_given e = cc

  pub has_functions : HasFunctions v t
  has_functions = record {
    is_of = record {
      dictionary = refl;
      arrays = ap (λ ds. map (λ (x : ArrayLists). x.dimensions) (arrays_in ds)) (same_declarations t) ∙ ap (λ xs. map (λ (x : ArrayLists). x.dimensions) xs) (sym compiled.program.arrays);
      sound = compiled.dictionary;
    };
    routines = λ k f e. is_routine k (outline_of f) (function_at k f e);
    others = λ k y past is gives. (let z : k ≡ many_functions + (k - many_functions) = omega arith in gives_by (k - many_functions) y (slice_get (handlers t) (k - many_functions)) refl (subst (λ k. slice_get v.image.lists.routines k ≡ Some y) z is) gives);
  }
