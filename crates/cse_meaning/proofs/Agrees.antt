-- How what is known at a place of logic agrees with what stands around the instructions of a routine.
use Rattle.std.proofs.Common.{◌≡◌, ◌≤◌, ◌<◌, ℕ, Bool, true, false, ◌||◌, List, [], ◌∷◌, ◌++◌, length, map, Option, Some, None, refl, sym, ◌∙◌}
use Rattle.std.specs.Prelude.{slice_get, ◌==◌, replicate, take}
use Rattle.std.specs.List.{list_any}
use Rattle.std.proofs.lemmas.Bool.{or_left, or_right, false≢true}
use Rattle.std.proofs.lemmas.List.Folds.{list_any-append}
use Rattle.cse_value.specs.declared.shape.ItemKind.{ItemKind}
use Rattle.cse_value.specs.Shape.{ShapeLists}
use Rattle.cse_image_parts.specs.declared.entries.Gift.TheVariants as gifts
use Rattle.cse_image_parts.specs.Image.{ArrayLists, RoutineLists}
use Rattle.cse_dict.specs.Dictionary.{shape_of}
use Rattle.cse_syntax_tree.specs.Tree.{Spelling}
use Rattle.cse_code_typing.specs.declared.kind.Kind.TheVariants as kind
use Rattle.cse_code_typing.specs.Kinds.{local_kind}
use Rattle.cse_code_typing.specs.Signature.{is_record, rows_of, global_at, local_at}
use Rattle.cse_code_typing.specs.Order.{is_run}
use Rattle.cse_logic_tree.specs.declared.tree.Variable.{Variable}
use Rattle.cse_logic_tree.specs.declared.tree.Variable.TheVariants as v
use Rattle.cse_logic_tree.specs.Typed.{Dimension, Sized, Rows}
use Rattle.cse_logic_names.specs.declared.meaning.Meaning.{Meaning}
use Rattle.cse_logic_names.specs.declared.meaning.Meaning.TheVariants as m
use Rattle.cse_logic_names.specs.Scope.{Scope, Facts, Loops, meant, has_case, kind_and_owner, is_over, is_looped, is_event_of, own_result, within}
use Rattle.cse_logic_names.specs.Uses.{Use, TheCase, Calls, Assigns, needs_case, facts_need}
use Rattle.cse_meaning.specs.Fit.{Spot, HasCase, variable_kind, row_count, over}

-- what a name means is in the tables
abbrev pub MeaningFits : Spot → Meaning → Type 0
MeaningFits s (m.Variable x) = variable_kind s x ≡ Some kind.Number
MeaningFits s (m.Text g) = global_at s.scene.lists g ≡ Some kind.Text
MeaningFits s (m.Array a) = Unit {0}
MeaningFits s (m.Function f) = Unit {0}
MeaningFits s (m.Record r) = is_record s.scene.shape r ≡ true
MeaningFits s (m.Item i) = Unit {0}
MeaningFits s (m.Set n) = Unit {0}
MeaningFits s m.Application = Unit {0}
MeaningFits s m.Level = Unit {0}

-- the sizes are those of the dimensions
abbrev pub SizesFit : ShapeLists → List Dimension → List ℕ → Type 0
SizesFit x [] [] = Unit {0}
SizesFit x (Sized digits size ∷ ds) (n ∷ ns) = SizesFit x ds ns
SizesFit x (Rows name set one_more size ∷ ds) (n ∷ ns) = ((rows : ℕ) × (rows_of x set ≡ Some rows) × (n ≡ row_count one_more rows)) × SizesFit x ds ns
SizesFit x _ _ = ⊥

pub record ArrayFits (s : Spot) (array : ℕ) (ds : List Dimension) : Type 0 where
  pub entry : ArrayLists
  pub there : slice_get s.scene.lists.arrays array ≡ Some entry
  pub set : slice_get s.setting.arrays array ≡ Some entry.dimensions
  pub sizes : SizesFit s.scene.shape ds entry.dimensions
  pub some : 1 ≤ length ds

pub record FunctionFits (s : Spot) (function : ℕ) (f : Facts) : Type 0 where
  pub entry : RoutineLists
  pub there : slice_get s.scene.lists.routines function ≡ Some entry
  pub gives : entry.gives ≡ gifts.Number
  pub takes : map local_kind (take entry.parameters entry.locals) ≡ replicate f.parameters kind.Number
  pub before : function < s.number
  pub ambient : f.needs_case ≡ false → is_run entry.ambient ≡ true

-- beside the loops
pub record Agrees (c : Scope) (s : Spot) : Type 0 where
  pub shape : s.scene.shape ≡ shape_of c.dictionary
  -- an item of a record belongs to one that is there
  pub owners : (item owner : ℕ) (k : ItemKind) → kind_and_owner c.dictionary item ≡ Some (k, owner) → (owner == 255) ≡ false → is_record s.scene.shape owner ≡ true
  pub names : (name : Spelling) (x : Meaning) → meant c name ≡ Some x → MeaningFits s x
  pub result : (f : ℕ) (x : Variable) → own_result c.routine f ≡ Some x → variable_kind s x ≡ Some kind.Number
  pub event : (of : ℕ) → is_event_of c.routine of ≡ true → local_at s.scene.routine 0 ≡ Some (kind.Occurrence of)
  pub arrays : (a : ℕ) (ds : List Dimension) → slice_get c.arrays a ≡ Some (Some ds) → ArrayFits s a ds
  pub functions : (k : ℕ) (f : Facts) → slice_get c.functions k ≡ Some (Some f) → FunctionFits s k f

abbrev pub is_open : Loops → Bool
is_open [] = false
is_open (l ∷ ls) = true

-- the loops around
pub record InLoops (c : Scope) (s : Spot) (inside : Bool) : Type 0 where
  pub looped : (of : ℕ) → is_looped c.loops of ≡ true → list_any (λ o. o == of) s.loops ≡ true
  pub opened : is_open c.loops ≡ true → inside ≡ true

-- the routine has a case where this is used
abbrev pub Cased : Scope → Spot → List Use → Type 0
Cased c s us = has_case c.routine ≡ true → needs_case c.functions us ≡ true → HasCase s

or_more : (a b m n : Bool) → b ≡ (m || n) → (a || b) ≡ ((a || m) || n)
or_more true b m n e = refl
or_more false b m n e = e

pub needs_append : (fs : List (Option Facts)) (us vs : List Use) → needs_case fs (us ++ vs) ≡ (needs_case fs us || needs_case fs vs)
needs_append fs [] vs = refl
needs_append fs (TheCase ∷ us) vs = refl
needs_append fs (Calls f ∷ us) vs = or_more (facts_need (slice_get fs f)) _ _ _ (needs_append fs us vs)
needs_append fs (Assigns g ∷ us) vs = needs_append fs us vs

module _ (c : Scope) (s : Spot) where
  pub cased_left : (us vs : List Use) → Cased c s (us ++ vs) → Cased c s us
  cased_left us vs f h n = f h (needs_append c.functions us vs ∙ or_left _ _ n)

  pub cased_right : (us vs : List Use) → Cased c s (us ++ vs) → Cased c s vs
  cased_right us vs f h n = f h (needs_append c.functions us vs ∙ or_right _ _ n)

  pub cased_call : (k : ℕ) (us : List Use) → Cased c s (Calls k ∷ us) → Cased c s us
  cased_call k us f h n = f h (or_right _ _ n)

  pub cased_tail : (us : List Use) → Cased c s (TheCase ∷ us) → Cased c s us
  cased_tail us f h n = f h refl

  pub cased_here : (us : List Use) → Cased c s (TheCase ∷ us) → has_case c.routine ≡ true → HasCase s
  cased_here us f h = f h refl

-- ---- inside a loop

looped_more : (ls : Loops) (over : Option ℕ) (x : Variable) (of : ℕ) → is_looped (ls ++ (over, x) ∷ []) of ≡ (is_looped ls of || (is_over over of || false))
looped_more ls over x of = list_any-append (λ l. is_over l.0 of) ls ((over, x) ∷ [])

choose : (C : Type 0) (a b : Bool) → (a || (b || false)) ≡ true → (a ≡ true → C) → (b ≡ true → C) → C
choose C true b e f g = f refl
choose C false true e f g = g refl
choose C false false e f g = g e

opened_more : (ls : Loops) (over : Option ℕ) (x : Variable) → is_open (ls ++ (over, x) ∷ []) ≡ true
opened_more [] over x = refl
opened_more (l ∷ ls) over x = refl

module _ (c : Scope) (s : Spot) (inside : Bool) (x : Variable) where
  pub loops_in_do : InLoops c s inside → InLoops (within c None x) s true
  loops_in_do l = record {
    looped = λ of e. choose _ (is_looped c.loops of) false (sym (looped_more c.loops None x of) ∙ e) (l.looped of) (λ f. absurd (false≢true f));
    opened = λ e. refl;
  }

  pub loops_in_for : (of : ℕ) → InLoops c s inside → InLoops (within c (Some of) x) (over s of) true
  loops_in_for of l = record {
    looped = λ o e. choose _ (is_looped c.loops o) (of == o) (sym (looped_more c.loops (Some of) x o) ∙ e) (λ f. or_right (of == o) _ (l.looped o f)) (or_left _ _);
    opened = λ e. refl;
  }

meaning_over : (s : Spot) (of : ℕ) (x : Meaning) → MeaningFits s x → MeaningFits (over s of) x
meaning_over s of (m.Variable (v.Global g)) f = f
meaning_over s of (m.Variable (v.Parameter k)) f = f
meaning_over s of (m.Variable v.Result) f = f
meaning_over s of (m.Text g) f = f
meaning_over s of (m.Array a) f = tt
meaning_over s of (m.Function k) f = tt
meaning_over s of (m.Record r) f = f
meaning_over s of (m.Item i) f = tt
meaning_over s of (m.Set n) f = tt
meaning_over s of m.Application f = tt
meaning_over s of m.Level f = tt

variable_over : (s : Spot) (of : ℕ) (x : Variable) → variable_kind s x ≡ Some kind.Number → variable_kind (over s of) x ≡ Some kind.Number
variable_over s of (v.Global g) f = f
variable_over s of (v.Parameter k) f = f
variable_over s of v.Result f = f

module _ (c : Scope) (s : Spot) (x : Variable) (a : Agrees c s) where
  pub agrees_in_do : Agrees (within c None x) s
  unfolding meant
  agrees_in_do = record { shape = a.shape; owners = a.owners; names = a.names; result = a.result; event = a.event; arrays = a.arrays; functions = a.functions }

  pub agrees_in_for : (of : ℕ) → Agrees (within c (Some of) x) (over s of)
  unfolding meant
  agrees_in_for of = record {
    shape = a.shape;
    owners = a.owners;
    names = λ name y e. meaning_over s of y (a.names name y e);
    result = λ f y e. variable_over s of y (a.result f y e);
    event = a.event;
    arrays = λ k ds e. let b = a.arrays k ds e in record { entry = b.entry; there = b.there; set = b.set; sizes = b.sizes; some = b.some };
    functions = λ k f e. let b = a.functions k f e in record { entry = b.entry; there = b.there; gives = b.gives; takes = b.takes; before = b.before; ambient = b.ambient };
  }
