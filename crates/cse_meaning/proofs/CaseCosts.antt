-- Programs of sources whose costs keep to the limit are bounded.
use Rattle.std.proofs.Common.{◌≡◌, ◌≤◌, ℕ, ◌*◌, List, [], length, Option, Some, None, refl, sym, ap, ◌∙◌, subst, arith}
use Rattle.std.specs.Prelude.{slice_get}
use Rattle.std.specs.List.{sum_by}
use Rattle.std.specs.Option.{option_map, option_map_or}
use Rattle.std.proofs.Math.Logic.{∥∥₁_elim}
use Rattle.std.proofs.Math.Nat.{mul-le-mul_left}
use Rattle.std.proofs.lemmas.List.{length-map}
use Rattle.std.proofs.lemmas.List.Sums.{sum_by-le-sum_by}
use Rattle.std.proofs.lemmas.Option.{slice_get-map}
use Rattle.cse_value.specs.Shape.{ShapeLists}
use Rattle.cse_value.specs.declared.shape.ItemShape.{ItemShape}
use Rattle.cse_value.specs.Occurrences.{most_occurrences}
use Rattle.cse_image_parts.specs.declared.entries.EventCode.{EventCode}
use Rattle.cse_image_parts.specs.declared.entries.EventCode.TheVariants as codes
use Rattle.cse_image_parts.specs.declared.entries.EventEntry.{EventEntry}
use Rattle.cse_image_parts.specs.Image.{Image, RoutineLists}
use Rattle.cse_image.specs.Spelling.{Fits}
use Rattle.cse_dict.specs.Dictionary.{DictionaryText, shape_of}
use Rattle.cse_syntax_tree.specs.Tree as syntax
use Rattle.cse_syntax_tree.specs.Word.{Word}
use Rattle.cse_logic_tree.specs.Typed.{Tree}
use Rattle.cse_code_typing.specs.Code.{part, start_of, code_of}
use Rattle.cse_code_typing.specs.Shapes as image
use Rattle.cse_code_typing.specs.Skeleton.{skeleton}
use Rattle.cse_logic_names.specs.MessageFile.{MessageText}
use Rattle.cse_verify.specs.Bound.{partial, bounds_below, bound}
use Rattle.cse_verify.specs.Bounded.{IsBounded}
use Rattle.cse_verify.specs.EventBound.{most_of_item as most_in, times_in_case, case_bound}
use Rattle.cse_compile.specs.Outline.{Outline}
use Rattle.cse_compile.specs.Program.{entry_of, outlines, sizes}
use Rattle.cse_meaning.specs.Checked.{IsCompiled}
use Rattle.cse_meaning.specs.Cost.{cost_of}
use Rattle.cse_meaning.specs.Costs.{most_of_item, times_of, case_cost, KeepsCosts, CheapIsBounded, LongOnlyAtCost}
use Rattle.cse_meaning.proofs.SoundLaws.{spelled_bounds}

-- ---- a routine that isn't there

no_code : (x : Image) (r : ℕ) → slice_get x.lists.routines r ≡ None → code_of x r ≡ []
unfolding code_of
no_code x r e = ap (λ n. part (start_of x.lists.routines r) n x.code) (ap (λ (o : Option RoutineLists). option_map_or (λ (y : RoutineLists). y.instructions) o 0) e)

no_bound : (x : Image) (r : ℕ) → slice_get x.lists.routines r ≡ None → bound x r ≡ 0
unfolding partial
no_bound x r e = ap (λ c. partial (bounds_below x r) (skeleton x.lists c) (length (skeleton x.lists c))) (no_code x r e)

-- ---- how often an event comes

most_there : (d : DictionaryText) (x : Image) (index : ℕ) → shape_of d ≡ image.shape_of x → most_in x.lists index ≡ most_of_item d index
most_there d x index e = sym (ap (λ (s : ShapeLists). option_map_or (λ (i : ItemShape). most_occurrences s.records i.owner) (slice_get s.items index) 0) e)

times_there : (d : DictionaryText) (x : Image) (code : EventCode) (index : ℕ) → shape_of d ≡ image.shape_of x → times_in_case x.lists code index ≡ times_of d code index
times_there d x codes.ApplicationPreproc index e = refl
times_there d x codes.ApplicationPostproc index e = refl
times_there d x codes.LevelPreproc index e = refl
times_there d x codes.LevelPostproc index e = refl
times_there d x codes.RecordPreproc index e = refl
times_there d x codes.RecordPostproc index e = refl
times_there d x codes.ItemPreproc index e = most_there d x index e
times_there d x codes.ItemPostproc index e = most_there d x index e

times_more : (m n a b : ℕ) → m ≡ n → a ≤ b → m * a ≤ n * b
times_more m n a b e le = subst (λ n. m * a ≤ n * b) e (mul-le-mul_left m le)

-- ---- whole programs

module _ (d : DictionaryText) (messages : List MessageText) (named : List ℕ) (source : syntax.Tree) (words : List Word) (t : Tree) (x : Image) (h : IsCompiled d messages named source words t x) (fits : Fits x) where
  count : length x.lists.routines ≡ length (outlines t)
  count = ap (λ (l : List RoutineLists). length l) h.program.routines ∙ length-map (outlines t) (entry_of (shape_of d).records (sizes t))

  cheap : (r : ℕ) → bound x r ≤ cost_of d t r
  cheap r = by (slice_get (outlines t) r) refl
    where
      by : (o : Option Outline) → slice_get (outlines t) r ≡ o → bound x r ≤ cost_of d t r
      by (Some o) e = spelled_bounds d messages named source words t x h fits r o e
      by None e =
          let none = no_bound x r (ap (λ l. slice_get l r) h.program.routines ∙ slice_get-map (entry_of (shape_of d).records (sizes t)) (outlines t) r ∙ ap (option_map (entry_of (shape_of d).records (sizes t))) e) in
          omega (arith, none)

  case_cheap : case_bound x ≤ case_cost d t
  case_cheap =
      let event_cheap : (e : EventEntry) → times_in_case x.lists e.code e.index * bound x e.routine ≤ times_of d e.code e.index * cost_of d t e.routine =
      λ e. times_more (times_in_case x.lists e.code e.index) (times_of d e.code e.index) (bound x e.routine) (cost_of d t e.routine) (times_there d x e.code e.index h.shape) (cheap e.routine)
      in
      let all = sum_by-le-sum_by (λ (e : EventEntry). times_in_case x.lists e.code e.index * bound x e.routine) (λ (e : EventEntry). times_of d e.code e.index * cost_of d t e.routine) x.lists.events event_cheap in
      subst (λ es. case_bound x ≤ sum_by (λ (e : EventEntry). times_of d e.code e.index * cost_of d t e.routine) es) h.program.events all

  bounded : KeepsCosts d t → IsBounded x
  bounded k = record {
    routines = λ r lt. let a = cheap r in let b = k.routines r (omega (arith, lt, count)) in omega (arith, a, b);
    case = let a = case_cheap in let b = k.case in omega (arith, a, b);
  }

pub cheap_is_bounded : CheapIsBounded
cheap_is_bounded d messages named source words t x h fits k = bounded d messages named source words t x h fits k

pub long_only_at_cost : LongOnlyAtCost
long_only_at_cost d messages named source words t sound grammar typed long k =
    ∥∥₁_elim grammar (λ a b. absurd a) (λ g.
    let x = long.0 in
    let h : IsCompiled d messages named source words t x = record { dictionary = sound; grammar = g; typed = typed; shape = long.1.shape; program = long.1 } in
    long.3 (cheap_is_bounded d messages named source words t x h long.2 k))
