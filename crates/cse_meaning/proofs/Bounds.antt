-- The bound of each routine is at most its cost.
use Rattle.std.proofs.Common.{◌≡◌, ◌≤◌, ◌<◌, ℕ, zero, suc, true, false, ◌⊎◌, inl, inr, List, [], ◌∷◌, ◌++◌, length, get_or, Some, None, ap, ◌∙◌, subst, arith}
use Rattle.std.specs.Prelude.{slice_get, slice_index}
use Rattle.std.specs.Option.{option_map, option_map_or}
use Rattle.std.proofs.lemmas.Bool.{ltb-true}
use Rattle.std.proofs.lemmas.List.{length-map}
use Rattle.std.proofs.lemmas.List.Elements.{All-get_or}
use Rattle.std.proofs.lemmas.Option.{slice_get-map, slice_get_cases, slice_get_within, get_or_from_slice_get}
use Rattle.cse_value.specs.declared.shape.RecordShape.{RecordShape}
use Rattle.cse_value.specs.Occurrences.{most_occurrences}
use Rattle.cse_image_parts.specs.Image.{Image}
use Rattle.cse_dict.specs.Dictionary.{DictionaryText, RecordText, shape_of}
use Rattle.cse_dict.specs.Sound.{IsSound, IsSoundRecord}
use Rattle.cse_syntax_tree.specs.Tree as syntax
use Rattle.cse_syntax_tree.specs.Word.{Word}
use Rattle.cse_code_typing.specs.Signature.{is_record}
use Rattle.cse_logic_tree.specs.Typed.{Tree}
use Rattle.cse_logic_names.specs.MessageFile.{MessageText}
use Rattle.cse_verify.specs.Bound.{bound, bounds_below}
use Rattle.cse_compile.specs.Outline.{Outline}
use Rattle.cse_compile.specs.Program.{outlines, sizes}
use Rattle.cse_meaning.specs.Checked.{IsCompiled, spot_for}
use Rattle.cse_meaning.specs.Cost.{cost_by, costs_below, cost_of, HasFewDimensions, BoundsAreCosts}
use Rattle.cse_meaning.proofs.SoundSizes.{IsSmall}
use Rattle.cse_meaning.proofs.Costs.{routine_cheap}
use Rattle.cse_meaning.proofs.SoundRoutines.{statements_fit}
use Rattle.cse_meaning.proofs.SoundWhole.{sources_are_counted}

-- ---- lists, number by number

abbrev AtMost : List ℕ → List ℕ → Type 0
AtMost [] [] = Unit {0}
AtMost (m ∷ ms) (n ∷ ns) = (m ≤ n) × AtMost ms ns
AtMost _ _ = ⊥

one_more : (ms ns : List ℕ) (m n : ℕ) → AtMost ms ns → m ≤ n → AtMost (ms ++ m ∷ []) (ns ++ n ∷ [])
one_more [] [] m n h le = (le, tt)
one_more [] (b ∷ ns) m n h le = absurd h
one_more (a ∷ ms) [] m n h le = absurd h
one_more (a ∷ ms) (b ∷ ns) m n h le = (h.0, one_more ms ns m n h.1 le)

each_at_most : (ms ns : List ℕ) → AtMost ms ns → (k : ℕ) → slice_index ms k ≤ slice_index ns k
each_at_most [] [] h k = omega arith
each_at_most [] (b ∷ ns) h k = absurd h
each_at_most (a ∷ ms) [] h k = absurd h
each_at_most (a ∷ ms) (b ∷ ns) h zero = h.0
each_at_most (a ∷ ms) (b ∷ ns) h (suc k) = each_at_most ms ns h.1 k

-- each record can have an occurrence
most_some : (d : DictionaryText) → IsSound d → (of : ℕ) → is_record (shape_of d) of ≡ true → 1 ≤ most_occurrences (shape_of d).records of
most_some d sound of e = by (slice_get_cases d.records of).1
  where
    lt : of < length d.records
    lt = let n = length-map d.records (λ (x : RecordText). x.shape) in let a = ltb-true of (length (shape_of d).records) e in omega (arith, a, n)

    found : (x : RecordText) → slice_get d.records of ≡ Some x → 1 ≤ most_occurrences (shape_of d).records of
    found x at =
        let f : IsSoundRecord d x = subst (IsSoundRecord d) (get_or_from_slice_get d.records of x x at) (All-get_or (IsSoundRecord d) d.records of x lt sound.records) in
        let g : most_occurrences (shape_of d).records of ≡ x.shape.max_records =
        ap (λ o. option_map_or (λ (x : RecordShape). x.max_records) o 0) (slice_get-map (λ (x : RecordText). x.shape) d.records of ∙ ap (option_map (λ (x : RecordText). x.shape)) at)
        in
        let m = f.most in
        omega (arith, g, m)

    by : ((x : RecordText) × (of < length d.records) × (slice_get d.records of ≡ Some x) × (get_or d.records of x ≡ x)) ⊎ ((length d.records ≤ of) × (slice_get d.records of ≡ None)) → 1 ≤ most_occurrences (shape_of d).records of
    by (inl h) = found h.0 h.2
    by (inr h) = let a = lt in let b = h.0 in absurd (omega (arith, a, b))

module _ (d : DictionaryText) (messages : List MessageText) (named : List ℕ) (source : syntax.Tree) (words : List Word) (t : Tree) (x : Image) (h : IsCompiled d messages named source words t x) (few : HasFewDimensions x) where
  abbrev costs : ℕ → List ℕ
  costs r = costs_below (shape_of d).records (sizes t) (outlines t) r

  bound_cheap : (r : ℕ) (o : Outline) → slice_get (outlines t) r ≡ Some o → AtMost (bounds_below x r) (costs r) → bound x r ≤ cost_of d t r
  bound_cheap r o e below =
      let s = spot_for d t x r o in
      let small : IsSmall s = record { few = few; most = most_some d h.dictionary } in
      let a = sources_are_counted d messages named source words t x h r o e in
      let b = routine_cheap (bounds_below x r) (costs r) (each_at_most (bounds_below x r) (costs r) below) s 64 false o.body small (statements_fit d messages named source words t x h r o e) in
      let c = ap (cost_by (shape_of d).records (sizes t) (costs r)) e in
      omega (arith, a, b, c)

  all_cheap : (r : ℕ) → r ≤ length (outlines t) → AtMost (bounds_below x r) (costs r)
  unfolding bounds_below costs_below
  all_cheap zero le = tt
  all_cheap (suc r) le =
      let below = all_cheap r (omega (arith, le)) in
      one_more (bounds_below x r) (costs r) (bound x r) (cost_of d t r) below (by (slice_get_cases (outlines t) r).1 below)
    where
      by : ((o : Outline) × (r < length (outlines t)) × (slice_get (outlines t) r ≡ Some o) × (get_or (outlines t) r o ≡ o)) ⊎ ((length (outlines t) ≤ r) × (slice_get (outlines t) r ≡ None)) → AtMost (bounds_below x r) (costs r) → bound x r ≤ cost_of d t r
      by (inl f) below = bound_cheap r f.0 f.2 below
      by (inr f) below = let a = f.0 in absurd (omega (arith, a, le))

  pub bound_at_most : (r : ℕ) (o : Outline) → slice_get (outlines t) r ≡ Some o → bound x r ≤ cost_of d t r
  bound_at_most r o e = let lt = slice_get_within (outlines t) r o e in bound_cheap r o e (all_cheap r (omega (arith, lt)))

pub bounds_are_costs : BoundsAreCosts
bounds_are_costs d messages named source words t x h few r o e = bound_at_most d messages named source words t x h few r o e
