-- Where the brackets keep their rules, the edges of an instruction lead to places that are there.
use Rattle.std.proofs.Common.{◌≡◌, ℕ, ◌+◌, ◌<◌, List, [], ◌∷◌, length, Option, Some, None, refl, sym, ap, ◌∙◌, subst, ⊎_elim, arith}
use Rattle.std.specs.Prelude.{slice_get, map, option_map, option_and_then, ◌++◌}
use Rattle.std.proofs.lemmas.Bool.{cases_eq}
use Rattle.std.proofs.lemmas.List.{length-map}
use Rattle.std.proofs.lemmas.Option.{same_Some, slice_get_within, slice_get-map}
use Rattle.cse_lemmas.proofs.Options.{option_and_then_parts}
use Rattle.cse_image_parts.specs.declared.instruction.Instr.{Instr}
use Rattle.cse_code_typing.specs.declared.kind.Kind.{Kind}
use Rattle.cse_code_typing.specs.declared.control.Control.{Control}
use Rattle.cse_code_typing.specs.declared.control.Control.TheVariants.{Step, Jump, Branch, Open, End, Break, Call, Return}
use Rattle.cse_code_typing.specs.Kinds.{below, top_of}
use Rattle.cse_code_typing.specs.Skeleton.{control, skeleton}
use Rattle.cse_code_typing.specs.Bracket.{named_opener, KeepsRules}
use Rattle.cse_code_typing.specs.Signature.{Scene, Signature, signature_by, is_in_loop}
use Rattle.cse_code_typing.specs.Rule.{Edge, rule, exits, returned}
use Rattle.cse_code_typing.specs.Laws.{LeadInside}

module _ (code : List Control) (keeps : KeepsRules code) where
  -- behind what doesn't return there is a place
  next_inside : (q : ℕ) (i : Control) → slice_get code q ≡ Some i → (i ≡ Return → ⊥) → q + 1 < length code
  next_inside q i at goes =
      let lt = slice_get_within code q i at in
      ⊎_elim (λ (last : q + 1 ≡ length code). absurd (goes ((keeps q lt i at).1 last)))
      (λ (ne : q + 1 ≡ length code → ⊥). omega arith) (cases_eq (q + 1) (length code))

  by_end : (o : Option Control) (e s : ℕ) → slice_get code e ≡ o → named_opener o ≡ Some s → e + 1 < length code
  by_end None e s at h = cc
  by_end (Some i) e s at h = next_inside e i at (λ r. let g : named_opener (Some Return) ≡ Some s = subst (λ j. named_opener (Some j) ≡ Some s) r h in cc)

  after_end : (e s : ℕ) → named_opener (slice_get code e) ≡ Some s → e + 1 < length code
  after_end e s h = by_end (slice_get code e) e s refl h

  pub inside : (q : ℕ) (i : Control) → slice_get code q ≡ Some i → (rest after : List Kind) (edges : List Edge) → exits q i rest after ≡ Some edges → LeadInside (length code) edges
  inside q Step at rest after edges h =
      subst (LeadInside (length code)) (same_Some _ edges h) (next_inside q Step at (λ e. cc), tt)
  inside q (Jump c) at rest after edges h =
      let fine = (keeps q (slice_get_within code q (Jump c) at) (Jump c) at).0 in
      subst (LeadInside (length code)) (same_Some _ edges h) (fine.1, tt)
  inside q (Branch c) at rest after edges h =
      let fine = (keeps q (slice_get_within code q (Branch c) at) (Branch c) at).0 in
      subst (LeadInside (length code)) (same_Some _ edges h) (fine.1, (next_inside q (Branch c) at (λ e. cc), tt))
  inside q (Open limit e) at rest after edges h =
      let fine = (keeps q (slice_get_within code q (Open limit e) at) (Open limit e) at).0 in
      subst (LeadInside (length code)) (same_Some _ edges h) (next_inside q (Open limit e) at (λ p. cc), (after_end e q fine.bracket.2, tt))
  inside q (End s) at rest after edges h =
      let lt = slice_get_within code q (End s) at in
      let fine = (keeps q lt (End s) at).0 in
      let smaller = fine.0 in
      subst (LeadInside (length code)) (same_Some _ edges h) (omega arith, (next_inside q (End s) at (λ p. cc), tt))
  inside q (Break e) at rest after edges h =
      let fine = (keeps q (slice_get_within code q (Break e) at) (Break e) at).0 in
      subst (LeadInside (length code)) (same_Some _ edges h) (after_end e fine.0 fine.2.2, tt)
  inside q (Call c) at rest after edges h =
      subst (LeadInside (length code)) (same_Some _ edges h) (next_inside q (Call c) at (λ e. cc), tt)
  inside q Return at [] after edges h = subst (LeadInside (length code)) (same_Some [] edges h) tt
  inside q Return at (k ∷ rest) after edges h = cc

pub edges_inside : (s : Scene) (code : List Instr) → KeepsRules (skeleton s.lists code) → (q : ℕ) (i : Instr) (stack : List Kind) (edges : List Edge) → slice_get code q ≡ Some i
    → rule s code q i stack ≡ Some edges → LeadInside (length code) edges
edges_inside s code keeps q i stack edges there ruled =
    let skel = skeleton s.lists code in
    let c = control s.lists i in
    let at : slice_get skel q ≡ Some c = slice_get-map (control s.lists) code q ∙ ap (option_map (control s.lists)) there in
    let a = option_and_then_parts (λ (x : Signature). option_and_then (λ (rest : List Kind). exits q c rest (x.leaves ++ rest)) (below x.takes stack)) (signature_by s (is_in_loop s.lists code q i.a) (top_of stack) i.op i.a i.b i.c) edges ruled in
    let b = option_and_then_parts (λ (rest : List Kind). exits q c rest (a.0.leaves ++ rest)) (below a.0.takes stack) edges a.2 in
    subst (λ n. LeadInside n edges) (length-map code (control s.lists)) (inside skel keeps q c at b.0 (a.0.leaves ++ b.0) edges b.2)
