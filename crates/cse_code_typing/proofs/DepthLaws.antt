-- How many values are kept so far.
use Rattle.std.proofs.Common.{◌≡◌, ℕ, zero, suc, ◌+◌, ◌≤◌, List, [], ◌∷◌, ◌++◌, length, take, drop, map, Some, refl, sym, ap, ◌∙◌, subst, arith, add-one}
use Rattle.std.specs.Prelude.{slice_get}
use Rattle.std.proofs.lemmas.List.{take_more, map-append}
use Rattle.std.proofs.lemmas.Option.{get_or_from_slice_get, slice_get_within}
use Rattle.cse_image_parts.specs.declared.entries.Local.{Local}
use Rattle.cse_image_parts.specs.declared.instruction.Instr.{Instr}
use Rattle.cse_code_typing.specs.declared.kind.Kind.{Kind}
use Rattle.cse_code_typing.specs.declared.depth.Depth.{Depth}
use Rattle.cse_code_typing.specs.Kinds.{local_kind}
use Rattle.cse_code_typing.specs.declared.piles.PileEntry.{PileEntry}
use Rattle.cse_code_typing.specs.declared.piles.Expected.{Expected}
use Rattle.cse_code_typing.specs.declared.piles.Expected.TheVariants as numbered
use Rattle.cse_code_typing.specs.Signature.{Scene}
use Rattle.cse_code_typing.specs.Rule.{rule}
use Rattle.cse_code_typing.specs.Pass.{expected_stack}
use Rattle.cse_code_typing.specs.Piles.{expects, stack_at}
use Rattle.cse_code_typing.specs.Edges.{known_of}
use Rattle.cse_code_typing.specs.Within.{expected_in}
use Rattle.cse_code_typing.specs.Depth.{no_depth, ◌⊕◌, greater, one_of, count_of, place_depth, depth_below, locals_depth, IsDepth, IsDepthBelow}
use Rattle.cse_code_typing.proofs.PileLaws.{entry-known_of}
use Rattle.cse_code_typing.proofs.Sound.{here_is}
use Rattle.cse_code_typing.proofs.PassLaws.{IsPassed}

-- ---- what lies below so many kinds

pub drop_none : {X : Type 0} (xs : List X) (k n : ℕ) → drop k xs ≡ [] → k ≤ n → drop n xs ≡ []
drop_none [] k zero h le = refl
drop_none [] k (suc n) h le = refl
drop_none (x ∷ xs) zero n h le = cc
drop_none (x ∷ xs) (suc k) zero h le = absurd (omega arith)
drop_none (x ∷ xs) (suc k) (suc n) h le = drop_none xs k n h (omega arith)

drop_next : {X : Type 0} (xs : List X) (k : ℕ) (x : X) (rest : List X) → drop k xs ≡ x ∷ rest → drop (suc k) xs ≡ rest
drop_next [] zero x rest h = cc
drop_next [] (suc k) x rest h = cc
drop_next (y ∷ xs) zero x rest h = cc
drop_next (y ∷ xs) (suc k) x rest h = drop_next xs k x rest h

pub drop_one_more : {X : Type 0} (xs : List X) (k : ℕ) (x : X) (rest : List X) → drop k xs ≡ x ∷ rest → drop (k + 1) xs ≡ rest
drop_one_more xs k x rest h = ap (λ n. drop n xs) (add-one k) ∙ drop_next xs k x rest h

-- ---- the sum of the locals so far

depth_eq : (a b : Depth) → a.numbers ≡ b.numbers → a.texts ≡ b.texts → a.ordinals ≡ b.ordinals → a ≡ b
depth_eq a b p q r = λ i. record { numbers = p i; texts = q i; ordinals = r i }

counted_more : (kinds : List Kind) (k : Kind) → count_of (kinds ++ k ∷ []) ≡ count_of kinds ⊕ one_of k
counted_more [] k = depth_eq _ _ (omega arith) (omega arith) (omega arith)
counted_more (j ∷ kinds) k =
    let ih = counted_more kinds k in
    let n = ap (λ (d : Depth). d.numbers) ih in
    let t = ap (λ (d : Depth). d.texts) ih in
    let o = ap (λ (d : Depth). d.ordinals) ih in
    depth_eq _ _ (omega arith) (omega arith) (omega arith)

pub locals_more : (locals : List Local) (n : ℕ) (x : Local) (k : Kind) (one total next : Depth) → slice_get locals n ≡ Some x → k ≡ local_kind x → one ≡ one_of k
    → total ≡ locals_depth (take n locals) → next ≡ total ⊕ one → next ≡ locals_depth (take (n + 1) locals)
locals_more locals n x k one total next at kind is so went =
    went ∙ ap (λ d. d ⊕ one) so ∙ ap (λ d. locals_depth (take n locals) ⊕ d) (is ∙ ap one_of kind)
    ∙ sym (ap locals_depth (take_more locals n x (slice_get_within locals n x at) ∙ ap (λ y. take n locals ++ y ∷ []) (get_or_from_slice_get locals n x x at))
    ∙ ap count_of (map-append local_kind (take n locals) (x ∷ []))
    ∙ counted_more (map local_kind (take n locals)) (local_kind x))

-- ---- the places so far

stack_expected : (table : List PileEntry) (there : Expected) (s : List Kind) → expected_stack (expects table there) ≡ Some s → stack_at table there ≡ s
stack_expected table numbered.Free s h = cc
stack_expected table (numbered.Is n) s h = cc
stack_expected table numbered.Clash s h = cc

module _ (s : Scene) (depths : List Depth) (code : List Instr) where
  pub deep_start : (d : Depth) → d ≡ no_depth → IsDepthBelow s depths code 0 d
  deep_start d none m t le typing = none

  pub deep_more : (r p : ℕ) (i : Instr) (openers : List ℕ) (piles : List PileEntry) (known : List Expected) (there : Expected) (most kept next : Depth) → IsPassed s r code openers piles known p
      → slice_get code p ≡ Some i → there ≡ expected_in known p → kept ≡ place_depth s.lists.routines depths (Some i) (stack_at piles there) → next ≡ greater most kept
      → IsDepthBelow s depths code p most → IsDepthBelow s depths code (p + 1) next
  deep_more r p i openers piles known there most kept next so at is here went before m t le typing =
      let one : suc p ≡ p + 1 = omega arith in
      let expected = here_is (rule s code) code p m (known_of piles known) t so.known_is (omega arith) (slice_get_within code p i at) typing in
      let stack : stack_at piles there ≡ t p = stack_expected piles there (t p) (ap (λ x. expected_stack (expects piles x)) is ∙ ap expected_stack (sym (entry-known_of piles known p)) ∙ expected) in
      went
      ∙ ap (λ d. greater d kept) (before m t (omega arith) typing)
      ∙ ap (λ d. greater (depth_below s.lists.routines depths code t p) d)
      (here ∙ ap (place_depth s.lists.routines depths (Some i)) stack ∙ ap (λ o. place_depth s.lists.routines depths o (t p)) (sym at))
      ∙ ap (depth_below s.lists.routines depths code t) one

  pub deep_end : (p n : ℕ) (d : Depth) → p ≡ n → IsDepthBelow s depths code p d → IsDepthBelow s depths code n d
  deep_end p n d e so = subst (λ k. IsDepthBelow s depths code k d) e so

  pub deep_all : (n : ℕ) (locals places d : Depth) → n ≡ length code → locals ≡ locals_depth s.routine.locals → IsDepthBelow s depths code n places → d ≡ locals ⊕ places → IsDepth s depths code d
  deep_all n locals places d end is so went t typing =
      went ∙ ap (λ l. l ⊕ places) is
      ∙ ap (λ x. locals_depth s.routine.locals ⊕ x) (so (length code) t (omega arith) typing ∙ ap (depth_below s.lists.routines depths code t) end)
