-- Values that were laid down one after the other are taken again from the top.
use Rattle.std.proofs.Common.{◌≡◌, ℕ, ◌+◌, List, [], ◌∷◌, ◌++◌, length, map, Some, refl, sym, ap, ◌∙◌, arith, append_assoc, length-append}
use Rattle.std.specs.Prelude.{slice_get, slice_index, reverse, unwrap_or}
use Rattle.std.specs.Option.{option_map_or}
use Rattle.std.proofs.Math.Seq.{get_or-append_seam}
use Rattle.std.proofs.lemmas.List.{reverse-append}
use Rattle.cse_code_typing.specs.declared.kind.Kind.TheVariants as k
use Rattle.cse_code_typing.specs.Kinds.{below}
use Rattle.cse_logic_tree.specs.declared.tree.Pick.{Pick}
use Rattle.cse_logic_tree.specs.Typed.{Numbers, no_number, number_and}
use Rattle.cse_compile.specs.Setting.{size_at}
use Rattle.cse_compile.specs.Expressions.{count}
use Rattle.cse_meaning.specs.Fit.{Spot, ArePicks, numbers_kinds, row_count}
use Rattle.cse_meaning.proofs.WideRule.{Stack}
use Rattle.cse_meaning.proofs.Rules.{below_one, piled}
use Rattle.cse_meaning.proofs.Stacks.{pick_index, picks_after, cell_index, indexes_after, numbers_after}

below_all : (ks st : Stack) → below ks (ks ++ st) ≡ Some st
below_all [] st = refl
below_all (x ∷ xs) st = below_one x xs (xs ++ st) ∙ below_all xs st

piled_is : (ks st : Stack) → piled ks st ≡ reverse ks ++ st
piled_is [] st = refl
piled_is (x ∷ xs) st =
    piled_is xs (x ∷ st) ∙ sym (append_assoc (reverse xs) (x ∷ []) st) ∙ ap (λ l. l ++ st) (sym (reverse-append (x ∷ []) xs))

pub below_piled : (ks st : Stack) → below (reverse ks) (piled ks st) ≡ Some st
below_piled ks st = ap (below (reverse ks)) (piled_is ks st) ∙ below_all (reverse ks) st

pub numbers_piled : (st : Stack) (xs : Numbers) → numbers_after st xs ≡ piled (numbers_kinds xs) st
numbers_piled st no_number = refl
numbers_piled st (number_and x xs) = numbers_piled (k.Number ∷ st) xs

pub picks_piled : (s : Spot) (st : Stack) (ds : List ℕ) (xs : List Pick) → ArePicks s ds xs → picks_after s st xs ≡ piled (map k.Index ds) st
picks_piled s st [] [] h = refl
picks_piled s st (d ∷ ds) (x ∷ xs) h =
    let e : pick_index s x ≡ k.Index d = ap (λ o. k.Index (row_count x.has_leftover (unwrap_or o 0))) h.1.1 ∙ sym (ap k.Index h.1.2) in
    ap (λ i. picks_after s (i ∷ st) xs) e ∙ picks_piled s (k.Index d ∷ st) ds xs h.2
picks_piled s st [] (x ∷ xs) h = absurd h
picks_piled s st (d ∷ ds) [] h = absurd h

size_here : (s : Spot) (array : ℕ) (pre ds : List ℕ) (d : ℕ) → slice_get s.setting.arrays array ≡ Some (pre ++ d ∷ ds) → size_at s.setting array (length pre) ≡ d
size_here s array pre ds d h = ap (λ o. option_map_or (λ sizes. slice_index sizes (length pre)) o 0) h ∙ get_or-append_seam pre d ds _

pub indexes_piled : (s : Spot) (array j : ℕ) (st : Stack) (xs : Numbers) (pre ds : List ℕ) → length pre ≡ j → slice_get s.setting.arrays array ≡ Some (pre ++ ds) → length ds ≡ count xs → indexes_after s array j st xs ≡ piled (map k.Index ds) st
indexes_piled s array j st no_number pre [] e h n = refl
indexes_piled s array j st no_number pre (d ∷ ds) e h n = absurd (omega (arith, n))
indexes_piled s array j st (number_and x xs) pre [] e h n = absurd (omega (arith, n))
indexes_piled s array j st (number_and x xs) pre (d ∷ ds) e h n =
    let here : cell_index s array j ≡ k.Index d = ap (λ n. k.Index (size_at s.setting array n)) (sym e) ∙ ap k.Index (size_here s array pre ds d h) in
    let more : length (pre ++ d ∷ []) ≡ j + 1 = omega (arith, length-append pre (d ∷ []), e) in
    let rest = indexes_piled s array (j + 1) (k.Index d ∷ st) xs (pre ++ d ∷ []) ds more (h ∙ ap Some (sym (append_assoc pre (d ∷ []) ds))) (omega (arith, n)) in
    ap (λ i. indexes_after s array (j + 1) (i ∷ st) xs) here ∙ rest
