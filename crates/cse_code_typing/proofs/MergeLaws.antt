-- One edge, and two, on what is known by the numbers of stacks.
use Rattle.std.proofs.Common.{◌≡◌, ℕ, ◌<◌, Bool, true, false, List, [], ◌∷◌, Option, Some, None, refl, sym, ap, ◌∙◌}
use Rattle.std.specs.Prelude.{slice_set, nat_le, if◌then◌else◌}
use Rattle.std.proofs.lemmas.Bool.{lt-leb}
use Rattle.cse_code_typing.specs.declared.piles.PileEntry.{PileEntry}
use Rattle.cse_code_typing.specs.declared.piles.Expected.{Expected}
use Rattle.cse_code_typing.specs.declared.exits.Exits.{Exits}
use Rattle.cse_code_typing.specs.declared.exits.Edge.{Edge as NumberedEdge}
use Rattle.cse_code_typing.specs.declared.exits.Exits.TheVariants.{Two}
use Rattle.cse_code_typing.specs.Rule.{Edge}
use Rattle.cse_code_typing.specs.Pass.{Expects, Known, entry, met, stands, merge}
use Rattle.cse_code_typing.specs.Piles.{stack_of, expects}
use Rattle.cse_code_typing.specs.Edges.{edge_of, edges_of, known_of}
use Rattle.cse_code_typing.specs.Within.{expected_in}
use Rattle.cse_code_typing.proofs.PileLaws.{entry-known_of, known_of-set}

merge_front : (q : ℕ) (e : Edge) (known : Known) → q < e.0 → merge q (e ∷ []) known ≡ Some (slice_set known e.0 (met (entry known e.0) e.1))
merge_front q e known lt = let l : nat_le e.0 q ≡ false = lt-leb e.0 q lt in rw l refl

pub put_front : (table : List PileEntry) (known : List Expected) (q k s : ℕ) (there more : Expected) → q < k → there ≡ expected_in known k
    → expects table more ≡ met (expects table there) (stack_of table s)
    → merge q ((k, stack_of table s) ∷ []) (known_of table known) ≡ Some (known_of table (slice_set known k more))
put_front table known q k s there more lt is value =
    merge_front q (k, stack_of table s) (known_of table known) lt
    ∙ ap (λ (x : Expects). Some (slice_set (known_of table known) k (met x (stack_of table s)))) (entry-known_of table known k ∙ ap (expects table) (sym is))
    ∙ ap (λ (x : Expects). Some (slice_set (known_of table known) k x)) (sym value)
    ∙ ap (λ (l : Known). Some l) (sym (known_of-set table known k more))

merge_two : (q : ℕ) (e f : Edge) (known mid : Known) → merge q (e ∷ []) known ≡ Some mid → merge q (e ∷ f ∷ []) known ≡ merge q (f ∷ []) mid
merge_two q e f known mid h = by (nat_le e.0 q) (stands (entry known e.0) e.1) h
  where
    by : (b s : Bool) → (if b then (if s then Some known else None) else Some (slice_set known e.0 (met (entry known e.0) e.1))) ≡ Some mid
        → (if b then (if s then merge q (f ∷ []) known else None) else merge q (f ∷ []) (slice_set known e.0 (met (entry known e.0) e.1))) ≡ merge q (f ∷ []) mid
    by true true k = let same : known ≡ mid = cc in ap (merge q (f ∷ [])) same
    by true false k = cc
    by false s k = let same : slice_set known e.0 (met (entry known e.0) e.1) ≡ mid = cc in ap (merge q (f ∷ [])) same

pub merge_both : (table : List PileEntry) (q : ℕ) (exits : Exits) (e f : NumberedEdge) (known : Known) (mid : Known) (o : Option Known) → exits ≡ Two e f
    → merge q (edge_of table e ∷ []) known ≡ Some mid → merge q (edge_of table f ∷ []) mid ≡ o → merge q (edges_of table exits) known ≡ o
merge_both table q exits e f known mid o is first second =
    ap (λ (x : Exits). merge q (edges_of table x) known) is ∙ merge_two q (edge_of table e) (edge_of table f) known mid first ∙ second
