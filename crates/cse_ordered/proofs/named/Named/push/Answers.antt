use Rattle.std.proofs.Common.{◌≡◌, ◌∙◌, [], ◌∷◌, ◌++◌, ℕ, List, Some, cond, length, map, refl, ap, sym, arith}
use Rattle.std.specs.Prelude.{position}
use Rattle.std.specs.Map.{keys_of, lookup}
use Rattle.std.specs.Str.{bytes_eq}
use Rattle.std.proofs.lemmas.Cmp.{nat_list_eq_equiv}
use Rattle.std.proofs.lemmas.List.{map_push}
use Rattle.std.proofs.lemmas.Slice.Eq.{bytes_eq-Decides}
use Rattle.cse_ordered.proofs.Laws.{if_err, lookup_named_new, no_ok, position_pushed}
use Rattle.cse_ordered.proofs.named.Named.push.Goals as goal

pub invariant_of-self-2 : goal.invariant_of-self-2
invariant_of-self-2 g c q =
    let name : List ℕ = c.args.name.items in
    let es = c.args.self.now in
    let is : c.in_ok-again.again.items ≡ name = c.in_ok-again.ensures.items ∙ c.deref.ensures.value in
    let more : map (λ e. (e.0.items, e.1)) c.push_reserved.new.self.items ≡ es ++ (name, c.args.value) ∷ [] =
    ap (map (λ e. (e.0.items, e.1))) (c.push_reserved.ensures.items ∙ ap (λ l. l ++ (c.args.name, c.args.value) ∷ []) c.reserve.ensures.items)
    ∙ map_push (λ e. (e.0.items, e.1)) c.self.inside.entries.items (c.args.name, c.args.value)
    ∙ ap (λ l. l ++ (name, c.args.value) ∷ []) c.self.view_is in
    lookup_named_new (λ k. k.items) bytes_eq nat_list_eq_equiv c.in_ok-again.again.items c.self.inside.places.entries c.insert.new.self.entries (Some c.len-place.result)
    (λ x y h. (bytes_eq-Decides x y).0 h) c.in-Ok.ensures.updates.3 c.in-Ok.ensures.updates.1 q
    ∙ ap (λ k. cond (bytes_eq k q) (Some c.len-place.result) (lookup (λ y. bytes_eq q y.items) c.self.inside.places.entries)) is
    ∙ ap (λ n. cond (bytes_eq name q) (Some n) (lookup (λ y. bytes_eq q y.items) c.self.inside.places.entries)) c.len-place.ensures
    ∙ ap (λ o. cond (bytes_eq name q) (Some (length es)) o) (c.self.invariant q ∙ ap (λ l. position (bytes_eq q) (keys_of l)) c.self.view_is)
    ∙ sym (position_pushed bytes_eq nat_list_eq_equiv name q c.args.value es c.requires)
    ∙ ap (λ l. position (bytes_eq q) (keys_of l)) (sym more)

pub returns-in_err-again-clause-added : goal.returns-in_err-again-clause-added
returns-in_err-again-clause-added g c = no_ok _ c.from_residual.result c.from_residual.ensures.0

pub returns-in_err-again-clause-err : goal.returns-in_err-again-clause-err
returns-in_err-again-clause-err g c = if_err c.from_residual.result refl

pub invariant_of-self : goal.invariant_of-self
invariant_of-self g c q = c.self.invariant q ∙ ap (λ l. position (bytes_eq q) (keys_of (map (λ e. (e.0.items, e.1)) l))) (sym c.reserve.ensures.items)

pub returns-in_err-reserve-clause-added : goal.returns-in_err-reserve-clause-added
returns-in_err-reserve-clause-added g c = no_ok _ c.from_residual-in_err-reserve.result c.from_residual-in_err-reserve.ensures.0

pub returns-in_err-reserve-clause-err : goal.returns-in_err-reserve-clause-err
returns-in_err-reserve-clause-err g c = if_err c.from_residual-in_err-reserve.result (ap (λ l. map (λ e. (e.0.items, e.1)) l) c.reserve.ensures.items ∙ c.self.view_is)

pub invariant_of-self-in-Err : goal.invariant_of-self-in-Err
invariant_of-self-in-Err g c q =
    ap (lookup (λ k. bytes_eq q k.items)) c.in-Err.ensures.err ∙ c.self.invariant q
    ∙ ap (λ l. position (bytes_eq q) (keys_of (map (λ e. (e.0.items, e.1)) l))) (sym c.reserve.ensures.items)

pub returns-in-Err-clause-added : goal.returns-in-Err-clause-added
returns-in-Err-clause-added g c = tt

pub returns-in-Err-clause-err : goal.returns-in-Err-clause-err
returns-in-Err-clause-err g c = ap (λ l. map (λ e. (e.0.items, e.1)) l) c.reserve.ensures.items ∙ c.self.view_is

pub push_reserved-requires : goal.push_reserved-requires
push_reserved-requires g c = omega (arith, c.in_ok-reserve.ensures.ok)

pub returns-clause-added : goal.returns-clause-added
returns-clause-added g c =
    ap (map (λ e. (e.0.items, e.1))) (c.push_reserved.ensures.items ∙ ap (λ l. l ++ (c.args.name, c.args.value) ∷ []) c.reserve.ensures.items)
    ∙ map_push (λ e. (e.0.items, e.1)) c.self.inside.entries.items (c.args.name, c.args.value)
    ∙ ap (λ l. l ++ (c.args.name.items, c.args.value) ∷ []) c.self.view_is

pub returns-clause-err : goal.returns-clause-err
returns-clause-err g c = tt
