use Rattle.std.proofs.Common.{◌≡◌, ◌∙◌, [], ◌∷◌, ◌++◌, Some, cond, length, ap, sym, arith}
use Rattle.std.specs.Prelude.{position}
use Rattle.std.specs.Map.{keys_of, lookup}
use Rattle.cse_ordered.proofs.Laws.{if_err, no_ok, position_pushed}
use Rattle.cse_ordered.proofs.keyed.Keyed.push.Goals as goal

pub invariant_of-self-2 : goal.invariant_of-self-2
invariant_of-self-2 g c q =
    let eq = g.K.PartialEq.eq in
    let k = c.args.key in
    let es = c.self.inside.entries.items in
    let more : c.push_reserved.new.self.items ≡ es ++ (k, c.args.value) ∷ [] = c.push_reserved.ensures.items ∙ ap (λ l. l ++ (k, c.args.value) ∷ []) c.reserve.ensures.items in
    let place : c.len-place.result ≡ length es = c.len-place.ensures ∙ ap length (sym c.self.view_is) in
    let none = ap (lookup (eq k)) c.self.view_is ∙ c.requires in
    c.in-Ok.ensures.updates.0 q
    ∙ ap (λ n. cond (eq k q) (Some n) (lookup (eq q) c.self.inside.places.entries)) place
    ∙ ap (λ o. cond (eq k q) (Some (length es)) o) (c.self.invariant q)
    ∙ sym (position_pushed eq g.met.K.Eq.laws k q c.args.value es none)
    ∙ ap (λ l. position (eq q) (keys_of l)) (sym more)

pub invariant_of-self : goal.invariant_of-self
invariant_of-self g c q = c.self.invariant q ∙ ap (λ l. position (g.K.PartialEq.eq q) (keys_of l)) (sym c.reserve.ensures.items)

pub returns-in_err-reserve-clause-added : goal.returns-in_err-reserve-clause-added
returns-in_err-reserve-clause-added g c = no_ok _ c.from_residual.result c.from_residual.ensures.0

pub returns-in_err-reserve-clause-err : goal.returns-in_err-reserve-clause-err
returns-in_err-reserve-clause-err g c = if_err c.from_residual.result (c.reserve.ensures.items ∙ c.self.view_is)

pub invariant_of-self-in-Err : goal.invariant_of-self-in-Err
invariant_of-self-in-Err g c q =
    ap (lookup (g.K.PartialEq.eq q)) c.in-Err.ensures.err ∙ c.self.invariant q ∙ ap (λ l. position (g.K.PartialEq.eq q) (keys_of l)) (sym c.reserve.ensures.items)

pub returns-in-Err-clause-added : goal.returns-in-Err-clause-added
returns-in-Err-clause-added g c = tt

pub returns-in-Err-clause-err : goal.returns-in-Err-clause-err
returns-in-Err-clause-err g c = c.reserve.ensures.items ∙ c.self.view_is

pub push_reserved-requires : goal.push_reserved-requires
push_reserved-requires g c = omega (arith, c.in_ok-reserve.ensures.ok)

pub returns-clause-added : goal.returns-clause-added
returns-clause-added g c =
    c.push_reserved.ensures.items ∙ ap (λ l. l ++ (c.args.key, c.args.value) ∷ []) (c.reserve.ensures.items ∙ c.self.view_is)

pub returns-clause-err : goal.returns-clause-err
returns-clause-err g c = tt
