use Rattle.std.proofs.Common.{◌≡◌, ◌∙◌, ap, sym, false, [], ◌∷◌, ◌++◌, ℕ}
use Rattle.std.specs.Prelude.{nat_eq, if◌then◌else◌}
use Rattle.std.specs.Map.{keys_of, lookup}
use Rattle.std.proofs.lemmas.List.{map_push}
use Rattle.cse_lemmas.proofs.Options.{none_from_is_some}
use Rattle.cse_logic_names.specs.Scope.{has_global}
use Rattle.cse_logic_names.proofs.NameLaws.{has_key}
use Rattle.cse_logic_names.proofs.names.Globals.add.Goals as goal

pub push-requires : goal.push-requires
push-requires c =
    let n : ℕ = c.args.global in
    none_from_is_some (lookup (nat_eq n) c.self.inside.table) (sym (has_key n c.self.inside.table) ∙ ap (λ gs. has_global gs n) c.self.view_is ∙ sym c.has.ensures ∙ c.if-has.false)

pub returns : goal.returns
returns c =
    let n : ℕ = c.args.global in
    let absent : has_global c.args.self.now n ≡ false = sym c.has.ensures ∙ c.if-has.false in
    ap keys_of c.in_ok-push.ensures.added
    ∙ map_push (λ e. e.0) c.self.inside.table (n, tt)
    ∙ ap (λ gs. gs ++ n ∷ []) c.self.view_is
    ∙ sym (ap (λ v. if v then c.args.self.now else c.args.self.now ++ n ∷ []) absent)
