use Rattle.std.proofs.Common.{◌≡◌, ◌∙◌, ap, sym, ◌∷◌, ◌+◌, drop}
use Rattle.std.proofs.lemmas.Option.{slice_get_within, get_or_from_slice_get}
use Rattle.cse_lemmas.proofs.Lists.{drop_read}
use Rattle.cse_logic_names.specs.Uses.{with_globals}
use Rattle.cse_logic_names.proofs.names.Globals.add_all.Goals as goal

pub all-preserved : goal.all-preserved
all-preserved c =
    let more = c.args.more.now in
    let i = c.all.place in
    let x = c.at.result in
    let next : drop i more ≡ x ∷ drop (i + 1) more = drop_read more i x (slice_get_within more i x c.at.ensures) (sym (get_or_from_slice_get more i x x c.at.ensures)) in
    ap (λ z. with_globals z (drop (i + 1) more)) c.in_ok-add.ensures
    ∙ ap (with_globals c.all.self) (sym next)
    ∙ c.all.invariant
