use Rattle.std.proofs.Common.{◌≡◌, ◌∙◌, sym, ap, true, false, is_some, List, ℕ, ◌++◌, ◌∷◌, []}
use Rattle.std.specs.Map.{lookup}
use Rattle.std.specs.String.{string_bytes}
use Rattle.std.specs.Str.{bytes_eq}
use Rattle.cse_lemmas.proofs.Options.{none_from_is_some}
use Rattle.cse_dict.proofs.PlaceLaws.{is_some-copied, with_place-new, with_place-there}
use Rattle.cse_dict.proofs.places.Places.add.Goals as goal

pub returns-then-is_some : goal.returns-then-is_some
returns-then-is_some c =
    let name : List ℕ = string_bytes c.args.name.now in
    let there : is_some (lookup (bytes_eq name) c.args.self.now) ≡ true =
    ap (λ ps. is_some (lookup (bytes_eq name) ps)) (sym c.self.view_is)
    ∙ ap (λ b. is_some (lookup (bytes_eq b) c.self.inside.table)) (sym c.as_bytes-bytes.ensures.value)
    ∙ ap is_some (sym c.get.ensures) ∙ is_some-copied c.get.result ∙ sym c.is_some.ensures ∙ c.if-is_some.true in
    sym (with_place-there c.args.self.now c.args.place name there)

pub push-requires : goal.push-requires
push-requires c =
    ap (λ b. lookup (bytes_eq b) c.self.inside.table) c.in_ok-from_slice.ensures.items
    ∙ none_from_is_some (lookup (bytes_eq c.as_bytes-bytes.result.now) c.self.inside.table)
    (ap is_some (sym c.get.ensures) ∙ is_some-copied c.get.result ∙ sym c.is_some.ensures ∙ c.if-is_some.false)

pub returns : goal.returns
returns c =
    let name : List ℕ = string_bytes c.args.name.now in
    let is : c.in_ok-from_slice.field-0.items ≡ name = c.in_ok-from_slice.ensures.items ∙ c.as_bytes-bytes.ensures.value in
    let absent : is_some (lookup (bytes_eq name) c.args.self.now) ≡ false =
    ap (λ ps. is_some (lookup (bytes_eq name) ps)) (sym c.self.view_is)
    ∙ ap (λ b. is_some (lookup (bytes_eq b) c.self.inside.table)) (sym c.as_bytes-bytes.ensures.value)
    ∙ ap is_some (sym c.get.ensures) ∙ is_some-copied c.get.result ∙ sym c.is_some.ensures ∙ c.if-is_some.false in
    c.in_ok-push.ensures.added
    ∙ ap (λ b. c.self.inside.table ++ (b, c.args.place) ∷ []) is
    ∙ ap (λ ps. ps ++ (name, c.args.place) ∷ []) c.self.view_is
    ∙ sym (with_place-new c.args.self.now c.args.place name absent)
