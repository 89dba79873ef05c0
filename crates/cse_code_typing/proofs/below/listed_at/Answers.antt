use Rattle.std.proofs.Common.{Some, take, sym, ap, ◌∙◌, arith}
use Rattle.std.specs.Prelude.{slice_get}
use Rattle.std.specs.Option.{option_map}
use Rattle.std.proofs.lemmas.Option.{slice_get_past}
use Rattle.std.proofs.lemmas.List.{length-take}
use Rattle.cse_lemmas.proofs.Lists.{slice_get-take}
use Rattle.cse_image_parts.specs.Placeholders.{message_kinds}
use Rattle.cse_code_typing.specs.declared.kind.Kind.TheVariants.{Index}
use Rattle.cse_code_typing.specs.Kinds.{argument_kind, local_kind}
use Rattle.cse_code_typing.proofs.ListedLaws.{got, got_copy, lacks, no_array, no_message, no_routine, dimension_at, argument_at, parameter_at}
use Rattle.cse_code_typing.proofs.below.listed_at.Goals as goal

pub returns-in-None : goal.returns-in-None
returns-in-None c = no_array c.args.tables.now c.args.listed c.in-Dimensions.array c.args.place c.in-Dimensions.is (lacks c.deref.result.now _ _ c.deref.ensures.value c.in-None.ensures.lookup.0)

pub returns-in-None-copied : goal.returns-in-None-copied
returns-in-None-copied c =
    let there = got c.deref.result.now _ _ c.in-Some.found.now c.deref.ensures.value c.in-Some.ensures.lookup.0 c.in-Some.ensures.lookup.1 in
    let at = got_copy c.deref-in-Some.result.now _ _ c.get-in-Some.result c.deref-in-Some.ensures.value c.get-in-Some.ensures.lookup.0 c.get-in-Some.ensures.lookup.1 in
    ap (option_map Index) (sym c.in-None-copied.is ∙ c.copied.ensures ∙ at) ∙ dimension_at c.args.tables.now c.args.listed c.in-Dimensions.array c.args.place _ c.in-Dimensions.is there

pub returns-in-Some-copied : goal.returns-in-Some-copied
returns-in-Some-copied c =
    let there = got c.deref.result.now _ _ c.in-Some.found.now c.deref.ensures.value c.in-Some.ensures.lookup.0 c.in-Some.ensures.lookup.1 in
    let at = got_copy c.deref-in-Some.result.now _ _ c.get-in-Some.result c.deref-in-Some.ensures.value c.get-in-Some.ensures.lookup.0 c.get-in-Some.ensures.lookup.1 in
    ap (option_map Index) (sym c.in-Some-copied.is ∙ c.copied.ensures ∙ at) ∙ dimension_at c.args.tables.now c.args.listed c.in-Dimensions.array c.args.place _ c.in-Dimensions.is there

pub returns-in-None-get : goal.returns-in-None-get
returns-in-None-get c = no_message c.args.tables.now c.args.listed c.in-Arguments.message c.args.place c.in-Arguments.is (lacks c.deref-in-Arguments.result.now _ _ c.deref-in-Arguments.ensures.value c.in-None-get.ensures.lookup.0)

pub returns-in-None-kind_at : goal.returns-in-None-kind_at
returns-in-None-kind_at c =
    let there = got c.deref-in-Arguments.result.now _ _ c.in-Some-get.found.now c.deref-in-Arguments.ensures.value c.in-Some-get.ensures.lookup.0 c.in-Some-get.ensures.lookup.1 in
    let at = c.kind_at.ensures ∙ ap (λ b. slice_get (message_kinds b) c.args.place) c.as_bytes.ensures.value in
    ap (option_map argument_kind) (sym c.in-None-kind_at.is ∙ at) ∙ argument_at c.args.tables.now c.args.listed c.in-Arguments.message c.args.place c.in-Some-get.found.now c.in-Arguments.is there

pub returns-in-Some-kind_at : goal.returns-in-Some-kind_at
returns-in-Some-kind_at c =
    let there = got c.deref-in-Arguments.result.now _ _ c.in-Some-get.found.now c.deref-in-Arguments.ensures.value c.in-Some-get.ensures.lookup.0 c.in-Some-get.ensures.lookup.1 in
    let at = c.kind_at.ensures ∙ ap (λ b. slice_get (message_kinds b) c.args.place) c.as_bytes.ensures.value in
    ap Some c.kind_of_argument.ensures ∙ ap (option_map argument_kind) (sym c.in-Some-kind_at.is ∙ at) ∙ argument_at c.args.tables.now c.args.listed c.in-Arguments.message c.args.place c.in-Some-get.found.now c.in-Arguments.is there

pub returns-in-None-get-2 : goal.returns-in-None-get-2
returns-in-None-get-2 c = no_routine c.args.tables.now c.args.listed c.in-Parameters.routine c.args.place c.in-Parameters.is (lacks c.deref-in-Parameters.result.now _ _ c.deref-in-Parameters.ensures.value c.in-None-get-2.ensures.lookup.0)

pub returns-then-place-found : goal.returns-then-place-found
returns-then-place-found c =
    let there = got c.deref-in-Parameters.result.now _ _ c.in-Some-get-2.found.now c.deref-in-Parameters.ensures.value c.in-Some-get-2.ensures.lookup.0 c.in-Some-get-2.ensures.lookup.1 in
    let x = c.in-Some-get-2.found.now in
    let few = length-take x.parameters x.locals.items in
    let past = c.if-place-found.true in
    ap (option_map local_kind) (sym (slice_get_past (take x.parameters x.locals.items) c.args.place (omega arith)))
    ∙ parameter_at c.args.tables.now c.args.listed c.in-Parameters.routine c.args.place x c.in-Parameters.is there

pub returns-in-None-copied-2 : goal.returns-in-None-copied-2
returns-in-None-copied-2 c =
    let there = got c.deref-in-Parameters.result.now _ _ c.in-Some-get-2.found.now c.deref-in-Parameters.ensures.value c.in-Some-get-2.ensures.lookup.0 c.in-Some-get-2.ensures.lookup.1 in
    let x = c.in-Some-get-2.found.now in
    let at = got_copy c.deref-in-Some-get-2.result.now _ _ c.get-in-Some-get-2.result c.deref-in-Some-get-2.ensures.value c.get-in-Some-get-2.ensures.lookup.0 c.get-in-Some-get-2.ensures.lookup.1
    ∙ sym (slice_get-take x.parameters x.locals.items c.args.place c.if-place-found.false) in
    ap (option_map local_kind) (sym c.in-None-copied-2.is ∙ c.copied-in-Some-get-2.ensures ∙ at) ∙ parameter_at c.args.tables.now c.args.listed c.in-Parameters.routine c.args.place x c.in-Parameters.is there

pub returns-in-Some-copied-2 : goal.returns-in-Some-copied-2
returns-in-Some-copied-2 c =
    let there = got c.deref-in-Parameters.result.now _ _ c.in-Some-get-2.found.now c.deref-in-Parameters.ensures.value c.in-Some-get-2.ensures.lookup.0 c.in-Some-get-2.ensures.lookup.1 in
    let x = c.in-Some-get-2.found.now in
    let at = got_copy c.deref-in-Some-get-2.result.now _ _ c.get-in-Some-get-2.result c.deref-in-Some-get-2.ensures.value c.get-in-Some-get-2.ensures.lookup.0 c.get-in-Some-get-2.ensures.lookup.1
    ∙ sym (slice_get-take x.parameters x.locals.items c.args.place c.if-place-found.false) in
    ap Some c.kind_of_local.ensures ∙ ap (option_map local_kind) (sym c.in-Some-copied-2.is ∙ c.copied-in-Some-get-2.ensures ∙ at) ∙ parameter_at c.args.tables.now c.args.listed c.in-Parameters.routine c.args.place x c.in-Parameters.is there
