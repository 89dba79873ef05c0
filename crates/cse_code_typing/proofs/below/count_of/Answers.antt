use Rattle.std.proofs.Common.{◌≡◌, length, take, ap, ◌∙◌, arith}
use Rattle.std.proofs.lemmas.List.{length-take}
use Rattle.cse_image_parts.specs.Placeholders.{message_kinds}
use Rattle.cse_code_typing.proofs.ListedLaws.{got, lacks, none_of_array, none_of_message, none_of_routine, count_dimensions, count_arguments, count_parameters}
use Rattle.cse_code_typing.proofs.below.count_of.Goals as goal

pub returns-in-None : goal.returns-in-None
returns-in-None c = none_of_array c.args.tables.now c.args.listed c.in-Dimensions.array c.in-Dimensions.is (lacks c.deref.result.now _ _ c.deref.ensures.value c.in-None.ensures.lookup.0)

pub returns-in-Some : goal.returns-in-Some
returns-in-Some c =
    let there = got c.deref.result.now _ _ c.in-Some.found.now c.deref.ensures.value c.in-Some.ensures.lookup.0 c.in-Some.ensures.lookup.1 in
    let x = c.in-Some.found.now in
    let n : c.len.result ≡ length x.dimensions.items = (let e = c.len.ensures in let o = x.dimensions.ok.0 in omega arith) in
    n ∙ count_dimensions c.args.tables.now c.args.listed c.in-Dimensions.array x c.in-Dimensions.is there

pub returns-in-None-get : goal.returns-in-None-get
returns-in-None-get c = none_of_message c.args.tables.now c.args.listed c.in-Arguments.message c.in-Arguments.is (lacks c.deref-in-Arguments.result.now _ _ c.deref-in-Arguments.ensures.value c.in-None-get.ensures.lookup.0)

pub returns-in-Some-get : goal.returns-in-Some-get
returns-in-Some-get c =
    let there = got c.deref-in-Arguments.result.now _ _ c.in-Some-get.found.now c.deref-in-Arguments.ensures.value c.in-Some-get.ensures.lookup.0 c.in-Some-get.ensures.lookup.1 in
    c.count_placeholders.ensures ∙ ap (λ b. length (message_kinds b)) c.as_bytes.ensures.value ∙ count_arguments c.args.tables.now c.args.listed c.in-Arguments.message c.in-Some-get.found.now c.in-Arguments.is there

pub returns-in-None-get-2 : goal.returns-in-None-get-2
returns-in-None-get-2 c = none_of_routine c.args.tables.now c.args.listed c.in-Parameters.routine c.in-Parameters.is (lacks c.deref-in-Parameters.result.now _ _ c.deref-in-Parameters.ensures.value c.in-None-get-2.ensures.lookup.0)

pub returns-in-Some-get-2 : goal.returns-in-Some-get-2
returns-in-Some-get-2 c =
    let there = got c.deref-in-Parameters.result.now _ _ c.in-Some-get-2.found.now c.deref-in-Parameters.ensures.value c.in-Some-get-2.ensures.lookup.0 c.in-Some-get-2.ensures.lookup.1 in
    let x = c.in-Some-get-2.found.now in
    let n : c.min.result ≡ length (take x.parameters x.locals.items) =
    (let e = c.min.ensures in let f = c.len-in-Some-get-2.ensures in let o = x.locals.ok.0 in let t = length-take x.parameters x.locals.items in omega arith)
    in
    n ∙ count_parameters c.args.tables.now c.args.listed c.in-Parameters.routine x c.in-Parameters.is there
