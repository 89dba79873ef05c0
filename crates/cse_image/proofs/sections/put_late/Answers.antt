use Rattle.std.proofs.Common.{◌≡◌, ℕ, ◌<◌, ◌^◌, List, ◌++◌, map, length, OnOk, subst, ap, ◌∙◌, arith}
use Rattle.std.specs.Prelude.{IsTrue, nat_le}
use Rattle.std.specs.String.{string_bytes}
use Rattle.std.proofs.lemmas.Bool.{leb-true}
use Rattle.std.proofs.lemmas.List.{length-map}
use Rattle.cse_image_parts.specs.Spelling.{section}
use Rattle.cse_image_parts.specs.Fields.{instructions_in}
use Rattle.cse_image_parts.specs.Image.{array_lists, message_lists, routine_lists}
use Rattle.cse_image_parts.specs.declared.version.Version.TheVariants as versions
use Rattle.cse_image.specs.Spelling.{TextFits, ArrayFits, MessageFits, RoutineFits, text, global, array, message, routine, event}
use Rattle.cse_image.proofs.SectionLaws.{all_fit, seen, plain}
use Rattle.cse_image.proofs.Sizes.{small_rank, name_size}
use Rattle.cse_image.proofs.sections.put_late.Goals as goal

few : {X A : Type 0} (view : X → A) (most : ℕ) (xs ys : List X) → xs ≡ ys → IsTrue (nat_le (length (map view ys)) most) → most < 2 ^ 32 → length xs < 2 ^ 32
few view most xs ys same count less = omega (arith, ap length same, length-map ys view, leb-true (length (map view ys)) most count)

pub section_of-requires-clause-each : goal.section_of-requires-clause-each
section_of-requires-clause-each c = all_fit string_bytes 65536 (λ _. TextFits) (λ x. length (string_bytes x) < 2 ^ 16) (λ before x fits. fits.size) _ _ c.deref.ensures.value c.requires.texts

pub section_of-requires-3-clause-each : goal.section_of-requires-3-clause-each
section_of-requires-3-clause-each c =
    all_fit array_lists 4096 ArrayFits (λ x. (length x.dimensions.items < 2 ^ 8) × (length (string_bytes x.name) < 2 ^ 8) × (length x.cells.items < 2 ^ 32))
    (λ before x fits. (small_rank _ fits.count, omega (arith, name_size _ fits.name), fits.size)) _ _ c.deref-3.ensures.value c.requires.arrays

pub section_of-requires-4-clause-each : goal.section_of-requires-4-clause-each
section_of-requires-4-clause-each c = all_fit message_lists 65536 (λ _. MessageFits) (λ x. length (string_bytes x.text) < 2 ^ 16) (λ before x fits. fits.text.size) _ _ c.deref-4.ensures.value c.requires.messages

pub section_of-requires-5-clause-each : goal.section_of-requires-5-clause-each
section_of-requires-5-clause-each c =
    all_fit routine_lists 4096 (λ before. RoutineFits versions.Two (instructions_in before)) (λ x. length x.locals.items < 2 ^ 8) (λ before x fits. fits.locals.count) _ _ c.deref-5.ensures.value c.requires.routines

pub returns : goal.returns
returns c =
    let t = c.args.tables.now in
    let events = section event t.events.items in
    let routines = section routine (map routine_lists t.routines.items) ++ events in
    let messages = section message (map message_lists t.messages.items) ++ routines in
    let arrays = section array (map array_lists t.arrays.items) ++ messages in
    let globals = section global t.globals.items ++ arrays in
    let e1 = seen string_bytes text _ t.texts.items c.section_of.new.out.items c.args.out.now.items globals c.deref.ensures.value c.in_ok-section_of.ensures in
    let e2 = plain global _ t.globals.items c.section_of-2.new.out.items c.section_of.new.out.items arrays c.deref-2.ensures.value c.in_ok-section_of-2.ensures in
    let e3 = seen array_lists array _ t.arrays.items c.section_of-3.new.out.items c.section_of-2.new.out.items messages c.deref-3.ensures.value c.in_ok-section_of-3.ensures in
    let e4 = seen message_lists message _ t.messages.items c.section_of-4.new.out.items c.section_of-3.new.out.items routines c.deref-4.ensures.value c.in_ok-section_of-4.ensures in
    let e5 = seen routine_lists routine _ t.routines.items c.section_of-5.new.out.items c.section_of-4.new.out.items events c.deref-5.ensures.value c.in_ok-section_of-5.ensures in
    let e6 = ap (λ zs. c.section_of-5.new.out.items ++ section event zs) c.deref-6.ensures.value in
    subst (λ (ys : List ℕ). OnOk c.section_of-6.result (c.section_of-6.new.out.items ≡ ys)) (e6 ∙ e5 ∙ e4 ∙ e3 ∙ e2 ∙ e1) c.section_of-6.ensures

pub section_of-requires-clause-count : goal.section_of-requires-clause-count
section_of-requires-clause-count c = few string_bytes 65536 c.deref.result.now c.args.tables.now.texts.items c.deref.ensures.value c.requires.texts.count (omega arith)

pub section_of-requires-3-clause-count : goal.section_of-requires-3-clause-count
section_of-requires-3-clause-count c = few array_lists 4096 c.deref-3.result.now c.args.tables.now.arrays.items c.deref-3.ensures.value c.requires.arrays.count (omega arith)

pub section_of-requires-4-clause-count : goal.section_of-requires-4-clause-count
section_of-requires-4-clause-count c = few message_lists 65536 c.deref-4.result.now c.args.tables.now.messages.items c.deref-4.ensures.value c.requires.messages.count (omega arith)

pub section_of-requires-5-clause-count : goal.section_of-requires-5-clause-count
section_of-requires-5-clause-count c = few routine_lists 4096 c.deref-5.result.now c.args.tables.now.routines.items c.deref-5.ensures.value c.requires.routines.count (omega arith)
