use Rattle.std.proofs.Common.{sym, ◌∙◌, arith}
use Rattle.std.proofs.lemmas.Result.{err_from_is_err_and}
use Rattle.std.proofs.lemmas.Option.{slice_get_within}
use Rattle.cse_command_parts.specs.Printed.{text_line}
use Rattle.cse_command_parts.proofs.PrintLaws.{front_at, whole_at, whole_end}
use Rattle.cse_command_parts.proofs.printing.write_texts.Goals as goal

pub returns-in_err-write_text-clause-bytes : goal.returns-in_err-write_text-clause-bytes
returns-in_err-write_text-clause-bytes g c =
    let p = err_from_is_err_and c.from_residual.result c.from_residual.ensures.1 in
    rw (p.1) (front_at text_line c.args.listing.now.texts c.texts.number c.in-Some.text.now _ _ _ (sym c.in-Some.ensures.text) c.texts.invariant.bytes c.in_err-write_text.ensures.bytes)

pub texts-preserved : goal.texts-preserved
texts-preserved g c =
    let there = slice_get_within c.args.listing.now.texts c.texts.number c.in-Some.text.now (sym c.in-Some.ensures.text) in
    record {
      bytes = whole_at text_line c.args.listing.now.texts c.texts.number c.in-Some.text.now _ _ _ (sym c.in-Some.ensures.text) c.texts.invariant.bytes c.in_ok-write_text.ensures.bytes;
      sound = c.in_ok-write_text.ensures.failed ∙ c.texts.invariant.sound;
      within = omega (arith, there);
    }

pub texts-smaller : goal.texts-smaller
texts-smaller g c =
    let there = slice_get_within c.args.listing.now.texts c.texts.number c.in-Some.text.now (sym c.in-Some.ensures.text) in
    omega (arith, there)

pub returns-clause-bytes : goal.returns-clause-bytes
returns-clause-bytes g c =
    whole_end text_line c.args.listing.now.texts c.texts.number _ _ (sym c.in_default.ensures.text) c.texts.invariant.within c.texts.invariant.bytes
