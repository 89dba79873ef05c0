use Rattle.std.proofs.Common.{◌≡◌, ◌≤◌, ◌-◌, ◌∙◌, ◌++◌, ℕ, length, drop, replicate, ap, sym, subst, arith}
use Rattle.std.specs.Str.{chars}
use Rattle.std.proofs.lemmas.Str.{IsUtf8-from_is_utf8}
use Rattle.cse_case.specs.Bytes.{columns_by}
use Rattle.cse_case.specs.Decoding.{Holds}
use Rattle.cse_case.specs.Run.{with_columns}
use Rattle.cse_case.proofs.BytesLaws.{IsAscii-blanks, behind_bytes, front_bytes, length-columns_by, with_ascii}
use Rattle.cse_case.proofs.DecodeLaws.{Holds-blanked, chars_fit}
use Rattle.std.proofs.lemmas.List.{length-replicate}
use Rattle.cse_case.proofs.beyond.put_short_beyond.Goals as goal

pub put_short_chars-requires-clause-over : goal.put_short_chars-requires-clause-over
put_short_chars-requires-clause-over c =
    front_bytes c.args.bytes.now c.args.beside.now c.args.text.now c.ascii_front-front.result c.requires.over c.ascii_front-front.ensures.fits c.ascii_front-front.ensures.ascii

pub put_blanks_between-requires-clause-order : goal.put_blanks_between-requires-clause-order
put_blanks_between-requires-clause-order c =
    omega (arith, chars_fit c.args.text.now (IsUtf8-from_is_utf8 c.args.text.now c.in-Some.ensures.utf8), c.in-Some.ensures.count)

pub returns-clause-columns : goal.returns-clause-columns
returns-clause-columns c =
    let text = c.args.text.now in
    let first = columns_by c.args.bytes.now c.args.beside.now in
    let bytes = c.put_short_chars.new.bytes in
    let beside = c.put_short_chars.new.beside in
    let n = c.in-Some.len in
    let blanks = replicate (length text - n) 32 in
    let fit = chars_fit text (IsUtf8-from_is_utf8 text c.in-Some.ensures.utf8) in
    let wide = length-columns_by c.args.bytes.now c.args.beside.now in
    let few : n ≤ length text = omega (arith, fit, c.in-Some.ensures.count) in
    let is : columns_by c.put_blanks_between.new.columns beside ≡ with_columns n blanks (columns_by bytes beside) =
    ap (λ l. columns_by l beside) c.put_blanks_between.ensures
    ∙ with_ascii n blanks bytes beside (IsAscii-blanks (length text - n)) (omega (arith, few, length-replicate {A = ℕ} (length text - n) 32, c.requires.fits, c.in-Some.ensures.len)) in
    let room : length text ≤ length first = omega (arith, wide, c.requires.fits) in
    let held : Holds (with_columns n blanks (columns_by bytes beside)) (chars text) n =
    Holds-blanked first text (chars text) (columns_by bytes beside) n (behind_bytes c.args.bytes.now c.args.beside.now text c.requires.over c.requires.fits)
    room c.in-Some.ensures.count few (c.in-Some.ensures.columns ∙ ap (λ k. chars text ++ drop k first) (sym c.in-Some.ensures.count)) in
    subst (λ l. Holds l (chars text) n) (sym is) held
