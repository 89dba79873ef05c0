use Rattle.std.proofs.Common.{◌≡◌, ◌-◌, ◌++◌, ◌∙◌, length, take, replicate, ap, arith, length-drop, refl}
use Rattle.std.specs.Str.{chars}
use Rattle.std.proofs.lemmas.List.{take_at}
use Rattle.cse_case.specs.Bytes.{columns_by}
use Rattle.cse_case.proofs.BytesLaws.{blanked_behind}
use Rattle.cse_case.proofs.beyond.put_text.Goals as goal

pub returns-clause-columns : goal.returns-clause-columns
returns-clause-columns c =
    let all = chars c.args.text.now in
    let n = length all in
    let old = c.args.bytes.now in
    let bytes = c.put_chars-len.new.bytes in
    let beside = c.put_chars-len.new.beside in
    let count = c.put_chars-len.ensures.count in
    let front : c.split_at_mut-rest.result.0.now ≡ take n bytes = c.split_at_mut-rest.ensures.front ∙ ap (λ k. take k bytes) count in
    let back : length c.split_at_mut-rest.result.1.now ≡ length old - n =
    ap length c.split_at_mut-rest.ensures.back ∙ length-drop c.put_chars-len.result bytes ∙ (let e : length bytes - c.put_chars-len.result ≡ length old - n = omega (arith, count, c.put_chars-len.ensures.len) in e) in
    ap (λ l. columns_by (l ++ c.put_blanks.new.columns) beside) front
    ∙ ap (λ l. columns_by (take n bytes ++ l) beside) (c.put_blanks.ensures ∙ ap (λ k. replicate k 32) back)
    ∙ blanked_behind bytes beside all (length old - n) (omega (arith, c.requires.bytes, c.put_chars-len.ensures.len)) (ap (take n) c.put_chars-len.ensures.columns ∙ take_at all _ n (let e : length all ≡ n = refl in e))
