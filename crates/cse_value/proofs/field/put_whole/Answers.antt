use Rattle.std.proofs.Common.{◌≡◌, refl, ap, sym, ◌∙◌, pos, w64, true, false}
use lib.Signed.{lt_z}
use Rattle.std.specs.Fmt.{signed_decimal}
use Rattle.std.proofs.lemmas.Int.{to_z-of_z}
use Rattle.cse_value.specs.Field.{put_whole}
use Rattle.cse_value.proofs.FieldSteps.{put_whole-stars, put_whole-blanks, put_whole-zeros, put_whole-minus}
use Rattle.cse_value.proofs.field.put_whole.Goals as goal

pub returns-then-text-columns : goal.returns-then-text-columns
returns-then-text-columns c =
    let z = c.args.number in
    let text : c.as_bytes-text.result.now ≡ signed_decimal c.args.number = c.as_bytes-text.ensures.value ∙ c.format.ensures.text ∙ ap signed_decimal (to_z-of_z w64 c.args.number c.ranges.number) in
    c.fill.ensures.after (λ y h. h) ∙ put_whole-stars _ c.args.zero_fill z _ text c.if-text-columns.true ∙ ap (λ n. put_whole n c.args.zero_fill c.args.number) c.put_unsigned.ensures.len

pub returns-then-not-zero_fill : goal.returns-then-not-zero_fill
returns-then-not-zero_fill c =
    let text : c.as_bytes-text.result.now ≡ signed_decimal c.args.number = c.as_bytes-text.ensures.value ∙ c.format.ensures.text ∙ ap signed_decimal (to_z-of_z w64 c.args.number c.ranges.number) in
    rw c.if-not-zero_fill.true (c.put_right.ensures ∙ put_whole-blanks _ c.args.number _ text c.if-text-columns.false ∙ ap (λ n. put_whole n false c.args.number) c.put_unsigned.ensures.len)

pub returns-then-number-lt0 : goal.returns-then-number-lt0
returns-then-number-lt0 c =
    let text : c.as_bytes-text.result.now ≡ signed_decimal c.args.number = c.as_bytes-text.ensures.value ∙ c.format.ensures.text ∙ ap signed_decimal (to_z-of_z w64 c.args.number c.ranges.number) in
    let sign = ap (λ z. lt_z z (pos 0)) (sym (to_z-of_z w64 c.args.number c.ranges.number)) ∙ c.if-number-lt0.true in
    rw c.if-not-zero_fill.false (put_whole-minus _ c.args.number _ _ _ text c.if-text-columns.false sign refl c.put_right-then-number-lt0.ensures ∙ ap (λ n. put_whole n true c.args.number) c.put_unsigned.ensures.len)

pub returns : goal.returns
returns c =
    let text : c.as_bytes-text.result.now ≡ signed_decimal c.args.number = c.as_bytes-text.ensures.value ∙ c.format.ensures.text ∙ ap signed_decimal (to_z-of_z w64 c.args.number c.ranges.number) in
    let sign = ap (λ z. lt_z z (pos 0)) (sym (to_z-of_z w64 c.args.number c.ranges.number)) ∙ c.if-number-lt0.false in
    rw c.if-not-zero_fill.false (c.put_right-2.ensures ∙ put_whole-zeros _ c.args.number _ text c.if-text-columns.false sign ∙ ap (λ n. put_whole n true c.args.number) c.put_unsigned.ensures.len)
