use Rattle.std.proofs.Common.{◌≡◌, length, get_or, refl, arith, sym, subst}
use Rattle.cse_case.specs.Limits.{AreKept}
use Rattle.cse_case.proofs.NumberLaws.{plain_digit, plain_found, three_at, two_at}
use Rattle.cse_case.proofs.number.few_number.Goals as goal

pub returns-then-bytes-lt2 : goal.returns-then-bytes-lt2
returns-then-bytes-lt2 c =
    let bytes = c.args.bytes.now in
    let one : length bytes ≡ 1 = omega (arith, c.requires, c.if-bytes-lt2.true) in
    plain_digit c.args.items.now bytes (get_or bytes 0 0) c.digit_limit.result c.digit_below.result one refl c.digit_limit.ensures.low c.digit_limit.ensures.kept c.digit_below.ensures.digit c.digit_below.ensures.low

pub returns-then-bytes-lt3 : goal.returns-then-bytes-lt3
returns-then-bytes-lt3 c =
    let bytes = c.args.bytes.now in
    let d = c.args.items.now in
    let two : length bytes ≡ 2 = omega (arith, c.if-bytes-lt2.false, c.if-bytes-lt3.true) in
    plain_found d bytes _ c.two_columns.result c.below.result 100 c.limit.result (two_at bytes two) (subst (λ n. AreKept d n c.limit.result) (sym two) c.limit.ensures.two) (omega arith) c.two_columns.ensures.number c.two_columns.ensures.low c.below.ensures

pub returns-then-bytes-lt4 : goal.returns-then-bytes-lt4
returns-then-bytes-lt4 c =
    let bytes = c.args.bytes.now in
    let d = c.args.items.now in
    let three : length bytes ≡ 3 = omega (arith, c.if-bytes-lt3.false, c.if-bytes-lt4.true) in
    plain_found d bytes _ c.three_columns.result c.below-then-bytes-lt4.result 1000 c.limit-then-bytes-lt4.result (three_at bytes three) (subst (λ n. AreKept d n c.limit-then-bytes-lt4.result) (sym three) c.limit-then-bytes-lt4.ensures.three) (omega arith) c.three_columns.ensures.number c.three_columns.ensures.low c.below-then-bytes-lt4.ensures
