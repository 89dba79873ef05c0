use Rattle.std.proofs.Common.{◌≡◌, ◌<◌, ◌+◌, ◌-◌, ◌%◌, ◌++◌, length, take, replicate, set, sym, ap, ◌∙◌, arith, length-set, length-take-le}
use Rattle.std.specs.Fmt.{decimal}
use Rattle.cse_value.proofs.DigitLaws.{digit_before, digit_first, digits_lack, digits_long}
use Rattle.cse_value.proofs.digits.put_digits.Goals as goal

pub returns-then-rest-eq0-clause-room : goal.returns-then-rest-eq0-clause-room
returns-then-rest-eq0-clause-room c _ =
    let small : c.digits.rest < 10 = omega arith in
    omega (arith, digits_long c.args.number c.digits.rest c.digits.at c.digits.columns (omega arith) c.digits.invariant.fits small c.digits.invariant.number, c.digits.invariant.len)

pub returns-then-rest-eq0-clause-columns : goal.returns-then-rest-eq0-clause-columns
returns-then-rest-eq0-clause-columns c _ =
    let small : c.digits.rest < 10 = omega arith in
    let some : 0 < c.digits.at = omega arith in
    let new = set c.digits.columns (c.digits.at - 1) (48 + c.digits.rest % 10) in
    let long = digits_long c.args.number c.digits.rest c.digits.at c.digits.columns some c.digits.invariant.fits small c.digits.invariant.number in
    let front : length (take (c.digits.at - 1) new) ≡ length c.args.columns.now - length (decimal c.args.number) =
    length-take-le (c.digits.at - 1) new (omega (arith, length-set c.digits.columns (c.digits.at - 1) (48 + c.digits.rest % 10), c.digits.invariant.fits)) ∙ omega (arith, long, c.digits.invariant.len, c.digits.invariant.fits, some) in
    ap (λ l. c.fill.new.self ++ l) (sym (digit_first c.args.number c.digits.rest c.digits.at c.digits.columns some c.digits.invariant.fits small c.digits.invariant.number))
    ∙ ap (λ l. l ++ decimal c.args.number) (c.fill.ensures.after (λ y h. h) ∙ ap (λ n. replicate n c.args.filler) front)

pub digits-preserved : goal.digits-preserved
digits-preserved c =
    let len = length-set c.digits.columns (c.digits.at - 1) (48 + c.digits.rest % 10) in
    record {
      fits = omega (arith, len, c.digits.invariant.fits);
      len = len ∙ c.digits.invariant.len;
      number = digit_before c.args.number c.digits.rest c.digits.at c.digits.columns (omega arith) c.digits.invariant.fits (omega arith) (omega (arith, c.digits.auto.rest-fits)) c.digits.invariant.number;
    }

pub returns-clause-lacks : goal.returns-clause-lacks
returns-clause-lacks c _ =
    let lack = digits_lack c.args.number c.digits.rest c.digits.at c.digits.columns (omega arith) (omega (arith, c.digits.auto.rest-fits)) c.digits.invariant.number in
    omega (arith, lack, c.digits.invariant.len)
