use Rattle.std.proofs.Common.{◌≡◌, ◌<◌, ◌≤◌, ◌∙◌, sym, length, get_or, arith}
use Rattle.std.proofs.lemmas.List.{take_all, take_more_same}
use Rattle.std.proofs.lemmas.Slice.Eq.{bytes_eq-Decides}
use Rattle.cse_case.specs.Bytes.{columns_lent}
use Rattle.cse_case.proofs.same.are_same.Goals as goal

pub columns-preserved : goal.columns-preserved
columns-preserved c =
    let a = columns_lent c.args.a in
    let b = columns_lent c.args.b in
    let i = c.columns.i in
    let same : get_or a i 0 ≡ get_or b i 0 = sym c.at.ensures ∙ c.if-at.false ∙ c.at-in-columns.ensures in
    let low : i < length a = omega (arith, c.columns-test.true, c.len-i-end.ensures) in
    take_more_same a b i 0 low (omega (arith, low, c.requires)) c.columns.invariant same

pub returns : goal.returns
returns c =
    let a = columns_lent c.args.a in
    let b = columns_lent c.args.b in
    let all : length a ≤ c.columns.i = omega (arith, c.columns-test.false, c.len-i-end.ensures) in
    let same : a ≡ b = sym (take_all c.columns.i a all) ∙ c.columns.invariant ∙ take_all c.columns.i b (omega (arith, all, c.requires)) in
    sym ((bytes_eq-Decides a b).1 same)
