use Rattle.std.proofs.Common.{◌≡◌, length, drop, ap, sym, ◌∙◌, arith, w64}
use Rattle.std.proofs.lemmas.Int.{to_z_pos}
use Rattle.cse_case.specs.Bytes.{beside_lent}
use Rattle.cse_value.specs.declared.number.Num.TheVariants.{Whole}
use Rattle.cse_value.specs.Field.{field}
use Rattle.cse_dict.specs.Dictionary.{code_at}
use Rattle.cse_case.specs.Bytes.{columns_by}
use Rattle.cse_case.proofs.BytesLaws.{length-columns_by, part-columns_by}
use Rattle.cse_case.proofs.FieldLaws.{length-piece}
use Rattle.cse_case.proofs.NumberLaws.{plain_value}
use Rattle.cse_case.proofs.number.number_in.Goals as goal

pub piece-requires : goal.piece-requires
piece-requires c = omega (arith, c.requires.whole, length-columns_by c.args.line.bytes.now (beside_lent c.args.line))

pub few_number-requires : goal.few_number-requires
few_number-requires c =
    omega (arith, c.requires.some, ap length c.piece.ensures, length-piece c.args.start c.args.len c.args.line.bytes.now (omega (arith, c.requires.whole, length-columns_by c.args.line.bytes.now (beside_lent c.args.line))))

pub returns-in-Some : goal.returns-in-Some
returns-in-Some c =
    let start = c.args.start in
    let len = c.args.len in
    let bytes = c.args.line.bytes.now in
    let beside = (beside_lent c.args.line) in
    let own = c.piece.result.now in
    let n = c.in-Some.number in
    let wide : length own ≡ len = ap length c.piece.ensures ∙ length-piece start len bytes (omega (arith, c.requires.whole, length-columns_by bytes beside)) in
    ap Whole (to_z_pos w64 n (omega (arith, c.in-Some.ensures.low)))
    ∙ plain_value c.args.items.now own (drop start beside) n c.args.item c.in-Some.ensures c.requires.item (sym c.requires.fits ∙ sym wide)
    ∙ ap (λ l. field (columns_by l (drop start beside)) (code_at c.args.items.now c.args.item)) c.piece.ensures
    ∙ ap (λ l. field l (code_at c.args.items.now c.args.item)) (part-columns_by start len bytes beside)
