use Rattle.std.proofs.Common.{◌+◌, ◌∷◌, ◌∙◌, ap, sym, length, take, List, ℕ, rules, tests, arith}
use Rattle.std.proofs.lemmas.List.{take_rest}
use Rattle.std.proofs.Math.Seq.{drop-length}
use Rattle.cse_dict.specs.Pairs.{pieces_of}
use Rattle.cse_dict.proofs.PieceLaws.{pieces_of-blank, pieces_of-end, pieces_of-whole}
use Rattle.cse_dict.proofs.pairs.first_piece.Goals as goal

pub returns-then-len-text-clause-pieces : goal.returns-then-len-text-clause-pieces
returns-then-len-text-clause-pieces c =
    let text : List ℕ = c.args.text.now in
    pieces_of-whole text c.piece_len-len.result c.piece_len-len.ensures.len c.requires (omega arith)
    ∙ ap (λ rest. text ∷ pieces_of rest) (sym (take_rest text (length text) ∙ drop-length text))

pub returns-then-text-len-eq32-clause-pieces : goal.returns-then-text-len-eq32-clause-pieces
returns-then-text-len-eq32-clause-pieces c =
    let text : List ℕ = c.args.text.now in
    let n : ℕ = c.piece_len-len.result in
    pieces_of-blank text n c.piece_len-len.ensures.len (omega arith) (search (rules, tests))
    ∙ ap (λ rest. take n text ∷ pieces_of rest) (sym (take_rest text (n + 1)))

pub returns-clause-pieces : goal.returns-clause-pieces
returns-clause-pieces c =
    let text : List ℕ = c.args.text.now in
    let n : ℕ = c.piece_len-len.result in
    pieces_of-end text n c.piece_len-len.ensures.len (omega arith) (search (rules, tests))
    ∙ ap (λ rest. take n text ∷ pieces_of rest) (sym (take_rest text (length text) ∙ drop-length text))
