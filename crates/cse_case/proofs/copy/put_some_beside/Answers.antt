use Rattle.std.proofs.Common.{◌≡◌, ◌+◌, ◌-◌, ◌∙◌, ap, arith, drop, length, length-drop, take}
use Rattle.std.proofs.lemmas.List.{take_all}
use Rattle.cse_case.specs.Run.{with_columns}
use Rattle.cse_case.proofs.CopyLaws.{two_pieces}
use Rattle.cse_case.proofs.copy.put_some_beside.Goals as goal

pub returns-clause-items : goal.returns-clause-items
returns-clause-items c =
    let bytes = c.args.bytes.now in
    let there = c.args.there.now in
    let first = c.args.first in
    let n = length there in
    let rest : take (length bytes - n) (drop n bytes) ≡ drop n bytes = take_all (length bytes - n) (drop n bytes) (omega (arith, length-drop n bytes)) in
    c.put_bytes_at.ensures.items
    ∙ ap (with_columns (first + n) (take (length bytes - n) (drop n bytes))) c.put_characters_at.ensures.items
    ∙ ap (λ l. with_columns (first + n) l (with_columns first (take n there) c.args.beside.now.items)) rest
    ∙ two_pieces first bytes there c.args.beside.now.items c.requires.few c.requires.room
