use Rattle.std.proofs.Common.{◌≡◌, ◌≤◌, ◌++◌, ◌∙◌, take, drop, length, ap, sym, subst, arith, append_assoc}
use Rattle.std.proofs.lemmas.List.{take_at, take-take}
use Rattle.std.specs.Prelude.{IfOk}
use Rattle.std.specs.Str.{chars}
use Rattle.cse_case.specs.Bytes.{columns_by}
use Rattle.cse_case.specs.Decoding.{Holds}
use Rattle.cse_case.proofs.BytesLaws.{take-columns_by}
use Rattle.cse_case.proofs.filled.put_beyond_in.Goals as goal

pub returns-clause-columns : goal.returns-clause-columns
returns-clause-columns c =
    let front = c.put_beyond.new.bytes in
    let back = c.split_at_mut-front.result.1.now in
    let beside = c.put_beyond.new.beside in
    let items = c.args.bytes.now.items in
    let wide = c.args.bytes.now.len in
    let rest = drop (length (front ++ back)) items in
    let len : length front ≡ c.args.len = c.put_beyond.ensures.len ∙ c.split_at_mut-front.ensures.front_len in
    let fits : c.args.len ≤ wide = omega (arith, c.requires.room, c.args.bytes.now.ok) in
    let same : take c.args.len (take wide ((front ++ back) ++ rest)) ≡ front =
    take-take c.args.len wide ((front ++ back) ++ rest) fits ∙ ap (take c.args.len) (append_assoc front back rest) ∙ take_at front (back ++ rest) c.args.len len in
    let is : columns_by front beside ≡ take c.args.len (columns_by (take wide ((front ++ back) ++ rest)) beside) =
    ap (λ l. columns_by l beside) (sym same) ∙ take-columns_by c.args.len (take wide ((front ++ back) ++ rest)) beside in
    subst (λ l. IfOk c.put_beyond.result (λ n. Holds l (chars c.args.text.now) n)) is c.put_beyond.ensures.columns
