use Rattle.std.proofs.Common.{◌≡◌, ◌<◌, ◌++◌, ◌∷◌, [], length, set, drop, sym, ap, ◌∙◌, refl, arith, length-append, map-id}
use Rattle.std.specs.Str.{chars}
use Rattle.std.proofs.lemmas.Iterator.{YieldsList-from_chars}
use Rattle.std.proofs.lemmas.Iterator.Consumers.{YieldsList-end, YieldsList-turn}
use Rattle.cse_case.specs.Bytes.{columns_by}
use Rattle.cse_case.proofs.BytesLaws.{length-columns_by}
use Rattle.cse_case.proofs.DecodeLaws.{set_behind}
use Rattle.cse_case.proofs.beyond.put_chars.Goals as goal

pub chars-init : goal.chars-init
chars-init c = record { count = refl; wide = refl; room = refl; columns = refl }

pub put_at-requires : goal.put_at-requires
put_at-requires c =
    let turn = YieldsList-turn (YieldsList-from_chars c.args.text.now c.utf8.text cc) c.chars.yielded _ c.chars.yielded_by _ _ c.in-Some.column c.in-Some.is c.next.ensures.steps in
    record {
      bytes = omega (arith, turn.0, c.chars.invariant.count, c.chars.invariant.wide, c.requires.bytes);
      beside = omega (arith, turn.0, c.chars.invariant.count, c.chars.invariant.room, c.requires.bytes, c.requires.beside);
    }

pub chars-preserved : goal.chars-preserved
chars-preserved c =
    let turn = YieldsList-turn (YieldsList-from_chars c.args.text.now c.utf8.text cc) c.chars.yielded _ c.chars.yielded_by _ _ c.in-Some.column c.in-Some.is c.next.ensures.steps in
    let first = columns_by c.args.bytes.now c.args.beside.now in
    let wide = length-columns_by c.args.bytes.now c.args.beside.now in
    let room : c.chars.len < length first = omega (arith, turn.0, c.chars.invariant.count, c.requires.bytes, wide) in
    record {
      count = omega (arith, c.chars.invariant.count, length-append c.chars.yielded (c.in-Some.column ∷ []));
      wide = c.put_at.ensures.len ∙ c.chars.invariant.wide;
      room = c.put_at.ensures.room ∙ c.chars.invariant.room;
      columns = c.put_at.ensures.columns ∙ ap (λ l. set l c.chars.len c.in-Some.column) c.chars.invariant.columns
          ∙ set_behind c.chars.yielded first c.chars.len c.in-Some.column c.chars.invariant.count room;
    }

pub returns : goal.returns
returns c =
    let end = YieldsList-end (YieldsList-from_chars c.args.text.now c.utf8.text cc) c.chars.yielded _ c.chars.yielded_by _ _ c.in-None.is c.next.ensures.steps in
    let all : c.chars.yielded ≡ chars c.args.text.now = sym (map-id c.chars.yielded) ∙ end.0 in
    let count = c.chars.invariant.count ∙ ap length all in
    let first = columns_by c.args.bytes.now c.args.beside.now in
    record {
      count = count;
      len = c.chars.invariant.wide;
      room = c.chars.invariant.room;
      columns = c.chars.invariant.columns ∙ ap (λ l. l ++ drop c.chars.len first) all ∙ ap (λ n. chars c.args.text.now ++ drop n first) count;
    }
