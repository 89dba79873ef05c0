use Rattle.std.proofs.Common.{◌≡◌, ◌<◌, ◌+◌, ◌++◌, length, take, drop, sym, ap, ◌∙◌, refl, arith, length-take-le, take-append-drop}
use Rattle.std.proofs.lemmas.Str.{IsUtf8-from_ascii, IsUtf8-from_is_utf8, chars-IsAscii, is_utf8-from_IsUtf8}
use Rattle.std.specs.Str.{chars}
use Rattle.cse_case.specs.Bytes.{columns_by}
use Rattle.cse_case.proofs.BytesLaws.{length-columns_by}
use Rattle.cse_case.proofs.DecodeLaws.{chars_fit}
use Rattle.cse_case.proofs.ShortLaws.{more_bytes, one_char}
use Rattle.std.proofs.Common.{◌≤◌, length-drop}
use Rattle.cse_case.proofs.LaidLaws.{length-with_columns}
use Rattle.cse_case.proofs.beyond.put_short_chars.Goals as goal

pub chars-init : goal.chars-init
chars-init c =
    let text = c.args.text.now in
    let n = c.args.front in
    let first = columns_by c.args.bytes.now c.args.beside.now in
    let all : chars (take n text) ≡ take n text = chars-IsAscii (take n text) c.requires.ascii in
    record {
      fits = c.requires.front;
      utf8 = is_utf8-from_IsUtf8 (take n text) (IsUtf8-from_ascii (take n text) c.requires.ascii);
      count = sym (length-take-le n text c.requires.front) ∙ ap length (sym all);
      wide = refl;
      room = refl;
      columns = sym (take-append-drop n first) ∙ ap (λ l. l ++ drop n first) (c.requires.over ∙ sym all);
    }

pub put_at-requires : goal.put_at-requires
put_at-requires c =
    let front = take c.chars.at c.args.text.now in
    let few = chars_fit front (IsUtf8-from_is_utf8 front c.chars.invariant.utf8) in
    let len = length-take-le c.chars.at c.args.text.now c.chars.invariant.fits in
    record {
      bytes = omega (arith, few, len, c.chars.invariant.count, c.chars.invariant.wide, c.requires.bytes, c.in-Some.ensures.fits, c.in-Some.ensures.some);
      beside = omega (arith, few, len, c.chars.invariant.count, c.chars.invariant.room, c.requires.bytes, c.requires.beside, c.in-Some.ensures.fits, c.in-Some.ensures.some);
    }

pub overflow_add-len : goal.overflow_add-len
overflow_add-len c =
    let front = take c.chars.at c.args.text.now in
    omega (arith, chars_fit front (IsUtf8-from_is_utf8 front c.chars.invariant.utf8), length-take-le c.chars.at c.args.text.now c.chars.invariant.fits, c.chars.invariant.count, c.chars.auto.at-fits, c.chars-test.true)

pub put_eights-count-requires-clause-len : goal.put_eights-count-requires-clause-len
put_eights-count-requires-clause-len c =
    let front = take c.chars.at c.args.text.now in
    omega (arith, chars_fit front (IsUtf8-from_is_utf8 front c.chars.invariant.utf8), length-take-le c.chars.at c.args.text.now c.chars.invariant.fits, c.chars.invariant.count, c.in-Some.ensures.some)

pub overflow_add-len-then-size-eq2 : goal.overflow_add-len-then-size-eq2
overflow_add-len-then-size-eq2 c =
    let front = take c.chars.at c.args.text.now in
    omega (arith, chars_fit front (IsUtf8-from_is_utf8 front c.chars.invariant.utf8), length-take-le c.chars.at c.args.text.now c.chars.invariant.fits, c.chars.invariant.count, c.in-Some.ensures.some, c.put_eights-count.ensures.fits, c.type_inv)

pub chars-preserved : goal.chars-preserved
chars-preserved c =
    let text = c.args.text.now in
    let at = c.chars.at in
    let len = c.chars.len in
    let front = take at text in
    let first = columns_by c.args.bytes.now c.args.beside.now in
    let few = chars_fit front (IsUtf8-from_is_utf8 front c.chars.invariant.utf8) in
    let room : len < length first =
    omega (arith, few, length-take-le at text c.chars.invariant.fits, c.chars.invariant.count, c.requires.bytes, length-columns_by c.args.bytes.now c.args.beside.now, c.in-Some.ensures.fits, c.in-Some.ensures.some) in
    let one = one_char text first (columns_by c.chars.bytes c.chars.beside) (columns_by c.put_at.new.bytes c.put_at.new.beside) at len _ c.in-Some.column c.chars.invariant.utf8 c.chars.invariant.count
    c.chars.invariant.columns room c.in-Some.ensures.scalar c.in-Some.ensures.written c.put_at.ensures.columns in
    record {
      fits = c.in-Some.ensures.fits;
      utf8 = one.0;
      count = one.1;
      wide = c.put_at.ensures.len ∙ c.chars.invariant.wide;
      room = c.put_at.ensures.room ∙ c.chars.invariant.room;
      columns = one.2;
    }

pub chars-preserved-then-size-eq2 : goal.chars-preserved-then-size-eq2
chars-preserved-then-size-eq2 c =
    let text = c.args.text.now in
    let at = c.chars.at in
    let len = c.chars.len in
    let behind = at + c.in-Some.size in
    let front = take at text in
    let first = columns_by c.args.bytes.now c.args.beside.now in
    let few = chars_fit front (IsUtf8-from_is_utf8 front c.chars.invariant.utf8) in
    let here = length-take-le at text c.chars.invariant.fits in
    let wide : length c.put_at.new.bytes ≡ length c.args.bytes.now = c.put_at.ensures.len ∙ c.chars.invariant.wide in
    let room : len < length first =
    omega (arith, few, here, c.chars.invariant.count, c.requires.bytes, length-columns_by c.args.bytes.now c.args.beside.now, c.in-Some.ensures.fits, c.in-Some.ensures.some) in
    let one = one_char text first (columns_by c.chars.bytes c.chars.beside) (columns_by c.put_at.new.bytes c.put_at.new.beside) at len _ c.in-Some.column c.chars.invariant.utf8 c.chars.invariant.count
    c.chars.invariant.columns room c.in-Some.ensures.scalar c.in-Some.ensures.written c.put_at.ensures.columns in
    let fits : len + 1 + c.put_eights-count.result ≤ length c.put_at.new.bytes =
    omega (arith, few, here, wide, c.chars.invariant.count, c.requires.bytes, c.in-Some.ensures.some, c.put_eights-count.ensures.fits) in
    let more = more_bytes text first c.put_at.new.bytes c.put_at.new.beside c.put_eights-count.new.bytes _ (len + 1) c.put_eights-count.result one.0 one.1 one.2 c.put_eights-count.ensures.fits c.put_eights-count.ensures.ascii fits c.put_eights-count.ensures.bytes in
    let long : length (take c.put_eights-count.result (drop behind text)) ≡ c.put_eights-count.result = length-take-le c.put_eights-count.result (drop behind text) (omega (arith, c.put_eights-count.ensures.fits, length-drop behind text)) in
    record {
      fits = c.put_eights-count.ensures.fits;
      utf8 = more.0;
      count = more.1;
      wide = ap length c.put_eights-count.ensures.bytes ∙ length-with_columns (len + 1) _ c.put_at.new.bytes (omega (arith, long, fits)) ∙ wide;
      room = c.put_at.ensures.room ∙ c.chars.invariant.room;
      columns = more.2;
    }
