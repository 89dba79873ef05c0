use Rattle.std.proofs.Common.{◌≡◌, ◌++◌, ◌∷◌, [], ◌-◌, List, ℕ, ℤ, true, if◌then◌else◌, Result, Ok, Err, OnOk, pos, negsuc, ◌<ℤ◌, suc, length, take, drop, replicate, append_assoc, ap, ◌∙◌, w64, to_z, of_z, arith}
use Rattle.std.specs.Prelude.{is_ok}
use Rattle.std.specs.Fmt.{decimal, signed_decimal}
use Rattle.std.specs.Str.{IsUtf8}
use Rattle.std.proofs.lemmas.Int.{ints, to_z-of_z}
use Rattle.std.proofs.lemmas.List.{take_all}
use Rattle.std.proofs.lemmas.Result.{on_ok_weaker}
use Rattle.cse_lemmas.proofs.Results.{OnOk_from}
use Rattle.cse_value.specs.Field.{filled}
use Rattle.cse_report.proofs.Utf8Laws.{filled_utf8}
use Rattle.cse_report.proofs.fill.put_zero_filled.Goals as goal

abbrev after_sign : List ℕ → List ℕ
after_sign text = take (length text - 1) (drop 1 text)

zeros_after_sign : (room : ℕ) (z : ℤ) → z <ℤ pos 0 → 45 ∷ (replicate room 48 ++ after_sign (signed_decimal z)) ≡ filled room true z
zeros_after_sign room (pos n) below = absurd (omega (arith, ints, below))
zeros_after_sign room (negsuc n) below = ap (λ l. 45 ∷ (replicate room 48 ++ l)) (take_all _ (decimal (suc n)) (omega arith))

told : {T E : Type 0} (r : Result T E) (new old more : List ℕ) → new ≡ (if is_ok r then old ++ more else old) → OnOk r (new ≡ old ++ more)
told (Ok x) new old more e = e
told (Err x) new old more e = tt

pub returns-then-number-lt0-clause-bytes : goal.returns-then-number-lt0-clause-bytes
returns-then-number-lt0-clause-bytes c =
    let z = to_z w64 (of_z w64 c.args.number) in
    let below : z <ℤ pos 0 = omega (arith, ints, c.if-number-lt0.true) in
    let out = c.args.out.now.items in
    let room = c.args.room in
    let zeros : List ℕ = replicate room 48 in
    let digits = after_sign c.as_bytes-text.result.now in
    let text = c.as_bytes-text.ensures.value ∙ c.format.ensures.text in
    let before = c.in_ok-put_repeated.ensures ∙ ap (λ l. l ++ zeros) c.in_ok-push.ensures.items in
    on_ok_weaker c.extend_from_slice.result
    (λ e. e
    ∙ ap (λ l. l ++ digits) before
    ∙ append_assoc (out ++ 45 ∷ []) zeros digits
    ∙ append_assoc out (45 ∷ []) (zeros ++ digits)
    ∙ ap (λ l. out ++ (45 ∷ (zeros ++ after_sign l))) text
    ∙ ap (λ l. out ++ l) (zeros_after_sign room z below ∙ ap (filled room true) (to_z-of_z w64 c.args.number c.ranges.number)))
    (told c.extend_from_slice.result c.extend_from_slice.new.self.items c.put_repeated.new.out.items digits c.extend_from_slice.ensures.items)

pub returns-then-number-lt0-clause-utf8 : goal.returns-then-number-lt0-clause-utf8
returns-then-number-lt0-clause-utf8 c =
    let text : c.format.result.now ≡ signed_decimal c.args.number = c.format.ensures.text ∙ ap signed_decimal (to_z-of_z w64 c.args.number c.ranges.number) in
    OnOk_from c.extend_from_slice.result (IsUtf8 (filled c.args.room true c.args.number)) (filled_utf8 c.args.room c.args.number c.format.result.now c.format.ensures.ascii text)

pub returns-clause-utf8 : goal.returns-clause-utf8
returns-clause-utf8 c =
    let text : c.format.result.now ≡ signed_decimal c.args.number = c.format.ensures.text ∙ ap signed_decimal (to_z-of_z w64 c.args.number c.ranges.number) in
    OnOk_from c.extend_from_slice-2.result (IsUtf8 (filled c.args.room true c.args.number)) (filled_utf8 c.args.room c.args.number c.format.result.now c.format.ensures.ascii text)
