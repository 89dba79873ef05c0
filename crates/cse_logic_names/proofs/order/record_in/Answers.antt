use Rattle.std.proofs.Common.{◌≡◌, ◌∙◌, ℕ, List, Bool, true, false, None, refl, sym, ap}
use Rattle.std.specs.Prelude.{if◌then◌else◌}
use Rattle.std.specs.Str.{is_utf8}
use Rattle.std.proofs.lemmas.Str.{IsUtf8-from_is_utf8, is_utf8-from_IsUtf8}
use Rattle.cse_dict.specs.Dictionary.{number_named, record_names}
use Rattle.cse_logic_names.specs.OrderFile.{record_in}
use Rattle.cse_logic_names.proofs.order.record_in.Goals as goal

pub returns-in-Ok : goal.returns-in-Ok
unfolding record_in
returns-in-Ok c =
    let line : List ℕ = c.args.line.now in
    let names = record_names c.args.dictionary.now in
    c.find_record.ensures.record ∙ ap (λ t. number_named t names) c.in-Ok.ensures.cases.0
    ∙ sym (ap (λ v. if v then number_named line names else None) (is_utf8-from_IsUtf8 line (c.in-Ok.ensures.cases.1)))

pub returns-in-Err : goal.returns-in-Err
unfolding record_in
returns-in-Err c = by (is_utf8 c.args.line.now) refl
  where
    by : (b : Bool) → is_utf8 c.args.line.now ≡ b → None ≡ record_in c.args.dictionary.now c.args.line.now
    by true e = absurd (c.in-Err.ensures.cases.0 (IsUtf8-from_is_utf8 c.args.line.now e))
    by false e = sym (ap (λ v. if v then number_named c.args.line.now (record_names c.args.dictionary.now) else None) e)
