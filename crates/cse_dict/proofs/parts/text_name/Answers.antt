use Rattle.std.proofs.Common.{◌≡◌, Bool, true, false, refl, sym, ap, ◌∙◌, subst, List, ℕ, [], IfOk}
use Rattle.std.specs.Prelude.{if◌then◌else◌}
use Rattle.std.specs.String.{string_bytes}
use Rattle.std.specs.Str.{is_utf8}
use Rattle.std.proofs.lemmas.Str.{IsUtf8-from_is_utf8, is_utf8-from_IsUtf8}
use Rattle.cse_dict.specs.Keys.{kept_name}
use Rattle.cse_dict.specs.Dictionary.{text_name}
use Rattle.cse_dict.proofs.parts.text_name.Goals as goal

pub returns-in-Ok : goal.returns-in-Ok
unfolding text_name
returns-in-Ok c =
    let bytes : List ℕ = c.args.bytes.now in
    let P : List ℕ → Type 0 = λ cs. IfOk c.to_ascii_uppercase.result (λ s. string_bytes s ≡ cs) in
    subst P (ap kept_name c.in-Ok.ensures.cases.0 ∙ sym (ap (λ v. if v then kept_name bytes else []) (is_utf8-from_IsUtf8 bytes (c.in-Ok.ensures.cases.1)))) c.to_ascii_uppercase.ensures.ok

pub returns-in-Err : goal.returns-in-Err
unfolding text_name
returns-in-Err c = c.new.ensures.bytes ∙ by (is_utf8 c.args.bytes.now) refl
  where
    by : (b : Bool) → is_utf8 c.args.bytes.now ≡ b → [] ≡ text_name c.args.bytes.now
    by true e = absurd (c.in-Err.ensures.cases.0 (IsUtf8-from_is_utf8 c.args.bytes.now e))
    by false e = sym (ap (λ v. if v then kept_name c.args.bytes.now else []) e)
