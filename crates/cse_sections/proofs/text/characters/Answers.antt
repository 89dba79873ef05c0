use Rattle.std.proofs.Common.{◌≡◌, Bool, true, false, refl, sym, ap, ◌∙◌, subst, List, ℕ, [], IfOk}
use Rattle.std.specs.Prelude.{if◌then◌else◌}
use Rattle.std.specs.Str.{chars, is_utf8}
use Rattle.std.proofs.lemmas.Str.{IsUtf8-from_is_utf8, is_utf8-from_IsUtf8}
use Rattle.cse_sections.specs.Text.{characters}
use Rattle.cse_sections.proofs.text.characters.Goals as goal

pub returns-in-Ok : goal.returns-in-Ok
unfolding characters
returns-in-Ok c =
    let bytes : List ℕ = c.args.bytes.now in
    let P : List ℕ → Type 0 = λ cs. IfOk c.chars_of.result (λ v. v.items ≡ cs) in
    subst P (ap chars c.in-Ok.ensures.cases.0 ∙ sym (ap (λ v. if v then chars bytes else []) (is_utf8-from_IsUtf8 bytes (c.in-Ok.ensures.cases.1)))) c.chars_of.ensures

pub returns-in-Err : goal.returns-in-Err
unfolding characters
returns-in-Err c = c.new.ensures.items ∙ by (is_utf8 c.args.bytes.now) refl
  where
    by : (b : Bool) → is_utf8 c.args.bytes.now ≡ b → [] ≡ characters c.args.bytes.now
    by true e = absurd (c.in-Err.ensures.cases.0 (IsUtf8-from_is_utf8 c.args.bytes.now e))
    by false e = sym (ap (λ v. if v then chars c.args.bytes.now else []) e)
