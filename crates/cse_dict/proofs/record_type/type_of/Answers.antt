use Rattle.std.proofs.Common.{◌≡◌, ◌<◌, ◌≤◌, ◌∙◌, ap, sym, refl, arith, ℕ, List, [], length, Option, None, Some, codes}
use Rattle.std.specs.Prelude.{◌==◌, if◌then◌else◌}
use Rattle.std.specs.Option.{option_copied}
use Rattle.std.proofs.lemmas.Bool.{le-leb, lt-leb, ne_eqb}
use Rattle.cse_sections.specs.Sections.{EntryText, SectionText}
use Rattle.cse_dict.specs.Keys.{entry_of}
use Rattle.cse_dict.specs.Types.{padded, type_by_len, type_in, type_of, type_text}
use Rattle.cse_dict.proofs.Gathering.{no_value}
use Rattle.cse_dict.proofs.record_type.type_of.Goals as goal

type_at : (o : Option ℕ) (section : SectionText) (len : ℕ) (e : Option EntryText) → o ≡ Some len → entry_of (codes "RecordTypeValue") section ≡ e → type_of o section ≡ type_in len e
unfolding type_of
type_at o section len e is there = ap (λ (p : Option ℕ). type_by_len p section) is ∙ ap (type_in len) there

longer : (len : ℕ) (e : EntryText) → len < length (type_text e.value) → type_in len (Some e) ≡ None
longer len e lt = ap (λ b. if b then Some (padded len (type_text e.value)) else None) (lt-leb (length (type_text e.value)) len lt)

shorter : (len : ℕ) (e : EntryText) → length (type_text e.value) ≤ len → type_in len (Some e) ≡ Some (padded len (type_text e.value))
shorter len e le = ap (λ b. if b then Some (padded len (type_text e.value)) else None) (le-leb (length (type_text e.value)) len le)

pub returns-in_default : goal.returns-in_default
unfolding type_of
returns-in_default c = rw c.in_default.is refl

pub returns-then-len-eq0 : goal.returns-then-len-eq0
returns-then-len-eq0 c =
    ap (λ (l : List ℕ). Some l) c.new.ensures.items ∙ ap (λ (n : ℕ). if n == 0 then Some [] else None) (sym c.if-len-eq0.true)
    ∙ sym (type_at c.args.len c.args.section.now c.in-Some.len None c.in-Some.is (sym c.entry_of.ensures ∙ ap option_copied c.in_default-entry_of.is))

pub returns-in_default-entry_of : goal.returns-in_default-entry_of
returns-in_default-entry_of c =
    ap (λ b. if b then Some [] else None) (sym (ne_eqb c.in-Some.len 0 c.if-len-eq0.false))
    ∙ sym (type_at c.args.len c.args.section.now c.in-Some.len None c.in-Some.is (sym c.entry_of.ensures ∙ ap option_copied c.in_default-entry_of.is))

pub returns-in_err-text : goal.returns-in_err-text
returns-in_err-text c = no_value _ c.from_residual.result c.from_residual.ensures.0

pub returns-then-len : goal.returns-then-len
returns-then-len c =
    let e = c.in-Some-entry_of.entry.now in
    let text : c.in_ok-text.text.items ≡ type_text e.value = c.in_ok-text.ensures ∙ ap (λ (x : EntryText). type_text x.value) c.entry.view_is in
    sym (longer c.in-Some.len e (omega (arith, c.in_ok-text.text.ok.0, ap length text)))
    ∙ sym (type_at c.args.len c.args.section.now c.in-Some.len (Some e) c.in-Some.is (sym c.entry_of.ensures ∙ ap option_copied c.in-Some-entry_of.is))

pub pad-requires : goal.pad-requires
pad-requires c = omega arith

pub returns-in_err-pad : goal.returns-in_err-pad
returns-in_err-pad c = no_value _ c.from_residual-in_err-pad.result c.from_residual-in_err-pad.ensures.0

pub returns : goal.returns
returns c =
    let e = c.in-Some-entry_of.entry.now in
    let text : c.in_ok-text.text.items ≡ type_text e.value = c.in_ok-text.ensures ∙ ap (λ (x : EntryText). type_text x.value) c.entry.view_is in
    ap (λ (l : List ℕ). Some l) (c.in_ok-pad.ensures ∙ ap (padded c.in-Some.len) text)
    ∙ sym (shorter c.in-Some.len e (omega (arith, c.in_ok-text.text.ok.0, ap length text)))
    ∙ sym (type_at c.args.len c.args.section.now c.in-Some.len (Some e) c.in-Some.is (sym c.entry_of.ensures ∙ ap option_copied c.in-Some-entry_of.is))
