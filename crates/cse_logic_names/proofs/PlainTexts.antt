-- The texts of a message file are texts.
use Rattle.std.proofs.Common.{◌≡◌, ℕ, Bool, true, false, not, ◌&&◌, List, [], ◌∷◌, ◌++◌, Option, Some, None, refl, sym, subst}
use Rattle.std.specs.Prelude.{Result, Ok, Err, IsTrue, nat_le, nat_eq, take, drop, if◌then◌else◌}
use Rattle.std.specs.List.{list_any}
use Rattle.std.specs.Str.{is_utf8}
use Rattle.std.proofs.lemmas.Bool.{and_parts}
use Rattle.cse_lemmas.proofs.Lists.{AllByRecursion-append}
use Rattle.cse_image_parts.specs.Texts.{is_text, is_short}
use Rattle.cse_sections.specs.Number.{number_between}
use Rattle.cse_logic_names.specs.MessageFile.{MessageText, digit_count, begins_with_gap, text_in, has_form, is_skipped, numbered, line_of, with_message, with_line, messages_behind}
use Rattle.cse_logic_names.specs.Texts.{AreTexts}

abbrev IsPlain : MessageText → Type 0
IsPlain x = IsTrue (is_text x.text)

abbrev IsPlainLine : Result (Option MessageText) ℕ → Type 0
IsPlainLine (Ok None) = Unit {0}
IsPlainLine (Ok (Some x)) = IsPlain x
IsPlainLine (Err number) = Unit {0}

form_text : (line : List ℕ) → has_form line ≡ true → is_text (text_in line) ≡ true
unfolding has_form
form_text line h =
    let a = and_parts (nat_le 1 (digit_count line)) (begins_with_gap (drop (digit_count line) line) && (is_text (text_in line) && is_short (text_in line))) h in
    let b = and_parts (begins_with_gap (drop (digit_count line) line)) (is_text (text_in line) && is_short (text_in line)) a.1 in
    (and_parts (is_text (text_in line)) (is_short (text_in line)) b.1).0

numbered_plain : (text : List ℕ) (o : Option ℕ) → is_text text ≡ true → IsPlainLine (numbered text o)
numbered_plain text None h = tt
numbered_plain text (Some n) h = h

line_plain : (line : List ℕ) → IsPlainLine (line_of line)
unfolding line_of
line_plain line = by (is_utf8 line) (is_skipped line) (has_form line) refl
  where
    by : (a b c : Bool) → has_form line ≡ c → IsPlainLine (if not a then Err 30 else (if b then Ok None else (if c then numbered (text_in line) (number_between 1 999999999 (take (digit_count line) line)) else Err 30)))
    by false b c e = tt
    by true true c e = tt
    by true false true e = numbered_plain (text_in line) _ (form_text line e)
    by true false false e = tt

one_more : (found : List MessageText) (x : MessageText) → AreTexts found → IsPlain x → AreTexts (with_message found x)
one_more found x h p = by (list_any (λ (y : MessageText). nat_eq x.number y.number) found)
  where
    by : (b : Bool) → AreTexts (if b then found else found ++ x ∷ [])
    by true = h
    by false = AllByRecursion-append IsPlain found (x ∷ []) h (p, tt)

with_plain : (found : List MessageText) (said : Result (Option MessageText) ℕ) → AreTexts found → IsPlainLine said → AreTexts (with_line found said)
with_plain found (Ok None) h p = h
with_plain found (Ok (Some x)) h p = one_more found x h p
with_plain found (Err number) h p = h

behind_plain : (found : List MessageText) (lines : List (List ℕ)) → AreTexts found → AreTexts (messages_behind found lines)
behind_plain found [] h = h
behind_plain found (l ∷ ls) h = behind_plain (with_line found (line_of l)) ls (with_plain found (line_of l) h (line_plain l))

-- those that are read
pub are_texts : (found : List MessageText) (lines : List (List ℕ)) → found ≡ messages_behind [] lines → AreTexts found
are_texts found lines e = subst AreTexts (sym e) (behind_plain [] lines tt)
