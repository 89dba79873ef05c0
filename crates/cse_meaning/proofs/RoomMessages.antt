-- Which entries of messages, globals and arrays fit.
use Rattle.std.proofs.Common.{◌≡◌, ◌≤◌, ◌<◌, ◌^◌, ℕ, zero, suc, ◌+◌, Bool, true, false, List, [], ◌∷◌, length, map, Option, Some, None, refl, subst, arith}
use Rattle.std.specs.Prelude.{find, nat_eq, unwrap_or, if◌then◌else◌, replicate, nat_le}
use Rattle.std.specs.List.{AllByRecursion}
use Rattle.std.proofs.lemmas.Bool.{eqb-true, and_from, le-leb}
use Rattle.std.proofs.lemmas.List.{length-append, length-replicate}
use Rattle.std.proofs.lemmas.Option.{same_Some, none-some}
use Rattle.cse_lemmas.proofs.Lists.{AllByRecursion-append}
use Rattle.cse_image_parts.specs.Texts.{is_text}
use Rattle.cse_image.specs.Spelling.{GlobalFits, MessageFits}
use Rattle.cse_syntax_tree.specs.Leaf.{is_within, number_of}
use Rattle.cse_syntax_tree.specs.Tree as syntax
use Rattle.cse_logic_tree.specs.Typed.{Declaration, Numeric, Alpha, Array', Function'}
use Rattle.cse_logic_tree.specs.Erase.{erase_block, erase_declaration}
use Rattle.cse_logic_tree.specs.Tokens.{all_tokens, list_tokens, each_tokens, one_token, declaration_tokens}
use Rattle.cse_compile.specs.Tables.{number_global, text_global, globals_in, message_of}
use Rattle.cse_logic_names.specs.MessageFile.{MessageText}
use Rattle.cse_logic_names.specs.Scope.{Scope}
use Rattle.cse_logic_names.specs.WellTyped.{message_number, numbered, message_meant, no_message, entry_of, size_of, size_in, AreDeclared, with_function, messages_of}
use Rattle.cse_syntax_tree.specs.Tree.{Spelling}
use Rattle.cse_syntax_tree.proofs.Digits.{number_within}
use Rattle.cse_logic_names.specs.Texts.{AreTexts}
use Rattle.cse_meaning.specs.Within.{IsMessageWithin}
use Rattle.cse_meaning.proofs.RoomFacts.{no_text}
use Rattle.cse_meaning.proofs.HeldBlocks.{EntryHolds}
use Rattle.cse_meaning.proofs.Texts.{short_size}

-- ---- messages

-- a number of 32 bits, and a text without control characters
record IsEntry (x : MessageText) : Type 0 where
  number : x.number < 2 ^ 32
  text : is_text x.text ≡ true

found_has : (n : ℕ) (messages : List MessageText) (x : MessageText) → n ≤ 999999999 → AreTexts messages → find (λ (y : MessageText). nat_eq n y.number) messages ≡ Some x → IsEntry x
found_has n [] x le h e = absurd (none-some x e)
found_has n (y ∷ ys) x le h e = by (nat_eq n y.number) refl e (found_has n ys x le h.1)
  where
    by : (b : Bool) → nat_eq n y.number ≡ b → (if b then Some y else find (λ (z : MessageText). nat_eq n z.number) ys) ≡ Some x → (find (λ (z : MessageText). nat_eq n z.number) ys ≡ Some x → IsEntry x) → IsEntry x
    by true f g ih =
        let same = eqb-true n y.number f in
        subst IsEntry (same_Some y x g) (record { number = omega (arith, le, same); text = h.0 })
    by false f g ih = ih g

numbered_has : (messages : List MessageText) (digits : List ℕ) (x : MessageText) → AreTexts messages → numbered messages (message_number digits) ≡ Some x → IsEntry x
numbered_has messages digits x h e = by (is_within 1 999999999 digits) refl e
  where
    by : (b : Bool) → is_within 1 999999999 digits ≡ b → numbered messages (if b then Some (number_of digits) else None) ≡ Some x → IsEntry x
    by true f g = found_has (number_of digits) messages x (number_within 1 999999999 digits f).1 h g
    by false f g = absurd (none-some x g)

meant_has : (messages : List MessageText) (m : syntax.Message) (summary : Bool) → AreTexts messages → EntryHolds (m, summary) → IsEntry (unwrap_or (message_meant messages m) no_message)
meant_has messages (syntax.Own text) summary h k = record { number = omega arith; text = k.form }
meant_has messages (syntax.Numbered digits) summary h k = by (numbered messages (message_number digits.text)) refl
  where
    by : (o : Option MessageText) → numbered messages (message_number digits.text) ≡ o → IsEntry (unwrap_or o no_message)
    by None e = record { number = omega arith; text = no_text.form }
    by (Some x) e = numbered_has messages digits.text x h e

pub messages_fit : (messages : List MessageText) (ms : List (syntax.Message × Bool)) → AreTexts messages → AllByRecursion EntryHolds ms → AllByRecursion IsMessageWithin (map (entry_of messages) ms) → AllByRecursion MessageFits (map message_of (map (entry_of messages) ms))
messages_fit messages [] h k w = tt
messages_fit messages (m ∷ ms) h k w =
    let e = meant_has messages m.0 m.1 h k.0 in
    let text = (entry_of messages m).text in
    (record { number = e.number; text = record { size = short_size text e.text w.0.short; form = e.text; short = w.0.short }; few = w.0.few }, messages_fit messages ms h k.1 w.1)

-- ---- globals

sized : (digits : Spelling) (size : ℕ) → size_of 255 digits ≡ Some size → (1 ≤ size) × (size ≤ 255)
unfolding size_in
sized digits size e = by (is_within 1 255 digits.text) refl e
  where
    by : (b : Bool) → is_within 1 255 digits.text ≡ b → (if b then Some (number_of digits.text) else None) ≡ Some size → (1 ≤ size) × (size ≤ 255)
    by true f g = subst (λ n. (1 ≤ n) × (n ≤ 255)) (same_Some (number_of digits.text) size g) (number_within 1 255 digits.text f)
    by false f g = absurd (none-some size g)

each_same : {A : Type 0} (P : A → Type 0) (x : A) (n : ℕ) → P x → AllByRecursion P (replicate n x)
each_same P x zero h = tt
each_same P x (suc n) h = (h, each_same P x n h)

number_fits : GlobalFits number_global
number_fits = record { size = omega arith; length = refl }

text_fits : (n : ℕ) → (1 ≤ n) × (n ≤ 255) → GlobalFits (text_global n)
text_fits n h = record { size = omega (arith, h.1); length = and_from (nat_le 1 n) (nat_le n 255) (le-leb 1 n h.0) (le-leb n 255 h.1) }

pub globals_fit : (c : Scope) (n : ℕ) (ds : List Declaration) → AreDeclared c n ds → AllByRecursion GlobalFits (globals_in ds)
globals_fit c n [] h = tt
globals_fit c n (Numeric names ∷ ds) h = AllByRecursion-append GlobalFits (replicate (length names) number_global) (globals_in ds) (each_same GlobalFits number_global (length names) number_fits) (globals_fit c n ds h)
globals_fit c n (Alpha digits size names ∷ ds) h =
    AllByRecursion-append GlobalFits (replicate (length names) (text_global size)) (globals_in ds) (each_same GlobalFits (text_global size) (length names) (text_fits size (sized digits size h.0))) (globals_fit c n ds h.1)
globals_fit c n (Array' array ∷ ds) h = globals_fit c n ds h.2
globals_fit c n (Function' f ∷ ds) h = globals_fit (with_function c f) (n + length (messages_of (erase_block f.body))) ds h.1

-- each name is a token
names_each : (names : List Spelling) → length names ≤ each_tokens one_token names
names_each [] = omega arith
names_each (x ∷ xs) = omega (arith, names_each xs)

names_few : (names : List Spelling) → length names ≤ list_tokens one_token names
names_few [] = omega arith
names_few (x ∷ xs) = omega (arith, names_each xs)

pub globals_few : (ds : List Declaration) → length (globals_in ds) ≤ all_tokens declaration_tokens (map erase_declaration ds)
globals_few [] = omega arith
globals_few (Numeric names ∷ ds) =
    let a = length-append (replicate (length names) number_global) (globals_in ds) in
    let b = length-replicate (length names) number_global in
    let c = names_few names in
    let ih = globals_few ds in
    omega (arith, a, b, c, ih)
globals_few (Alpha digits size names ∷ ds) =
    let a = length-append (replicate (length names) (text_global size)) (globals_in ds) in
    let b = length-replicate (length names) (text_global size) in
    let c = names_few names in
    let ih = globals_few ds in
    omega (arith, a, b, c, ih)
globals_few (Array' array ∷ ds) = let ih = globals_few ds in omega (arith, ih)
globals_few (Function' f ∷ ds) = let ih = globals_few ds in omega (arith, ih)
