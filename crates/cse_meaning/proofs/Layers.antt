-- From one text to the next: what is given, and which fault is told.
use Rattle.std.proofs.Common.{◌≡◌, ◌≤◌, ◌⊎◌, inl, inr, ℕ, Bool, true, false, List, refl, sym, ap, subst, Some, arith}
use Rattle.std.specs.Prelude.{◌||◌, nat_eq, IsTrue, Result, Ok, Err, IfOk, IfErr}
use Rattle.std.specs.Str.{is_utf8}
use Rattle.std.proofs.lemmas.Bool.{eqb-true}
use Rattle.cse_image_parts.specs.Image.{Image}
use Rattle.cse_image.specs.Spelling.{Spells}
use Rattle.cse_dict.specs.Dictionary.{DictionaryText, shape_of}
use Rattle.cse_syntax.specs.declared.error.SyntaxError.{SyntaxError}
use Rattle.cse_syntax_tree.specs.declared.token.Token.{Token}
use Rattle.cse_syntax_tree.specs.Word.{Word, words, AreNumbered}
use Rattle.cse_syntax_tree.specs.Tree as syntax
use Rattle.cse_syntax_tree.specs.Grammar.{IsSource}
use Rattle.cse_syntax.specs.Text.{pieces, pieces_of}
use Rattle.cse_syntax.specs.Source.{IsSourceText}
use Rattle.cse_syntax.proofs.Whole.{said_pieces}
use Rattle.cse_logic_tree.specs.Typed.{Tree}
use Rattle.cse_logic_names.specs.declared.error.TypeError.{TypeError}
use Rattle.cse_logic_names.specs.Fault as types
use Rattle.cse_logic_names.specs.Fault.{at_line}
use Rattle.cse_logic_names.specs.MessageFile.{MessageText, ReadsMessages, file_lines}
use Rattle.cse_logic_names.specs.OrderFile.{ReadsOrder}
use Rattle.cse_logic_names.specs.WellTyped.{IsTypedAs}
use Rattle.cse_code_typing.specs.Typed.{IsTyped}
use Rattle.cse_verify.specs.Bounded.{IsBounded}
use Rattle.cse_compile.specs.Program.{IsProgramOf}
use Rattle.cse_meaning.specs.Costs.{KeepsCosts}
use Rattle.cse_meaning.specs.Within.{IsWithin}
use Rattle.cse_meaning.specs.declared.error.BuildFault.{BuildFault}
use Rattle.cse_meaning.specs.Fault.{at_no_place, of_syntax, of_type, out_of_memory}
use Rattle.cse_meaning.specs.Build.{AreEntries, AreNamed, IsBuilt, IsFault, IsFaultBehind, IsImage, IsLimitFault, IsLogic, IsLogicFault, IsMessageFault, IsOrderFault, IsSourceFault, IsTextFault}

-- ---- programs

reasons : (n : ℕ) → IsTrue (nat_eq n 64 || (nat_eq n 67 || nat_eq n 90)) → (n ≡ 64) ⊎ ((n ≡ 67) ⊎ (n ≡ 90))
reasons n h = by (nat_eq n 64) (nat_eq n 67) (nat_eq n 90) refl refl refl h
  where
    by : (a b c : Bool) → nat_eq n 64 ≡ a → nat_eq n 67 ≡ b → nat_eq n 90 ≡ c → IsTrue (a || (b || c)) → (n ≡ 64) ⊎ ((n ≡ 67) ⊎ (n ≡ 90))
    by true b c e f g k = inl (eqb-true n 64 e)
    by false true c e f g k = inr (inl (eqb-true n 67 f))
    by false false true e f g k = inr (inr (eqb-true n 90 g))
    by false false false e f g k = absurd cc

-- the fault of a program
pub limit_told : (d : DictionaryText) (t : Tree) (n : ℕ) → IsTrue (nat_eq n 64 || (nat_eq n 67 || nat_eq n 90)) → (n ≡ 64 → IsWithin t → ⊥) → (n ≡ 67 → KeepsCosts d t → ⊥) → (at_no_place n ≡ out_of_memory) ⊎ IsLimitFault d t (at_no_place n)
limit_told d t n reason large cost = by (reasons n reason)
  where
    by : (n ≡ 64) ⊎ ((n ≡ 67) ⊎ (n ≡ 90)) → (at_no_place n ≡ out_of_memory) ⊎ IsLimitFault d t (at_no_place n)
    by (inl e) = inr (inl (ap at_no_place e, large e))
    by (inr (inl e)) = inr (inr (ap at_no_place e, cost e))
    by (inr (inr e)) = inl (ap at_no_place e)

pub image_of_program : {T : Type 0} (d : DictionaryText) (named : List ℕ) (t : Tree) (x : Image) (r : Result T BuildFault) (bytes : T → List ℕ) → IsProgramOf d named t x → IsTyped (shape_of d) x → IsBounded x
    → IfOk r (λ v. Spells x (bytes v)) → IfOk r (λ v. (x : Image) × IsImage d named t x (bytes v))
image_of_program d named t x (Ok v) bytes compiled typed bounded h = (x, record { compiled = compiled; typed = typed; bounded = bounded; spelled = h })
image_of_program d named t x (Err e) bytes compiled typed bounded h = tt

pub memory_of_program : {T : Type 0} (d : DictionaryText) (t : Tree) (r : Result T BuildFault) → IfErr r (λ e. e ≡ out_of_memory) → IfErr r (λ e. (e ≡ out_of_memory) ⊎ IsLimitFault d t e)
memory_of_program d t (Ok v) h = tt
memory_of_program d t (Err e) h = inl h

-- ---- sources

-- the fault of names and kinds
pub rule_told : (d : DictionaryText) (entries : List MessageText) (source : syntax.Tree) (e : TypeError) → ((40 ≤ e.number) × (e.number ≤ 49)) ⊎ (e ≡ types.out_of_memory)
    → ((t : Tree) → IsTypedAs d entries source t → e ≡ types.out_of_memory) → (of_type e ≡ out_of_memory) ⊎ IsSourceFault d entries source (of_type e)
rule_told d entries source e (inl h) only = inr (inl (h.0, h.1, λ t k. omega (arith, h.1, ap (λ (x : TypeError). x.number) (only t k))))
rule_told d entries source e (inr m) only = inl (ap of_type m)

-- a fault of the program, made for this dictionary
pub limit_of_source : {T : Type 0} (d : DictionaryText) (entries : List MessageText) (source : syntax.Tree) (made_for : DictionaryText) (t : Tree) (r : Result T BuildFault) → made_for ≡ d → IsTypedAs d entries source t
    → IfErr r (λ e. (e ≡ out_of_memory) ⊎ IsLimitFault made_for t e) → IfErr r (λ e. (e ≡ out_of_memory) ⊎ IsSourceFault d entries source e)
limit_of_source d entries source made_for t (Ok x) same typed h = tt
limit_of_source d entries source made_for t (Err e) same typed (inl m) = inl m
limit_of_source d entries source made_for t (Err e) same typed (inr f) = inr (inr (t, typed, subst (λ (x : DictionaryText). IsLimitFault x t e) same f))

pub image_of_source : {T : Type 0} (d : DictionaryText) (entries : List MessageText) (named : List ℕ) (source : syntax.Tree) (made_for : DictionaryText) (ordered : List ℕ) (t : Tree) (r : Result T BuildFault) (bytes : T → List ℕ)
    → made_for ≡ d → ordered ≡ named → IsTypedAs d entries source t
    → IfOk r (λ v. (x : Image) × IsImage made_for ordered t x (bytes v)) → IfOk r (λ v. (t : Tree) × (x : Image) × IsTypedAs d entries source t × IsImage d named t x (bytes v))
image_of_source d entries named source made_for ordered t (Ok v) bytes same_d same_named typed h =
    (t, h.0, typed, subst (λ (e : DictionaryText). IsImage e named t h.0 (bytes v)) same_d (subst (λ (ns : List ℕ). IsImage made_for ns t h.0 (bytes v)) same_named h.1))
image_of_source d entries named source made_for ordered t (Err e) bytes same_d same_named typed h = tt

-- ---- texts

pub source_text : (text : List ℕ) (ts : List Token) (source : syntax.Tree) → pieces_of text ≡ Some (pieces ts) → AreNumbered 0 ts → IsSource 64 source (words ts) → IsSourceText 64 text source
source_text text ts source e n h = (pieces ts, e, subst (λ (ws : List Word). IsSource 64 source ws) (sym (said_pieces 0 ts n)) h)

without_place : (n l c : ℕ) → n ≡ 90 → l ≡ 0 → c ≡ 0 → of_syntax (record { number = n; line = l; column = c }) ≡ out_of_memory
without_place n l c e f g = rw (e, f, g) refl

-- the fault of a text
pub text_told : (d : DictionaryText) (entries : List MessageText) (text : List ℕ) (e : SyntaxError) → ((30 ≤ e.number) × (e.number ≤ 35)) ⊎ ((e.number ≡ 90) × (e.line ≡ 0) × (e.column ≡ 0))
    → ((source : syntax.Tree) → IsSourceText 64 text source → e.number ≡ 90) → (of_syntax e ≡ out_of_memory) ⊎ IsLogicFault d entries text (of_syntax e)
text_told d entries text e (inl h) only = inr (inl (inr (h.0, h.1, λ source k. omega (arith, h.1, only source k))))
text_told d entries text e (inr m) only = inl (without_place e.number e.line e.column m.0 m.1 m.2)

pub fault_of_text : {T : Type 0} (d : DictionaryText) (entries : List MessageText) (text : List ℕ) (source : syntax.Tree) (r : Result T BuildFault) → IsSourceText 64 text source
    → IfErr r (λ e. (e ≡ out_of_memory) ⊎ IsSourceFault d entries source e) → IfErr r (λ e. (e ≡ out_of_memory) ⊎ IsLogicFault d entries text e)
fault_of_text d entries text source (Ok x) is h = tt
fault_of_text d entries text source (Err e) is (inl m) = inl m
fault_of_text d entries text source (Err e) is (inr f) = inr (inr (source, is, f))

pub image_of_text : {T : Type 0} (d : DictionaryText) (entries : List MessageText) (named text : List ℕ) (source : syntax.Tree) (r : Result T BuildFault) (bytes : T → List ℕ) → IsSourceText 64 text source
    → IfOk r (λ v. (t : Tree) × (x : Image) × IsTypedAs d entries source t × IsImage d named t x (bytes v))
    → IfOk r (λ v. (source : syntax.Tree) × (t : Tree) × (x : Image) × IsSourceText 64 text source × IsTypedAs d entries source t × IsImage d named t x (bytes v))
image_of_text d entries named text source (Ok v) bytes is h = (source, h.0, h.1, is, h.2, h.3)
image_of_text d entries named text source (Err e) bytes is h = tt

pub image_of_logic : {T : Type 0} (d : DictionaryText) (entries : List MessageText) (named logic text : List ℕ) (r : Result T BuildFault) (bytes : T → List ℕ) → text ≡ logic → is_utf8 logic ≡ true
    → IfOk r (λ v. (source : syntax.Tree) × (t : Tree) × (x : Image) × IsSourceText 64 text source × IsTypedAs d entries source t × IsImage d named t x (bytes v))
    → IfOk r (λ v. (source : syntax.Tree) × (t : Tree) × (x : Image) × IsLogic d entries logic source t × IsImage d named t x (bytes v))
image_of_logic d entries named logic text (Ok v) bytes same utf8 h =
    (h.0, h.1, h.2, record { utf8 = utf8; text = subst (λ (bs : List ℕ). IsSourceText 64 bs h.0) same h.3; typed = h.4 }, h.5)
image_of_logic d entries named logic text (Err e) bytes same utf8 h = tt

-- ---- files

-- the fault of an order file
pub order_told : (d : DictionaryText) (entries : List MessageText) (logic order : List ℕ) (e : TypeError) → ReadsOrder d (Err e) (file_lines order)
    → (of_type e ≡ out_of_memory) ⊎ IsFaultBehind d entries logic order (of_type e)
order_told d entries logic order e (inl m) = inl (ap of_type m)
order_told d entries logic order e (inr f) = inr (inl (ap of_type f.0, f.1))

pub fault_of_order : {T : Type 0} (d : DictionaryText) (entries : List MessageText) (named logic order : List ℕ) (r : Result T BuildFault) → AreNamed d order named
    → IfErr r (λ e. (e ≡ out_of_memory) ⊎ IsLogicFault d entries logic e) → IfErr r (λ e. (e ≡ out_of_memory) ⊎ IsFaultBehind d entries logic order e)
fault_of_order d entries named logic order (Ok x) is h = tt
fault_of_order d entries named logic order (Err e) is (inl m) = inl m
fault_of_order d entries named logic order (Err e) is (inr f) = inr (inr (named, is, f))

pub image_of_order : {T : Type 0} (d : DictionaryText) (entries : List MessageText) (named logic order : List ℕ) (r : Result T BuildFault) (bytes : T → List ℕ) → AreNamed d order named
    → IfOk r (λ v. (source : syntax.Tree) × (t : Tree) × (x : Image) × IsLogic d entries logic source t × IsImage d named t x (bytes v))
    → IfOk r (λ v. (named : List ℕ) × (source : syntax.Tree) × (t : Tree) × (x : Image) × AreNamed d order named × IsLogic d entries logic source t × IsImage d named t x (bytes v))
image_of_order d entries named logic order (Ok v) bytes is h = (named, h.0, h.1, h.2, is, h.3, h.4)
image_of_order d entries named logic order (Err e) bytes is h = tt

-- the fault of a message file
pub messages_told : (d : DictionaryText) (logic messages order : List ℕ) (e : TypeError) → ReadsMessages (Err e) (file_lines messages) → IsFault d logic messages order (of_type e)
messages_told d logic messages order e (inl m) = inl (ap of_type m)
messages_told d logic messages order e (inr f) = inr (inl (e, f, refl))

pub fault_of_messages : {T : Type 0} (d : DictionaryText) (entries : List MessageText) (logic messages order : List ℕ) (r : Result T BuildFault) → AreEntries messages entries
    → IfErr r (λ e. (e ≡ out_of_memory) ⊎ IsFaultBehind d entries logic order e) → IfErr r (IsFault d logic messages order)
fault_of_messages d entries logic messages order (Ok x) is h = tt
fault_of_messages d entries logic messages order (Err e) is (inl m) = inl m
fault_of_messages d entries logic messages order (Err e) is (inr f) = inr (inr (entries, is, f))

pub image_of_messages : {T : Type 0} (d : DictionaryText) (entries : List MessageText) (logic messages order : List ℕ) (r : Result T BuildFault) (bytes : T → List ℕ) → AreEntries messages entries
    → IfOk r (λ v. (named : List ℕ) × (source : syntax.Tree) × (t : Tree) × (x : Image) × AreNamed d order named × IsLogic d entries logic source t × IsImage d named t x (bytes v))
    → IfOk r (λ v. IsBuilt d logic messages order (bytes v))
image_of_messages d entries logic messages order (Ok v) bytes is h = record {
  texts = record { entries = entries; named = h.0; source = h.1; tree = h.2; entries_are = is; named_are = h.4; logic_is = h.5 };
  program = h.3;
  image = h.6;
}
image_of_messages d entries logic messages order (Err e) bytes is h = tt
