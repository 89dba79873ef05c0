-- Files that were read, by the paths that they were opened by, and what a command says of them where it ends.
use Rattle.std.proofs.Common.{◌≡◌, ◌∙◌, ap, inl, inr, refl, sym, subst, ℕ, List, Option, None, Some, IfNone, IfSome, option_copied, option_map}
use Rattle.std.specs.Borrow.{Bor}
use Rattle.cse_value.specs.Device.{Given}
use Rattle.cse_value.specs.declared.device.Reads.{Reads}
use Rattle.cse_files.specs.declared.whole.WholeFile.{WholeFile}
use Rattle.cse_files.specs.Whole.{IsAll, IsWhole}
use Rattle.cse_image_parts.specs.Image.{Image}
use Rattle.cse_dict.specs.declared.fault.DictError.{DictError}
use Rattle.cse_dict.specs.Dictionary.{DictionaryText, shape_of}
use Rattle.cse_dict.specs.Reading.{IsAnswer}
use Rattle.cse_verify.specs.declared.image.CheckFault.{CheckFault}
use Rattle.cse_verify.specs.Checked.{IsNoFault, IsRefused}
use Rattle.cse_command_parts.specs.declared.fault.Fault.{Fault}
use Rattle.cse_command_parts.specs.declared.outcome.Stop.{Stop}
use Rattle.cse_command_parts.specs.declared.outcome.Stop.TheVariants.{Refused}
use Rattle.cse_command_parts.specs.Ending.{fault_at, fault_of_check}
use Rattle.cse_command_parts.specs.Halts.{AtDictionary, StopsDict, TellsCheckFault, TellsDictFault, TellsNoStore}
use Rattle.cse_command_parts.specs.Named.{IsNamed, text_or_none}
use Rattle.cse_command_parts.specs.Stops.{IsMemory, TellsDeckFault}
use Rattle.cse_command_parts.specs.Unread.{AtNamed, AtText, AtTexts, Gave, GaveAll, GaveAllIfNamed, GaveIfThere, StopsTexts, TellsNoTextIfNamed}
use Rattle.cse_command_parts.specs.Vetted.{IsReadAs}

-- ---- what files gave

pub gave_bytes : {F : Type 0} (given : Reads F → Given) (file : WholeFile F) (path bytes : List ℕ) (most : ℕ) → file.input.path.now ≡ path
    → IsWhole (given file.input.device) file.bytes.items most → bytes ≡ file.bytes.items → Gave given path bytes
gave_bytes given file path bytes most opened whole same = record { file = file; opened = opened; gave = whole.gave ∙ sym same }

pub gave_all : {F : Type 0} (given : Reads F → Given) (file : WholeFile F) (path bytes : List ℕ) → file.input.path.now ≡ path
    → IsAll (given file.input.device) file.bytes.items → bytes ≡ file.bytes.items → GaveAll given path bytes
gave_all given file path bytes opened all same = record { file = file; opened = opened; gave = all.gave ∙ sym same; end = all.end }

named : {F : Type 0} (given : Reads F → Given) (file : Option (WholeFile F)) (text : List ℕ)
    → IfSome file (λ f. IsAll (given f.input.device) f.bytes.items) → text ≡ text_or_none (option_map (λ f. f.bytes.items) file)
    → GaveAllIfNamed given (option_map (λ f. f.input.path.now) file) text
named given None text all same = same
named given (Some f) text all same = gave_all given f f.input.path.now text refl all same

pub gave_named : {F : Type 0} (given : Reads F → Given) (file : Option (WholeFile F)) (path : Option (List ℕ)) (text : List ℕ)
    → option_map (λ f. f.input.path.now) file ≡ path → IfSome file (λ f. IsAll (given f.input.device) f.bytes.items)
    → text ≡ text_or_none (option_map (λ f. f.bytes.items) file) → GaveAllIfNamed given path text
gave_named given file path text opened all same = subst (λ (p : Option (List ℕ)). GaveAllIfNamed given p text) opened (named given file text all same)

there : {F : Type 0} (given : Reads F → Given) (file : Option (WholeFile F)) (path : Option (List ℕ)) (most : ℕ)
    → IsNamed path (option_map (λ f. f.input.path.now) file) → IfSome file (λ f. IsWhole (given f.input.device) f.bytes.items most)
    → GaveIfThere given path (option_map (λ f. f.bytes.items) file)
there given None path most opened whole = tt
there given (Some f) path most opened whole =
    subst (λ (p : Option (List ℕ)). GaveIfThere given p (Some f.bytes.items)) (sym opened) (gave_bytes given f f.input.path.now f.bytes.items most refl whole refl)

pub gave_there : {F : Type 0} (given : Reads F → Given) (file : Option (WholeFile F)) (path bytes : Option (List ℕ)) (most : ℕ)
    → IsNamed path (option_map (λ f. f.input.path.now) file) → IfSome file (λ f. IsWhole (given f.input.device) f.bytes.items most)
    → bytes ≡ option_map (λ f. f.bytes.items) file → GaveIfThere given path bytes
gave_there given file path bytes most opened whole same =
    subst (λ (b : Option (List ℕ)). GaveIfThere given path b) (sym same) (there given file path most opened whole)

-- ---- where a command ends

pub no_store : (x y : Image) (text : Option (Bor (List ℕ))) (stop : Stop) → x ≡ y → IfNone text (IsMemory stop) → IfSome text (λ t. TellsDeckFault x t.now stop)
    → TellsNoStore y (option_copied text) stop
no_store x y None stop same lacks refused = lacks
no_store x y (Some t) stop same lacks refused = subst (λ (z : Image). TellsDeckFault z t.now stop) same refused

-- faults by what the calls of the libraries tell
pub dict_fault : (text : List ℕ) (error : DictError) (fault : Fault) → IsAnswer text error → fault ≡ fault_at error.number error.line → TellsDictFault text (Refused fault)
dict_fault text error fault is same = record { error = error; is = is; tells = ap Refused same }

pub check_fault : (d : DictionaryText) (bytes : List ℕ) (why : CheckFault) (fault : Fault) → IsRefused (shape_of d) bytes why → IsNoFault (shape_of d) bytes why
    → fault ≡ fault_of_check why → TellsCheckFault d bytes (Refused fault)
check_fault d bytes why fault first only same = record { fault = why; first = first; only = only; tells = ap Refused same }

-- at logic, at the messages, at the edit order, and behind these
pub at_messages : {F : Type 0} (given : Reads F → Given) (logic : List ℕ) (messages order : Option (List ℕ)) (stop : Stop) (Ends : List ℕ → List ℕ → List ℕ → Type 0) (l : List ℕ)
    → GaveAll given logic l → TellsNoTextIfNamed given messages 64 stop → AtTexts given logic messages order stop Ends
at_messages given logic messages order stop Ends l gave none = inr (l, (gave, inl none))

pub at_order : {F : Type 0} (given : Reads F → Given) (logic : List ℕ) (messages order : Option (List ℕ)) (stop : Stop) (Ends : List ℕ → List ℕ → List ℕ → Type 0) (l m : List ℕ)
    → GaveAll given logic l → GaveAllIfNamed given messages m → TellsNoTextIfNamed given order 64 stop → AtTexts given logic messages order stop Ends
at_order given logic messages order stop Ends l m gave gave_m none = inr (l, (gave, inr (m, (gave_m, inl none))))

pub behind_texts : {F : Type 0} (given : Reads F → Given) (logic : List ℕ) (messages order : Option (List ℕ)) (stop : Stop) (Ends : List ℕ → List ℕ → List ℕ → Type 0) (l m o : List ℕ)
    → GaveAll given logic l → GaveAllIfNamed given messages m → GaveAllIfNamed given order o → Ends l m o → AtTexts given logic messages order stop Ends
behind_texts given logic messages order stop Ends l m o gave gave_m gave_o ends = inr (l, (gave, inr (m, (gave_m, inr (o, (gave_o, ends))))))

-- ---- a command ends where its texts were not read or not accepted, or behind them

pub at_dict : {F : Type 0} (given : Reads F → Given) (path : List ℕ) (stop : Stop) (Ends : DictionaryText → Type 0) → StopsDict given path stop
    → AtText given path 17 stop (λ text. AtDictionary text stop Ends)
at_dict given path stop Ends why = elim why [
  | inl unread ↦ inl unread
  | inr read ↦ (let behind = read.1 in elim behind.1 [ inl fault ↦ inr (read.0, (behind.0, inl fault)) | inr d ↦ (let no = d.1 in absurd no.1) ])
]

pub behind_dict : {F : Type 0} (given : Reads F → Given) (path : List ℕ) (stop : Stop) (Ends : DictionaryText → Type 0) (text : List ℕ) (d : DictionaryText)
    → GaveAll given path text → IsReadAs text d → Ends d → AtText given path 17 stop (λ text. AtDictionary text stop Ends)
behind_dict given path stop Ends text d gave read ends = inr (text, (gave, inr (d, (read, ends))))

at_named : {F : Type 0} (given : Reads F → Given) (path : Option (List ℕ)) (stop : Stop) (Ends Other : List ℕ → Type 0) → ((text : List ℕ) → Ends text → Other text)
    → AtNamed given path 64 stop Ends → AtNamed given path 64 stop Other
at_named given path stop Ends Other onward why = elim why [
  | inl unread ↦ inl unread
  | inr read ↦ (let behind = read.1 in inr (read.0, (behind.0, onward read.0 behind.1)))
]

pub at_texts : {F : Type 0} (given : Reads F → Given) (logic : List ℕ) (messages order : Option (List ℕ)) (stop : Stop) (Ends : List ℕ → List ℕ → List ℕ → Type 0)
    → StopsTexts given logic messages order stop → AtTexts given logic messages order stop Ends
at_texts given logic messages order stop Ends why = elim why [
  | inl unread ↦ inl unread
  | inr read ↦ (let behind = read.1 in inr (read.0, (behind.0, at_named given messages stop (λ m. AtNamed given order 64 stop (λ o. ⊥)) (λ m. AtNamed given order 64 stop (λ o. Ends read.0 m o)) (λ m. at_named given order stop (λ o. ⊥) (λ o. Ends read.0 m o) (λ o none. absurd none)) behind.1)))
]
