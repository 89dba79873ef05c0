-- What a call and a world that fit hold of what names stand for.
use Rattle.std.proofs.Common.{◌≡◌, ℕ, ◌<◌, false, List, length, Option, Some, None, refl, sym, ap, ◌∙◌}
use Rattle.std.specs.Prelude.{slice_get, option_map, unwrap_or, map}
use Rattle.std.specs.Option.{option_map_or}
use Rattle.std.proofs.lemmas.Option.{slice_get-map}
use Rattle.cse_lemmas.proofs.Lists.{slice_get_some}
use Rattle.cse_lemmas.proofs.Options.{some_from_is_some}
use Rattle.cse_value.specs.declared.number.Num.{Num}
use Rattle.cse_value.specs.declared.number.Num.TheVariants.{Undef}
use Rattle.cse_image_parts.specs.declared.entries.GlobalVariable.{GlobalVariable}
use Rattle.cse_case.specs.Case.{CaseText, places_of}
use Rattle.cse_decks.specs.declared.global.GlobalValue.{GlobalValue}
use Rattle.cse_decks.specs.declared.global.GlobalValue.TheVariants as values
use Rattle.cse_decks.specs.Store.{variable_of}
use Rattle.cse_code_typing.specs.declared.kind.Kind.TheVariants as kind
use Rattle.cse_code_typing.specs.Kinds.{global_kind}
use Rattle.cse_code_typing.specs.Order.{is_run}
use Rattle.cse_code_typing.specs.Signature.{global_at}
use Rattle.cse_verify.specs.Verified.{VerifiedProgram}
use Rattle.cse_compile.specs.Setting.{Setting}
use Rattle.cse_steps.specs.Cell.{Number}
use Rattle.cse_steps.specs.State.{World}
use Rattle.cse_steps.specs.Fits.{FitsWorld, occurrences_in}
use Rattle.cse_steps.proofs.Cells.{map_some}
use Rattle.cse_meaning.specs.Setting.{Context, Locals}
use Rattle.cse_meaning.specs.Reading.{many}
use Rattle.cse_meaning.specs.Runs.{Spot}
use Rattle.cse_meaning.specs.Laid.{IsLaid}

-- ---- globals

declared : (w : World) (globals : List GlobalVariable) (g : ℕ) (y : GlobalVariable) → map variable_of w.store.globals ≡ globals → slice_get globals g ≡ Some y → (x : GlobalValue) × (slice_get w.store.globals g ≡ Some x) × (variable_of x ≡ y)
declared w globals g y same there =
    map_some variable_of (slice_get w.store.globals g) y (sym (slice_get-map variable_of w.store.globals g) ∙ (ap (λ l. slice_get l g) same ∙ there))

as_number : (w : World) (g : ℕ) (x : GlobalValue) → slice_get w.store.globals g ≡ Some x → global_kind (variable_of x).kind ≡ kind.Number → (n : Num) × (slice_get w.store.globals g ≡ Some (values.Number n))
as_number w g (values.Number n) there e = (n, there)
as_number w g (values.Words t) there e = cc

as_text : (w : World) (g : ℕ) (x : GlobalValue) → slice_get w.store.globals g ≡ Some x → global_kind (variable_of x).kind ≡ kind.Text → (t : List ℕ) × (slice_get w.store.globals g ≡ Some (values.Words (record { items = t })))
as_text w g (values.Number n) there e = cc
as_text w g (values.Words t) there e = (t.items, there)

module _ (program : VerifiedProgram) (first : Option CaseText) (w : World) (fits : FitsWorld program first w) where
  pub global_number : (g : ℕ) → global_at program.image.lists g ≡ Some kind.Number → (n : Num) × (slice_get w.store.globals g ≡ Some (values.Number n))
  global_number g e =
      let y = map_some (λ (y : GlobalVariable). global_kind y.kind) (slice_get program.image.lists.globals g) kind.Number e in
      let x = declared w program.image.lists.globals g y.0 fits.store.globals y.1 in
      as_number w g x.0 x.1 (ap (λ (y : GlobalVariable). global_kind y.kind) x.2 ∙ y.2)

  pub global_text : (g : ℕ) → global_at program.image.lists g ≡ Some kind.Text → (t : List ℕ) × (slice_get w.store.globals g ≡ Some (values.Words (record { items = t })))
  global_text g e =
      let y = map_some (λ (y : GlobalVariable). global_kind y.kind) (slice_get program.image.lists.globals g) kind.Text e in
      let x = declared w program.image.lists.globals g y.0 fits.store.globals y.1 in
      as_text w g x.0 x.1 (ap (λ (y : GlobalVariable). global_kind y.kind) x.2 ∙ y.2)

-- ---- the case

-- the occurrences of a record, as the meaning counts them and as the first case has them
pub many_of : (w : World) (t : CaseText) (of : ℕ) → w.case ≡ Some t → many w of ≡ length (places_of t of)
many_of w t of is = ap (λ o. option_map_or (λ t. length (places_of t of)) o 0) is

pub as_first : (program : VerifiedProgram) (first : Option CaseText) (w : World) (t : CaseText) (of : ℕ) → FitsWorld program first w → w.case ≡ Some t → occurrences_in first of ≡ length (places_of t of)
as_first program first w t of fits is = sym (fits.occurrences of) ∙ ap (λ o. occurrences_in o of) is

-- with no case a record has none
occurrences_are : (o : Option CaseText) (of : ℕ) → option_map_or (λ t. length (places_of t of)) o 0 ≡ occurrences_in o of
occurrences_are None of = refl
occurrences_are (Some t) of = refl

pub many_first : (program : VerifiedProgram) (first : Option CaseText) (w : World) (of : ℕ) → FitsWorld program first w → many w of ≡ occurrences_in first of
many_first program first w of fits = occurrences_are w.case of ∙ fits.occurrences of

-- the table of a global, by what the store holds
pub table_of : (program : VerifiedProgram) (first : Option CaseText) (w : World) (g : ℕ) (x : GlobalValue) → FitsWorld program first w → slice_get w.store.globals g ≡ Some x → slice_get program.image.lists.globals g ≡ Some (variable_of x)
table_of program first w g x fits is = ap (λ l. slice_get l g) (sym fits.store.globals) ∙ (slice_get-map variable_of w.store.globals g ∙ ap (option_map variable_of) is)

-- ---- the call

module _ (e : Setting) (s : Spot) (c : Context) (first : Option CaseText) (ls : Locals) (laid : IsLaid e s c first ls) (w : World) (fits : FitsWorld s.program first w) where
  pub case_here : is_run s.routine.ambient ≡ false → (t : CaseText) × (w.case ≡ Some t)
  case_here h = some_from_is_some w.case (fits.present ∙ laid.ambient h)

  -- what a parameter or the result holds
  pub parameter_held : (k : ℕ) → k < length ls.parameters → slice_get s.locals k ≡ Some (Number (unwrap_or (slice_get ls.parameters k) Undef))
  parameter_held k h =
      let x = slice_get_some ls.parameters k h in
      laid.parameters k x.0 x.1 ∙ ap (λ o. Some (Number (unwrap_or o Undef))) (sym x.1)
