-- A call holds another value of a variable, and a world another value of a global.
use Rattle.std.proofs.Common.{◌≡◌, ℕ, zero, suc, ◌<◌, List, [], ◌∷◌, length, Option, Some, refl, sym, ap, ◌∙◌, arith}
use Rattle.std.specs.Prelude.{slice_get, slice_set}
use Rattle.std.proofs.lemmas.Option.{same_Some, slice_get_within}
use Rattle.std.proofs.lemmas.List.{length-set}
use Rattle.cse_value.specs.declared.number.Num.{Num}
use Rattle.cse_case.specs.Case.{CaseText}
use Rattle.cse_decks.specs.declared.global.GlobalValue.TheVariants as values
use Rattle.cse_decks.specs.Store.{variable_of, with_global}
use Rattle.cse_decks.proofs.StoreLaws.{length-put_text}
use Rattle.cse_image_parts.specs.Image.{RoutineLists}
use Rattle.cse_code_typing.specs.declared.kind.Kind.{Kind}
use Rattle.cse_code_typing.specs.declared.kind.Kind.TheVariants as kind
use Rattle.cse_code_typing.specs.Signature.{local_at}
use Rattle.cse_verify.specs.Verified.{VerifiedProgram}
use Rattle.cse_logic_tree.specs.declared.tree.Variable.{Variable}
use Rattle.cse_logic_tree.specs.declared.tree.Variable.TheVariants as v
use Rattle.cse_compile.specs.Setting.{Setting, result_local}
use Rattle.cse_meaning.specs.Fit.{IsNumberVariable}
use Rattle.cse_steps.specs.Cell.{Cell, Number}
use Rattle.cse_steps.specs.State.{World, in_store}
use Rattle.cse_steps.specs.Fits.{FitsWorld}
use Rattle.cse_steps.proofs.Lists.{map_set}
use Rattle.cse_value.specs.Field.{put_text}
use Rattle.cse_image_parts.specs.declared.entries.GlobalVariable.{GlobalVariable}
use Rattle.cse_image_parts.specs.declared.entries.GlobalKind.TheVariants as globals
use Rattle.cse_meaning.specs.Setting.{Context, Locals}
use Rattle.cse_meaning.specs.Writing.{local_set, global_set}
use Rattle.cse_meaning.specs.Runs.{Spot}
use Rattle.cse_meaning.specs.Laid.{IsLaid, place_in}
use Rattle.cse_meaning.specs.Plain.{IsOwn}
use Rattle.cse_meaning.specs.Acts.{holding}
use Rattle.cse_meaning.proofs.Facts.{global_number}

-- ---- lists with another element

-- cells that hold the numbers of a list hold them still where both have another one at the same place
held : (xs : List Num) (ys : List Cell) (k j : ℕ) (x z : Num) → ((j : ℕ) (z : Num) → slice_get xs j ≡ Some z → slice_get ys j ≡ Some (Number z))
    → slice_get (slice_set xs k x) j ≡ Some z → slice_get (slice_set ys k (Number x)) j ≡ Some (Number z)
held [] ys k j x z hold h = cc
held (a ∷ xs) [] k j x z hold h = let e = hold 0 a refl in cc
held (a ∷ xs) (b ∷ ys) zero zero x z hold h = ap (λ n. Some (Number n)) (same_Some x z h)
held (a ∷ xs) (b ∷ ys) zero (suc j) x z hold h = hold (suc j) z h
held (a ∷ xs) (b ∷ ys) (suc k) zero x z hold h = hold 0 z h
held (a ∷ xs) (b ∷ ys) (suc k) (suc j) x z hold h = held xs ys k j x z (λ j z. hold (suc j) z) h

above : (ys : List Cell) (k j : ℕ) (x : Cell) → k < j → slice_get (slice_set ys k x) j ≡ slice_get ys j
above [] k j x h = refl
above (y ∷ ys) k zero x h = absurd (omega arith)
above (y ∷ ys) zero (suc j) x h = refl
above (y ∷ ys) (suc k) (suc j) x h = above ys k j x (omega arith)

pub beneath : (ys : List Cell) (k j : ℕ) (x : Cell) → j < k → slice_get (slice_set ys k x) j ≡ slice_get ys j
beneath [] k j x h = refl
beneath (y ∷ ys) zero j x h = absurd (omega arith)
beneath (y ∷ ys) (suc k) zero x h = refl
beneath (y ∷ ys) (suc k) (suc j) x h = beneath ys k j x (omega arith)

pub there : (ys : List Cell) (k : ℕ) (x old : Cell) → slice_get ys k ≡ Some old → slice_get (slice_set ys k x) k ≡ Some x
there [] k x old h = cc
there (y ∷ ys) zero x old h = refl
there (y ∷ ys) (suc k) x old h = there ys k x old h

-- a local that is a number is not the one that is an occurrence
no_number : (k : Kind) (of : ℕ) → Some k ≡ Some (kind.Occurrence of) → Some k ≡ Some kind.Number → ⊥
no_number k of a b = cc

beside : (r : RoutineLists) (ys : List Cell) (k of : ℕ) (x : Cell) → local_at r 0 ≡ Some (kind.Occurrence of) → local_at r k ≡ Some kind.Number → slice_get (slice_set ys k x) 0 ≡ slice_get ys 0
beside r ys zero of x a b = absurd (no_number (kind.Occurrence of) of refl (sym a ∙ b))
beside r ys (suc k) of x a b = beneath ys (suc k) 0 x (omega arith)

-- ---- the call

module _ (e : Setting) (s : Spot) (c : Context) (first : Option CaseText) (ls : Locals) (laid : IsLaid e s c first ls) where
  pub holds : (y : Variable) (x : Num) → IsOwn (length ls.parameters) y → IsNumberVariable (place_in e s c) y → IsLaid e (holding e s y x) c first (local_set y x ls)
  holds (v.Global g) x own fit = laid
  holds (v.Parameter k) x own fit = record {
    there = laid.there;
    dictionary = laid.dictionary;
    arrays = laid.arrays;
    records = laid.records;
    ambient = laid.ambient;
    parameters = λ j z h. held ls.parameters s.locals k j x z laid.parameters h;
    apart = (let a = laid.apart in omega (arith, length-set ls.parameters k x));
    result = λ h. (let a = laid.apart in above s.locals k (result_local e) (Number x) (omega arith)) ∙ laid.result h;
    event = λ of h. (beside s.routine s.locals k of (Number x) h fit ∙ (laid.event of h).0, (laid.event of h).1);
    loops = laid.loops;
  }
  holds v.Result x own fit = record {
    there = laid.there;
    dictionary = laid.dictionary;
    arrays = laid.arrays;
    records = laid.records;
    ambient = laid.ambient;
    parameters = λ j z h. (let a = laid.apart in let b = slice_get_within ls.parameters j z h in beneath s.locals (result_local e) j (Number x) (omega arith)) ∙ laid.parameters j z h;
    apart = laid.apart;
    result = λ h. there s.locals (result_local e) (Number x) (Number ls.result) (laid.result h);
    event = λ of h. (beside s.routine s.locals (result_local e) of (Number x) h fit ∙ (laid.event of h).0, (laid.event of h).1);
    loops = laid.loops;
  }

-- ---- the world

-- a global that is a number holds another one
pub global_fits : (program : VerifiedProgram) (first : Option CaseText) (w : World) (g : ℕ) (old x : Num) → FitsWorld program first w → slice_get w.store.globals g ≡ Some (values.Number old) → FitsWorld program first (in_store w (with_global w.store g (values.Number x)))
global_fits program first w g old x fits is = record {
  present = fits.present;
  occurrences = fits.occurrences;
  case_fits = fits.case_fits;
  dictionary = fits.dictionary;
  store = record { globals = map_set variable_of w.store.globals g (values.Number x) (values.Number old) is refl ∙ fits.store.globals; arrays = fits.store.arrays };
}

pub set_fits : (e : Setting) (s : Spot) (c : Context) (first : Option CaseText) (w : World) (y : Variable) (x : Num) → FitsWorld s.program first w → IsNumberVariable (place_in e s c) y → FitsWorld s.program first (global_set y x w)
set_fits e s c first w (v.Global g) x fits fit = let n = global_number s.program first w fits g fit in global_fits s.program first w g n.0 x fits n.1
set_fits e s c first w (v.Parameter k) x fits fit = fits
set_fits e s c first w v.Result x fits fit = fits

-- a global that is a text holds another one of its length
pub text_fits : (program : VerifiedProgram) (first : Option CaseText) (w : World) (g : ℕ) (old text : List ℕ) → FitsWorld program first w → slice_get w.store.globals g ≡ Some (values.Words (record { items = old }))
    → FitsWorld program first (in_store w (with_global w.store g (values.Words (record { items = put_text (length old) text }))))
text_fits program first w g old text fits is = record {
  present = fits.present;
  occurrences = fits.occurrences;
  case_fits = fits.case_fits;
  dictionary = fits.dictionary;
  store = record {
    globals = map_set variable_of w.store.globals g (values.Words (record { items = put_text (length old) text })) (values.Words (record { items = old })) is (ap (λ m. let x : GlobalVariable = record { kind = globals.Text; length = m } in x) (length-put_text (length old) text)) ∙ fits.store.globals;
    arrays = fits.store.arrays;
  };
}
