-- The code of assignments and of conditions does what they mean.
use Rattle.std.proofs.Common.{◌≡◌, ℕ, ◌+◌, List, [], ◌∷◌, length, Option, Some, refl, sym, ap, ◌∙◌, subst, arith}
use Rattle.std.specs.Option.{option_map_or}
use Rattle.cse_value.specs.Field.{put_text}
use Rattle.std.specs.Prelude.{slice_get, slice_set, option_and_then, option_map}
use Rattle.cse_value.specs.declared.number.Num.{Num}
use Rattle.cse_case.specs.Case.{CaseText}
use Rattle.cse_image_parts.specs.declared.instruction.Op.TheVariants as ops
use Rattle.cse_image_parts.specs.declared.entries.GlobalVariable.{GlobalVariable}
use Rattle.cse_image_parts.specs.declared.entries.GlobalKind.{GlobalKind}
use Rattle.cse_image_parts.specs.declared.entries.GlobalKind.TheVariants as globals
use Rattle.cse_image_parts.specs.declared.entries.Local.{Local}
use Rattle.cse_image_parts.specs.declared.entries.LocalKind.{LocalKind}
use Rattle.cse_image_parts.specs.declared.entries.LocalKind.TheVariants as locals
use Rattle.cse_code_typing.specs.Kinds.{global_kind, local_kind, kind_by}
use Rattle.cse_code_typing.specs.declared.kind.Kind.TheVariants as kind
use Rattle.cse_code_typing.specs.Signature.{local_at}
use Rattle.cse_logic_tree.specs.declared.tree.Variable.{Variable}
use Rattle.cse_logic_tree.specs.declared.tree.Variable.TheVariants as v
use Rattle.cse_compile.specs.Setting.{Setting, result_local}
use Rattle.cse_compile.specs.Wide.{with_c}
use Rattle.cse_compile.specs.Expressions.{store, number_size, number_code}
use Rattle.cse_compile.specs.Statements.{statement_size, statement_code}
use Rattle.cse_meaning.specs.Fit.{IsNumberVariable}
use Rattle.cse_meaning.proofs.Lengths.{number_length}
use Rattle.cse_code_typing.specs.Code.{code_of}
use Rattle.cse_decks.specs.declared.global.GlobalValue.{GlobalValue}
use Rattle.cse_decks.specs.declared.global.GlobalValue.TheVariants as values
use Rattle.cse_decks.specs.Store.{with_global, rewritten}
use Rattle.cse_steps.specs.Cell.{Cell, Number, Words}
use Rattle.cse_steps.specs.State.{Call, World, in_store}
use Rattle.cse_steps.specs.Operands.{kept_by_global, kept_by_local}
use Rattle.cse_steps.specs.Step.{acts, on, stored_local}
use Rattle.cse_steps.specs.Fits.{FitsWorld}
use Rattle.cse_steps.specs.Laws.{RunsCompose}
use Rattle.cse_steps.proofs.Cells.{map_some}
use Rattle.cse_meaning.specs.Setting.{Context}
use Rattle.cse_meaning.specs.Expressions.{number_of}
use Rattle.cse_meaning.specs.Writing.{global_set, text_set}
use Rattle.cse_meaning.specs.Statements.{does}
use Rattle.cse_meaning.specs.Runs.{Goes, Spot, at, IsThere, HasCode}
use Rattle.cse_meaning.specs.Laid.{place_in}
use Rattle.cse_meaning.specs.Acts.{holding, AssignmentsGo, ConditionsGo}
use Rattle.cse_meaning.proofs.Facts.{table_of}
use Rattle.cse_meaning.proofs.Going.{left, joined, stand_front, stand_back, plain_at}
use Rattle.cse_meaning.proofs.Simulation.{number_goes}
use Rattle.cse_meaning.proofs.Held.{holds, set_fits}

-- a variable that is a number keeps one
kept_global : (k : GlobalKind) (n : ℕ) (x : Num) → global_kind k ≡ kind.Number → kept_by_global k n (Number x) ≡ Some (values.Number x)
kept_global globals.Number n x e = refl
kept_global globals.Text n x e = cc

kept_local : (k : LocalKind) (owner n : ℕ) (x : Num) → kind_by k owner ≡ kind.Number → kept_by_local k n (Number x) ≡ Some (Number x)
kept_local locals.Number owner n x e = refl
kept_local locals.Text owner n x e = cc
kept_local locals.Occurrence owner n x e = cc

module _ (compose : RunsCompose) (e : Setting) (s : Spot) (c : Context) (is_there : IsThere s) where
  kept_goes : (p k : ℕ) (x : Num) (w : World) → local_at s.routine k ≡ Some kind.Number → HasCode s p (with_c ops.StoreLocal k ∷ []) → Goes s.program (at s p (Number x ∷ []) w) (at (holding e s (v.Parameter k) x) (p + 1) [] w)
  unfolding acts
  kept_goes p k x w is has =
      let c : Call = record { routine = s.number; place = p; locals = s.locals; cells = Number x ∷ []; opens = s.opens } in
      let l = map_some local_kind (slice_get s.routine.locals k) kind.Number is in
      plain_at compose s is_there p ops.StoreLocal 0 0 k (Number x ∷ []) w _ has
      (ap (λ (y : Option Local). left s.below (stored_local c w k y (Number x ∷ []))) l.1
      ∙ ap (λ (o : Option Cell). left s.below (option_map (λ y. (record c { place = c.place + 1; cells = []; locals = slice_set c.locals k y }, w)) o)) (kept_local l.0.kind l.0.owner l.0.length x l.2))

  pub set_goes : (y : Variable) (p : ℕ) (x : Num) (w : World) → IsNumberVariable (place_in e s c) y → HasCode s p (store e y ∷ []) → Goes s.program (at s p (Number x ∷ []) w) (at (holding e s y x) (p + 1) [] (global_set y x w))
  unfolding acts
  set_goes (v.Global g) p x w is has =
      let c : Call = record { routine = s.number; place = p; locals = s.locals; cells = Number x ∷ []; opens = s.opens } in
      let l = map_some (λ (y : GlobalVariable). global_kind y.kind) (slice_get s.program.image.lists.globals g) kind.Number is in
      plain_at compose s is_there p ops.StoreGlobal 0 0 g (Number x ∷ []) w _ has
      (ap (λ (y : Option GlobalVariable). left s.below (option_and_then (λ (y : GlobalVariable). option_and_then (λ v. on c (in_store w (with_global w.store g v)) []) (kept_by_global y.kind y.length (Number x))) y)) l.1
      ∙ ap (λ (o : Option GlobalValue). left s.below (option_and_then (λ v. on c (in_store w (with_global w.store g v)) []) o)) (kept_global l.0.kind l.0.length x l.2))
  set_goes (v.Parameter k) p x w is has = kept_goes p k x w is has
  set_goes v.Result p x w is has = kept_goes p (result_local e) x w is has

-- a text into a global, cut or padded to its length
pub text_put : (compose : RunsCompose) (s : Spot) (is_there : IsThere s) (first : Option CaseText) (g p : ℕ) (text old : List ℕ) (w : World) → FitsWorld s.program first w → slice_get w.store.globals g ≡ Some (values.Words (record { items = old }))
    → HasCode s p (with_c ops.StoreGlobal g ∷ []) → Goes s.program (at s p (Words text ∷ []) w) (at s (p + 1) [] (text_set g text w))
unfolding acts
text_put compose s is_there first g p text old w fits is has =
    let c : Call = record { routine = s.number; place = p; locals = s.locals; cells = Words text ∷ []; opens = s.opens } in
    let new : GlobalValue = values.Words (record { items = put_text (length old) text }) in
    subst (λ u. Goes s.program (at s p (Words text ∷ []) w) (at s (p + 1) [] u)) (sym (ap (λ o. option_map_or (λ before. in_store w (with_global w.store g (rewritten text before))) o w) is))
    (plain_at compose s is_there p ops.StoreGlobal 0 0 g (Words text ∷ []) w _ has
    (ap (λ (y : Option GlobalVariable). left s.below (option_and_then (λ (y : GlobalVariable). option_and_then (λ v. on c (in_store w (with_global w.store g v)) []) (kept_by_global y.kind y.length (Words text))) y)) (table_of s.program first w g (values.Words (record { items = old })) fits is)))

-- the program is the same
same_program : (e : Setting) (s : Spot) (y : Variable) (n : Num) (first : Option CaseText) (w : World) → FitsWorld s.program first w → FitsWorld (holding e s y n).program first w
same_program e s (v.Global g) n first w fits = fits
same_program e s (v.Parameter k) n first w fits = fits
same_program e s v.Result n first w fits = fits

pub assigned : RunsCompose → AssignmentsGo
unfolding statement_size statement_code does
assigned compose e s fn c first ls l name y x p w laid keeps follows fits own plain is fit has =
    let n = (number_of fn c x ls w).0 in
    let w1 = (number_of fn c x ls w).1 in
    let q = p + number_size x in
    let g = number_goes compose e s fn c first ls laid keeps follows x p [] w fits plain fit (stand_front s.program.image.lists (code_of s.program.image s.number) p (number_code e p x) _ has) in
    let h = set_goes compose e s c laid.there y q n w1 is (stand_back s.program.image.lists (code_of s.program.image s.number) p (number_size x) (number_code e p x) _ (number_length e p x) has) in
    let z : q + 1 ≡ p + (number_size x + 1) = omega arith in
    record {
      goes = subst (λ q. Goes s.program (at s p [] w) (at (holding e s y n) q [] (global_set y n w1))) z (joined compose s.program _ _ _ g.goes h);
      laid = holds e s c first ls laid y n own is;
      fits = same_program e s y n first (global_set y n w1) (set_fits e s c first w1 y n g.fits is);
    }

pub decided : RunsCompose → ConditionsGo
unfolding acts
decided compose e s fn c first ls x k p w laid keeps follows fits plain fit has =
    let n = (number_of fn c x ls w).0 in
    let w1 = (number_of fn c x ls w).1 in
    let q = p + number_size x in
    let g = number_goes compose e s fn c first ls laid keeps follows x p [] w fits plain fit (stand_front s.program.image.lists (code_of s.program.image s.number) p (number_code e p x) _ has) in
    let b = stand_back s.program.image.lists (code_of s.program.image s.number) p (number_size x) (number_code e p x) _ (number_length e p x) has in
    record {
      goes = joined compose s.program _ _ _ g.goes (plain_at compose s laid.there q ops.JumpUnless 0 0 k (Number n ∷ []) w1 _ b refl);
      laid = laid;
      fits = g.fits;
    }
