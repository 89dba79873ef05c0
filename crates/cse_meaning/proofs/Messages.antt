-- The arguments of a message on a stack.
use Rattle.std.proofs.Common.{◌≡◌, ℕ, ◌+◌, List, [], ◌∷◌, ◌++◌, length, map, reverse, Option, Some, refl, sym, ap, ◌∙◌, arith}
use Rattle.std.specs.Prelude.{slice_get, option_and_then}
use Rattle.std.proofs.lemmas.List.{append-nil}
use Rattle.cse_image_parts.specs.declared.instruction.Op.TheVariants as ops
use Rattle.cse_image_parts.specs.declared.placeholders.ArgumentKind.{ArgumentKind}
use Rattle.cse_image_parts.specs.declared.placeholders.ArgumentKind.TheVariants as arguments
use Rattle.cse_image_parts.specs.Image.{MessageLists}
use Rattle.cse_image_parts.specs.Placeholders.{message_kinds}
use Rattle.cse_report.specs.declared.argument.Arg.{Arg}
use Rattle.cse_report.specs.declared.argument.Arg.TheVariants as args
use Rattle.cse_case.specs.Case.{CaseText}
use Rattle.cse_code_typing.specs.declared.kind.Kind.{Kind}
use Rattle.cse_code_typing.specs.declared.kind.Kind.TheVariants as kind
use Rattle.cse_code_typing.specs.Kinds.{argument_kind}
use Rattle.cse_code_typing.specs.Code.{code_of}
use Rattle.cse_verify.specs.Verified.{VerifiedProgram}
use Rattle.cse_logic_tree.specs.Typed.{Argument, OfNumber, OfWords}
use Rattle.cse_compile.specs.Wide.{with_c}
use Rattle.cse_compile.specs.Setting.{Setting}
use Rattle.cse_compile.specs.Statements.{argument_size, argument_code, arguments_size, arguments_code}
use Rattle.cse_meaning.specs.Fit.{kind_of, ArgumentFits, ArgumentsFit}
use Rattle.cse_meaning.proofs.TypedBlocks.{argument_length}
use Rattle.cse_steps.specs.Cell.{Cell, Number, Words}
use Rattle.cse_steps.specs.State.{Call, World, with_given}
use Rattle.cse_steps.specs.Operands.{args_onto}
use Rattle.cse_steps.specs.Step.{acts, on}
use Rattle.cse_steps.specs.Fits.{FitsWorld}
use Rattle.cse_steps.specs.Laws.{RunsCompose}
use Rattle.cse_meaning.specs.Setting.{Context, Locals, Functions}
use Rattle.cse_meaning.specs.Statements.{argument_of, arguments_of}
use Rattle.cse_meaning.specs.Runs.{Goes, Spot, at, HasCode}
use Rattle.cse_meaning.specs.Laid.{IsLaid, KeepsRows, Gives, place_in}
use Rattle.cse_meaning.specs.Follows.{Follows}
use Rattle.cse_meaning.specs.Plain.{IsPlainArgument, ArePlainArguments}
use Rattle.cse_meaning.proofs.Reversed.{onto, in_reverse}
use Rattle.cse_meaning.proofs.Going.{left, stand_front, stand_back, stays, plain_at, named, then_goes}
use Rattle.cse_meaning.proofs.Simulation.{number_goes, words_goes}

abbrev pub cell_of_arg : Arg → Cell
cell_of_arg (args.Number x) = Number x
cell_of_arg (args.Words t) = Words t.items

-- put there one after the other
abbrev pub pushed_args : List Arg → List Cell → List Cell
pushed_args [] cells = cells
pushed_args (x ∷ xs) cells = pushed_args xs (cell_of_arg x ∷ cells)

abbrev IsOfKind : ArgumentKind → Arg → Type 0
IsOfKind arguments.Number (args.Number x) = Unit {0}
IsOfKind arguments.Text (args.Words t) = Unit {0}
IsOfKind _ _ = ⊥

abbrev AreOfKinds : List ArgumentKind → List Arg → Type 0
AreOfKinds [] [] = Unit {0}
AreOfKinds (k ∷ ks) (x ∷ xs) = IsOfKind k x × AreOfKinds ks xs
AreOfKinds _ _ = ⊥

-- one argument is taken
one_taken : (k : ArgumentKind) (x : Arg) (rest : List ArgumentKind) (cells : List Cell) (taken : List Arg) → IsOfKind k x → args_onto (k ∷ rest) (cell_of_arg x ∷ cells) taken ≡ args_onto rest cells (x ∷ taken)
one_taken arguments.Number (args.Number x) rest cells taken is = refl
one_taken arguments.Number (args.Words t) rest cells taken is = absurd is
one_taken arguments.Text (args.Number x) rest cells taken is = absurd is
one_taken arguments.Text (args.Words t) rest cells taken is = refl

taken_on : (ks rest : List ArgumentKind) (xs : List Arg) (cells : List Cell) (taken : List Arg) → AreOfKinds ks xs → args_onto (onto ks rest) (pushed_args xs cells) taken ≡ args_onto rest cells (xs ++ taken)
taken_on [] rest [] cells taken are = refl
taken_on [] rest (x ∷ xs) cells taken are = absurd are
taken_on (k ∷ ks) rest [] cells taken are = absurd are
taken_on (k ∷ ks) rest (x ∷ xs) cells taken are = taken_on ks (k ∷ rest) xs (cell_of_arg x ∷ cells) taken are.1 ∙ one_taken k x rest cells (xs ++ taken) are.0

all_taken : (ks : List ArgumentKind) (xs : List Arg) (cells : List Cell) → AreOfKinds ks xs → args_onto (reverse ks) (pushed_args xs cells) [] ≡ Some (xs, cells)
all_taken ks xs cells are =
    ap (λ l. args_onto l (pushed_args xs cells) []) (sym (in_reverse ks))
    ∙ (taken_on ks [] xs cells [] are
    ∙ ap (λ (l : List Arg). Some (l, cells)) (append-nil xs))

-- arguments on the stack
pub record PushedArgs (s : Spot) (first : Option CaseText) (p q : ℕ) (cells : List Cell) (w : World) (xs : List Arg) (next : World) : Type 0 where
  pub goes : Goes s.program (at s p cells w) (at s q (pushed_args xs cells) next)
  pub fits : FitsWorld s.program first next

abbrev first_kind : List Kind → Kind
first_kind [] = kind.Number
first_kind (k ∷ ks) = k

abbrev other_kinds : List Kind → List Kind
other_kinds [] = []
other_kinds (k ∷ ks) = ks

-- what is told changes nothing that has to fit
given_fits : (program : VerifiedProgram) (first : Option CaseText) (w : World) (k : ℕ) (xs : List Arg) → FitsWorld program first w → FitsWorld program first (with_given w k xs)
given_fits program first w k xs fits = record { present = fits.present; occurrences = fits.occurrences; case_fits = fits.case_fits; dictionary = fits.dictionary; store = fits.store }

module _ (compose : RunsCompose) (e : Setting) (s : Spot) (fn : Functions) (c : Context) (first : Option CaseText) (ls : Locals) (laid : IsLaid e s c first ls) (keeps : KeepsRows s.program.dictionary) (follows : Follows s.program first fn s.number) where
  argument_goes : (x : Argument) (p : ℕ) (cells : List Cell) (w : World) → FitsWorld s.program first w → IsPlainArgument (length ls.parameters) x → ArgumentFits (place_in e s c) x → HasCode s p (argument_code e p x)
      → Gives s first p (p + argument_size x) cells w (cell_of_arg (argument_of fn c x ls w).0) (argument_of fn c x ls w).1
  argument_goes (OfNumber x) p cells w fits plain fit has = number_goes compose e s fn c first ls laid keeps follows x p cells w fits plain fit has
  argument_goes (OfWords x) p cells w fits plain fit has = words_goes compose e s fn c first ls laid keeps follows x p cells w fits plain fit has

  arguments_go : (xs : List Argument) (p : ℕ) (cells : List Cell) (w : World) → FitsWorld s.program first w → ArePlainArguments (length ls.parameters) xs → ArgumentsFit (place_in e s c) xs → HasCode s p (arguments_code e p xs)
      → PushedArgs s first p (p + arguments_size xs) cells w (arguments_of fn c xs ls w).0 (arguments_of fn c xs ls w).1
  unfolding arguments_size arguments_code arguments_of
  arguments_go [] p cells w fits plain fit has =
      let z : p ≡ p + 0 = omega arith in
      record { goes = named compose s laid.there _ _ _ _ _ z (stays s.program _ _ refl); fits = fits }
  arguments_go (x ∷ xs) p cells w fits plain fit has =
      let y = argument_of fn c x ls w in
      let g = argument_goes x p cells w fits plain.0 fit.0 (stand_front s.program.image.lists (code_of s.program.image s.number) p (argument_code e p x) _ has) in
      let b = stand_back s.program.image.lists (code_of s.program.image s.number) p (argument_size x) (argument_code e p x) _ (argument_length e p x) has in
      let h = arguments_go xs (p + argument_size x) (cell_of_arg y.0 ∷ cells) y.1 g.fits plain.1 fit.1 b in
      let z : p + argument_size x + arguments_size xs ≡ p + (argument_size x + arguments_size xs) = omega arith in
      record { goes = named compose s laid.there _ _ _ _ _ z (then_goes compose s laid.there _ _ _ g.goes h.goes); fits = h.fits }

  is_of_kind : (k : ArgumentKind) (x : Argument) (w : World) → argument_kind k ≡ kind_of x → IsOfKind k (argument_of fn c x ls w).0
  is_of_kind arguments.Number (OfNumber x) w e = tt
  is_of_kind arguments.Number (OfWords x) w e = cc
  is_of_kind arguments.Text (OfNumber x) w e = cc
  is_of_kind arguments.Text (OfWords x) w e = tt

  are_of_kinds : (ks : List ArgumentKind) (xs : List Argument) (w : World) → map argument_kind ks ≡ map kind_of xs → AreOfKinds ks (arguments_of fn c xs ls w).0
  unfolding arguments_of
  are_of_kinds [] [] w e = tt
  are_of_kinds [] (x ∷ xs) w e = cc
  are_of_kinds (k ∷ ks) [] w e = cc
  are_of_kinds (k ∷ ks) (x ∷ xs) w e = (is_of_kind k x w (ap first_kind e), are_of_kinds ks xs (argument_of fn c x ls w).1 (ap other_kinds e))

  -- a message is told with its arguments
  pub message_goes : (index p : ℕ) (xs : List Argument) (m : MessageLists) (w : World) → FitsWorld s.program first w → ArePlainArguments (length ls.parameters) xs → ArgumentsFit (place_in e s c) xs → slice_get s.program.image.lists.messages index ≡ Some m
      → map argument_kind (message_kinds m.text) ≡ map kind_of xs → HasCode s p (arguments_code e p xs) → HasCode s (p + arguments_size xs) (with_c ops.Message index ∷ [])
      → PushedArgs s first p (p + arguments_size xs + 1) [] w [] (with_given (arguments_of fn c xs ls w).1 index (arguments_of fn c xs ls w).0)
  unfolding acts
  message_goes index p xs m w fits plain fit there kinds has last =
      let ys = (arguments_of fn c xs ls w).0 in
      let v = (arguments_of fn c xs ls w).1 in
      let q = p + arguments_size xs in
      let g = arguments_go xs p [] w fits plain fit has in
      let k : Call = record { routine = s.number; place = q; locals = s.locals; cells = pushed_args ys []; opens = s.opens } in
      record {
        goes = then_goes compose s laid.there _ _ _ g.goes
            (plain_at compose s laid.there q ops.Message 0 0 index (pushed_args ys []) v _ last
            (ap (λ (o : Option MessageLists). left s.below (option_and_then (λ (m : MessageLists). option_and_then (λ (r : List Arg × List Cell). on k (with_given v index r.0) r.1) (args_onto (reverse (message_kinds m.text)) (pushed_args ys []) [])) o)) there
            ∙ ap (λ (o : Option (List Arg × List Cell)). left s.below (option_and_then (λ (r : List Arg × List Cell). on k (with_given v index r.0) r.1) o)) (all_taken (message_kinds m.text) ys [] (are_of_kinds (message_kinds m.text) xs w kinds))));
        fits = given_fits s.program first v index ys g.fits;
      }
