-- The code of statements leads where they end.
use Rattle.std.proofs.Common.{◌≡◌, ℕ, zero, suc, ◌+◌, Bool, true, List, [], ◌∷◌, ◌++◌, length, Option, Some, None, refl, sym, ap, ◌∙◌, subst, arith}
use Rattle.std.specs.Prelude.{is_some, take, slice_get, if◌then◌else◌, ◌==◌}
use Rattle.std.specs.Option.{option_map_or}
use Rattle.std.proofs.lemmas.Bool.{eq-eqb}
use Rattle.cse_value.specs.declared.number.Num.TheVariants.{Whole}
use Rattle.cse_image_parts.specs.declared.instruction.Op.TheVariants as ops
use Rattle.cse_case.specs.Case.{CaseText}
use Rattle.cse_dict.specs.Sound.{IsSound}
use Rattle.cse_code_typing.specs.Code.{code_of}
use Rattle.cse_code_typing.specs.Signature.{global_at}
use Rattle.cse_code_typing.specs.declared.kind.Kind.TheVariants as kind
use Rattle.cse_syntax_tree.specs.declared.tree.Jump.{Jump}
use Rattle.cse_syntax_tree.specs.declared.tree.Jump.TheVariants as j
use Rattle.cse_logic_tree.specs.declared.tree.Field.{Field}
use Rattle.cse_logic_tree.specs.Typed as tree
use Rattle.cse_logic_tree.specs.Typed.{Limit, Fixed, Counted, Counting, Which, Statement, Statements, Arms}
use Rattle.cse_logic_tree.specs.Typed.{Empty, Set, SetText, SetItem, SetTextItem, SetCell, CallOf, If, For, Do, Jump', Impute, PutDeck, ErrMsg, no_statement, statement_and, no_arm, else_of, arm}
use Rattle.cse_compile.specs.Wide as wide
use Rattle.cse_compile.specs.Wide.{pops, Wide, bare, with_a, with_c, jump, jump_size, jump_over}
use Rattle.cse_compile.specs.Setting.{Setting}
use Rattle.cse_compile.specs.declared.setting.Loop.{Loop}
use Rattle.cse_compile.specs.Expressions.{deepest, picks_size, picks_code, count, behind, indexes_size, indexes_code, number_size, number_code, words_size, words_code, numbers_size, numbers_code}
use Rattle.cse_compile.specs.Statements.{turn_limit, turns_size, head_size, head_code, step_code, drops_size, drops_code, arguments_size, arguments_code, jump_code, which_size, which_code, front_size, guard_size, loop_to, statement_size, statement_code, block_size, block_code, arms_size, arms_code}
use Rattle.cse_meaning.specs.Fit.{IsDeck, IsArray, IsMessage, ArgumentsFit, IsExit, JumpFits, IsNumberField, IsTextField, IsFunction, WhichFits, WordsFit, NumbersFit, NumberFits, StatementFits, BlockFits, ArmsFit}
use Rattle.cse_meaning.proofs.Lengths.{picks_length, indexes_length, number_length, words_length, numbers_length}
use Rattle.cse_meaning.proofs.TypedBlocks.{head_length, arguments_length, which_length, statement_length, block_length}
use Rattle.cse_steps.specs.Cell.{Cell, Number, Occurrence}
use Rattle.cse_steps.specs.State.{Open, Call, World, in_store, with_given}
use Rattle.cse_image_parts.specs.Image.{ArrayLists}
use Rattle.cse_steps.proofs.Calls.{case_for_callee}
use Rattle.cse_decks.specs.Store.{with_global, rewritten}
use Rattle.cse_syntax_tree.specs.Tree.{Spelling}
use Rattle.cse_steps.specs.Operands.{is_within, popped}
use Rattle.cse_steps.specs.Step.{acts, broken, ends_at}
use Rattle.cse_steps.specs.Fits.{FitsWorld}
use Rattle.cse_steps.specs.Laws.{RunsCompose}
use Rattle.cse_meaning.specs.Setting.{Context, Locals, Functions}
use Rattle.cse_meaning.specs.Reading as reading
use Rattle.cse_meaning.specs.Reading.{many, sizes_of, deck_place, variable}
use Rattle.cse_meaning.proofs.Turns.{as_many_turns, limit_may, limit_goes, turns_go}
use Rattle.cse_meaning.proofs.Decks.{picks_go}
use Rattle.cse_logic_tree.specs.declared.tree.Pick.{Pick}
use Rattle.cse_meaning.specs.Writing.{cell_set, text_set, local_set, global_set, item_set, text_item_set, imputed}
use Rattle.cse_meaning.specs.Expressions.{number_of, words_of, numbers_of, indexes_of, and_then}
use Rattle.cse_meaning.specs.Statements.{limit, turns as meant_turns, arguments_of, jumped, Flow, Fell, Broke, then_do, which_of, put_at, does, all_do, arms_do}
use Rattle.cse_meaning.specs.Runs.{Spot, HasCode}
use Rattle.cse_meaning.specs.Laid.{IsLaid, KeepsRows, place_in}
use Rattle.cse_meaning.specs.Follows.{Follows}
use Rattle.cse_meaning.specs.Plain.{IsOwn, IsPlain, ArePlain, EachPlain, ArePlainArguments, IsPlainPlace, IsPlainStatement, IsPlainBlock, ArePlainArms}
use Rattle.cse_meaning.specs.Lands.{Around, IsInside, Lands, StatementsLand}
use Rattle.cse_meaning.proofs.Facts.{many_first, global_text}
use Rattle.cse_code_typing.specs.Order.{is_run}
use Rattle.cse_meaning.proofs.Going.{left, joined, stays, plain_at, named, then_goes}
use Rattle.cse_meaning.proofs.Rows.{keeps_rows}
use Rattle.cse_meaning.proofs.Arrays as Arrays
use Rattle.cse_meaning.proofs.Arrays.{LedBy, on_top, stacked, sizes_are, size_is, behind_is, cell_put, cell_fits}
use Rattle.cse_meaning.proofs.Messages.{message_goes}
use Rattle.cse_meaning.proofs.Arguments.{call_goes}
use Rattle.cse_meaning.proofs.Simulation.{are_numbers, number_goes, words_goes, numbers_go, indexes_go}
use Rattle.cse_meaning.proofs.Puts.{which_goes, item_put, item_imputed, text_item_put}
use Rattle.cse_meaning.proofs.Held.{set_fits, text_fits}
use Rattle.cse_meaning.proofs.Assigned.{text_put, assigned}
use Rattle.cse_meaning.proofs.Landing.{front_of, back_of, then_lands, renamed, fell, set_lands, plain_here, put_lands, exits, laid_without, variable_set, jump_over_length, jumps_over, guarded_land}
use Rattle.cse_meaning.proofs.Loops.{bracket_of, counted_bracket, enters, limit_after, counted_from}

module _ (compose : RunsCompose) (e : Setting) (s0 : Spot) (fn : Functions) (c0 : Context) (first : Option CaseText) (n : ℕ) (sound : IsSound s0.program.dictionary) (keeps : KeepsRows s0.program.dictionary) (follows : Follows s0.program first fn s0.number) where
  abbrev spot : List Cell → List Open → Spot
  spot locals opens = record s0 { locals = locals; opens = opens }

  abbrev turns : List (ℕ × ℕ) → Context
  turns loops = record c0 { loops = loops }

  abbrev Led : List Cell → List Open → List (ℕ × ℕ) → Loop → Around → ℕ → ℕ → World → Flow → Type 0
  Led L O K l a p q w f = Lands e (spot L O) (turns K) first n l a p q w f

  -- ---- all of them

  -- with other locals the loop is still open
  inside_too : (L M : List Cell) (O : List Open) (l : Loop) (a : Around) → IsInside (spot L O) first l a → IsInside (spot M O) first l a
  inside_too L M O l a h = record { around = h.around; bracket = h.bracket; is = h.is; ends = h.ends; loops = h.loops }

  module _ (exit : IsExit (place_in e s0 c0) e.result_at) where
    -- ---- jumps

    break_lands : (L : List Cell) (O : List Open) (K : List (ℕ × ℕ)) (ls : Locals) (l : Loop) (a : Around) (p q : ℕ) (w : World) → IsLaid e (spot L O) (turns K) first ls → length ls.parameters ≡ n → FitsWorld s0.program first w → IsInside (spot L O) first l a
        → HasCode s0 p (with_c ops.Break l.end ∷ []) → Led L O K l a p q w (Broke ls w)
    unfolding acts
    break_lands L O K ls l a p q w laid many_are fits inside has =
        let c : Call = record { routine = s0.number; place = p; locals = L; cells = []; opens = O } in (
          inside.around,
          record {
            locals = L;
            goes = plain_at compose (spot L O) laid.there p ops.Break 0 0 l.end [] w _ has
                (ap (λ O. left s0.below (broken (code_of s0.program.image s0.number) c w l.end O)) inside.is
                ∙ ap (λ b. left s0.below (if b then Some (record c { place = l.end + 1; opens = a.opens }, w) else None)) inside.ends);
            laid = laid_without compose e s0 fn c0 first n sound keeps follows L O a.opens K a.loops ls laid inside.loops;
            many = many_are;
            fits = fits;
          },
        )

    jump_lands : (x : Jump) (room : ℕ) (inside : Bool) (L : List Cell) (O : List Open) (K : List (ℕ × ℕ)) (ls : Locals) (l : Loop) (a : Around) (p q : ℕ) (w : World) → IsLaid e (spot L O) (turns K) first ls → length ls.parameters ≡ n → FitsWorld s0.program first w → (inside ≡ true → IsInside (spot L O) first l a)
        → JumpFits inside x → HasCode s0 p (jump_code e l x) → Led L O K l a p q w (jumped x ls w)
    unfolding acts
    jump_lands j.Break room inside L O K ls l a p q w laid many_are fits around fit has = break_lands L O K ls l a p q w laid many_are fits (around fit) has
    jump_lands j.Next room inside L O K ls l a p q w laid many_are fits around fit has =
        ((around fit).around, record { locals = L; goes = plain_at compose (spot L O) laid.there p ops.Jump 0 0 l.turn_end [] w _ has refl; laid = laid; many = many_are; fits = fits })
    jump_lands j.Exit room inside L O K ls l a p q w laid many_are fits around fit has = exits compose e s0 fn c0 first n sound keeps follows e.result_at refl exit L O K ls p w laid fits has

    -- ---- a value into an item

    module _ (L : List Cell) (O : List Open) (K : List (ℕ × ℕ)) (ls : Locals) (l : Loop) (a : Around) (laid : IsLaid e (spot L O) (turns K) first ls) (many_are : length ls.parameters ≡ n) where
      -- an occurrence is there in each world that fits
      still_within : (of o : ℕ) (v u : World) → FitsWorld s0.program first v → FitsWorld s0.program first u → is_within (many v of) o ≡ true → is_within (many u of) o ≡ true
      still_within of o v u f g h = subst (λ n. is_within n o ≡ true) (many_first s0.program first v of f ∙ sym (many_first s0.program first u of g)) h

      item_lands : (f : Field) (which : Which) (x : tree.Number) (p : ℕ) (w : World) → FitsWorld s0.program first w → IsPlainPlace n which → IsPlain n x → IsNumberField (place_in e s0 (turns K)) f → WhichFits (place_in e s0 (turns K)) f.owner which → NumberFits (place_in e s0 (turns K)) x
          → HasCode s0 p (which_code e f.owner (p + (which_size which + (number_size x + 1))) p which ++ (number_code e (p + which_size which) x ++ with_c ops.StoreNumber f.item ∷ []))
          → Led L O K l a p (p + (which_size which + (number_size x + 1))) w (Fell ls (put_at (which_of fn (turns K) f.owner which ls w).0 (which_of fn (turns K) f.owner which ls w).1 (number_of fn (turns K) x ls) (item_set f)))
      item_lands f which x p w fits plain plain_x field fit fit_x has =
          let ws = which_size which in
          let wc = which_code e f.owner (p + (ws + (number_size x + 1))) p which in
          let r = which_of fn (turns K) f.owner which ls w in
          let g = which_goes compose e (spot L O) fn (turns K) first ls laid keeps follows f.owner (p + (ws + (number_size x + 1))) p which w fits field.0 (subst (λ n. IsPlainPlace n which) (sym many_are) plain) fit (front_of compose e s0 fn c0 first n sound keeps follows p wc _ has) in
          let b = back_of compose e s0 fn c0 first n sound keeps follows p ws wc _ (which_length e f.owner (p + (ws + (number_size x + 1))) p which) has in
          put_lands compose e s0 fn c0 first n sound keeps follows f.owner (p + (ws + (number_size x + 1))) p (p + ws) (p + (ws + (number_size x + 1))) r.0 (number_of fn (turns K) x ls) (item_set f) L O K ls l a w r.1 laid many_are g.fits g.goes refl
          (λ o h.
          let u = number_of fn (turns K) x ls r.1 in
          let h1 = number_goes compose e (spot L O) fn (turns K) first ls laid keeps follows x (p + ws) (Occurrence o f.owner ∷ []) r.1 g.fits (plain_here compose e s0 fn c0 first n sound keeps follows L O K ls laid many_are x plain_x) fit_x (front_of compose e s0 fn c0 first n sound keeps follows (p + ws) (number_code e (p + ws) x) _ b) in
          let i = item_put compose e (spot L O) (turns K) first ls laid sound f o (p + ws + number_size x) u.0 u.1 h1.fits field.0 field.1 (still_within f.owner o r.1 u.1 g.fits h1.fits h) (back_of compose e s0 fn c0 first n sound keeps follows (p + ws) (number_size x) (number_code e (p + ws) x) _ (number_length e (p + ws) x) b) in
          let z : p + ws + number_size x + 1 ≡ p + (ws + (number_size x + 1)) = omega arith in
          record { goes = named compose (spot L O) laid.there _ _ _ _ _ z (then_goes compose (spot L O) laid.there _ _ _ h1.goes i.goes); fits = i.fits })

      imputed_lands : (f : Field) (which : Which) (x : tree.Number) (p : ℕ) (w : World) → FitsWorld s0.program first w → IsPlainPlace n which → IsPlain n x → IsNumberField (place_in e s0 (turns K)) f → WhichFits (place_in e s0 (turns K)) f.owner which → NumberFits (place_in e s0 (turns K)) x
          → HasCode s0 p (which_code e f.owner (p + (which_size which + (number_size x + 1))) p which ++ (number_code e (p + which_size which) x ++ with_c ops.Impute f.item ∷ []))
          → Led L O K l a p (p + (which_size which + (number_size x + 1))) w (Fell ls (put_at (which_of fn (turns K) f.owner which ls w).0 (which_of fn (turns K) f.owner which ls w).1 (number_of fn (turns K) x ls) (imputed f)))
      imputed_lands f which x p w fits plain plain_x field fit fit_x has =
          let ws = which_size which in
          let wc = which_code e f.owner (p + (ws + (number_size x + 1))) p which in
          let r = which_of fn (turns K) f.owner which ls w in
          let g = which_goes compose e (spot L O) fn (turns K) first ls laid keeps follows f.owner (p + (ws + (number_size x + 1))) p which w fits field.0 (subst (λ n. IsPlainPlace n which) (sym many_are) plain) fit (front_of compose e s0 fn c0 first n sound keeps follows p wc _ has) in
          let b = back_of compose e s0 fn c0 first n sound keeps follows p ws wc _ (which_length e f.owner (p + (ws + (number_size x + 1))) p which) has in
          put_lands compose e s0 fn c0 first n sound keeps follows f.owner (p + (ws + (number_size x + 1))) p (p + ws) (p + (ws + (number_size x + 1))) r.0 (number_of fn (turns K) x ls) (imputed f) L O K ls l a w r.1 laid many_are g.fits g.goes refl
          (λ o h.
          let u = number_of fn (turns K) x ls r.1 in
          let h1 = number_goes compose e (spot L O) fn (turns K) first ls laid keeps follows x (p + ws) (Occurrence o f.owner ∷ []) r.1 g.fits (plain_here compose e s0 fn c0 first n sound keeps follows L O K ls laid many_are x plain_x) fit_x (front_of compose e s0 fn c0 first n sound keeps follows (p + ws) (number_code e (p + ws) x) _ b) in
          let i = item_imputed compose e (spot L O) (turns K) first ls laid sound f o (p + ws + number_size x) u.0 u.1 h1.fits field.0 field.1 (still_within f.owner o r.1 u.1 g.fits h1.fits h) (back_of compose e s0 fn c0 first n sound keeps follows (p + ws) (number_size x) (number_code e (p + ws) x) _ (number_length e (p + ws) x) b) in
          let z : p + ws + number_size x + 1 ≡ p + (ws + (number_size x + 1)) = omega arith in
          record { goes = named compose (spot L O) laid.there _ _ _ _ _ z (then_goes compose (spot L O) laid.there _ _ _ h1.goes i.goes); fits = i.fits })

      text_item_lands : (f : Field) (which : Which) (x : tree.Words) (p : ℕ) (w : World) → FitsWorld s0.program first w → IsPlainPlace n which → ArePlain n x → IsTextField (place_in e s0 (turns K)) f → WhichFits (place_in e s0 (turns K)) f.owner which → WordsFit (place_in e s0 (turns K)) x
          → HasCode s0 p (which_code e f.owner (p + (which_size which + (words_size x + 1))) p which ++ (words_code e (p + which_size which) x ++ with_c ops.StoreText f.item ∷ []))
          → Led L O K l a p (p + (which_size which + (words_size x + 1))) w (Fell ls (put_at (which_of fn (turns K) f.owner which ls w).0 (which_of fn (turns K) f.owner which ls w).1 (words_of fn (turns K) x ls) (text_item_set f)))
      text_item_lands f which x p w fits plain plain_x field fit fit_x has =
          let ws = which_size which in
          let wc = which_code e f.owner (p + (ws + (words_size x + 1))) p which in
          let r = which_of fn (turns K) f.owner which ls w in
          let g = which_goes compose e (spot L O) fn (turns K) first ls laid keeps follows f.owner (p + (ws + (words_size x + 1))) p which w fits field.0 (subst (λ n. IsPlainPlace n which) (sym many_are) plain) fit (front_of compose e s0 fn c0 first n sound keeps follows p wc _ has) in
          let b = back_of compose e s0 fn c0 first n sound keeps follows p ws wc _ (which_length e f.owner (p + (ws + (words_size x + 1))) p which) has in
          put_lands compose e s0 fn c0 first n sound keeps follows f.owner (p + (ws + (words_size x + 1))) p (p + ws) (p + (ws + (words_size x + 1))) r.0 (words_of fn (turns K) x ls) (text_item_set f) L O K ls l a w r.1 laid many_are g.fits g.goes refl
          (λ o h.
          let u = words_of fn (turns K) x ls r.1 in
          let h1 = words_goes compose e (spot L O) fn (turns K) first ls laid keeps follows x (p + ws) (Occurrence o f.owner ∷ []) r.1 g.fits (subst (λ n. ArePlain n x) (sym many_are) plain_x) fit_x (front_of compose e s0 fn c0 first n sound keeps follows (p + ws) (words_code e (p + ws) x) _ b) in
          let i = text_item_put compose e (spot L O) (turns K) first ls laid sound f o (p + ws + words_size x) u.0 u.1 h1.fits field.0 field.1 (still_within f.owner o r.1 u.1 g.fits h1.fits h) (back_of compose e s0 fn c0 first n sound keeps follows (p + ws) (words_size x) (words_code e (p + ws) x) _ (words_length e (p + ws) x) b) in
          let z : p + ws + words_size x + 1 ≡ p + (ws + (words_size x + 1)) = omega arith in
          record { goes = named compose (spot L O) laid.there _ _ _ _ _ z (then_goes compose (spot L O) laid.there _ _ _ h1.goes i.goes); fits = i.fits })

      -- a text into a global
      text_lands : (g : ℕ) (x : tree.Words) (p : ℕ) (w : World) → FitsWorld s0.program first w → ArePlain n x → global_at s0.program.image.lists g ≡ Some kind.Text → WordsFit (place_in e s0 (turns K)) x → HasCode s0 p (words_code e p x ++ with_c ops.StoreGlobal g ∷ [])
          → Led L O K l a p (p + (words_size x + 1)) w (Fell ls (text_set g (words_of fn (turns K) x ls w).0 (words_of fn (turns K) x ls w).1))
      text_lands g x p w fits plain is fit has =
          let t = (words_of fn (turns K) x ls w).0 in
          let v = (words_of fn (turns K) x ls w).1 in
          let h = words_goes compose e (spot L O) fn (turns K) first ls laid keeps follows x p [] w fits (subst (λ n. ArePlain n x) (sym many_are) plain) fit (front_of compose e s0 fn c0 first n sound keeps follows p (words_code e p x) _ has) in
          let old = global_text s0.program first v h.fits g is in
          let i = text_put compose (spot L O) laid.there first g (p + words_size x) t old.0 v h.fits old.1 (back_of compose e s0 fn c0 first n sound keeps follows p (words_size x) (words_code e p x) _ (words_length e p x) has) in
          let z : p + words_size x + 1 ≡ p + (words_size x + 1) = omega arith in
          fell compose e s0 fn c0 first n sound keeps follows L O K ls laid many_are l a p (p + (words_size x + 1)) w (text_set g t v) (named compose (spot L O) laid.there _ _ _ _ _ z (then_goes compose (spot L O) laid.there _ _ _ h.goes i))
          (subst (FitsWorld s0.program first) (sym (ap (λ o. option_map_or (λ before. in_store v (with_global v.store g (rewritten t before))) o v) old.1)) (text_fits s0.program first v g old.0 t h.fits old.1))

      -- a call whose value is dropped
      call_lands : (name : Spelling) (function : ℕ) (xs : tree.Numbers) (p : ℕ) (w : World) → FitsWorld s0.program first w → EachPlain n xs → IsFunction (place_in e s0 (turns K)) function xs → NumbersFit (place_in e s0 (turns K)) xs
          → HasCode s0 p (numbers_code e p xs ++ (with_c ops.Call function ∷ with_a ops.Pop 0 ∷ [])) → Led L O K l a p (p + (numbers_size xs + 2)) w (Fell ls (and_then (numbers_of fn (turns K) xs ls w) (fn function)).1)
      unfolding acts popped
      call_lands name function xs p w fits plain is fit has =
          let k = numbers_size xs in
          let y = is.0 in
          let args = (numbers_of fn (turns K) xs ls w).0 in
          let v = (numbers_of fn (turns K) xs ls w).1 in
          let g = numbers_go compose e (spot L O) fn (turns K) first ls laid keeps follows xs p [] w fits (subst (λ n. EachPlain n xs) (sym many_are) plain) fit (front_of compose e s0 fn c0 first n sound keeps follows p (numbers_code e p xs) _ has) in
          let h = back_of compose e s0 fn c0 first n sound keeps follows p k (numbers_code e p xs) _ (numbers_length e p xs) has in
          let may = case_for_callee s0.program.image.lists.routines s0.number function (is_run s0.routine.ambient) (is_some first) y is.4 is.1 in
          let are = are_numbers compose e (spot L O) fn (turns K) first ls laid keeps follows xs (take y.parameters y.locals) w is.3 in
          let c = call_goes compose (spot L O) laid.there first fn follows function (p + k) y args [] v may.0 is.1 is.2 are (may.1 laid.ambient) g.fits (h.0, tt) in
          let d = plain_at compose (spot L O) laid.there (p + k + 1) ops.Pop 0 0 0 (Number (fn function args v).0 ∷ []) (fn function args v).1 _ (h.1.0, tt) refl in
          let z : p + k + 1 + 1 ≡ p + (k + 2) = omega arith in
          fell compose e s0 fn c0 first n sound keeps follows L O K ls laid many_are l a p (p + (k + 2)) w (fn function args v).1 (named compose (spot L O) laid.there _ _ _ _ _ z (then_goes compose (spot L O) laid.there _ _ _ g.goes (then_goes compose (spot L O) laid.there _ _ _ c d)))
          (follows.fits function y args v may.0 is.1 is.2 are (may.1 laid.ambient) g.fits)

      -- a message
      message_lands : (index : ℕ) (xs : List tree.Argument) (p : ℕ) (w : World) → FitsWorld s0.program first w → ArePlainArguments n xs → IsMessage (place_in e s0 (turns K)) index xs → ArgumentsFit (place_in e s0 (turns K)) xs
          → HasCode s0 p (arguments_code e p xs ++ with_c ops.Message index ∷ []) → Led L O K l a p (p + (arguments_size xs + 1)) w (Fell ls (with_given (arguments_of fn (turns K) xs ls w).1 index (arguments_of fn (turns K) xs ls w).0))
      message_lands index xs p w fits plain is fit has =
          let g = message_goes compose e (spot L O) fn (turns K) first ls laid keeps follows index p xs is.0 w fits (subst (λ n. ArePlainArguments n xs) (sym many_are) plain) fit is.1 is.2 (front_of compose e s0 fn c0 first n sound keeps follows p (arguments_code e p xs) _ has) (back_of compose e s0 fn c0 first n sound keeps follows p (arguments_size xs) (arguments_code e p xs) _ (arguments_length e p xs) has) in
          let z : p + arguments_size xs + 1 ≡ p + (arguments_size xs + 1) = omega arith in
          fell compose e s0 fn c0 first n sound keeps follows L O K ls laid many_are l a p (p + (arguments_size xs + 1)) w _ (named compose (spot L O) laid.there _ _ _ _ _ z g.goes) g.fits

      -- a value into the cell that the indexes lead to; where they lead to none, the run goes past it
      cell_lands_by : (o : Option (List ℕ)) (array k m p : ℕ) (b : ArrayLists) (x : tree.Number) (w v : World) → slice_get s0.program.image.lists.arrays array ≡ Some b → FitsWorld s0.program first v
          → LedBy (spot L O) (p + k + number_size x + 1 + jump_size m) m p (p + k) [] b.dimensions [] w o v → IsPlain n x → NumberFits (place_in e s0 (turns K)) x
          → HasCode s0 (p + k) (number_code e (p + k) x) → HasCode s0 (p + k + number_size x) (with_c ops.StoreCell array ∷ []) → HasCode s0 (p + k + number_size x + 1) (jump_over (p + k + number_size x + 1 + (jump_size m + m)) m)
          → Led L O K l a p (p + (k + (number_size x + (jump_size m + m + 1)))) w (Fell ls (put_at o v (number_of fn (turns K) x ls) (cell_set (turns K) array)))
      cell_lands_by None array k m p b x w v is fits g plain fit code stores jumps =
          let z : p + k + number_size x + 1 + jump_size m + m ≡ p + (k + (number_size x + (jump_size m + m + 1))) = omega arith in
          fell compose e s0 fn c0 first n sound keeps follows L O K ls laid many_are l a p _ w v (named compose (spot L O) laid.there _ _ _ _ _ z g) fits
      cell_lands_by (Some is) array k m p b x w v there fits g plain fit code stores jumps =
          let top = on_top (stacked b.dimensions is []) [] in
          let r = number_of fn (turns K) x ls v in
          let q = p + k + number_size x in
          let h = number_goes compose e (spot L O) fn (turns K) first ls laid keeps follows x (p + k) top v fits (plain_here compose e s0 fn c0 first n sound keeps follows L O K ls laid many_are x plain) fit code in
          let i = cell_put compose e (spot L O) (turns K) first ls laid array b is r.0 q r.1 there h.fits g.0 stores in
          let y : q + 1 + (jump_size m + m) ≡ p + (k + (number_size x + (jump_size m + m + 1))) = omega arith in
          let z : q + 1 + jump_size m + m ≡ p + (k + (number_size x + (jump_size m + m + 1))) = omega arith in
          let j = jumps_over compose e s0 fn c0 first n sound keeps follows m (q + 1 + (jump_size m + m)) (q + 1) (p + (k + (number_size x + (jump_size m + m + 1)))) L O (cell_set (turns K) array is r.0 r.1) laid.there z y jumps in
          fell compose e s0 fn c0 first n sound keeps follows L O K ls laid many_are l a p _ w (cell_set (turns K) array is r.0 r.1) (then_goes compose (spot L O) laid.there _ _ _ g.1 (then_goes compose (spot L O) laid.there _ _ _ h.goes (then_goes compose (spot L O) laid.there _ _ _ i j)))
          (cell_fits s0.program first (turns K) r.1 array is r.0 h.fits)

      cell_lands : (array : ℕ) (xs : tree.Numbers) (x : tree.Number) (p : ℕ) (w : World) → FitsWorld s0.program first w → EachPlain n xs → IsPlain n x → IsArray (place_in e s0 (turns K)) array (count xs) → NumbersFit (place_in e s0 (turns K)) xs → NumberFits (place_in e s0 (turns K)) x
          → HasCode s0 p (indexes_code e array (p + indexes_size xs + number_size x + 1 + jump_size (behind xs)) 0 p xs ++ (number_code e (p + indexes_size xs) x ++ (with_c ops.StoreCell array ∷ drops_code (p + indexes_size xs + number_size x + 1) (behind xs))))
          → Led L O K l a p (p + (indexes_size xs + (number_size x + (drops_size (behind xs) + 1)))) w (Fell ls (put_at (indexes_of fn (turns K) (sizes_of (turns K) array) xs ls w).0 (indexes_of fn (turns K) (sizes_of (turns K) array) xs ls w).1 (number_of fn (turns K) x ls) (cell_set (turns K) array)))
      cell_lands array xs x p w fits plain plain_x is fit fit_x has =
          let k = indexes_size xs in
          let m = behind xs in
          let b = is.0 in
          let drops = p + k + number_size x + 1 + jump_size m in
          let ic = indexes_code e array drops 0 p xs in
          let hi = front_of compose e s0 fn c0 first n sound keeps follows p ic _ has in
          let h1 = back_of compose e s0 fn c0 first n sound keeps follows p k ic _ (indexes_length e array drops 0 p xs) has in
          let hx = front_of compose e s0 fn c0 first n sound keeps follows (p + k) (number_code e (p + k) x) _ h1 in
          let h2 = back_of compose e s0 fn c0 first n sound keeps follows (p + k) (number_size x) (number_code e (p + k) x) _ (number_length e (p + k) x) h1 in
          let hj = front_of compose e s0 fn c0 first n sound keeps follows (p + k + number_size x + 1) (jump_over (p + k + number_size x + 1 + drops_size m) m) (pops m) h2.1 in
          let hp = back_of compose e s0 fn c0 first n sound keeps follows (p + k + number_size x + 1) (jump_size m) (jump_over (p + k + number_size x + 1 + drops_size m) m) (pops m) (jump_over_length compose e s0 fn c0 first n sound keeps follows (p + k + number_size x + 1 + drops_size m) m) h2.1 in
          let same = sizes_are compose e (spot L O) (turns K) first ls laid array b is.1 in
          let g = indexes_go compose e (spot L O) fn (turns K) first ls laid keeps follows xs b.dimensions array drops 0 p m [] [] w fits (subst (λ n. EachPlain n xs) (sym many_are) plain) fit (λ k. size_is e array b.dimensions k is.2) is.3 (behind_is xs is.4) hi hp in
          let g : Arrays.Led (spot L O) first drops m p (p + k) [] b.dimensions [] w (indexes_of fn (turns K) (sizes_of (turns K) array) xs ls w) = subst (λ l. Arrays.Led (spot L O) first drops m p (p + k) [] b.dimensions [] w (indexes_of fn (turns K) l xs ls w)) (sym same) g in
          cell_lands_by (indexes_of fn (turns K) (sizes_of (turns K) array) xs ls w).0 array k m p b x w (indexes_of fn (turns K) (sizes_of (turns K) array) xs ls w).1 is.1 g.fits g.goes plain_x fit_x hx (h2.0, tt) hj

      -- a value into the cell of a hot deck
      deck_lands : (array : ℕ) (picks : List Pick) (x : tree.Number) (p : ℕ) (w : World) → FitsWorld s0.program first w → IsPlain n x → IsDeck (place_in e s0 (turns K)) array picks → NumberFits (place_in e s0 (turns K)) x
          → HasCode s0 p (picks_code (p + picks_size picks + number_size x + 1 + jump_size (deepest picks)) p picks ++ (number_code e (p + picks_size picks) x ++ (with_c ops.StoreCell array ∷ drops_code (p + picks_size picks + number_size x + 1) (deepest picks))))
          → Led L O K l a p (p + (picks_size picks + (number_size x + (drops_size (deepest picks) + 1)))) w (Fell ls (put_at (deck_place (turns K) w array picks) w (number_of fn (turns K) x ls) (cell_set (turns K) array)))
      deck_lands array picks x p w fits plain is fit_x has =
          let k = picks_size picks in
          let m = deepest picks in
          let b = is.0 in
          let drops = p + k + number_size x + 1 + jump_size m in
          let pc = picks_code drops p picks in
          let hi = front_of compose e s0 fn c0 first n sound keeps follows p pc _ has in
          let h1 = back_of compose e s0 fn c0 first n sound keeps follows p k pc _ (picks_length drops p picks) has in
          let hx = front_of compose e s0 fn c0 first n sound keeps follows (p + k) (number_code e (p + k) x) _ h1 in
          let h2 = back_of compose e s0 fn c0 first n sound keeps follows (p + k) (number_size x) (number_code e (p + k) x) _ (number_length e (p + k) x) h1 in
          let hj = front_of compose e s0 fn c0 first n sound keeps follows (p + k + number_size x + 1) (jump_over (p + k + number_size x + 1 + drops_size m) m) (pops m) h2.1 in
          let hp = back_of compose e s0 fn c0 first n sound keeps follows (p + k + number_size x + 1) (jump_size m) (jump_over (p + k + number_size x + 1 + drops_size m) m) (pops m) (jump_over_length compose e s0 fn c0 first n sound keeps follows (p + k + number_size x + 1 + drops_size m) m) h2.1 in
          let same = sizes_are compose e (spot L O) (turns K) first ls laid array b is.1 in
          let zero_more : m + 0 ≡ m = omega arith in
          let g = picks_go compose e (spot L O) (turns K) first ls laid keeps picks b.dimensions drops p m [] [] w fits is.2 hi (λ yes. (zero_more, hp)) in
          let g : LedBy (spot L O) drops m p (p + k) [] b.dimensions [] w (deck_place (turns K) w array picks) w = subst (λ l. LedBy (spot L O) drops m p (p + k) [] b.dimensions [] w (reading.picks (turns K) w l picks) w) (sym same) g in
          cell_lands_by (deck_place (turns K) w array picks) array k m p b x w w is.1 fits g plain fit_x hx (h2.0, tt) hj

    mutual
      unfolding statement_size statement_code block_size block_code arms_size arms_code does all_do arms_do

      pub statement_lands : (x : Statement) (room : ℕ) (inside : Bool) (L : List Cell) (O : List Open) (K : List (ℕ × ℕ)) (ls : Locals) (l : Loop) (a : Around) (p : ℕ) (w : World) → IsLaid e (spot L O) (turns K) first ls → length ls.parameters ≡ n → FitsWorld s0.program first w
          → (inside ≡ true → IsInside (spot L O) first l a) → IsPlainStatement e.records n x → StatementFits (place_in e s0 (turns K)) room inside x → HasCode s0 p (statement_code e l p x) → Led L O K l a p (p + statement_size e x) w (does fn (turns K) x ls w)
      statement_lands Empty room inside L O K ls l a p w laid many_are fits around plain fit has =
          let z : p ≡ p + 0 = omega arith in
          fell compose e s0 fn c0 first n sound keeps follows L O K ls laid many_are l a p (p + 0) w w (named compose (spot L O) laid.there _ _ _ _ _ z (stays s0.program _ _ refl)) fits
      statement_lands (Set name y x) room inside L O K ls l a p w laid many_are fits around plain fit has =
          set_lands compose e s0 fn c0 first n sound keeps follows L O K ls laid many_are y (number_of fn (turns K) x ls w).0 l a p (p + (number_size x + 1)) w (global_set y (number_of fn (turns K) x ls w).0 (number_of fn (turns K) x ls w).1)
          (assigned compose e (spot L O) fn (turns K) first ls l name y x p w laid keeps follows fits (subst (λ n. IsOwn n y) (sym many_are) plain.0) (plain_here compose e s0 fn c0 first n sound keeps follows L O K ls laid many_are x plain.1) fit.0 fit.1 has)
      statement_lands (SetText name g x) room inside L O K ls l a p w laid many_are fits around plain fit has = text_lands L O K ls l a laid many_are g x p w fits plain fit.0 fit.1 has
      statement_lands (SetItem name f which x) room inside L O K ls l a p w laid many_are fits around plain fit has = item_lands L O K ls l a laid many_are f which x p w fits plain.0 plain.1 fit.0 fit.1 fit.2 has
      statement_lands (SetTextItem name f which x) room inside L O K ls l a p w laid many_are fits around plain fit has = text_item_lands L O K ls l a laid many_are f which x p w fits plain.0 plain.1 fit.0 fit.1 fit.2 has
      statement_lands (Impute name f which x) room inside L O K ls l a p w laid many_are fits around plain fit has = imputed_lands L O K ls l a laid many_are f which x p w fits plain.0 plain.1 fit.0 fit.1 fit.2 has
      statement_lands (CallOf name function xs) room inside L O K ls l a p w laid many_are fits around plain fit has = call_lands L O K ls l a laid many_are name function xs p w fits plain fit.0 fit.1 has
      statement_lands (If condition body others) room inside L O K ls l a p w laid many_are fits around plain fit has =
          guarded_land compose e s0 fn c0 first n sound keeps follows condition (block_size e body) (arms_size e others) _ _ _ (all_do fn (turns K) body) (arms_do fn (turns K) others) L O K ls l a p w laid many_are (block_length e l _ body) refl fits plain.0 fit.0 has
          (λ v f h. block_lands body room inside L O K ls l a _ v laid many_are f around plain.1 fit.1 h)
          (λ v f h. arms_land others room inside L O K ls l a _ _ v laid many_are f around plain.2 fit.2 (let z : p + guard_size (number_size condition) (block_size e body) (arms_size e others) ≡ p + front_size (number_size condition) (block_size e body) (arms_size e others) + arms_size e others = omega arith in z) h)
      statement_lands (For name y record_name of body) zero inside L O K ls l a p w laid many_are fits around plain fit has = absurd fit.2
      statement_lands (For name y record_name of body) (suc room) inside L O K ls l a p w laid many_are fits around plain fit has =
          let nb = block_size e body in
          let q4 : p + 1 + 1 + 1 + 1 ≡ p + 4 = omega arith in
          let rest = subst (λ q. HasCode s0 q (block_code e (loop_to (p + 4 + nb) (p + 4 + nb)) (p + 4) body ++ with_c ops.End p ∷ [])) q4 has.1.1.1.1 in
          let hb = front_of compose e s0 fn c0 first n sound keeps follows (p + 4) (block_code e (loop_to (p + 4 + nb) (p + 4 + nb)) (p + 4) body) _ rest in
          let last = back_of compose e s0 fn c0 first n sound keeps follows (p + 4) nb (block_code e (loop_to (p + 4 + nb) (p + 4 + nb)) (p + 4) body) _ (block_length e (loop_to (p + 4 + nb) (p + 4 + nb)) (p + 4) body) rest in
          enters compose e s0 fn c0 first n sound keeps follows y of nb p body L O K l a w laid.loops laid.there plain.0 fit.1 fit.0.0 (has.1.0, (has.1.1.0, (has.1.1.1.0, tt))) last
          (λ M k o ls v laid' many' f. block_lands body room true M (bracket_of p of k o ∷ O) ((of, o) ∷ K) ls (loop_to (p + 4 + nb) (p + 4 + nb)) (record { is_loop = true; opens = O; loops = K }) (p + 4) v laid' many' f
          (λ yes. record {
            around = refl;
            bracket = bracket_of p of k o;
            is = refl;
            ends = ap (ends_at (p + 4 + nb)) has.0.1 ∙ (ap (λ i. i.c == (p + 4 + nb)) has.0.2 ∙ eq-eqb (p + 4 + nb) (p + 4 + nb) refl);
            loops = laid.loops;
          }) plain.1 fit.2 hb)
          (many w of) ls refl laid many_are fits fit.0.1 (has.0, tt)
      statement_lands (Jump' token x) room inside L O K ls l a p w laid many_are fits around plain fit has = jump_lands x room inside L O K ls l a p _ w laid many_are fits around fit has
      statement_lands (SetCell name array xs x) room inside L O K ls l a p w laid many_are fits around plain fit has = cell_lands L O K ls l a laid many_are array xs x p w fits plain.0 plain.1 fit.0 fit.1 fit.2 has
      statement_lands (Do x body) zero inside L O K ls l a p w laid many_are fits around plain fit has = absurd fit.1
      statement_lands (Do x body) (suc room) inside L O K ls l a p w laid many_are fits around plain fit has =
          let nb = block_size e body in
          let ts = turns_size e.records x in
          let q = p + head_size e.records x in
          let te = q + 1 + nb in
          let lp = loop_to te (te + 4) in
          let bc = block_code e lp (q + 1) body in
          let start = limit (turns K) w x.start in
          let ls1 = local_set x.variable (Whole start) ls in
          let w1 = global_set x.variable (Whole start) w in
          let sc = step_code e x ++ with_c ops.End q ∷ [] in
          let rc = wide.Turns (turn_limit e.records x) (te + 4) ∷ (bc ++ sc) in
          let head = front_of compose e s0 fn c0 first n sound keeps follows p (head_code e x) rc has in
          let rest = back_of compose e s0 fn c0 first n sound keeps follows p (head_size e.records x) (head_code e x) rc (head_length e x) has in
          let hb = front_of compose e s0 fn c0 first n sound keeps follows (q + 1) bc sc rest.1 in
          let hs = back_of compose e s0 fn c0 first n sound keeps follows (q + 1) nb bc sc (block_length e lp (q + 1) body) rest.1 in
          let steps = front_of compose e s0 fn c0 first n sound keeps follows te (step_code e x) (with_c ops.End q ∷ []) hs in
          let last = back_of compose e s0 fn c0 first n sound keeps follows te 4 (step_code e x) (with_c ops.End q ∷ []) refl hs in
          let g1 = limit_goes compose e (spot L O) (turns K) first ls laid x.start p [] w fits fit.0.1 (head.0, tt) in
          let y = variable_set compose e s0 fn c0 first n sound keeps follows L O O K x.variable (Whole start) ls (p + 1) w laid many_are plain.0 fit.0.0 (head.1.0, tt) in
          let fits1 = set_fits e s0 (turns K) first w x.variable (Whole start) fits fit.0.0 in
          let g2 = turns_go compose e (spot y.locals O) (turns K) first ls1 y.laid x (p + 1 + 1) w1 fits1 fit.0.1 fit.0.2 head.1.1 in
          let z : p + 1 + 1 + ts ≡ q = omega arith in
          let g = joined compose s0.program _ _ _ g1 (joined compose s0.program _ _ _ y.goes (named compose (spot y.locals O) laid.there _ _ _ _ _ z g2)) in
          let a1 = limit_after compose e s0 fn c0 first n sound keeps follows x.variable (Whole start) K x.start w in
          let b1 = limit_after compose e s0 fn c0 first n sound keeps follows x.variable (Whole start) K x.stop w in
          let few = plain.1 (limit (turns K) w1 x.start) (limit (turns K) w1 x.stop) (limit_may compose e (spot y.locals O) (turns K) first ls1 y.laid x.start w1 fits1 fit.0.1) (limit_may compose e (spot y.locals O) (turns K) first ls1 y.laid x.stop w1 fits1 fit.0.2) in
          let m_is = as_many_turns e.records x (limit (turns K) w1 x.start) (limit (turns K) w1 x.stop) few ∙ (ap (λ a. meant_turns a (limit (turns K) w1 x.stop) x.step) a1 ∙ ap (λ b. meant_turns (limit (turns K) w x.start) b x.step) b1) in
          let r : p + (head_size e.records x + (nb + 6)) ≡ te + 4 + 1 = omega arith in
          counted_from compose e s0 fn c0 first n sound keeps follows x nb p q body L O K l a w laid.loops laid.there plain.0 fit.0.0 steps last
          (λ M k ls v laid' many' f. block_lands body room true M (counted_bracket q k ∷ O) K ls lp (record { is_loop = true; opens = O; loops = K }) (q + 1) v laid' many' f
          (λ yes. record {
            around = refl;
            bracket = counted_bracket q k;
            is = refl;
            ends = ap (ends_at (te + 4)) rest.0.1 ∙ (ap (λ k. k == (te + 4)) rest.0.2.2 ∙ eq-eqb (te + 4) (te + 4) refl);
            loops = laid.loops;
          }) plain.2 fit.1 hb)
          (meant_turns start (limit (turns K) w x.stop) x.step) (p + (head_size e.records x + (nb + 6))) (turn_limit e.records x) _ y.locals ls1 w1 r m_is g y.laid y.many fits1 (rest.0, tt)
      statement_lands (PutDeck name array picks x) room inside L O K ls l a p w laid many_are fits around plain fit has = deck_lands L O K ls l a laid many_are array picks x p w fits plain fit.0 fit.1 has
      statement_lands (ErrMsg message index xs summary) room inside L O K ls l a p w laid many_are fits around plain fit has = message_lands L O K ls l a laid many_are index xs p w fits plain fit.0 fit.1 has

      pub block_lands : (xs : Statements) (room : ℕ) (inside : Bool) (L : List Cell) (O : List Open) (K : List (ℕ × ℕ)) (ls : Locals) (l : Loop) (a : Around) (p : ℕ) (w : World) → IsLaid e (spot L O) (turns K) first ls → length ls.parameters ≡ n → FitsWorld s0.program first w
          → (inside ≡ true → IsInside (spot L O) first l a) → IsPlainBlock e.records n xs → BlockFits (place_in e s0 (turns K)) room inside xs → HasCode s0 p (block_code e l p xs) → Led L O K l a p (p + block_size e xs) w (all_do fn (turns K) xs ls w)
      block_lands no_statement room inside L O K ls l a p w laid many_are fits around plain fit has =
          let z : p ≡ p + 0 = omega arith in
          fell compose e s0 fn c0 first n sound keeps follows L O K ls laid many_are l a p (p + 0) w w (named compose (spot L O) laid.there _ _ _ _ _ z (stays s0.program _ _ refl)) fits
      block_lands (statement_and x xs) room inside L O K ls l a p w laid many_are fits around plain fit has =
          let k = statement_size e x in
          let h = statement_lands x room inside L O K ls l a p w laid many_are fits around plain.0 fit.0 (front_of compose e s0 fn c0 first n sound keeps follows p (statement_code e l p x) _ has) in
          let b = back_of compose e s0 fn c0 first n sound keeps follows p k (statement_code e l p x) _ (statement_length e l p x) has in
          let z : p + k + block_size e xs ≡ p + (k + block_size e xs) = omega arith in
          renamed compose e s0 fn c0 first n sound keeps follows (then_do (does fn (turns K) x ls w) (all_do fn (turns K) xs)) L O K l a p _ _ w z
          (then_lands compose e s0 fn c0 first n sound keeps follows (does fn (turns K) x ls w) (all_do fn (turns K) xs) L O K l a p (p + k) (p + k + block_size e xs) w h
          (λ M ls v laid many_are f. block_lands xs room inside M O K ls l a (p + k) v laid many_are f (λ yes. inside_too L M O l a (around yes)) plain.1 fit.1 b))

      pub arms_land : (xs : Arms) (room : ℕ) (inside : Bool) (L : List Cell) (O : List Open) (K : List (ℕ × ℕ)) (ls : Locals) (l : Loop) (a : Around) (end p : ℕ) (w : World) → IsLaid e (spot L O) (turns K) first ls → length ls.parameters ≡ n → FitsWorld s0.program first w
          → (inside ≡ true → IsInside (spot L O) first l a) → ArePlainArms e.records n xs → ArmsFit (place_in e s0 (turns K)) room inside xs → end ≡ p + arms_size e xs → HasCode s0 p (arms_code e l end p xs) → Led L O K l a p (p + arms_size e xs) w (arms_do fn (turns K) xs ls w)
      arms_land no_arm room inside L O K ls l a end p w laid many_are fits around plain fit ends has =
          let z : p ≡ p + 0 = omega arith in
          fell compose e s0 fn c0 first n sound keeps follows L O K ls laid many_are l a p (p + 0) w w (named compose (spot L O) laid.there _ _ _ _ _ z (stays s0.program _ _ refl)) fits
      arms_land (else_of body) room inside L O K ls l a end p w laid many_are fits around plain fit ends has = block_lands body room inside L O K ls l a p w laid many_are fits around plain fit has
      arms_land (arm condition body others) room inside L O K ls l a end p w laid many_are fits around plain fit ends has =
          guarded_land compose e s0 fn c0 first n sound keeps follows condition (block_size e body) (arms_size e others) end _ _ (all_do fn (turns K) body) (arms_do fn (turns K) others) L O K ls l a p w laid many_are (block_length e l _ body) ends fits plain.0 fit.0 has
          (λ v f h. block_lands body room inside L O K ls l a _ v laid many_are f around plain.1 fit.1 h)
          (λ v f h. arms_land others room inside L O K ls l a end _ v laid many_are f around plain.2 fit.2 (let z : end ≡ p + front_size (number_size condition) (block_size e body) (arms_size e others) + arms_size e others = omega arith in z) h)

pub all_land : RunsCompose → StatementsLand
all_land compose e s fn c first ls l a room inside x p w laid sound exit follows fits around plain fit has =
    statement_lands compose e s fn c first (length ls.parameters) sound (keeps_rows s.program.dictionary sound) follows exit x room inside s.locals s.opens c.loops ls l a p w laid refl fits around plain fit has
