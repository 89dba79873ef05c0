-- The calls of a state that fits keep to the depth of the program.
use Rattle.std.proofs.Common.{◌≡◌, ℕ, ◌+◌, ◌≤◌, Bool, List, [], ◌∷◌, ◌++◌, length, map, Some, refl, sym, ap, ◌∙◌, subst}
use Rattle.std.specs.Prelude.{slice_get, option_map}
use Rattle.std.specs.Option.{option_map_or}
use Rattle.std.proofs.lemmas.List.{length-map}
use Rattle.std.proofs.lemmas.Option.{slice_get-map, slice_get_within}
use Rattle.cse_image_parts.specs.Image.{RoutineLists}
use Rattle.cse_dict.specs.Dictionary.{shape_of}
use Rattle.cse_code_typing.specs.declared.control.Control.TheVariants.{Call as Calls, Return}
use Rattle.cse_code_typing.specs.declared.depth.Depth.{Depth as Cells}
use Rattle.cse_code_typing.specs.declared.kind.Kind.{Kind}
use Rattle.cse_code_typing.specs.declared.kind.Kind.TheVariants as sorts
use Rattle.cse_code_typing.specs.Bracket.{around}
use Rattle.cse_code_typing.specs.Code.{code_of}
use Rattle.cse_code_typing.specs.Depth.{no_depth, ◌⊕◌, count_of, locals_depth}
use Rattle.cse_code_typing.specs.Kinds.{local_kind, gift_kinds}
use Rattle.cse_code_typing.specs.Skeleton.{control, control_by, skeleton_of}
use Rattle.cse_verify.specs.declared.depth.Depth.{Depth}
use Rattle.cse_verify.specs.Chain.{Calling, AllWait, IsChain, kept_by, kept_in, open_in, locals_at, KeepsToDepth}
use Rattle.cse_verify.specs.Verified.{VerifiedProgram}
use Rattle.cse_steps.specs.Cell.{Cell, Number, Words, Index, Occurrence}
use Rattle.cse_steps.specs.State.{Call, State}
use Rattle.cse_steps.specs.Depth.{one_cell, cells_of, kept_now, open_now, KeepsDepth}
use Rattle.cse_steps.specs.Fits.{IsVerified, AllFit, IsAt, IsBehind, AreWaiting, CallsFit}
use Rattle.cse_steps.proofs.Calls.{typed_routine}
use Rattle.cse_steps.proofs.Places.{on_lands}

counted : (n : ℕ → ℕ) (kinds : List Kind) (cells : List Cell) → AllFit n kinds cells → count_of kinds ≡ cells_of cells
counted n [] [] f = refl
counted n [] (x ∷ cells) f = absurd f
counted n (k ∷ kinds) [] f = absurd f
counted n (sorts.Number ∷ kinds) (Number x ∷ cells) f = ap (λ d. one_cell (Number x) ⊕ d) (counted n kinds cells f.1)
counted n (sorts.Text ∷ kinds) (Words t ∷ cells) f = ap (λ d. one_cell (Words t) ⊕ d) (counted n kinds cells f.1)
counted n (sorts.Index m ∷ kinds) (Index i s ∷ cells) f = ap (λ d. one_cell (Index i s) ⊕ d) (counted n kinds cells f.1)
counted n (sorts.Occurrence r ∷ kinds) (Occurrence o s ∷ cells) f = ap (λ d. one_cell (Occurrence o s) ⊕ d) (counted n kinds cells f.1)
counted n (k ∷ kinds) (x ∷ cells) f = absurd f.0

-- calls as a chain, which keep as much
pub record Chained (v : VerifiedProgram) (callee : ℕ) (calls : List Call) : Type 0 where
  pub chain : List Calling
  pub waits : AllWait (shape_of v.dictionary) v.image callee chain
  pub kept : kept_in v.image chain ≡ kept_now calls
  pub opened : open_in v.image chain ≡ open_now calls

module _ (v : VerifiedProgram) (sound : IsVerified v) (n : ℕ → ℕ) (has_case : Bool) where
  -- what one call keeps, with a stack of these kinds
  kept_one : (c : Call) (y : RoutineLists) (stack kinds : List Kind) (place : ℕ) → IsAt v n has_case c y stack → AllFit n kinds c.cells → kept_by v.image (record { routine = c.routine; place = place; kinds = kinds }) ≡ cells_of c.locals ⊕ cells_of c.cells
  kept_one c y stack kinds place s f =
      let a : locals_at v.image.lists.routines c.routine ≡ cells_of c.locals =
      ap (λ o. option_map_or (λ (z : RoutineLists). locals_depth z.locals) o no_depth) s.routine ∙ counted n (map local_kind y.locals) c.locals s.locals in
      ap (λ d. d ⊕ count_of kinds) a ∙ ap (λ d. cells_of c.locals ⊕ d) (counted n kinds c.cells f)

  open_one : (c : Call) (y : RoutineLists) (stack : List Kind) → IsAt v n has_case c y stack → length (around (skeleton_of v.image c.routine) c.place) ≡ length c.opens
  open_one c y stack s = sym (ap length s.openers) ∙ length-map c.opens (λ o. o.opener)

  -- a call keeps the same brackets around it and behind it
  around_call : (c : Call) (y : RoutineLists) (stack kinds : List Kind) (stacks : ℕ → List Kind) (callee : ℕ) → IsAt v n has_case c y stack → (b : IsBehind v c stacks callee kinds) → around (skeleton_of v.image c.routine) c.place ≡ around (skeleton_of v.image c.routine) b.at
  unfolding control_by
  around_call c y stack kinds stacks callee s b =
      let shown : slice_get (skeleton_of v.image c.routine) b.at ≡ Some (control v.image.lists b.instr) = slice_get-map (control v.image.lists) (code_of v.image c.routine) b.at ∙ ap (option_map (control v.image.lists)) b.there in
      let is : control v.image.lists b.instr ≡ Calls b.instr.c = ap (λ op. control_by v.image.lists op b.instr.a b.instr.b b.instr.c) b.is_call in
      let l = on_lands (skeleton_of v.image c.routine) (typed_routine v c.routine y sound s.routine).brackets b.at (Calls b.instr.c) (shown ∙ ap Some is) (λ h. let p : Calls b.instr.c ≡ Return = h in cc) refl refl in
      ap (around (skeleton_of v.image c.routine)) b.behind ∙ l.around_it

  waiting : (callee : ℕ) (gift : List Kind) (calls : List Call) → AreWaiting v n has_case callee gift calls → Chained v callee calls
  waiting callee gift [] w = record { chain = []; waits = tt; kept = refl; opened = refl }
  waiting callee gift (c ∷ below) w =
      let s = w.2 in
      let b = w.5 in
      let t = waiting c.routine (gift_kinds w.0.gives) below w.6 in
      let at_low = slice_get_within (code_of v.image c.routine) b.at b.instr b.there in
      let call : Calling = record { routine = c.routine; place = b.at; kinds = w.1 } in
      record {
        chain = call ∷ t.chain;
        waits = (
          record {
            stands = record { routine = w.0; there = s.routine; stacks = s.stacks; typing = s.typing; within = at_low };
            instr = b.instr;
            at = b.there;
            is_call = b.is_call;
            callee_is = b.callee_is;
            kinds = b.left;
          },
          t.waits,
        );
        kept = ap (λ d. d ⊕ kept_in v.image t.chain) (kept_one c w.0 (gift ++ w.1) w.1 b.at s w.3) ∙ ap (λ d. (cells_of c.locals ⊕ cells_of c.cells) ⊕ d) t.kept;
        opened =
            ap (λ m. m + open_in v.image t.chain) (ap length (sym (around_call c w.0 (gift ++ w.1) w.1 s.stacks callee s b)) ∙ open_one c w.0 (gift ++ w.1) s)
            ∙ ap (λ m. length c.opens + m) t.opened;
      }

  pub keeps : (s : State) (d : Depth) → CallsFit v n has_case s.calls → ((calls : List Calling) → IsChain (shape_of v.dictionary) v.image calls → KeepsToDepth v.image calls d) → KeepsDepth s d
  keeps s d f law = by s.calls refl f
    where
      told : (calls : List Call) (chain : List Calling) → s.calls ≡ calls → IsChain (shape_of v.dictionary) v.image chain → kept_in v.image chain ≡ kept_now calls → open_in v.image chain ≡ open_now calls → KeepsDepth s d
      told calls chain e is kept opened =
          let k = law chain is in
          let a : kept_in v.image chain ≡ kept_now s.calls = kept ∙ ap kept_now (sym e) in
          let o : open_in v.image chain ≡ open_now s.calls = opened ∙ ap open_now (sym e) in
          record {
            nums = subst (λ (m : Cells). m.numbers ≤ d.nums) a k.nums;
            texts = subst (λ (m : Cells). m.texts ≤ d.texts) a k.texts;
            ords = subst (λ (m : Cells). m.ordinals ≤ d.ords) a k.ords;
            frames = subst (λ m. m ≤ d.frames) o k.frames;
          }

      by : (calls : List Call) → s.calls ≡ calls → CallsFit v n has_case calls → KeepsDepth s d
      by [] e g = told [] [] e tt refl refl
      by (c ∷ below) e g =
          let t = waiting c.routine (gift_kinds g.0.gives) below g.4 in
          let q = g.2 in
          told (c ∷ below) (record { routine = c.routine; place = c.place; kinds = g.1 } ∷ t.chain) e
          (record { stands = record { routine = g.0; there = q.routine; stacks = q.stacks; typing = q.typing; within = q.place }; kinds = sym q.stack_is }, t.waits)
          (ap (λ m. m ⊕ kept_in v.image t.chain) (kept_one c g.0 g.1 g.1 c.place q g.3) ∙ ap (λ m. (cells_of c.locals ⊕ cells_of c.cells) ⊕ m) t.kept)
          (ap (λ m. m + open_in v.image t.chain) (open_one c g.0 g.1 q) ∙ ap (λ m. length c.opens + m) t.opened)
