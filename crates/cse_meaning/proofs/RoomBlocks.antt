-- The code of statements and of routines fits.
use Rattle.std.proofs.Common.{◌≡◌, ◌≤◌, ◌<◌, ◌^◌, ℕ, ◌+◌, ℤ, Bool, true, false, List, [], ◌∷◌, ◌++◌, Option, Some, None, refl, arith}
use Rattle.std.proofs.lemmas.Option.{slice_get_within}
use Rattle.cse_value.specs.declared.number.Num.TheVariants.{Whole}
use Rattle.cse_value.specs.Number.{sum_of, difference_of}
use Rattle.cse_value.specs.Occurrences.{most_occurrences}
use Rattle.cse_image_parts.specs.declared.instruction.Op.TheVariants as ops
use Rattle.cse_syntax_tree.specs.declared.tree.Count.TheVariants as counts
use Rattle.cse_syntax_tree.specs.declared.tree.Jump.{Jump}
use Rattle.cse_syntax_tree.specs.declared.tree.Jump.TheVariants as j
use Rattle.cse_logic_tree.specs.declared.tree.Variable.{Variable}
use Rattle.cse_logic_tree.specs.declared.tree.Found.TheVariants as h
use Rattle.cse_logic_tree.specs.Typed.{Which, Here, At, Argument, OfNumber, OfWords, Limit, Fixed, Counted, Counting, Statement, Statements, Arms}
use Rattle.cse_logic_tree.specs.Typed.{Empty, Set, SetText, SetItem, SetTextItem, SetCell, CallOf, If, For, Do, Jump', Impute, PutDeck, ErrMsg, no_statement, statement_and, no_arm, else_of, arm}
use Rattle.cse_code_typing.specs.declared.kind.Kind.TheVariants as kind
use Rattle.cse_compile.specs.Wide.{Wide, with_c, pops, jump_size, jump_over}
use Rattle.cse_compile.specs.declared.setting.Loop.{Loop}
use Rattle.cse_compile.specs.Expressions.{behind, deepest, count, number_size, words_size, numbers_size, indexes_size, picks_size, number_code, words_code, numbers_code, indexes_code, picks_code}
use Rattle.cse_compile.specs.Statements.{which_size, which_code, drops_size, drops_code, argument_size, argument_code, arguments_size, arguments_code, known, limit_code, least, greatest, turns, turns_code_by, head_size, head_code, step_code, exit_code_by, exit_code, jump_code, front_size, guard_size, front_code, guard_code, loop_to, over_code, opener_at, turn_end_at, counted_code, statement_size, block_size, arms_size, statement_code, block_code, arms_code}
use Rattle.cse_compile.specs.Routines.{no_loop, entry_size_by, entry_code_by, routine_size, routine_code}
use Rattle.cse_compile.proofs.Small.{deepest_small}
use Rattle.cse_meaning.specs.Fit as fit
use Rattle.cse_meaning.specs.Fit.{Spot, IsRecord, IsNumberVariable, IsDeck, WhichFits, ArgumentFits, ArgumentsFit, CountingFits, over, StatementFits, BlockFits, ArmsFit}
use Rattle.cse_meaning.proofs.Standing.{inside}
use Rattle.cse_meaning.proofs.SoundSizes.{picks_many}
use Rattle.cse_meaning.proofs.RoomPlain.{current_fits, number_of_fits, total_fits, occurrence_fits, over_fits, load_local, store_local, store_global, store_cell, store_number, store_text, jump_fits, jump_unless, message_fits, impute_fits, call_fits, end_fits, break_fits, pop_fits, add_fits, subtract_fits, quotient_fits, return_fits}
use Rattle.cse_meaning.proofs.Pooled.{WideFits, CodeFits}
use Rattle.cse_meaning.proofs.Leaves.{WhichHolds, ArgumentHolds, ArgumentsHold, LimitHolds, CountingHolds, StatementHolds, BlockHolds, ArmsHold}
use Rattle.cse_meaning.proofs.RoomFacts as facts
use Rattle.cse_meaning.proofs.RoomFacts.{IsRoomy, mapped_within, item_within, small_number, limit_fits, load_fits, store_fits, record_small, size_fits}
use Rattle.cse_meaning.proofs.RoomExpressions.{joined, undefined_fits, pops_fit, jump_over_fits, picks_fit, number_fits, words_fit, numbers_fit, indexes_fit, cell_within, deck_within, function_within}

drops_fit : (q n : ℕ) → q + drops_size n < 2 ^ 32 → CodeFits (drops_code q n)
drops_fit q n small = joined (jump_over (q + drops_size n) n) (pops n) (jump_over_fits (q + drops_size n) n small) (pops_fit n)

-- ---- parts of statements

module _ (s : Spot) (m : IsRoomy s.scene s.setting) where
  which_fits : (of fail q : ℕ) (x : Which) → of < 256 → fail < 2 ^ 32 → WhichFits s of x → WhichHolds x → q + which_size x ≤ 4000000 → CodeFits (which_code s.setting of fail q x)
  which_fits of fail q (Here h.Loop) there small f l le = (current_fits of there, tt)
  which_fits of fail q (Here h.Event) there small f l le = (load_local 0 (omega arith), tt)
  which_fits of fail q (Here h.First) there small f l le = (small_number 1 (omega arith), (occurrence_fits of there fail small, tt))
  which_fits of fail q (At x) there small f l le = joined (number_code s.setting q x) _ (number_fits s m q x f l (omega (arith, le))) (occurrence_fits of there fail small, tt)

  argument_fits : (q : ℕ) (x : Argument) → ArgumentFits s x → ArgumentHolds x → q + argument_size x ≤ 4000000 → CodeFits (argument_code s.setting q x)
  argument_fits q (OfNumber x) f l le = number_fits s m q x f l le
  argument_fits q (OfWords x) f l le = words_fit s m q x f l le

  arguments_fit : (q : ℕ) (xs : List Argument) → ArgumentsFit s xs → ArgumentsHold xs → q + arguments_size xs ≤ 4000000 → CodeFits (arguments_code s.setting q xs)
  unfolding arguments_size arguments_code
  arguments_fit q [] f l le = tt
  arguments_fit q (x ∷ xs) f l le =
      joined (argument_code s.setting q x) _ (argument_fits q x f.0 l.0 (omega (arith, le))) (arguments_fit (q + argument_size x) xs f.1 l.1 (omega (arith, le)))

  -- ---- the head of a `do`

  limit_code_fits : (x : Limit) → fit.LimitFits s x → LimitHolds x → WideFits (limit_code s.setting.records x)
  limit_code_fits (Fixed x) f l = l
  limit_code_fits (Counted counts.MaxOcc name of) f l = small_number (most_occurrences s.setting.records of) (m.occurrences of)
  limit_code_fits (Counted counts.TotOcc name of) f l = total_fits of (record_small s m of f.1)

  turns_fit : (x : Counting) (a b : Option ℤ) → CountingFits s x → CountingHolds x → CodeFits (turns_code_by s.setting.records x a b)
  turns_fit x (Some a) (Some b) f l = (facts.quotient_fits (sum_of (difference_of (Whole b) (Whole a)) (Whole x.step)) (Whole x.step), tt)
  turns_fit x (Some a) None f l = (limit_code_fits x.stop f.2 l.1, (limit_code_fits x.start f.1 l.0, (subtract_fits, (l.2, (add_fits, (l.2, (quotient_fits, tt)))))))
  turns_fit x None b f l = (limit_code_fits x.stop f.2 l.1, (limit_code_fits x.start f.1 l.0, (subtract_fits, (l.2, (add_fits, (l.2, (quotient_fits, tt)))))))

  head_fits : (x : Counting) → CountingFits s x → CountingHolds x → CodeFits (head_code s.setting x)
  head_fits x f l = (limit_code_fits x.start f.1 l.0, (store_fits s m x.variable f.0, turns_fit x (known s.setting.records x.start) (known s.setting.records x.stop) f l))

  step_fits : (x : Counting) → CountingFits s x → CountingHolds x → CodeFits (step_code s.setting x)
  step_fits x f l = (load_fits s m x.variable f.0, (l.2, (add_fits, (store_fits s m x.variable f.0, tt))))

  -- ---- leaving

  exit_by : (o : Option ℕ) → s.setting.result_at ≡ o → CodeFits (exit_code_by o)
  exit_by None e = (return_fits, tt)
  exit_by (Some r) e = (load_local r (m.result r e), (return_fits, tt))

  exit_fits : CodeFits (exit_code s.setting)
  exit_fits = exit_by s.setting.result_at refl

  entry_by : (o : Option ℕ) → s.setting.result_at ≡ o → CodeFits (entry_code_by o)
  entry_by None e = tt
  entry_by (Some r) e = (undefined_fits, (store_local r (m.result r e), tt))

  jump_fit : (l : Loop) (x : Jump) → l.turn_end ≤ 4000000 → l.end ≤ 4000000 → CodeFits (jump_code s.setting l x)
  jump_fit l j.Break a b = (break_fits l.end (omega (arith, b)), tt)
  jump_fit l j.Next a b = (jump_fits l.turn_end (omega (arith, a)), tt)
  jump_fit l j.Exit a b = exit_fits

  -- ---- statements around others

  over_code_fits : (q : ℕ) (variable : Variable) (of body : ℕ) (xs : List Wide) → IsRecord s of → IsNumberVariable s variable → q + body ≤ 4000000 → CodeFits xs → CodeFits (over_code s.setting q variable of body xs)
  over_code_fits q variable of body xs r v le f =
      let there = record_small s m of r.1 in
      (over_fits of there (q + 4 + body) (omega (arith, le)), (current_fits of there, (number_of_fits of there, (store_fits s m variable v, joined xs _ f (end_fits q (omega (arith, le)), tt)))))

  counted_fits : (q : ℕ) (x : Counting) (body : ℕ) (xs : List Wide) → CountingFits s x → CountingHolds x → q + head_size s.setting.records x + body ≤ 4000000 → CodeFits xs → CodeFits (counted_code s.setting q x body xs)
  counted_fits q x body xs f l le k =
      joined (head_code s.setting x) _ (head_fits x f l) (
        (limit_fits (turns (least s.setting.records x.start) (greatest s.setting.records x.stop) x.step), omega (arith, le)),
        joined xs (step_code s.setting x ++ with_c ops.End (opener_at s.setting q x) ∷ []) k
            (joined (step_code s.setting x) (with_c ops.End (opener_at s.setting q x) ∷ []) (step_fits x f l) (end_fits (opener_at s.setting q x) (omega (arith, le)), tt)),
      )

guard_fits : (end q condition body others : ℕ) (xs ys zs : List Wide) → end ≤ 4000000 → q + front_size condition body others ≤ 4000000 → CodeFits xs → CodeFits ys → CodeFits zs → CodeFits (guard_code end q condition body others xs ys zs)
guard_fits end q condition body others xs ys zs e le f g k =
    joined (front_code end q condition body others xs ys) zs
    (joined xs _ f (jump_unless (q + front_size condition body others) (omega (arith, le)), joined ys (jump_over end others) g (jump_over_fits end others (omega (arith, e))))) k

mutual
  unfolding number_size words_size numbers_size indexes_size statement_size block_size arms_size statement_code block_code arms_code

  statement_fits : (s : Spot) (room : ℕ) (b : Bool) (l : Loop) (q : ℕ) (x : Statement) → IsRoomy s.scene s.setting → l.turn_end ≤ 4000000 → l.end ≤ 4000000 → StatementFits s room b x → StatementHolds x → q + statement_size s.setting x ≤ 4000000 → CodeFits (statement_code s.setting l q x)
  statement_fits s room b l q Empty m turn end f k le = tt
  statement_fits s room b l q (Set name variable x) m turn end f k le = joined (number_code s.setting q x) _ (number_fits s m q x f.1 k (omega (arith, le))) (store_fits s m variable f.0, tt)
  statement_fits s room b l q (SetText name variable x) m turn end f k le =
      joined (words_code s.setting q x) _ (words_fit s m q x f.1 k (omega (arith, le))) (store_global variable (omega (arith, m.globals, mapped_within _ s.scene.lists.globals variable kind.Text f.0)), tt)
  statement_fits s room b l q (SetItem name field which x) m turn end f k le =
      let lt = item_within _ s.scene.shape.items field.item f.0.1.0 f.0.1.1 in
      joined (which_code s.setting field.owner (q + (which_size which + (number_size x + 1))) q which) _
      (which_fits s m field.owner (q + (which_size which + (number_size x + 1))) q which (record_small s m field.owner f.0.0.1) (omega (arith, le)) f.1 k.0 (omega (arith, le)))
      (joined (number_code s.setting (q + which_size which) x) _ (number_fits s m (q + which_size which) x f.2 k.1 (omega (arith, le))) (store_number field.item (omega (arith, m.items, lt)), tt))
  statement_fits s room b l q (SetTextItem name field which x) m turn end f k le =
      let lt = item_within _ s.scene.shape.items field.item f.0.1.0 f.0.1.1 in
      joined (which_code s.setting field.owner (q + (which_size which + (words_size x + 1))) q which) _
      (which_fits s m field.owner (q + (which_size which + (words_size x + 1))) q which (record_small s m field.owner f.0.0.1) (omega (arith, le)) f.1 k.0 (omega (arith, le)))
      (joined (words_code s.setting (q + which_size which) x) _ (words_fit s m (q + which_size which) x f.2 k.1 (omega (arith, le))) (store_text field.item (omega (arith, m.items, lt)), tt))
  statement_fits s room b l q (SetCell name array xs x) m turn end f k le =
      let lt = m.arrays in
      let there = cell_within s m array (count xs) f.0 in
      joined (indexes_code s.setting array (q + indexes_size xs + number_size x + 1 + jump_size (behind xs)) 0 q xs) _
      (indexes_fit s m array (q + indexes_size xs + number_size x + 1 + jump_size (behind xs)) 0 q xs (λ i few. size_fits s m array (count xs) i f.0 (omega (arith, few))) f.1 k.0 (omega (arith, le)) (omega (arith, le)))
      (joined (number_code s.setting (q + indexes_size xs) x) _ (number_fits s m (q + indexes_size xs) x f.2 k.1 (omega (arith, le)))
      (store_cell array (omega (arith, lt, there)), drops_fit (q + indexes_size xs + number_size x + 1) (behind xs) (omega (arith, le))))
  statement_fits s room b l q (CallOf name function xs) m turn end f k le =
      let lt = m.routines in
      let there = function_within s m function xs f.0 in
      joined (numbers_code s.setting q xs) _ (numbers_fit s m q xs f.1 k (omega (arith, le))) (call_fits function (omega (arith, lt, there)), (pop_fits 0 (omega arith), tt))
  statement_fits s room b l q (If condition body others) m turn end f k le =
      let out = q + guard_size (number_size condition) (block_size s.setting body) (arms_size s.setting others) in
      guard_fits out q (number_size condition) (block_size s.setting body) (arms_size s.setting others) _ _ _ (omega (arith, le)) (omega (arith, le))
      (number_fits s m q condition f.0 k.0 (omega (arith, le)))
      (block_fits s room b l (q + number_size condition + 1) body m turn end f.1 k.1 (omega (arith, le)))
      (arms_fit s room b l out (q + front_size (number_size condition) (block_size s.setting body) (arms_size s.setting others)) others m turn end (omega (arith, le)) f.2 k.2 (omega (arith, le)))
  statement_fits s room b l q (For name variable record_name of body) m turn end f k le =
      let r = inside room (λ n. BlockFits (over s of) n true body) f.2 in
      over_code_fits s m q variable of (block_size s.setting body) _ f.0 f.1 (omega (arith, le))
      (block_fits (over s of) r.0 true (loop_to (q + 4 + block_size s.setting body) (q + 4 + block_size s.setting body)) (q + 4) body m (omega (arith, le)) (omega (arith, le)) r.1 k (omega (arith, le)))
  statement_fits s room b l q (Do counting body) m turn end f k le =
      let r = inside room (λ n. BlockFits s n true body) f.1 in
      counted_fits s m q counting (block_size s.setting body) _ f.0 k.0 (omega (arith, le))
      (block_fits s r.0 true (loop_to (turn_end_at s.setting q counting (block_size s.setting body)) (turn_end_at s.setting q counting (block_size s.setting body) + 4)) (opener_at s.setting q counting + 1) body m (omega (arith, le)) (omega (arith, le)) r.1 k.1 (omega (arith, le)))
  statement_fits s room b l q (Jump' token x) m turn end f k le = jump_fit s m l x turn end
  statement_fits s room b l q (Impute name field which x) m turn end f k le =
      let lt = item_within _ s.scene.shape.items field.item f.0.1.0 f.0.1.1 in
      joined (which_code s.setting field.owner (q + (which_size which + (number_size x + 1))) q which) _
      (which_fits s m field.owner (q + (which_size which + (number_size x + 1))) q which (record_small s m field.owner f.0.0.1) (omega (arith, le)) f.1 k.0 (omega (arith, le)))
      (joined (number_code s.setting (q + which_size which) x) _ (number_fits s m (q + which_size which) x f.2 k.1 (omega (arith, le))) (impute_fits field.item (omega (arith, m.items, lt)), tt))
  statement_fits s room b l q (PutDeck name array picks x) m turn end f k le =
      let few = (m.sizes array f.0.0 f.0.1).0 in
      let same = picks_many s f.0.0.dimensions picks f.0.2 in
      let lt = m.arrays in
      let there = deck_within s m array picks f.0 in
      let deep = deepest_small picks in
      joined (picks_code (q + picks_size picks + number_size x + 1 + jump_size (deepest picks)) q picks) _
      (picks_fit s m f.0.0.dimensions (q + picks_size picks + number_size x + 1 + jump_size (deepest picks)) q picks f.0.2 (omega (arith, le)) (omega (arith, le, few, same)))
      (joined (number_code s.setting (q + picks_size picks) x) _ (number_fits s m (q + picks_size picks) x f.1 k (omega (arith, le)))
      (store_cell array (omega (arith, lt, there)), drops_fit (q + picks_size picks + number_size x + 1) (deepest picks) (omega (arith, le))))
  statement_fits s room b l q (ErrMsg message index xs summary) m turn end f k le =
      let few = m.messages in
      let lt = slice_get_within s.scene.lists.messages index f.0.0 f.0.1 in
      joined (arguments_code s.setting q xs) _ (arguments_fit s m q xs f.1 k.1 (omega (arith, le))) (message_fits index (omega (arith, few, lt)), tt)

  pub block_fits : (s : Spot) (room : ℕ) (b : Bool) (l : Loop) (q : ℕ) (xs : Statements) → IsRoomy s.scene s.setting → l.turn_end ≤ 4000000 → l.end ≤ 4000000 → BlockFits s room b xs → BlockHolds xs → q + block_size s.setting xs ≤ 4000000 → CodeFits (block_code s.setting l q xs)
  block_fits s room b l q no_statement m turn end f k le = tt
  block_fits s room b l q (statement_and x xs) m turn end f k le =
      joined (statement_code s.setting l q x) _ (statement_fits s room b l q x m turn end f.0 k.0 (omega (arith, le)))
      (block_fits s room b l (q + statement_size s.setting x) xs m turn end f.1 k.1 (omega (arith, le)))

  arms_fit : (s : Spot) (room : ℕ) (b : Bool) (l : Loop) (out q : ℕ) (xs : Arms) → IsRoomy s.scene s.setting → l.turn_end ≤ 4000000 → l.end ≤ 4000000 → out ≤ 4000000 → ArmsFit s room b xs → ArmsHold xs → q + arms_size s.setting xs ≤ 4000000 → CodeFits (arms_code s.setting l out q xs)
  arms_fit s room b l out q no_arm m turn end o f k le = tt
  arms_fit s room b l out q (else_of body) m turn end o f k le = block_fits s room b l q body m turn end f k le
  arms_fit s room b l out q (arm condition body others) m turn end o f k le =
      guard_fits out q (number_size condition) (block_size s.setting body) (arms_size s.setting others) _ _ _ o (omega (arith, le))
      (number_fits s m q condition f.0 k.0 (omega (arith, le)))
      (block_fits s room b l (q + number_size condition + 1) body m turn end f.1 k.1 (omega (arith, le)))
      (arms_fit s room b l out (q + front_size (number_size condition) (block_size s.setting body) (arms_size s.setting others)) others m turn end o f.2 k.2 (omega (arith, le)))

pub routine_fits : (s : Spot) (body : Statements) → IsRoomy s.scene s.setting → BlockFits s 64 false body → BlockHolds body → routine_size s.setting body ≤ 4000000 → CodeFits (routine_code s.setting body)
unfolding routine_size routine_code
routine_fits s body m f k le =
    joined (entry_code_by s.setting.result_at) _ (entry_by s m s.setting.result_at refl)
    (joined (block_code s.setting no_loop (entry_size_by s.setting.result_at) body) _
    (block_fits s 64 false no_loop (entry_size_by s.setting.result_at) body m (omega arith) (omega arith) f k (omega (arith, le))) (exit_fits s m))
