-- A routine takes at most the steps that its tokens cost.
use Rattle.std.proofs.Common.{◌≤◌, ℕ, ◌+◌, ◌*◌, Bool, true, List, [], ◌∷◌, arith}
use Rattle.std.specs.Prelude.{slice_index, min, pos, negsuc}
use Rattle.std.proofs.Math.Nat.{le-max_left, mul-le-mul_left, mul-le-mul_right}
use Rattle.cse_value.specs.declared.number.Num.{Num}
use Rattle.cse_value.specs.declared.number.Num.TheVariants as num
use Rattle.cse_value.specs.Occurrences.{most_occurrences}
use Rattle.cse_logic_tree.specs.Typed.{Number, Words, Numbers, Operations, Constant, Special', Variable', Item, ItemAt, Cell, Call, Group, Int, IsSpecial, Deck, TotOcc, MaxOcc, CurOcc, InSet, Minus, Not, Compare, CompareTexts, Chain}
use Rattle.cse_logic_tree.specs.Typed.{Quoted, TextGlobal, TextItem, TextItemAt, TextGroup, no_number, number_and, no_operation, operation_and}
use Rattle.cse_logic_tree.specs.Typed.{Which, Here, At, Argument, OfNumber, OfWords, Statement, Statements, Arms}
use Rattle.cse_logic_tree.specs.Typed.{Empty, Set, SetText, SetItem, SetTextItem, SetCell, CallOf, If, For, Do, Jump', Impute, PutDeck, ErrMsg, no_statement, statement_and, no_arm, else_of, arm}
use Rattle.cse_logic_tree.specs.Erase.{erase_counting}
use Rattle.cse_logic_tree.specs.Tokens.{counting_tokens}
use Rattle.cse_compile.specs.Statements.{as_limit, head_size, known, turn_limit, statement_size, arms_size}
use Rattle.cse_compile.proofs.Small.{exit_small, jump_code_small, jump_small, turns_small, entry_small}
use Rattle.cse_meaning.specs.Fit.{Spot, over, StatementFits, BlockFits, ArmsFit}
use Rattle.cse_meaning.specs.Steps.{number_calls, words_calls, numbers_calls, operations_calls, which_calls, argument_calls, arguments_calls, loop_steps, statement_steps, block_steps, arms_steps, routine_steps}
use Rattle.cse_meaning.proofs.Standing.{within_may}
use Rattle.cse_meaning.specs.Cost.{statement_cost, block_cost, arms_cost, routine_cost}
use Rattle.cse_meaning.proofs.SoundSizes.{IsSmall, small_over, number_small, words_small, numbers_small, which_small, arguments_small, place_small, deck_place_small}

-- ---- calls

module _ (bounds costs : List ℕ) (le : (k : ℕ) → slice_index bounds k ≤ slice_index costs k) where
  mutual
    unfolding number_calls words_calls numbers_calls operations_calls

    number_cheap : (x : Number) → number_calls bounds x ≤ number_calls costs x
    number_cheap (Constant digits value) = omega arith
    number_cheap (Special' token value) = omega arith
    number_cheap (Variable' name variable) = omega arith
    number_cheap (Item name item) = omega arith
    number_cheap (ItemAt name field x) = number_cheap x
    number_cheap (Cell name array xs) = numbers_cheap xs
    number_cheap (Call name function xs) = let a = numbers_cheap xs in let b = le function in omega (arith, a, b)
    number_cheap (Group x) = number_cheap x
    number_cheap (Int x) = number_cheap x
    number_cheap (IsSpecial x) = number_cheap x
    number_cheap (Deck name array picks) = omega arith
    number_cheap (TotOcc name of) = omega arith
    number_cheap (MaxOcc name of) = omega arith
    number_cheap (CurOcc name of found) = omega arith
    number_cheap (InSet name item set_name set) = omega arith
    number_cheap (Minus x) = number_cheap x
    number_cheap (Not x) = number_cheap x
    number_cheap (Compare relation x y) = let a = number_cheap x in let b = number_cheap y in omega (arith, a, b)
    number_cheap (CompareTexts relation x y) = let a = words_cheap x in let b = words_cheap y in omega (arith, a, b)
    number_cheap (Chain x xs) = let a = number_cheap x in let b = operations_cheap xs in omega (arith, a, b)

    words_cheap : (x : Words) → words_calls bounds x ≤ words_calls costs x
    words_cheap (Quoted text) = omega arith
    words_cheap (TextGlobal name variable) = omega arith
    words_cheap (TextItem name item) = omega arith
    words_cheap (TextItemAt name field x) = number_cheap x
    words_cheap (TextGroup x) = words_cheap x

    numbers_cheap : (xs : Numbers) → numbers_calls bounds xs ≤ numbers_calls costs xs
    numbers_cheap no_number = omega arith
    numbers_cheap (number_and x xs) = let a = number_cheap x in let b = numbers_cheap xs in omega (arith, a, b)

    operations_cheap : (xs : Operations) → operations_calls bounds xs ≤ operations_calls costs xs
    operations_cheap no_operation = omega arith
    operations_cheap (operation_and operator x xs) = let a = number_cheap x in let b = operations_cheap xs in omega (arith, a, b)

  which_cheap : (x : Which) → which_calls bounds x ≤ which_calls costs x
  which_cheap (Here found) = omega arith
  which_cheap (At x) = number_cheap x

  argument_cheap : (x : Argument) → argument_calls bounds x ≤ argument_calls costs x
  argument_cheap (OfNumber x) = number_cheap x
  argument_cheap (OfWords x) = words_cheap x

  arguments_cheap : (xs : List Argument) → arguments_calls bounds xs ≤ arguments_calls costs xs
  arguments_cheap [] = omega arith
  arguments_cheap (x ∷ xs) = let a = argument_cheap x in let b = arguments_cheap xs in omega (arith, a, b)

-- ---- loops

as_limit_some : (x : Num) → 1 ≤ as_limit x
as_limit_some (num.Whole (pos n)) = le-max_left 1 (min n 4294967295)
as_limit_some (num.Whole (negsuc n)) = omega arith
as_limit_some num.NotAppl = omega arith
as_limit_some num.Missing = omega arith
as_limit_some num.Undef = omega arith

-- a loop that has a turn at least: what stands before it is paid by its first turn
loop_cheap : (turns before body cost : ℕ) → 1 ≤ turns → before + (body + 2) ≤ cost → before + loop_steps turns body ≤ turns * cost
loop_cheap turns before body cost some le =
    let a = mul-le-mul_left turns le in
    let c = mul-le-mul_right (before + 1) some in
    omega (arith, a, c)

-- ---- statements

module _ (bounds costs : List ℕ) (le : (k : ℕ) → slice_index bounds k ≤ slice_index costs k) where
  mutual
    unfolding statement_size statement_steps block_steps arms_steps statement_cost block_cost arms_cost

    pub statement_cheap : (s : Spot) (room : ℕ) (b : Bool) (x : Statement) → IsSmall s → StatementFits s room b x → statement_steps bounds s.setting x ≤ statement_cost costs s.setting x
    statement_cheap s room b Empty m f = omega arith
    statement_cheap s room b (Set name variable x) m f = let a = number_small s m x f.1 in let c = number_cheap bounds costs le x in omega (arith, a, c)
    statement_cheap s room b (SetText name variable x) m f = let a = words_small s m x f.1 in let c = words_cheap bounds costs le x in omega (arith, a, c)
    statement_cheap s room b (SetItem name field which x) m f =
        let a = which_small s m field.owner which f.1 in
        let c = number_small s m x f.2 in
        let d = which_cheap bounds costs le which in
        let e = number_cheap bounds costs le x in
        omega (arith, a, c, d, e)
    statement_cheap s room b (SetTextItem name field which x) m f =
        let a = which_small s m field.owner which f.1 in
        let c = words_small s m x f.2 in
        let d = which_cheap bounds costs le which in
        let e = words_cheap bounds costs le x in
        omega (arith, a, c, d, e)
    statement_cheap s room b (SetCell name array xs x) m f =
        let a = place_small s m xs f.1 in
        let c = number_small s m x f.2 in
        let d = numbers_cheap bounds costs le xs in
        let e = number_cheap bounds costs le x in
        omega (arith, a, c, d, e)
    statement_cheap s room b (CallOf name function xs) m f =
        let a = numbers_small s m xs f.1 in
        let c = numbers_cheap bounds costs le xs in
        let d = le function in
        omega (arith, a, c, d)
    statement_cheap s room b (If condition body others) m f =
        let a = number_small s m condition f.0 in
        let c = number_cheap bounds costs le condition in
        let d = block_cheap s room b body m f.1 in
        let e = arms_cheap s room b others m f.2 in
        let g = jump_small (arms_size s.setting others) in
        omega (arith, a, c, d, e, g)
    statement_cheap s room b (For name variable record_name of body) m f =
        within_may room (λ n. BlockFits (over s of) n true body) _ f.2 (λ n g.
        let a = block_cheap (over s of) n true body (small_over s of m) g in
        let c = loop_cheap (most_occurrences s.setting.records of) 0 (3 + block_steps bounds s.setting body) (16 * 7 + block_cost costs s.setting body) (m.most of f.0.1) (omega (arith, a)) in
        omega (arith, c))
    statement_cheap s room b (Do counting body) m f =
        within_may room (λ n. BlockFits s n true body) _ f.1 (λ n g.
        let a = block_cheap s n true body m g in
        let h = turns_small (known s.setting.records counting.start) (known s.setting.records counting.stop) in
        loop_cheap (turn_limit s.setting.records counting) (head_size s.setting.records counting) (block_steps bounds s.setting body + 4) (16 * (3 + counting_tokens (erase_counting counting)) + block_cost costs s.setting body) (as_limit_some _) (omega (arith, a, h)))
    statement_cheap s room b (Jump' token x) m f = let a = jump_code_small s.setting x in omega (arith, a)
    statement_cheap s room b (Impute name field which x) m f =
        let a = which_small s m field.owner which f.1 in
        let c = number_small s m x f.2 in
        let d = which_cheap bounds costs le which in
        let e = number_cheap bounds costs le x in
        omega (arith, a, c, d, e)
    statement_cheap s room b (PutDeck name array picks x) m f =
        let a = deck_place_small s m array picks f.0 in
        let c = number_small s m x f.1 in
        let d = number_cheap bounds costs le x in
        omega (arith, a, c, d)
    statement_cheap s room b (ErrMsg message index xs summary) m f =
        let a = arguments_small s m xs f.1 in
        let c = arguments_cheap bounds costs le xs in
        omega (arith, a, c)

    pub block_cheap : (s : Spot) (room : ℕ) (b : Bool) (xs : Statements) → IsSmall s → BlockFits s room b xs → block_steps bounds s.setting xs ≤ block_cost costs s.setting xs
    block_cheap s room b no_statement m f = omega arith
    block_cheap s room b (statement_and x xs) m f = let a = statement_cheap s room b x m f.0 in let c = block_cheap s room b xs m f.1 in omega (arith, a, c)

    pub arms_cheap : (s : Spot) (room : ℕ) (b : Bool) (xs : Arms) → IsSmall s → ArmsFit s room b xs → arms_steps bounds s.setting xs ≤ arms_cost costs s.setting xs
    arms_cheap s room b no_arm m f = omega arith
    arms_cheap s room b (else_of body) m f = let a = block_cheap s room b body m f in omega (arith, a)
    arms_cheap s room b (arm condition body others) m f =
        let a = number_small s m condition f.0 in
        let c = number_cheap bounds costs le condition in
        let d = block_cheap s room b body m f.1 in
        let e = arms_cheap s room b others m f.2 in
        let g = jump_small (arms_size s.setting others) in
        omega (arith, a, c, d, e, g)

  pub routine_cheap : (s : Spot) (room : ℕ) (b : Bool) (body : Statements) → IsSmall s → BlockFits s room b body → routine_steps bounds s.setting body ≤ routine_cost costs s.setting body
  unfolding routine_steps routine_cost
  routine_cheap s room b body m f =
      let a = block_cheap s room b body m f in
      let c = entry_small s.setting.result_at in
      let d = exit_small s.setting.result_at in
      omega (arith, a, c, d)
