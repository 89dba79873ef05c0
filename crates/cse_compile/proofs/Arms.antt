-- The code of an `if`, arm by arm.
use Rattle.std.proofs.Common.{◌≡◌, ◌≤◌, ◌<◌, ℕ, ◌+◌, ◌-◌, ◌==◌, Bool, false, if◌then◌else◌, List, [], ◌∷◌, ◌++◌, length, map, get_or, drop, Option, ap, sym, subst, ◌∙◌, arith, append_assoc, length-drop}
use Rattle.std.specs.Prelude.{min}
use Rattle.std.specs.Global.{Vec}
use Rattle.std.proofs.lemmas.Bool.Decides.{nat_tests}
use Rattle.std.proofs.lemmas.List.{drop_more, length-map}
use Rattle.cse_image_parts.specs.declared.instruction.Op.TheVariants as ops
use Rattle.cse_logic_tree.specs.declared.tree.Arm as rustarm
use Rattle.cse_logic_tree.specs.declared.tree.Statement as rusts
use Rattle.cse_logic_tree.specs.declared.tree.StatementKind.TheVariants as v
use Rattle.cse_logic_tree.specs.Typed.{Number, Statements, Arms, If, arms, statement, statement_kind, arm_tree, otherwise_tree}
use Rattle.cse_logic_tree.proofs.Rows.{if_is}
use Rattle.cse_compile.specs.declared.setting.Loop.{Loop}
use Rattle.cse_compile.specs.Wide.{Wide, with_c, jump, jump_over}
use Rattle.cse_compile.specs.Setting.{Setting}
use Rattle.cse_compile.specs.Expressions.{number_size, number_code}
use Rattle.cse_compile.specs.Statements.{guard_size, front_size, statement_size, block_size, arms_size, all_arms_size, arm_size, arm_code, arms_alone_size, arms_alone_code, statement_code, block_code, arms_code}
use Rattle.cse_compile.proofs.Blocks.{all_arms_are}

-- ---- how many instructions stand behind an arm matters only where there are none

some_jump : (end n : ℕ) → 1 ≤ n → jump_over end n ≡ jump end ∷ []
some_jump end n h = let e : (n == 0) ≡ false = grind (arith, nat_tests) in ap (λ (b : Bool). if b then [] else jump end ∷ []) e

some_arms : (s : Setting) (y : Number × Statements) (ys : List (Number × Statements)) (last : ℕ) → 1 ≤ all_arms_size s (y ∷ ys) last
some_arms s y ys last = omega (arith)

pub rest_size_is : (s : Setting) (x : Number × Statements) (xs : List (Number × Statements)) (last n : ℕ) → n ≡ (if length xs == 0 then last else 1) → arm_size s x n ≡ arm_size s x (all_arms_size s xs last)
rest_size_is s x [] last n e = ap (arm_size s x) e
rest_size_is s x (y ∷ ys) last n e =
    let one : n ≡ 1 = grind (arith, nat_tests, e) in
    let some = some_arms s y ys last in
    omega (arith, one, some)

pub rest_code_is : (s : Setting) (l : Loop) (end q : ℕ) (x : Number × Statements) (xs : List (Number × Statements)) (last n : ℕ) → n ≡ (if length xs == 0 then last else 1) → arm_code s l end q x n ≡ arm_code s l end q x (all_arms_size s xs last)
rest_code_is s l end q x [] last n e = ap (arm_code s l end q x) e
rest_code_is s l end q x (y ∷ ys) last n e =
    let one : n ≡ 1 = grind (arith, nat_tests, e) in
    let some = some_arms s y ys last in
    let m = all_arms_size s (y ∷ ys) last in
    let same : front_size (number_size x.0) (block_size s x.1) 1 ≡ front_size (number_size x.0) (block_size s x.1) m = omega (arith, some) in
    let jumps : jump end ∷ [] ≡ jump_over end m = sym (some_jump end m some) in
    ap (arm_code s l end q x) one
    ∙ ap (λ k. number_code s q x.0 ++ (with_c ops.JumpUnless (q + k) ∷ (block_code s l (q + number_size x.0 + 1) x.1 ++ jump end ∷ []))) same
    ∙ ap (λ c. number_code s q x.0 ++ (with_c ops.JumpUnless (q + front_size (number_size x.0) (block_size s x.1) m) ∷ (block_code s l (q + number_size x.0 + 1) x.1 ++ c))) jumps

-- ---- arms one after the other

pub arms_size_is : (s : Setting) (xs : List (Number × Statements)) (last : ℕ) → all_arms_size s xs last ≡ arms_alone_size s xs last + last
arms_size_is s [] last = omega (arith)
arms_size_is s (x ∷ xs) last = let e = arms_size_is s xs last in omega (arith, e)

pub arms_code_is : (s : Setting) (l : Loop) (end q : ℕ) (xs : List (Number × Statements)) (last : Arms)
    → arms_code s l end q (arms xs last) ≡ arms_alone_code s l end q xs (arms_size s last) ++ arms_code s l end (q + arms_alone_size s xs (arms_size s last)) last
unfolding arms_code
arms_code_is s l end q [] last = let e : q ≡ q + 0 = omega (arith) in ap (λ n. arms_code s l end n last) e
arms_code_is s l end q (x ∷ xs) last =
    let n = all_arms_size s xs (arms_size s last) in
    let front = arm_code s l end q x n in
    let next = q + arm_size s x n in
    let alone = arms_alone_code s l end next xs (arms_size s last) in
    let place : next + arms_alone_size s xs (arms_size s last) ≡ q + arms_alone_size s (x ∷ xs) (arms_size s last) = omega (arith) in
    ap (λ k. arm_code s l end q x k ++ arms_code s l end (q + arm_size s x k) (arms xs last)) (sym (all_arms_are s xs last))
    ∙ ap (λ c. front ++ c) (arms_code_is s l end next xs last)
    ∙ sym (append_assoc front alone (arms_code s l end (next + arms_alone_size s xs (arms_size s last)) last))
    ∙ ap (λ k. (front ++ alone) ++ arms_code s l end k last) place

-- ---- a whole `if`

if_code : (s : Setting) (l : Loop) (q : ℕ) (x : Number × Statements) (xs : List (Number × Statements)) (last : Arms)
    (old with_first with_others new : List Wide) (end second third rest n : ℕ)
    → n ≡ arms_size s last
    → rest ≡ all_arms_size s xs n
    → end ≡ q + guard_size (number_size x.0) (block_size s x.1) (arms_size s (arms xs last))
    → second ≡ q + arm_size s x rest
    → third ≡ second + arms_alone_size s xs n
    → with_first ≡ old ++ arm_code s l end q x rest
    → with_others ≡ with_first ++ arms_alone_code s l end second xs n
    → new ≡ with_others ++ arms_code s l end third last
    → new ≡ old ++ statement_code s l q (If x.0 x.1 (arms xs last))
unfolding statement_code
if_code s l q x xs last old with_first with_others new end second third rest n n_is rest_is end_is second_is third_is first_are others_are last_are =
    let whole : rest ≡ arms_size s (arms xs last) = rest_is ∙ ap (all_arms_size s xs) n_is ∙ all_arms_are s xs last in
    let front = arm_code s l end q x rest in
    let alone = arms_alone_code s l end second xs n in
    let others : alone ++ arms_code s l end third last ≡ arms_code s l end second (arms xs last) =
    ap (λ k. alone ++ arms_code s l end k last) third_is
    ∙ ap (λ k. arms_alone_code s l end second xs k ++ arms_code s l end (second + arms_alone_size s xs k) last) n_is
    ∙ sym (arms_code_is s l end second xs last) in
    last_are
    ∙ ap (λ c. c ++ arms_code s l end third last) others_are
    ∙ append_assoc with_first alone (arms_code s l end third last)
    ∙ ap (λ c. with_first ++ c) others
    ∙ ap (λ c. c ++ arms_code s l end second (arms xs last)) first_are
    ∙ append_assoc old front (arms_code s l end second (arms xs last))
    ∙ ap (λ k. old ++ (front ++ arms_code s l end k (arms xs last))) second_is
    ∙ ap (λ k. old ++ (arm_code s l end q x k ++ arms_code s l end (q + arm_size s x k) (arms xs last))) whole
    ∙ ap (λ k. old ++ (arm_code s l k q x (arms_size s (arms xs last)) ++ arms_code s l k (q + arm_size s x (arms_size s (arms xs last))) (arms xs last))) end_is

-- the sizes that are told before the code of an `if`: of what stands behind all arms, and behind the first
pub record Told (s : Setting) (first : rustarm.Arm) (others : Vec rustarm.Arm) (otherwise : Option (Vec rusts.Statement)) (x : rusts.Statement) (behind rest : ℕ) : Type 0 where
  pub tree : statement x ≡ If (arm_tree first).0 (arm_tree first).1 (arms (map arm_tree others.items) (otherwise_tree otherwise))
  pub whole : statement_size s (statement x) ≡ guard_size (number_size (arm_tree first).0) (block_size s (arm_tree first).1) (arms_size s (arms (map arm_tree others.items) (otherwise_tree otherwise)))
  pub behind_all : behind ≡ arms_size s (otherwise_tree otherwise)
  pub behind_first : rest ≡ all_arms_size s (map arm_tree others.items) behind
  -- the first arm, the other arms, and what stands behind them
  pub parts : statement_size s (statement x) ≡ arm_size s (arm_tree first) rest + (arms_alone_size s (map arm_tree others.items) behind + behind)

pub told : (s : Setting) (first : rustarm.Arm) (others : Vec rustarm.Arm) (otherwise : Option (Vec rusts.Statement)) (x : rusts.Statement) (q behind rest : ℕ)
    → x.kind.value ≡ v.If first others otherwise
    → q + statement_size s (statement x) ≤ 1000000
    → behind ≡ min (arms_size s (otherwise_tree otherwise)) 1000001
    → rest ≡ min (all_arms_size s (map arm_tree others.items) behind) 1000001
    → Told s first others otherwise x behind rest
unfolding statement_size
told s first others otherwise x q behind rest x_is room behind_is rest_is =
    let xs = map arm_tree others.items in
    let last = otherwise_tree otherwise in
    let tree = ap statement_kind x_is ∙ if_is first others otherwise in
    let whole : statement_size s (statement x) ≡ guard_size (number_size (arm_tree first).0) (block_size s (arm_tree first).1) (arms_size s (arms xs last)) = ap (statement_size s) tree in
    let all = all_arms_are s xs last in
    let alone = arms_size_is s xs (arms_size s last) in
    let behind_all : behind ≡ arms_size s last = omega (arith, whole, room, behind_is, all, alone) in
    let same : all_arms_size s xs behind ≡ arms_size s (arms xs last) = ap (all_arms_size s xs) behind_all ∙ all in
    let behind_first : rest ≡ all_arms_size s xs behind = omega (arith, whole, room, same, rest_is) in
    record {
      tree = tree;
      whole = whole;
      behind_all = behind_all;
      behind_first = behind_first;
      parts = omega (arith, whole, same, behind_first, arms_size_is s xs behind);
    }

pub choice_code : (s : Setting) (l : Loop) (q : ℕ) (first : rustarm.Arm) (others : Vec rustarm.Arm) (otherwise : Option (Vec rusts.Statement)) (x : rusts.Statement)
    (old with_first with_others new : List Wide) (end second third rest behind : ℕ)
    → Told s first others otherwise x behind rest
    → end ≡ q + statement_size s (statement x)
    → second ≡ q + arm_size s (arm_tree first) rest
    → third ≡ second + arms_alone_size s (map arm_tree others.items) behind
    → with_first ≡ old ++ arm_code s l end q (arm_tree first) rest
    → with_others ≡ with_first ++ arms_alone_code s l end second (map arm_tree others.items) behind
    → new ≡ with_others ++ arms_code s l end third (otherwise_tree otherwise)
    → new ≡ old ++ statement_code s l q (statement x)
choice_code s l q first others otherwise x old with_first with_others new end second third rest behind sizes end_is second_is third_is first_are others_are last_are =
    if_code s l q (arm_tree first) (map arm_tree others.items) (otherwise_tree otherwise) old with_first with_others new end second third rest behind
    sizes.behind_all
    sizes.behind_first
    (end_is ∙ ap (λ n. q + n) sizes.whole)
    second_is
    third_is
    first_are
    others_are
    last_are
    ∙ ap (λ y. old ++ statement_code s l q y) (sym sizes.tree)

-- ---- one turn of the loop over arms

arms_step_size : (s : Setting) (x : Number × Statements) (xs : List (Number × Statements)) (last rest : ℕ) → rest ≡ (if length xs == 0 then last else 1) → arm_size s x rest + arms_alone_size s xs last ≡ arms_alone_size s (x ∷ xs) last
arms_step_size s x xs last rest rest_is = ap (λ n. n + arms_alone_size s xs last) (rest_size_is s x xs last rest rest_is)

pub arms_step_code : (s : Setting) (l : Loop) (end at next : ℕ) (x : Number × Statements) (xs : List (Number × Statements)) (last rest : ℕ) (now new : List Wide)
    → rest ≡ (if length xs == 0 then last else 1)
    → next ≡ at + arm_size s x rest
    → new ≡ now ++ arm_code s l end at x rest
    → new ++ arms_alone_code s l end next xs last ≡ now ++ arms_alone_code s l end at (x ∷ xs) last
arms_step_code s l end at next x xs last rest now new rest_is next_is new_is =
    ap (λ c. c ++ arms_alone_code s l end next xs last) new_is
    ∙ append_assoc now (arm_code s l end at x rest) (arms_alone_code s l end next xs last)
    ∙ ap (λ k. now ++ (arm_code s l end at x rest ++ arms_alone_code s l end k xs last)) (next_is ∙ ap (λ k. at + k) (rest_size_is s x xs last rest rest_is))
    ∙ ap (λ c. now ++ (c ++ arms_alone_code s l end (at + arm_size s x (all_arms_size s xs last)) xs last)) (rest_code_is s l end at x xs last rest rest_is)

-- the arm of the turn, and the arms behind it
pub record Turn (s : Setting) (xs : List rustarm.Arm) (i : ℕ) (x : rustarm.Arm) (left last rest : ℕ) : Type 0 where
  pub split : map arm_tree (drop i xs) ≡ arm_tree x ∷ map arm_tree (drop (i + 1) xs)
  pub left_is : left + (i + 1) ≡ length xs
  pub rest_is : rest ≡ (if length (map arm_tree (drop (i + 1) xs)) == 0 then last else 1)
  pub size : arm_size s (arm_tree x) rest + arms_alone_size s (map arm_tree (drop (i + 1) xs)) last ≡ arms_alone_size s (map arm_tree (drop i xs)) last

pub turn : (s : Setting) (xs ys : List rustarm.Arm) (i : ℕ) (x : rustarm.Arm) (left last rest : ℕ)
    → ys ≡ xs
    → left + i ≡ length xs
    → i < length ys
    → x ≡ get_or ys i x
    → rest ≡ (if left - 1 == 0 then last else 1)
    → Turn s xs i x (left - 1) last rest
turn s xs ys i x left last rest same count inside x_is rest_told =
    let there : drop i ys ≡ x ∷ drop (i + 1) ys = drop_more ys i x inside ∙ ap (λ y. y ∷ drop (i + 1) ys) (sym x_is) in
    let here = subst (λ zs. drop i zs ≡ x ∷ drop (i + 1) zs) same there in
    let split = ap (map arm_tree) here in
    let others = map arm_tree (drop (i + 1) xs) in
    let more = ap length same in
    let left_is : left - 1 ≡ length others = omega (arith, length-map (drop (i + 1) xs) arm_tree, length-drop (i + 1) xs, count) in
    let rest_is : rest ≡ (if length others == 0 then last else 1) = rest_told ∙ ap (λ k. if k == 0 then last else 1) left_is in
    record {
      split = split;
      left_is = omega (arith, more, count, inside);
      rest_is = rest_is;
      size = arms_step_size s (arm_tree x) others last rest rest_is ∙ ap (λ zs. arms_alone_size s zs last) (sym split);
    }
