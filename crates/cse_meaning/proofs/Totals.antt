-- The code of all routines is at most 16 times as long as the tokens of their source, and names at most as many entries.
use Rattle.std.proofs.Common.{◌≡◌, ◌≤◌, ℕ, ◌+◌, ◌*◌, Bool, true, false, List, [], ◌∷◌, ◌++◌, length, map, Option, Some, None, refl, arith, length-append}
use Rattle.std.specs.Prelude.{if◌then◌else◌}
use Rattle.std.specs.Option.{option_map}
use Rattle.cse_logic_tree.specs.declared.tree.Owner.{Owner}
use Rattle.cse_logic_tree.specs.Typed.{Statements, Declaration, Numeric, Alpha, Array', Function', Body, Plain, Preproc, Both, Postproc, Procedure, Tree}
use Rattle.cse_logic_tree.specs.Erase.{erase_declaration, erase_body, erase_procedure}
use Rattle.cse_logic_tree.specs.Tokens.{all_tokens, declaration_tokens, body_tokens, procedure_tokens, globals_tokens}
use Rattle.cse_compile.specs.Setting.{Setting}
use Rattle.cse_compile.specs.Routines.{routine_code}
use Rattle.cse_meaning.proofs.TypedBlocks.{routine_length}
use Rattle.cse_meaning.specs.Entries.{Table, entries}
use Rattle.cse_meaning.specs.Measure.{tokens}
use Rattle.cse_meaning.proofs.SmallSizes.{routine_short}
use Rattle.cse_meaning.proofs.SmallEntries.{both, routine_entries}
use Rattle.cse_compile.specs.declared.outlines.RoutineSort.TheVariants as sorts
use Rattle.cse_compile.specs.Outline.{Outline, Handler, event_of, function_of, functions_in, is_idle, handler_of, handlers_of_body, handlers_of, handlers_in}
use Rattle.cse_meaning.specs.Totals.{declarations_in, outlines, tokens_of, all_code, AreFew, AllCodeIsShort, AllEntriesAreFew}

abbrev outline_of : Handler → Outline
outline_of x = x.outline

-- the tokens of all bodies, and a quarter of a token for the entry and exit of each routine: the most instructions
abbrev pub most_code : List Outline → ℕ
most_code [] = 0
most_code (x ∷ xs) = 16 * tokens x.body + 4 + most_code xs

most_both : (xs ys : List Outline) → most_code (xs ++ ys) ≡ most_code xs + most_code ys
most_both [] ys = omega arith
most_both (x ∷ xs) ys = let ih = most_both xs ys in omega (arith, ih)

-- ---- functions

declaration_most : (d : Declaration) → most_code (function_of d) ≤ 16 * declaration_tokens (erase_declaration d)
declaration_most (Numeric names) = omega arith
declaration_most (Alpha digits size names) = omega arith
declaration_most (Array' array) = omega arith
declaration_most (Function' f) = omega arith

functions_most : (ds : List Declaration) → most_code (functions_in ds) ≤ 16 * all_tokens declaration_tokens (map erase_declaration ds)
functions_most [] = omega arith
functions_most (d ∷ ds) = omega (arith, most_both (function_of d) (functions_in ds), declaration_most d, functions_most ds)

-- ---- procedures

handlers_both : (xs ys : List Handler) → most_code (map outline_of (xs ++ ys)) ≡ most_code (map outline_of xs) + most_code (map outline_of ys)
handlers_both [] ys = omega arith
handlers_both (x ∷ xs) ys = let ih = handlers_both xs ys in omega (arith, ih)

handler_most : (owner : Owner) (is_after : Bool) (body : Statements) → most_code (map outline_of (handler_of owner is_after body)) ≤ 16 * tokens body + 4
handler_most owner is_after body = by (is_idle body) (record { event = event_of owner is_after; outline = record { sort = sorts.Procedure owner; body = body } }) refl
  where
    by : (b : Bool) (h : Handler) → tokens h.outline.body ≡ tokens body → most_code (map outline_of (if b then [] else h ∷ [])) ≤ 16 * tokens body + 4
    by true h e = omega arith
    by false h e = omega (arith, e)

body_most : (owner : Owner) (x : Body) → most_code (map outline_of (handlers_of_body owner x)) ≤ 16 * (2 + body_tokens (erase_body x))
body_most owner (Plain xs) = let h = handler_most owner true xs in omega (arith, h)
body_most owner (Preproc xs) = let h = handler_most owner false xs in omega (arith, h)
body_most owner (Both xs ys) =
    let e = handlers_both (handler_of owner false xs) (handler_of owner true ys) in
    let h = handler_most owner false xs in
    let k = handler_most owner true ys in
    omega (arith, e, h, k)
body_most owner (Postproc xs) = let h = handler_most owner true xs in omega (arith, h)

procedures_most : (ps : List Procedure) → most_code (map outline_of (handlers_in ps)) ≤ 16 * all_tokens procedure_tokens (map erase_procedure ps)
procedures_most [] = omega arith
procedures_most (x ∷ ps) =
    let e = handlers_both (handlers_of x) (handlers_in ps) in
    let h = body_most x.owner x.body in
    let ih = procedures_most ps in
    omega (arith, e, h, ih)

-- ---- sources

globals_most : (g : Option (List Declaration)) → most_code (functions_in (declarations_in g)) ≤ 16 * globals_tokens (option_map (λ ds. map erase_declaration ds) g)
globals_most None = omega arith
globals_most (Some ds) = let h = functions_most ds in omega (arith, h)

pub tree_most : (t : Tree) → most_code (outlines t) ≤ 16 * tokens_of t
tree_most t =
    let e = most_both (functions_in (declarations_in t.globals)) (map outline_of (handlers_in t.procedures)) in
    let g = globals_most t.globals in
    let p = procedures_most t.procedures in
    omega (arith, e, g, p)

-- ---- code

pub code_most : (settings : Outline → Setting) (xs : List Outline) → AreFew xs → length (all_code settings xs) ≤ most_code xs
code_most settings [] f = omega arith
code_most settings (x ∷ xs) f =
    let e = length-append (routine_code (settings x) x.body) (all_code settings xs) in
    let n = routine_length (settings x) x.body in
    let h = routine_short (settings x) x.body f.0 in
    let ih = code_most settings xs f.1 in
    omega (arith, e, n, h, ih)

pub entries_most : (k : Table) (settings : Outline → Setting) (xs : List Outline) → AreFew xs → 16 * entries k (all_code settings xs) ≤ most_code xs
entries_most k settings [] f = omega arith
entries_most k settings (x ∷ xs) f =
    let e = both k (routine_code (settings x) x.body) (all_code settings xs) in
    let h = routine_entries k (settings x) x.body f.0 in
    let ih = entries_most k settings xs f.1 in
    omega (arith, e, h, ih)

pub all_code_short : AllCodeIsShort
all_code_short settings t f = let a = code_most settings (outlines t) f in let b = tree_most t in omega (arith, a, b)

pub all_entries_few : AllEntriesAreFew
all_entries_few k settings t f = let a = entries_most k settings (outlines t) f in let b = tree_most t in omega (arith, a, b)
