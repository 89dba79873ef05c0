-- An image of version 1 that has a spelling stands for a program that has one.
use Rattle.std.proofs.Common.{◌≡◌, ℕ, zero, suc, ◌+◌, ◌-◌, ◌≤◌, ◌<◌, ◌^◌, Bool, true, false, not, ◌&&◌, ltb, eqb, List, [], ◌∷◌, ◌++◌, map, length, refl, sym, ap, subst, ◌∙◌, leb, arith}
use Rattle.std.specs.List.{AllByRecursion, range_with_len}
use Rattle.std.proofs.lemmas.Bool.{and_parts, le-leb, lt-ltb, and_from}
use Rattle.std.proofs.lemmas.Bool.Decides.{nat_tests}
use Rattle.std.proofs.lemmas.List.{length-map}
use Rattle.std.proofs.lemmas.List.FromFn.{length-range_with_len}
use Rattle.cse_image_parts.specs.declared.instruction.Instr.{Instr}
use Rattle.cse_image_parts.specs.declared.instruction.Op.{Op}
use Rattle.cse_image_parts.specs.declared.instruction.Op.TheVariants as ops
use Rattle.cse_image_parts.specs.declared.entries.Gift.{Gift}
use Rattle.cse_image_parts.specs.declared.version.Version.{Version}
use Rattle.cse_image_parts.specs.declared.version.Version.TheVariants as versions
use Rattle.cse_image_parts.specs.Versions.{may_give, is_counting}
use Rattle.cse_image_parts.specs.Image.{RoutineLists, Image}
use Rattle.cse_image_parts.specs.Fields.{instructions_in}
use Rattle.cse_image_parts.specs.Opcodes.{Range, shape, any_limit, lies_in, fits_b}
use Rattle.cse_image_parts.specs.Upgrade.{greater, own_limit, greatest_limit, one_to, upgrade_instr, upgrade}
use Rattle.cse_image_parts.specs.Reader.{AllAfter}
use Rattle.cse_image_parts.specs.Spelling.{SectionFits}
use Rattle.cse_image_parts.proofs.Algebra.{each_after}
use Rattle.cse_image.specs.Spelling.{LimitFits, RoutineFits, InstrFits, ListsFit, FitsIn, Fits, spelling, SpellsIn, Spells, program_in, StandFor}

-- ---- limits

limits_from : (a n : ℕ) → 0 < a → a + n ≤ 2 ^ 32 → AllByRecursion LimitFits (range_with_len a n)
limits_from a zero some small = tt
limits_from a (suc n) some small = (record { size = omega arith; some = lt-ltb 0 a some }, limits_from (a + 1) n (omega arith) (omega arith))

one_to_fits : (n : ℕ) → n ≤ 65536 → SectionFits 65536 (λ _. LimitFits) (one_to n)
unfolding one_to
one_to_fits n small = record {
  count = le-leb (length (range_with_len 1 n)) 65536 (omega (arith, length-range_with_len 1 n));
  each = each_after LimitFits [] (range_with_len 1 n) (limits_from 1 n (omega arith) (omega arith));
}

greater_small : (a b n : ℕ) → a ≤ n → b ≤ n → greater a b ≤ n
greater_small a b n p q = grind (arith, nat_tests)

own_small : (x : Instr) (counting : Bool) → is_counting x.op ≡ counting → x.b ≤ 65535 → own_limit x ≤ 65535
own_small x true is le = rw is le
own_small x false is le = rw is (omega arith)

greatest_small : (xs : List Instr) → AllByRecursion (InstrFits versions.One) xs → greatest_limit xs ≤ 65535
unfolding greatest_limit
greatest_small [] h = omega arith
greatest_small (x ∷ xs) h =
    let b : x.b < 2 ^ 16 = h.0.b_size in
    greater_small (own_limit x) (greatest_limit xs) 65535 (own_small x (is_counting x.op) refl (omega arith)) (greatest_small xs h.1)

-- ---- routines

gives_all : (g : Gift) → may_give versions.Two g ≡ true
gives_all g = refl

routines_fit : (before xs : List RoutineLists) → AllAfter (λ before. RoutineFits versions.One (instructions_in before)) before xs → AllAfter (λ before. RoutineFits versions.Two (instructions_in before)) before xs
routines_fit before [] h = tt
routines_fit before (x ∷ xs) h = (record { gives = gives_all x.gives; parameters = h.0.parameters; locals = h.0.locals; size = h.0.size; room = h.0.room }, routines_fit (before ++ x ∷ []) xs h.1)

-- ---- code

counting_shape : (op : Op) → is_counting op ≡ true → (shape op).b ≡ any_limit
unfolding shape
counting_shape ops.LoopCount e = refl
counting_shape op e = absurd cc

limit_place : (op : Op) (b : ℕ) → is_counting op ≡ true → b ≤ 65535 → fits_b versions.Two op b ≡ true
limit_place op b is le =
    let small : lies_in any_limit b ≡ true = and_from (leb 0 b) (leb b 65535) (le-leb 0 b (omega arith)) (le-leb b 65535 le) in
    and_from (lies_in (shape op).b b) true (subst (λ (r : Range). lies_in r b ≡ true) (sym (counting_shape op is)) small) refl

pub instr_fits : (x : Instr) (counting : Bool) → is_counting x.op ≡ counting → InstrFits versions.One x → InstrFits versions.Two (upgrade_instr x)
instr_fits x true is h =
    let e : upgrade_instr x ≡ record { op = x.op; a = x.a; b = x.b - 1; c = x.c } = rw is refl in
    let small : x.b < 2 ^ 16 = h.b_size in
    subst (λ (y : Instr). InstrFits versions.Two y) (sym e)
    (record { a_size = h.a_size; a = h.a; b_size = omega arith; b = limit_place x.op (x.b - 1) is (omega arith); c_size = h.c_size; c = h.c })
instr_fits x false is h =
    let e : upgrade_instr x ≡ x = rw is refl in
    let p = and_parts (lies_in (shape x.op).b x.b) (not (is_counting x.op && eqb x.b 0)) h.b in
    subst (λ (y : Instr). InstrFits versions.Two y) (sym e)
    (record { a_size = h.a_size; a = h.a; b_size = h.b_size; b = and_from (lies_in (shape x.op).b x.b) true p.0 refl; c_size = h.c_size; c = h.c })

code_fits : (xs : List Instr) → AllByRecursion (InstrFits versions.One) xs → AllByRecursion (InstrFits versions.Two) (map upgrade_instr xs)
code_fits [] h = tt
code_fits (x ∷ xs) h = (instr_fits x (is_counting x.op) refl h.0, code_fits xs h.1)

-- ---- images

upgrade_fits : (x : Image) → FitsIn versions.One x → Fits (upgrade x)
upgrade_fits x h = record {
  lists = record {
    records = h.lists.records;
    items = h.lists.items;
    sets = h.lists.sets;
    order = h.lists.order;
    constants = h.lists.constants;
    limits = one_to_fits (greatest_limit x.code) (omega (arith, greatest_small x.code h.code));
    texts = h.lists.texts;
    globals = h.lists.globals;
    arrays = h.lists.arrays;
    messages = h.lists.messages;
    routines = record { count = h.lists.routines.count; each = routines_fit [] x.lists.routines h.lists.routines.each };
    events = h.lists.events;
  };
  code = code_fits x.code h.code;
  count = length-map x.code upgrade_instr ∙ h.count;
}

pub upgrade_spelled : (x : Image) (bytes : List ℕ) → SpellsIn versions.One x bytes → Spells (upgrade x) (spelling (upgrade x))
upgrade_spelled x bytes spells = record { fits = upgrade_fits x spells.fits; bytes_are = refl }

program_fits : (version : Version) (x : Image) → FitsIn version x → Fits (program_in version x)
program_fits versions.One x h = upgrade_fits x h
program_fits versions.Two x h = h

-- what bytes stand for has a spelling
pub standing_fits : (x : Image) (bytes : List ℕ) → StandFor x bytes → Fits x
standing_fits x bytes stands = subst Fits (sym stands.stands) (program_fits stands.version stands.image stands.spells.fits)
