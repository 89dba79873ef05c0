-- The tables that a code names, each entry as often as it is named, and the instructions that stand for the code by them.
use Rattle.std.proofs.Common.{◌≡◌, ◌≤◌, ◌<◌, ◌^◌, ℕ, ◌+◌, ℤ, List, [], ◌∷◌, length, refl, arith}
use Rattle.std.specs.Prelude.{FitsSigned}
use Rattle.std.specs.Int.{w64}
use Rattle.std.specs.List.{AllByRecursion}
use Rattle.std.proofs.lemmas.Bool.{le-leb}
use Rattle.cse_image_parts.specs.declared.instruction.Op.TheVariants as ops
use Rattle.cse_image_parts.specs.declared.instruction.Instr.{Instr}
use Rattle.cse_image_parts.specs.declared.version.Version.TheVariants as versions
use Rattle.cse_image.specs.Spelling.{InstrFits, LimitFits, TextFits}
use Rattle.cse_compile.specs.Pools.{PoolLists, PoolsFit}
use Rattle.cse_compile.specs.Wide.{Wide, Constant, Chars, Turns, Plain}
use Rattle.cse_meaning.proofs.At.{HasAt, has_self}
use Rattle.cse_compile.specs.Stands.{AllStand, instr}
use Rattle.cse_compile.proofs.Spelled.{constant_fits, text_fits, turns_fit}
use Rattle.cse_meaning.specs.Entries.{Table, Constants, Limits, Texts, entries}
use Rattle.cse_image_parts.proofs.Algebra.{each_after}

abbrev pub constants_of : List Wide → List ℤ
constants_of [] = []
constants_of (Constant z ∷ ws) = z ∷ constants_of ws
constants_of (Chars text ∷ ws) = constants_of ws
constants_of (Turns limit end ∷ ws) = constants_of ws
constants_of (Plain op a b c ∷ ws) = constants_of ws

abbrev pub limits_of : List Wide → List ℕ
limits_of [] = []
limits_of (Constant z ∷ ws) = limits_of ws
limits_of (Chars text ∷ ws) = limits_of ws
limits_of (Turns limit end ∷ ws) = limit ∷ limits_of ws
limits_of (Plain op a b c ∷ ws) = limits_of ws

abbrev pub texts_of : List Wide → List (List ℕ)
texts_of [] = []
texts_of (Constant z ∷ ws) = texts_of ws
texts_of (Chars text ∷ ws) = text ∷ texts_of ws
texts_of (Turns limit end ∷ ws) = texts_of ws
texts_of (Plain op a b c ∷ ws) = texts_of ws

-- with so many constants, limits and texts named before
abbrev pub placed : ℕ → ℕ → ℕ → List Wide → List Instr
placed c l t [] = []
placed c l t (Constant z ∷ ws) = instr ops.Number 0 0 c ∷ placed (c + 1) l t ws
placed c l t (Chars text ∷ ws) = instr ops.Text 0 0 t ∷ placed c l (t + 1) ws
placed c l t (Turns limit end ∷ ws) = instr ops.LoopCount 0 l end ∷ placed c (l + 1) t ws
placed c l t (Plain op a b k ∷ ws) = instr op a b k ∷ placed c l t ws

abbrev pub pools : List Wide → PoolLists
pools ws = record { constants = constants_of ws; limits = limits_of ws; texts = texts_of ws }

-- ---- they stand for it

placed_stand : (p : PoolLists) (c l t : ℕ) (ws : List Wide) → HasAt p.constants c (constants_of ws) → HasAt p.limits l (limits_of ws) → HasAt p.texts t (texts_of ws) → AllStand p (placed c l t ws) ws
placed_stand p c l t [] f g h = tt
placed_stand p c l t (Constant z ∷ ws) f g h = ((refl, f.0), placed_stand p (c + 1) l t ws f.1 g h)
placed_stand p c l t (Chars text ∷ ws) f g h = ((refl, h.0), placed_stand p c l (t + 1) ws f g h.1)
placed_stand p c l t (Turns limit end ∷ ws) f g h = ((refl, g.0), placed_stand p c (l + 1) t ws f g.1 h)
placed_stand p c l t (Plain op a b k ∷ ws) f g h = (refl, placed_stand p c l t ws f g h)

pub all_stand : (ws : List Wide) → AllStand (pools ws) (placed 0 0 0 ws) ws
all_stand ws = placed_stand (pools ws) 0 0 0 ws (has_self (constants_of ws)) (has_self (limits_of ws)) (has_self (texts_of ws))

-- ---- what fits

abbrev pub WideFits : Wide → Type 0
WideFits (Constant z) = FitsSigned w64 z
WideFits (Chars text) = TextFits text
WideFits (Turns limit end) = LimitFits limit × (end < 2 ^ 32)
WideFits (Plain op a b c) = InstrFits versions.Two (instr op a b c)

abbrev pub CodeFits : List Wide → Type 0
CodeFits ws = AllByRecursion WideFits ws

constants_fit : (ws : List Wide) → CodeFits ws → AllByRecursion (FitsSigned w64) (constants_of ws)
constants_fit [] h = tt
constants_fit (Constant z ∷ ws) h = (h.0, constants_fit ws h.1)
constants_fit (Chars text ∷ ws) h = constants_fit ws h.1
constants_fit (Turns limit end ∷ ws) h = constants_fit ws h.1
constants_fit (Plain op a b c ∷ ws) h = constants_fit ws h.1

limits_fit : (ws : List Wide) → CodeFits ws → AllByRecursion LimitFits (limits_of ws)
limits_fit [] h = tt
limits_fit (Constant z ∷ ws) h = limits_fit ws h.1
limits_fit (Chars text ∷ ws) h = limits_fit ws h.1
limits_fit (Turns limit end ∷ ws) h = (h.0.0, limits_fit ws h.1)
limits_fit (Plain op a b c ∷ ws) h = limits_fit ws h.1

texts_fit : (ws : List Wide) → CodeFits ws → AllByRecursion TextFits (texts_of ws)
texts_fit [] h = tt
texts_fit (Constant z ∷ ws) h = texts_fit ws h.1
texts_fit (Chars text ∷ ws) h = (h.0, texts_fit ws h.1)
texts_fit (Turns limit end ∷ ws) h = texts_fit ws h.1
texts_fit (Plain op a b c ∷ ws) h = texts_fit ws h.1

constants_length : (ws : List Wide) → length (constants_of ws) ≡ entries Constants ws
constants_length [] = refl
constants_length (Constant z ∷ ws) = omega (arith, constants_length ws)
constants_length (Chars text ∷ ws) = omega (arith, constants_length ws)
constants_length (Turns limit end ∷ ws) = omega (arith, constants_length ws)
constants_length (Plain op a b c ∷ ws) = omega (arith, constants_length ws)

limits_length : (ws : List Wide) → length (limits_of ws) ≡ entries Limits ws
limits_length [] = refl
limits_length (Constant z ∷ ws) = omega (arith, limits_length ws)
limits_length (Chars text ∷ ws) = omega (arith, limits_length ws)
limits_length (Turns limit end ∷ ws) = omega (arith, limits_length ws)
limits_length (Plain op a b c ∷ ws) = omega (arith, limits_length ws)

texts_length : (ws : List Wide) → length (texts_of ws) ≡ entries Texts ws
texts_length [] = refl
texts_length (Constant z ∷ ws) = omega (arith, texts_length ws)
texts_length (Chars text ∷ ws) = omega (arith, texts_length ws)
texts_length (Turns limit end ∷ ws) = omega (arith, texts_length ws)
texts_length (Plain op a b c ∷ ws) = omega (arith, texts_length ws)

module _ (ws : List Wide) (few : (k : Table) → entries k ws ≤ 65536) (fits : CodeFits ws) where
  pub pools_fit : PoolsFit (pools ws)
  pools_fit = record {
    constants = record { count = le-leb (length (constants_of ws)) 65536 (omega (arith, constants_length ws, few Constants)); each = each_after (FitsSigned w64) [] (constants_of ws) (constants_fit ws fits) };
    limits = record { count = le-leb (length (limits_of ws)) 65536 (omega (arith, limits_length ws, few Limits)); each = each_after LimitFits [] (limits_of ws) (limits_fit ws fits) };
    texts = record { count = le-leb (length (texts_of ws)) 65536 (omega (arith, texts_length ws, few Texts)); each = each_after TextFits [] (texts_of ws) (texts_fit ws fits) };
  }

placed_fit : (c l t : ℕ) (ws : List Wide) → c + entries Constants ws ≤ 65536 → l + entries Limits ws ≤ 65536 → t + entries Texts ws ≤ 65536 → CodeFits ws → AllByRecursion (InstrFits versions.Two) (placed c l t ws)
placed_fit c l t [] m n k h = tt
placed_fit c l t (Constant z ∷ ws) m n k h = (constant_fits c (omega (arith, m)), placed_fit (c + 1) l t ws (omega (arith, m)) (omega (arith, n)) (omega (arith, k)) h.1)
placed_fit c l t (Chars text ∷ ws) m n k h = (text_fits t (omega (arith, k)), placed_fit c l (t + 1) ws (omega (arith, m)) (omega (arith, n)) (omega (arith, k)) h.1)
placed_fit c l t (Turns limit end ∷ ws) m n k h = (turns_fit l end (omega (arith, n)) h.0.1, placed_fit c (l + 1) t ws (omega (arith, m)) (omega (arith, n)) (omega (arith, k)) h.1)
placed_fit c l t (Plain op a b i ∷ ws) m n k h = (h.0, placed_fit c l t ws (omega (arith, m)) (omega (arith, n)) (omega (arith, k)) h.1)

pub code_fits : (ws : List Wide) → ((k : Table) → entries k ws ≤ 65536) → CodeFits ws → AllByRecursion (InstrFits versions.Two) (placed 0 0 0 ws)
code_fits ws few fits = placed_fit 0 0 0 ws (omega (arith, few Constants)) (omega (arith, few Limits)) (omega (arith, few Texts)) fits

pub placed_length : (c l t : ℕ) (ws : List Wide) → length (placed c l t ws) ≡ length ws
placed_length c l t [] = refl
placed_length c l t (Constant z ∷ ws) = omega (arith, placed_length (c + 1) l t ws)
placed_length c l t (Chars text ∷ ws) = omega (arith, placed_length c l (t + 1) ws)
placed_length c l t (Turns limit end ∷ ws) = omega (arith, placed_length c (l + 1) t ws)
placed_length c l t (Plain op a b k ∷ ws) = omega (arith, placed_length c l t ws)
