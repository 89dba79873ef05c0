-- The tokens that say more than which they are: names, numbers and texts, as bytes; reserved words, and words that are left out.
use Rattle.std.specs.Prelude.{ℕ, ◌-◌, ◌+◌, ◌*◌, Bool, true, false, ◌||◌, ◌&&◌, not, ◌==◌, if◌then◌else◌, List, [], ◌∷◌, length, take, drop, Option, Some, None, codes, nat_le, nat_lt}
use Rattle.std.specs.List.{count_by, list_all}
use Rattle.std.specs.Option.{option_map}
use Rattle.std.specs.Str.{str_eq_ignore_ascii_case}
use Rattle.std.specs.Char.{is_ascii_alphabetic, is_ascii_digit, is_ascii_alphanumeric}
use Rattle.cse_syntax_tree.specs.declared.token.Mark.{Mark}
use Rattle.cse_syntax_tree.specs.declared.token.Mark.TheVariants as m
use Rattle.cse_syntax_tree.specs.declared.tree.Special.{Special}
use Rattle.cse_syntax_tree.specs.declared.tree.Special.TheVariants as v
use Rattle.cse_syntax_tree.specs.declared.tree.Jump.{Jump}
use Rattle.cse_syntax_tree.specs.declared.tree.Jump.TheVariants as j
use Rattle.cse_syntax_tree.specs.declared.token.Kind.{Kind}
use Rattle.cse_syntax_tree.specs.declared.token.Kind.TheVariants as k

abbrev pub or_else : {A B : Type 0} → Option A → (A → B) → B → B
or_else None f y = y
or_else (Some x) f y = f x

-- whether this byte comes next
abbrev pub begins : ℕ → List ℕ → Bool
begins c [] = false
begins c (b ∷ bs) = b == c

-- ---- words

-- the word of a list that a text spells in either case
abbrev pub looked_up : {A : Type 0} → List (List ℕ × A) → List ℕ → Option A
looked_up [] text = None
looked_up (entry ∷ entries) text = if str_eq_ignore_ascii_case text entry.0 then Some entry.1 else looked_up entries text

-- what opens and names the parts of a source
abbrev pub heads : List (List ℕ × Mark)
heads =
    (codes "proc", m.Proc) ∷
    (codes "global", m.Global) ∷
    (codes "preproc", m.Preproc) ∷
    (codes "postproc", m.Postproc) ∷
    (codes "numeric", m.Numeric) ∷
    (codes "alpha", m.Alpha) ∷
    (codes "array", m.Array) ∷
    (codes "save", m.Save) ∷
    (codes "function", m.Function) ∷
    (codes "end", m.End) ∷
    []

-- statements that hold others
abbrev pub blocks : List (List ℕ × Mark)
blocks =
    (codes "if", m.If) ∷
    (codes "then", m.Then) ∷
    (codes "elseif", m.ElseIf) ∷
    (codes "else", m.Else) ∷
    (codes "endif", m.EndIf) ∷
    (codes "for", m.For) ∷
    (codes "in", m.In) ∷
    (codes "do", m.Do) ∷
    (codes "enddo", m.EndDo) ∷
    (codes "varying", m.Varying) ∷
    (codes "until", m.Until) ∷
    (codes "by", m.By) ∷
    []

-- other statements
abbrev pub commands : List (List ℕ × Mark)
commands =
    (codes "impute", m.Impute) ∷
    (codes "putdeck", m.PutDeck) ∷
    (codes "errmsg", m.ErrMsg) ∷
    (codes "summary", m.Summary) ∷
    []

-- expressions
abbrev pub values : List (List ℕ × Mark)
values =
    (codes "and", m.And) ∷
    (codes "or", m.Or) ∷
    (codes "not", m.Not) ∷
    (codes "getdeck", m.GetDeck) ∷
    (codes "totocc", m.TotOcc) ∷
    (codes "maxocc", m.MaxOcc) ∷
    (codes "curocc", m.CurOcc) ∷
    (codes "int", m.Int) ∷
    (codes "special", m.Special) ∷
    (codes "invalueset", m.InValueSet) ∷
    []

-- the special values
abbrev pub specials : List (List ℕ × Special)
specials =
    (codes "notappl", v.NotAppl) ∷
    (codes "missing", v.Missing) ∷
    (codes "default", v.Default) ∷
    []

-- what leaves a turn, a loop or a routine
abbrev pub jumps : List (List ℕ × Jump)
jumps =
    (codes "break", j.Break) ∷
    (codes "next", j.Next) ∷
    (codes "exit", j.Exit) ∷
    []

-- words of CSPro's logic that are no part of this language
abbrev pub left_out : List (List ℕ)
left_out =
    codes "while" ∷
    codes "recode" ∷
    codes "box" ∷
    codes "endbox" ∷
    codes "skip" ∷
    codes "stop" ∷
    codes "write" ∷
    codes "noinput" ∷
    codes "advance" ∷
    codes "reenter" ∷
    codes "denom" ∷
    codes "stat" ∷
    codes "insert" ∷
    codes "delete" ∷
    codes "sort" ∷
    codes "file" ∷
    codes "list" ∷
    codes "onfocus" ∷
    codes "killfocus" ∷
    codes "onoccchange" ∷
    codes "export" ∷
    []

abbrev pub first_of : {A : Type 0} → Option A → Option A → Option A
first_of None y = y
first_of (Some x) y = Some x

-- the word of a list that is one in either case
abbrev pub is_listed : List (List ℕ) → List ℕ → Bool
is_listed [] text = false
is_listed (word ∷ words) text = str_eq_ignore_ascii_case text word || is_listed words text

unfoldable pub mark_of : List ℕ → Option Mark
mark_of text = first_of (looked_up heads text) (first_of (looked_up blocks text) (first_of (looked_up commands text) (looked_up values text)))

-- which kind of token a reserved word is
unfoldable pub reserved : List ℕ → Option Kind
reserved text = first_of (option_map k.Mark (mark_of text)) (first_of (option_map k.Special (looked_up specials text)) (option_map k.Jump (looked_up jumps text)))

unfoldable pub is_left_out : List ℕ → Bool
is_left_out text = is_listed left_out text

-- a reserved word, one that is left out, a name, or a word too long for a name
abbrev pub word_kind : List ℕ → Kind
word_kind text = or_else (reserved text) (λ kind. kind) (if is_left_out text then k.LeftOut else (if nat_le (length text) 32 then k.Name else k.LongWord))

-- what goes on with a word: letters, digits and `_`
abbrev pub is_word_byte : ℕ → Bool
is_word_byte b = is_ascii_alphanumeric b || b == 95

-- ---- names

abbrev pub is_none : {A : Type 0} → Option A → Bool
is_none None = true
is_none (Some x) = false

abbrev pub starts_with_letter : List ℕ → Bool
starts_with_letter [] = false
starts_with_letter (b ∷ bs) = is_ascii_alphabetic b

-- a letter, then letters, digits and `_`, at most 32 in all; no reserved word, and none that is left out
unfoldable pub is_name : List ℕ → Bool
is_name text = starts_with_letter text && (list_all is_word_byte text && (nat_le (length text) 32 && (is_none (reserved text) && not (is_left_out text))))

-- ---- numbers

-- one digit or more
unfoldable pub is_digits : List ℕ → Bool
is_digits text = nat_le 1 (length text) && list_all is_ascii_digit text

-- the number that digits write, after the number that those before them write
abbrev pub number_from : ℕ → List ℕ → ℕ
number_from n [] = n
number_from n (d ∷ ds) = number_from (10 * n + (d - 48)) ds

-- the number that digits write
abbrev pub number_of : List ℕ → ℕ
number_of digits = number_from 0 digits

-- whether these are digits, and write a number in this range
unfoldable pub is_within : ℕ → ℕ → List ℕ → Bool
is_within least most digits = is_digits digits && (nat_le least (number_of digits) && nat_le (number_of digits) most)

-- the greatest number of a source
abbrev pub MOST : ℕ
MOST = 9223372036854775807

-- ---- texts

-- a byte that a text in this quote may have: no control character, and not the quote
abbrev pub is_inside : ℕ → ℕ → Bool
is_inside quote b = nat_le 32 b && not (b == quote)

-- a byte that begins a character
abbrev pub is_start : ℕ → Bool
is_start b = nat_lt b 128 || nat_le 192 b

abbrev pub is_quote : ℕ → Bool
is_quote b = b == 39 || b == 34

-- what stands between the quotes of a text
abbrev pub text_of : List ℕ → List ℕ
text_of [] = []
text_of (b ∷ bs) = take (length bs - 1) bs

-- a text: between two quotes that are the same at most 255 characters, no control character and not that quote
unfoldable pub is_text : List ℕ → Bool
is_text [] = false
is_text (quote ∷ bs) =
    is_quote quote && (begins quote (drop (length bs - 1) bs) && (list_all (is_inside quote) (text_of (quote ∷ bs)) && nat_le (count_by is_start (text_of (quote ∷ bs))) 255))

-- ---- tokens

-- What is written is of the kind.
abbrev pub is_token : Kind → List ℕ → Bool
is_token k.Name text = is_name text
is_token k.Number text = is_digits text
is_token k.Text text = is_text text
is_token _ text = true
