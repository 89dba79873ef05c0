use Rattle.std.proofs.Common.{sym, ◌∙◌}
use Rattle.cse_syntax.proofs.FirstToken.{none_first, if_none, word_first, digits_first, text_first, mark_first, last_ascii}
use Rattle.cse_syntax.proofs.Spans.{takes_some}
use Rattle.cse_syntax.proofs.lexer.token_at.Goals as goal

pub returns-in_err-first-clause-value : goal.returns-in_err-first-clause-value
returns-in_err-first-clause-value c = c.from_residual.ensures ∙ none_first c.args.bytes.now c.in_err-first.ensures.value

pub returns-in_err-first-clause-within : goal.returns-in_err-first-clause-within
returns-in_err-first-clause-within c = if_none _ _ c.from_residual.ensures

pub returns-in_err-first-clause-ascii : goal.returns-in_err-first-clause-ascii
returns-in_err-first-clause-ascii c = if_none _ _ c.from_residual.ensures

pub returns-then-is_ascii_alphabetic-clause-value : goal.returns-then-is_ascii_alphabetic-clause-value
returns-then-is_ascii_alphabetic-clause-value c =
    word_first _ c.args.bytes.now _ _ c.in_ok-first.ensures.value c.if-is_ascii_alphabetic.ensures.value c.word_len-n.ensures.value c.word_kind.ensures

pub returns-then-is_ascii_alphabetic-clause-within : goal.returns-then-is_ascii_alphabetic-clause-within
returns-then-is_ascii_alphabetic-clause-within c = takes_some c.args.bytes.now _ (sym (returns-then-is_ascii_alphabetic-clause-value c))

pub returns-then-is_ascii_alphabetic-clause-ascii : goal.returns-then-is_ascii_alphabetic-clause-ascii
returns-then-is_ascii_alphabetic-clause-ascii c = c.word_len-n.ensures.ascii (returns-then-is_ascii_alphabetic-clause-within c).0

pub returns-then-is_ascii_digit-clause-value : goal.returns-then-is_ascii_digit-clause-value
returns-then-is_ascii_digit-clause-value c =
    digits_first _ c.args.bytes.now _ c.in_ok-first.ensures.value c.if-is_ascii_alphabetic.ensures.value c.if-is_ascii_digit.ensures.value c.digits_len.ensures.value

pub returns-then-is_ascii_digit-clause-within : goal.returns-then-is_ascii_digit-clause-within
returns-then-is_ascii_digit-clause-within c = takes_some c.args.bytes.now _ (sym (returns-then-is_ascii_digit-clause-value c))

pub returns-then-is_ascii_digit-clause-ascii : goal.returns-then-is_ascii_digit-clause-ascii
returns-then-is_ascii_digit-clause-ascii c = c.digits_len.ensures.ascii (returns-then-is_ascii_digit-clause-within c).0

pub returns-in_err-n-clause-value : goal.returns-in_err-n-clause-value
returns-in_err-n-clause-value c =
    c.from_residual-in_err-n.ensures
    ∙ text_first _ c.args.bytes.now _ c.in_ok-first.ensures.value c.if-is_ascii_alphabetic.ensures.value c.if-is_ascii_digit.ensures.value c.then-first-eq39.either
    c.in_err-n.ensures.value

pub returns-in_err-n-clause-within : goal.returns-in_err-n-clause-within
returns-in_err-n-clause-within c = if_none _ _ c.from_residual-in_err-n.ensures

pub returns-in_err-n-clause-ascii : goal.returns-in_err-n-clause-ascii
returns-in_err-n-clause-ascii c = if_none _ _ c.from_residual-in_err-n.ensures

pub returns-then-first-eq39-clause-value : goal.returns-then-first-eq39-clause-value
returns-then-first-eq39-clause-value c =
    text_first _ c.args.bytes.now _ c.in_ok-first.ensures.value c.if-is_ascii_alphabetic.ensures.value c.if-is_ascii_digit.ensures.value c.then-first-eq39.either
    c.in_ok-n.ensures.value

pub returns-then-first-eq39-clause-within : goal.returns-then-first-eq39-clause-within
returns-then-first-eq39-clause-within c = takes_some c.args.bytes.now _ (sym (returns-then-first-eq39-clause-value c))

pub returns-then-first-eq39-clause-ascii : goal.returns-then-first-eq39-clause-ascii
returns-then-first-eq39-clause-ascii c = last_ascii _ c.args.bytes.now _ c.in_ok-first.ensures.value c.in_ok-n.ensures.ascii

pub returns-in_err-n-2-clause-value : goal.returns-in_err-n-2-clause-value
returns-in_err-n-2-clause-value c =
    c.from_residual-in_err-n-2.ensures
    ∙ mark_first _ c.args.bytes.now _ c.in_ok-first.ensures.value c.if-is_ascii_alphabetic.ensures.value c.if-is_ascii_digit.ensures.value c.if-first-eq39.false
    c.if-first-eq34.false c.in_err-n-2.ensures.value

pub returns-in_err-n-2-clause-within : goal.returns-in_err-n-2-clause-within
returns-in_err-n-2-clause-within c = if_none _ _ c.from_residual-in_err-n-2.ensures

pub returns-in_err-n-2-clause-ascii : goal.returns-in_err-n-2-clause-ascii
returns-in_err-n-2-clause-ascii c = if_none _ _ c.from_residual-in_err-n-2.ensures

pub returns-clause-value : goal.returns-clause-value
returns-clause-value c =
    mark_first _ c.args.bytes.now _ c.in_ok-first.ensures.value c.if-is_ascii_alphabetic.ensures.value c.if-is_ascii_digit.ensures.value c.if-first-eq39.false
    c.if-first-eq34.false c.in_ok-n-2.ensures.value

pub returns-clause-within : goal.returns-clause-within
returns-clause-within c = takes_some c.args.bytes.now _ (sym (returns-clause-value c))

pub returns-clause-ascii : goal.returns-clause-ascii
returns-clause-ascii c = last_ascii _ c.args.bytes.now _ c.in_ok-first.ensures.value c.in_ok-n-2.ensures.ascii
