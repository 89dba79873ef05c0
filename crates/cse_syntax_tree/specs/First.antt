-- Which token a node begins with, counted from 0: that of its first leaf, or one or two tokens before it.
use Rattle.std.specs.Prelude.{ℕ, ◌-◌, if◌then◌else◌, Option, Some, None}
use Rattle.cse_syntax_tree.specs.Tree.{Expr, Number, Text, Special', Bare, Indexed, Group, Apply, Query', InValueSet, Minus, Not, Compare, Chain}
use Rattle.cse_syntax_tree.specs.Tree.{Literal, Message, Own, Numbered, Stmt, Empty, Assign, Call, If, For, Do, Jump', Impute, PutDeck, ErrMsg}

abbrev pub expr_token : Expr → ℕ
expr_token (Number digits) = digits.token
expr_token (Text text) = text.token
expr_token (Special' token value) = token
expr_token (Bare name) = name.token
expr_token (Indexed name arguments) = name.token
expr_token (Group x) = expr_token x - 1
expr_token (Apply function x) = expr_token x - 2
expr_token (Query' query name) = name.token - 2
expr_token (InValueSet item set) = item.token - 2
expr_token (Minus x) = expr_token x - 1
expr_token (Not x) = expr_token x - 1
expr_token (Compare relation x y) = expr_token x
expr_token (Chain x others) = expr_token x

abbrev pub literal_token : Literal → ℕ
literal_token x = if x.minus then x.digits.token - 1 else x.digits.token

abbrev pub message_token : Message → ℕ
message_token (Own text) = text.token
message_token (Numbered digits) = digits.token

-- An empty statement tells none.
abbrev pub stmt_token : Stmt → Option ℕ
stmt_token Empty = None
stmt_token (Assign name subscripts value) = Some name.token
stmt_token (Call name arguments) = Some name.token
stmt_token (If condition body others) = Some (expr_token condition - 1)
stmt_token (For variable record_name body) = Some (variable.token - 1)
stmt_token (Do counting body) = Some (counting.variable.token - 2)
stmt_token (Jump' token jump) = Some token
stmt_token (Impute name subscripts value) = Some (name.token - 2)
stmt_token (PutDeck deck value) = Some (deck.token - 2)
stmt_token (ErrMsg message values summary) = Some (message_token message - 2)
