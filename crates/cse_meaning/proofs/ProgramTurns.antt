-- The turns of each `do` are reckoned without being cut to 64 bits, and keep to the limit of its bracket.
use Rattle.std.specs.Prelude.{List}
use Rattle.cse_value.specs.declared.shape.RecordShape.{RecordShape}
use Rattle.cse_logic_tree.specs.Typed.{Statement, Statements, Arms}
use Rattle.cse_logic_tree.specs.Typed.{Empty, Set, SetText, SetItem, SetTextItem, SetCell, CallOf, If, For, Do, Jump', Impute, PutDeck, ErrMsg, no_statement, statement_and, no_arm, else_of, arm}
use Rattle.cse_meaning.specs.Plain.{KeepsTurns}

abbrev mutual
  pub HoldTurns : List RecordShape → Statement → Type 0
  HoldTurns rs Empty = Unit {0}
  HoldTurns rs (Set name y x) = Unit {0}
  HoldTurns rs (SetText name g x) = Unit {0}
  HoldTurns rs (SetItem name field which x) = Unit {0}
  HoldTurns rs (SetTextItem name field which x) = Unit {0}
  HoldTurns rs (SetCell name array xs x) = Unit {0}
  HoldTurns rs (CallOf name function xs) = Unit {0}
  HoldTurns rs (If condition body others) = AllHoldTurns rs body × ArmsHoldTurns rs others
  HoldTurns rs (For name y record_name of body) = AllHoldTurns rs body
  HoldTurns rs (Do x body) = KeepsTurns rs x × AllHoldTurns rs body
  HoldTurns rs (Jump' token x) = Unit {0}
  HoldTurns rs (Impute name field which x) = Unit {0}
  HoldTurns rs (PutDeck name array picks x) = Unit {0}
  HoldTurns rs (ErrMsg message index xs summary) = Unit {0}

  pub AllHoldTurns : List RecordShape → Statements → Type 0
  AllHoldTurns rs no_statement = Unit {0}
  AllHoldTurns rs (statement_and x xs) = HoldTurns rs x × AllHoldTurns rs xs

  pub ArmsHoldTurns : List RecordShape → Arms → Type 0
  ArmsHoldTurns rs no_arm = Unit {0}
  ArmsHoldTurns rs (else_of body) = AllHoldTurns rs body
  ArmsHoldTurns rs (arm condition body others) = AllHoldTurns rs body × ArmsHoldTurns rs others
