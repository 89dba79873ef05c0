-- Which items statements put values into, and with which kind.
use Rattle.std.specs.Prelude.{List, [], ◌∷◌}
use Rattle.cse_value.specs.declared.shape.ItemKind.{ItemKind}
use Rattle.cse_value.specs.declared.shape.ItemKind.TheVariants as kind
use Rattle.cse_logic_tree.specs.declared.tree.Field.{Field}
use Rattle.cse_logic_tree.specs.Typed.{Statement, Statements, Arms, Empty, Set, SetText, SetItem, SetTextItem, SetCell, CallOf, If, For, Do, Jump', Impute, PutDeck, ErrMsg, no_statement, statement_and, no_arm, else_of, arm}
use Rattle.cse_logic_tree.specs.Typed.{Function, Body, Procedure}
use Rattle.cse_meaning.specs.Meaning.{before, after}

-- each is allowed
abbrev mutual
  pub Puts : (ItemKind → Field → Type 0) → Statement → Type 0
  Puts A Empty = Unit {0}
  Puts A (Set name variable value) = Unit {0}
  Puts A (SetText name variable value) = Unit {0}
  Puts A (SetItem name field which value) = A kind.Number field
  Puts A (SetTextItem name field which value) = A kind.Text field
  Puts A (SetCell name array subscripts value) = Unit {0}
  Puts A (CallOf name function arguments) = Unit {0}
  Puts A (If condition body others) = AllPut A body × ArmsPut A others
  Puts A (For name variable record_name of body) = AllPut A body
  Puts A (Do counting body) = AllPut A body
  Puts A (Jump' token jump) = Unit {0}
  Puts A (Impute name field which value) = A kind.Number field
  Puts A (PutDeck name array picks value) = Unit {0}
  Puts A (ErrMsg message index values summary) = Unit {0}

  pub AllPut : (ItemKind → Field → Type 0) → Statements → Type 0
  AllPut A no_statement = Unit {0}
  AllPut A (statement_and x xs) = Puts A x × AllPut A xs

  pub ArmsPut : (ItemKind → Field → Type 0) → Arms → Type 0
  ArmsPut A no_arm = Unit {0}
  ArmsPut A (else_of body) = AllPut A body
  ArmsPut A (arm condition body others) = AllPut A body × ArmsPut A others

abbrev pub BodyPuts : (ItemKind → Field → Type 0) → Body → Type 0
BodyPuts A body = AllPut A (before body) × AllPut A (after body)

abbrev pub ProceduresPut : (ItemKind → Field → Type 0) → List Procedure → Type 0
ProceduresPut A [] = Unit {0}
ProceduresPut A (x ∷ xs) = BodyPuts A x.body × ProceduresPut A xs

abbrev pub FunctionsPut : (ItemKind → Field → Type 0) → List Function → Type 0
FunctionsPut A [] = Unit {0}
FunctionsPut A (x ∷ xs) = AllPut A x.body × FunctionsPut A xs
