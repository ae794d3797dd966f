-- Statements as plain data. `X` and `K` are as in expressions, and `Q` is what stands for a port.
use Rattle.std.specs.Prelude.{List, Option}
use Rattle.pz_syntax.specs.declared.tokens.Pos.{Pos}
use Rattle.pz_syntax.specs.declared.names.Id.{Id}
use Rattle.pz_syntax.specs.Expressions.{Expression, Expressions, Part}

mutual
  -- each at the place of its first token
  pub data Statement (X K Q : Type 0) : Type 0 where
    skip : Pos → Statement X K Q
    delay : Pos → Expression X K → Statement X K Q
    bracketed : Pos → Statements X K Q → Statement X K Q
    block : Pos → Expressions X K → Statement X K Q
    guarded : Pos → Expression X K → Statement X K Q → Statement X K Q
    parallel : Pos → Branches X K Q → Statement X K Q
    select : Pos → Branches X K Q → Statement X K Q
    conditional : Pos → Expression X K → Statements X K Q → StatementPart X K Q → Statement X K Q
    repeated : Pos → Expression X K → Statements X K Q → Statement X K Q
    abort : Pos → Statements X K Q → Statement X K Q → Statement X K Q
    interrupt : Pos → Statements X K Q → Statement X K Q → Statement X K Q
    -- port, message, arguments, block
    send : Pos → Q → Id → Part X K → Part X K → Statement X K Q
    -- port, message, variables, condition, block
    receive : Pos → Q → Id → Option (List X) → Option (Expression X K) → Part X K → Statement X K Q
    -- method, arguments, results
    call : Pos → Id → Expressions X K → List X → Statement X K Q
    assignment : Pos → X → Expression X K → Statement X K Q
    value : Pos → Expression X K → Statement X K Q

  pub data Statements (X K Q : Type 0) : Type 0 where
    no_statements : Statements X K Q
    then : Statement X K Q → Statements X K Q → Statements X K Q

  -- a list that is written or left out
  pub data StatementPart (X K Q : Type 0) : Type 0 where
    not_written : StatementPart X K Q
    otherwise : Statements X K Q → StatementPart X K Q

  -- the branches of a `par` or a `sel`
  pub data Branches (X K Q : Type 0) : Type 0 where
    no_branches : Branches X K Q
    branch : Statements X K Q → Branches X K Q → Branches X K Q
