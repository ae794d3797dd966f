-- Expressions as plain data. `X` is what stands for a variable and `K` what stands for a class:
-- in the syntax both are names at their places, in a method's body they are slots and numbers.
use Rattle.pz_syntax.specs.declared.tokens.Pos.{Pos}
use Rattle.pz_syntax.specs.declared.tokens.Symbol.{Symbol}
use Rattle.pz_syntax.specs.declared.names.Id.{Id}
use Rattle.pz_syntax.specs.declared.exprs.Literal.{Literal}

mutual
  -- each at the place of its first token
  pub data Expression (X K : Type 0) : Type 0 where
    literal : Pos → Literal → Expression X K
    variable : Pos → X → Expression X K
    me : Pos → Expression X K
    clock : Pos → Expression X K
    creation : Pos → K → Expression X K
    group : Pos → Expressions X K → Expression X K
    chain : Pos → Expression X K → Links X K → Expression X K
    sends : Pos → Expression X K → Sendings X K → Expression X K
    unary : Pos → Symbol → Expression X K → Expression X K
    assign : Pos → X → Expression X K → Expression X K
    returned : Pos → Expression X K → Expression X K
    choice : Pos → Expression X K → Expressions X K → Part X K → Expression X K
    loop : Pos → Expression X K → Expressions X K → Expression X K

  pub data Expressions (X K : Type 0) : Type 0 where
    none : Expressions X K
    more : Expression X K → Expressions X K → Expressions X K

  -- a list that is written or left out
  pub data Part (X K : Type 0) : Type 0 where
    left_out : Part X K
    written : Expressions X K → Part X K

  -- operators at their places, each with its right operand
  pub data Links (X K : Type 0) : Type 0 where
    no_links : Links X K
    link : Symbol → Pos → Expression X K → Links X K → Links X K

  -- selectors, each with its arguments
  pub data Sendings (X K : Type 0) : Type 0 where
    no_sendings : Sendings X K
    sending : Id → Part X K → Sendings X K → Sendings X K
