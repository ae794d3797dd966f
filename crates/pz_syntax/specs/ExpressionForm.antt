-- Which expressions the grammar has.
use Rattle.std.specs.Prelude.{◌≡◌, ℕ, ◌<◌, ◌≤◌, ⊤}
use Rattle.pz_syntax.specs.declared.tokens.Symbol.{Symbol}
use Rattle.pz_syntax.specs.declared.tokens.Symbol.TheVariants as s
use Rattle.pz_syntax.specs.declared.names.Id.{Id}
use Rattle.pz_syntax.specs.Expressions.{Expression, literal, variable, me, clock, creation, group, chain, sends, unary, assign, returned, choice, loop, Expressions, none, more, Part, left_out, written, Links, no_links, link, Sendings, no_sendings, sending}

-- The operators by how tightly they bind, from 1 to 5; 0 for what is no operator between operands.
abbrev pub operator_level : Symbol → ℕ
operator_level s.Bar = 1
operator_level s.Ampersand = 2
operator_level s.Equal = 3
operator_level s.Same = 3
operator_level s.Unequal = 3
operator_level s.Distinct = 3
operator_level s.Less = 3
operator_level s.LessEqual = 3
operator_level s.Greater = 3
operator_level s.GreaterEqual = 3
operator_level s.Plus = 4
operator_level s.Minus = 4
operator_level s.Star = 5
operator_level s.Slash = 5
operator_level _ = 0

-- The rule of the grammar that an expression is of: 0 for what is no value, 1 to 5 for the chains of
-- these operators, 6 for a sign and its operand, 7 for sendings, 8 for what they are sent to. A rule
-- has what the later rules have.
abbrev pub level : Expression Id Id → ℕ
level (assign pos x t) = 0
level (returned pos t) = 0
level (chain pos t no_links) = 0
level (chain pos t (link op place u ls)) = operator_level op
level (unary pos op t) = 6
level (sends pos t ss) = 7
level _ = 8

abbrev pub IsSign : Symbol → Type 0
IsSign s.Minus = ⊤
IsSign s.Bang = ⊤
IsSign _ = ⊥

abbrev mutual
  -- an `expr` of the grammar
  pub IsExpression : Expression Id Id → Type 0
  IsExpression (literal pos x) = ⊤
  IsExpression (variable pos x) = ⊤
  IsExpression (me pos) = ⊤
  IsExpression (clock pos) = ⊤
  IsExpression (creation pos class) = ⊤
  IsExpression (group pos ts) = IsBody ts
  IsExpression (chain pos t no_links) = ⊥
  IsExpression (chain pos t (link op place u ls)) = (1 ≤ operator_level op) × IsExpression t × (operator_level op < level t) × AreLinks (operator_level op) (link op place u ls)
  IsExpression (sends pos t no_sendings) = ⊥
  IsExpression (sends pos t (sending x args ss)) = IsExpression t × (8 ≤ level t) × AreSendings (sending x args ss)
  IsExpression (unary pos op t) = IsSign op × IsExpression t × (6 ≤ level t)
  IsExpression (assign pos x t) = IsExpression t × (1 ≤ level t)
  IsExpression (returned pos t) = IsExpression t × (1 ≤ level t)
  IsExpression (choice pos test body other) = IsExpression test × (1 ≤ level test) × IsBody body × IsOtherwise other
  IsExpression (loop pos test body) = IsExpression test × (1 ≤ level test) × IsBody body

  -- none or more
  pub AreExpressions : Expressions Id Id → Type 0
  AreExpressions none = ⊤
  AreExpressions (more t ts) = IsExpression t × AreExpressions ts

  -- one or more
  pub IsBody : Expressions Id Id → Type 0
  IsBody none = ⊥
  IsBody (more t ts) = IsExpression t × AreExpressions ts

  -- a body, or nothing
  pub IsOtherwise : Part Id Id → Type 0
  IsOtherwise left_out = ⊤
  IsOtherwise (written ts) = IsBody ts

  -- operators of this level, each with an operand of a later one
  pub AreLinks : ℕ → Links Id Id → Type 0
  AreLinks n no_links = ⊤
  AreLinks n (link op place t ls) = (operator_level op ≡ n) × IsExpression t × (n < level t) × AreLinks n ls

  pub AreSendings : Sendings Id Id → Type 0
  AreSendings no_sendings = ⊤
  AreSendings (sending x args ss) = AreArguments args × AreSendings ss

  -- arguments, none or more, or nothing
  pub AreArguments : Part Id Id → Type 0
  AreArguments left_out = ⊤
  AreArguments (written ts) = AreExpressions ts

-- a `value` of the grammar
abbrev pub IsValue : Expression Id Id → Type 0
IsValue t = IsExpression t × (1 ≤ level t)
