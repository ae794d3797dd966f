-- The rules of expressions, as devices of the proofs, over the rules one construct further in.
use Rattle.std.specs.Prelude.{ℕ, zero, suc, not, if◌then◌else◌, List, [], ◌∷◌, Option, Some, None}
use Rattle.pz_syntax.specs.declared.tokens.Pos.{Pos}
use Rattle.pz_syntax.specs.declared.tokens.Symbol.{Symbol}
use Rattle.pz_syntax.specs.declared.tokens.Symbol.TheVariants as s
use Rattle.pz_syntax.specs.declared.names.Id.{Id}
use Rattle.pz_syntax.specs.Expressions.{literal, variable, me, clock, creation, group, chain, sends, unary, assign, returned as return_of, choice, loop, Part, left_out, written}
use Rattle.pz_syntax.specs.ExpressionView.{Tree, list_of as expressions, LinkTree, links_of, SendingTree, sendings_of}
use Rattle.pz_parser_cursor.specs.declared.ahead.Next.{Next}
use Rattle.pz_parser_cursor.specs.declared.ahead.Next.TheVariants as n
use Rattle.pz_parser_cursor.specs.devices.Input.{position, after, sees, selects}
use Rattle.pz_parser_cursor.specs.devices.Device.{Parser, ◌>>=◌, ◌>>◌, ◌<$>◌, pure, refuse, peek, ask, skip, take_id, take_literal, expect, expect_id, deepen, or_none}
use Rattle.pz_parser_cursor.specs.devices.Lists.{turns, list_of, each_of}
use Rattle.pz_parser_expressions.specs.declared.rule.Rule.{Rule}
use Rattle.pz_parser_expressions.specs.declared.rule.Rule.TheVariants as rule
use Rattle.pz_parser_expressions.specs.devices.Rules.{operator}

-- ---- chains

abbrev pub chained : Pos → Tree → List LinkTree → Tree
chained pos t [] = t
chained pos t (l ∷ ls) = chain pos t (links_of (l ∷ ls))

unfoldable pub one_link : Symbol → Parser Tree → Parser LinkTree
one_link op item = do
  pos ← ask position
  skip
  t ← item
  pure (op, pos, t)

abbrev pub link_at : Option Symbol → Parser Tree → Parser (List LinkTree) → Parser (List LinkTree)
link_at None item more = pure []
link_at (Some op) item more = do
  l ← one_link op item
  ls ← more
  pure (l ∷ ls)

unfoldable pub links_by : (Next → Option Symbol) → Parser Tree → ℕ → Parser (List LinkTree)
links_by ops item zero = pure []
links_by ops item (suc turn) = do
  ahead ← peek
  link_at (ops ahead) item (links_by ops item turn)

unfoldable pub all_links : (Next → Option Symbol) → Parser Tree → Parser (List LinkTree)
all_links ops item = λ i. links_by ops item (turns i) i

unfoldable pub chain_of : (Next → Option Symbol) → Parser Tree → Parser Tree
chain_of ops item = do
  pos ← ask position
  t ← item
  ls ← all_links ops item
  pure (chained pos t ls)

abbrev pub sent : Pos → Tree → List SendingTree → Tree
sent pos t [] = t
sent pos t (x ∷ xs) = sends pos t (sendings_of (x ∷ xs))

-- ---- what is no value

module _ (value : Parser Tree) where
  unfoldable pub assignment : Parser Tree
  assignment = do
    pos ← ask position
    x ← take_id
    skip
    t ← value
    pure (assign pos x t)

  unfoldable pub returned : Parser Tree
  returned = do
    pos ← ask position
    skip
    t ← value
    pure (return_of pos t)

  unfoldable pub named : Parser Tree
  named = λ i. if sees n.Assign (after i) then assignment i else value i

  abbrev pub expression_by : Next → Parser Tree
  expression_by n.Return = returned
  expression_by n.Word = named
  expression_by _ = value

  unfoldable pub expression : Parser Tree
  expression = peek >>= expression_by

-- ---- what needs no other rule

abbrev pub constant : Parser Tree
constant = do
  pos ← ask position
  x ← take_literal
  pure (literal pos x)

abbrev pub named_variable : Parser Tree
named_variable = do
  x ← take_id
  pure (variable x.pos x)

abbrev pub self_word : Parser Tree
self_word = do
  pos ← ask position
  skip
  pure (me pos)

abbrev pub time_word : Parser Tree
time_word = do
  pos ← ask position
  skip
  pure (clock pos)

unfoldable pub created : Parser Tree
created = do
  pos ← ask position
  skip
  expect n.LeftParen
  x ← expect_id n.Word
  expect n.RightParen
  pure (creation pos x)

-- ---- over the rules one construct further in

module _ (inner : Rule → Parser Tree) where
  -- a value and a word behind it
  unfoldable pub tested : Next → Parser Tree
  tested word = do
    t ← inner rule.Value
    expect word
    pure t

  abbrev pub otherwise_by : Next → Parser (Part Id Id)
  otherwise_by n.Else = (λ ts. written (expressions ts)) <$> (skip >> list_of (inner rule.Expression) n.Semicolon)
  otherwise_by _ = pure left_out

  -- the part behind `else`, where there is one
  unfoldable pub otherwise : Parser (Part Id Id)
  otherwise = peek >>= otherwise_by

  -- none where the closing token stands next
  unfoldable pub exprs_before : Next → Next → Parser (List Tree)
  exprs_before separator close = or_none (λ i. not (sees close i)) (list_of (inner rule.Expression) separator)

module _ (depth : ℕ) (inner : Rule → Parser Tree) where
  -- expressions between an opening and a closing token
  unfoldable pub enclosed : Next → Next → Parser (List Tree)
  enclosed separator close = do
    deepen depth
    ts ← exprs_before inner separator close
    expect close
    pure ts

  unfoldable pub grouped : Parser Tree
  grouped = do
    pos ← ask position
    deepen depth
    ts ← list_of (inner rule.Expression) n.Semicolon
    expect n.RightParen
    pure (group pos (expressions ts))

  unfoldable pub conditional : Parser Tree
  conditional = do
    pos ← ask position
    deepen depth
    t ← tested inner n.Then
    ts ← list_of (inner rule.Expression) n.Semicolon
    other ← otherwise inner
    expect n.Fi
    pure (choice pos t (expressions ts) other)

  unfoldable pub repetition : Parser Tree
  repetition = do
    pos ← ask position
    deepen depth
    t ← tested inner n.Do
    ts ← list_of (inner rule.Expression) n.Semicolon
    expect n.Od
    pure (loop pos t (expressions ts))

  abbrev pub primary_by : Next → Parser Tree
  primary_by n.Int = constant
  primary_by n.Literal = constant
  primary_by n.Word = named_variable
  primary_by n.Me = self_word
  primary_by n.CurrentTime = time_word
  primary_by n.New = created
  primary_by n.LeftParen = grouped
  primary_by n.If = conditional
  primary_by n.While = repetition
  primary_by _ = refuse

  unfoldable pub primary : Parser Tree
  primary = peek >>= primary_by

  abbrev pub arguments_by : Next → Parser (Part Id Id)
  arguments_by n.LeftParen = (λ ts. written (expressions ts)) <$> enclosed n.Comma n.RightParen
  arguments_by _ = pure left_out

  unfoldable pub arguments : Parser (Part Id Id)
  arguments = peek >>= arguments_by

  unfoldable pub one_sending : Parser SendingTree
  one_sending = do
    x ← take_id
    args ← arguments
    pure (x, args)

  unfoldable pub all_sendings : Parser (List SendingTree)
  all_sendings = each_of selects one_sending

  unfoldable pub sent_to : Parser Tree
  sent_to = do
    pos ← ask position
    t ← primary
    ss ← all_sendings
    pure (sent pos t ss)

  unfoldable pub signed : Symbol → Parser Tree
  signed sign = do
    pos ← ask position
    deepen depth
    t ← inner rule.Operand
    pure (unary pos sign t)

  abbrev pub operand_by : Next → Parser Tree
  operand_by n.Minus = signed s.Minus
  operand_by n.Bang = signed s.Bang
  operand_by _ = sent_to

  unfoldable pub operand : Parser Tree
  operand = peek >>= operand_by

  abbrev pub products : Parser Tree
  products = chain_of (operator rule.Product) operand

  abbrev pub sums : Parser Tree
  sums = chain_of (operator rule.Sum) products

  abbrev pub comparisons : Parser Tree
  comparisons = chain_of (operator rule.Comparison) sums

  abbrev pub conjunctions : Parser Tree
  conjunctions = chain_of (operator rule.Conjunction) comparisons

  abbrev pub values : Parser Tree
  values = chain_of (operator rule.Value) conjunctions

  abbrev pub by_rule : Rule → Parser Tree
  by_rule rule.Expression = expression values
  by_rule rule.Value = values
  by_rule rule.Conjunction = conjunctions
  by_rule rule.Comparison = comparisons
  by_rule rule.Sum = sums
  by_rule rule.Product = products
  by_rule rule.Operand = operand

-- what a rule reads, with at most so many constructs one in another
unfoldable pub expr : ℕ → Rule → Parser Tree
expr zero r = by_rule zero (λ _. refuse) r
expr (suc depth) r = by_rule (suc depth) (expr depth) r

-- what is one construct further in
abbrev pub below : ℕ → Rule → Parser Tree
below zero r = refuse
below (suc depth) r = expr depth r
