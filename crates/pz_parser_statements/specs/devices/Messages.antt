-- The rules for sends, receptions and calls, as devices of the proofs, with at most so many constructs
-- one in another.
use Rattle.std.specs.Prelude.{ℕ, if◌then◌else◌, List, Option, Some, None}
use Rattle.pz_syntax.specs.declared.names.Id.{Id}
use Rattle.pz_syntax.specs.Expressions.{Part, left_out, written}
use Rattle.pz_syntax.specs.ExpressionView.{list_of as expressions}
use Rattle.pz_syntax.specs.ExpressionView as expression
use Rattle.pz_syntax.specs.Statements.{send, receive, call}
use Rattle.pz_syntax.specs.StatementView.{Tree}
use Rattle.pz_parser_cursor.specs.declared.ahead.Next.{Next}
use Rattle.pz_parser_cursor.specs.declared.ahead.Next.TheVariants as n
use Rattle.pz_parser_cursor.specs.devices.Input.{position, sees}
use Rattle.pz_parser_cursor.specs.devices.Device.{Parser, ◌>>=◌, ◌>>◌, ◌<$>◌, pure, refuse, peek, ask, skip, take_id, expect, expect_id, deepen, optional}
use Rattle.pz_parser_cursor.specs.devices.Names.{optional_names}
use Rattle.pz_parser_expressions.specs.declared.rule.Rule.TheVariants as rule
use Rattle.pz_parser_expressions.specs.devices.Values.{below, enclosed, arguments}

-- the variables and the condition of a reception
abbrev pub ReceptionTree : Type 0
ReceptionTree = Option (List Id) × Option expression.Tree

-- names in brackets
unfoldable pub call_results : Parser (List Id)
call_results = do
  expect n.LeftParen
  xs ← optional_names
  expect n.RightParen
  pure xs

module _ (depth : ℕ) where
  abbrev pub after_by : Next → Parser (Part Id Id)
  after_by n.LeftBrace = (λ es. written (expressions es)) <$> enclosed depth (below depth) n.Semicolon n.RightBrace
  after_by _ = pure left_out

  -- the block behind a message, where there is one
  unfoldable pub after_message : Parser (Part Id Id)
  after_message = peek >>= after_by

  unfoldable pub sent : Parser Tree
  sent = do
    pos ← ask position
    port ← take_id
    skip
    message ← expect_id n.Word
    args ← arguments depth (below depth)
    block ← after_message
    pure (send pos port message args block)

  -- a bar and the condition behind it, where there are
  unfoldable pub condition : Parser (Option expression.Tree)
  condition = optional (sees n.Bar) (skip >> below depth rule.Value)

  unfoldable pub enclosed_reception : Parser ReceptionTree
  enclosed_reception = do
    deepen depth
    xs ← optional_names
    e ← condition
    expect n.RightParen
    pure (Some xs, e)

  abbrev pub reception_by : Next → Parser ReceptionTree
  reception_by n.LeftParen = enclosed_reception
  reception_by _ = pure (None, None)

  unfoldable pub reception : Parser ReceptionTree
  reception = peek >>= reception_by

  unfoldable pub received : Parser Tree
  received = do
    pos ← ask position
    port ← take_id
    skip
    message ← expect_id n.Word
    into ← reception
    block ← after_message
    pure (receive pos port message into.0 into.1 block)

  -- arguments in brackets, which have to be there
  unfoldable pub call_arguments : Parser (List expression.Tree)
  call_arguments = λ i. if sees n.LeftParen i then enclosed depth (below depth) n.Comma n.RightParen i else refuse i

  unfoldable pub called : Parser Tree
  called = do
    pos ← ask position
    method ← take_id
    args ← call_arguments
    results ← call_results
    pure (call pos method (expressions args) results)
