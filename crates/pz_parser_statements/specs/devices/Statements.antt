-- The rules for statements, as devices of the proofs, over the statements one construct further in.
use Rattle.std.specs.Prelude.{ℕ, zero, suc, if◌then◌else◌, List}
use Rattle.pz_syntax.specs.declared.names.Id.{Id}
use Rattle.pz_syntax.specs.ExpressionView.{list_of as expressions}
use Rattle.pz_syntax.specs.Statements.{Statements, StatementPart, not_written}
use Rattle.pz_syntax.specs.Statements as tree
use Rattle.pz_syntax.specs.StatementView.{Tree, sequence_of, branches_of}
use Rattle.pz_parser_cursor.specs.declared.ahead.Next.{Next}
use Rattle.pz_parser_cursor.specs.declared.ahead.Next.TheVariants as n
use Rattle.pz_parser_cursor.specs.devices.Input.{position, after, sees}
use Rattle.pz_parser_cursor.specs.devices.Device.{Parser, ◌>>=◌, ◌>>◌, ◌<$>◌, pure, refuse, peek, ask, skip, take_id, expect, deepen}
use Rattle.pz_parser_cursor.specs.devices.Lists.{list_of}
use Rattle.pz_parser_expressions.specs.declared.rule.Rule.TheVariants as rule
use Rattle.pz_parser_expressions.specs.devices.Values.{expr, below, enclosed, tested}
use Rattle.pz_parser_statements.specs.devices.Messages.{sent, received, called}

-- ---- what no other statement stands in

abbrev pub skipped : Parser Tree
skipped = do
  pos ← ask position
  skip
  pure (tree.skip pos)

module _ (depth : ℕ) where
  unfoldable pub delayed : Parser Tree
  delayed = do
    pos ← ask position
    skip
    e ← expr depth rule.Value
    pure (tree.delay pos e)

  unfoldable pub block : Parser Tree
  block = do
    pos ← ask position
    es ← enclosed depth (below depth) n.Semicolon n.RightBrace
    pure (tree.block pos (expressions es))

  unfoldable pub assigned : Parser Tree
  assigned = do
    pos ← ask position
    x ← take_id
    skip
    e ← expr depth rule.Value
    pure (tree.assignment pos x e)

  unfoldable pub valued : Parser Tree
  valued = do
    pos ← ask position
    e ← expr depth rule.Value
    pure (tree.value pos e)

  -- what begins with an identifier is told by the token behind it
  unfoldable pub worded : Parser Tree
  worded = λ i. if sees n.Bang (after i) then sent depth i else if sees n.Query (after i) then received depth i else if sees n.Assign (after i) then assigned i else valued i

-- ---- over the statements one construct further in

module _ (depth : ℕ) (inner : Parser Tree) where
  abbrev pub sequence : Parser (List Tree)
  sequence = list_of inner n.Semicolon

  unfoldable pub bracketed : Parser Tree
  bracketed = do
    pos ← ask position
    deepen depth
    ts ← sequence
    expect n.RightParen
    pure (tree.bracketed pos (sequence_of ts))

  unfoldable pub guarded : Parser Tree
  guarded = do
    pos ← ask position
    deepen depth
    e ← tested (below depth) n.RightBracket
    t ← inner
    pure (tree.guarded pos e t)

  -- branches with this word between them, and the closing word
  unfoldable pub branched : Next → Next → Parser (List (List Tree))
  branched separator close = do
    deepen depth
    bs ← list_of sequence separator
    expect close
    pure bs

  unfoldable pub parallel : Parser Tree
  parallel = do
    pos ← ask position
    bs ← branched n.And n.Rap
    pure (tree.parallel pos (branches_of bs))

  unfoldable pub selection : Parser Tree
  selection = do
    pos ← ask position
    bs ← branched n.Or n.Les
    pure (tree.select pos (branches_of bs))

  abbrev pub otherwise_by : Next → Parser (StatementPart Id Id Id)
  otherwise_by n.Else = (λ ts. tree.otherwise (sequence_of ts)) <$> (skip >> sequence)
  otherwise_by _ = pure not_written

  -- the part behind `else`, where there is one
  unfoldable pub otherwise : Parser (StatementPart Id Id Id)
  otherwise = peek >>= otherwise_by

  unfoldable pub conditional : Parser Tree
  conditional = do
    pos ← ask position
    deepen depth
    e ← tested (below depth) n.Then
    ts ← sequence
    other ← otherwise
    expect n.Fi
    pure (tree.conditional pos e (sequence_of ts) other)

  unfoldable pub repeated : Parser Tree
  repeated = do
    pos ← ask position
    deepen depth
    e ← tested (below depth) n.Do
    ts ← sequence
    expect n.Od
    pure (tree.repeated pos e (sequence_of ts))

  -- a body, and the statement behind `with`
  unfoldable pub handled : Parser (List Tree × Tree)
  handled = do
    deepen depth
    ts ← sequence
    expect n.With
    t ← inner
    pure (ts, t)

  unfoldable pub aborted : Parser Tree
  aborted = do
    pos ← ask position
    parts ← handled
    pure (tree.abort pos (sequence_of parts.0) parts.1)

  unfoldable pub interrupted : Parser Tree
  interrupted = do
    pos ← ask position
    parts ← handled
    pure (tree.interrupt pos (sequence_of parts.0) parts.1)

  abbrev pub statement_by : Next → Parser Tree
  statement_by n.Skip = skipped
  statement_by n.Delay = delayed depth
  statement_by n.LeftParen = bracketed
  statement_by n.LeftBrace = block depth
  statement_by n.LeftBracket = guarded
  statement_by n.Par = parallel
  statement_by n.Sel = selection
  statement_by n.If = conditional
  statement_by n.While = repeated
  statement_by n.Abort = aborted
  statement_by n.Interrupt = interrupted
  statement_by n.Head = called depth
  statement_by n.Word = worded depth
  statement_by n.Int = valued depth
  statement_by n.Literal = valued depth
  statement_by n.New = valued depth
  statement_by n.CurrentTime = valued depth
  statement_by _ = refuse

  unfoldable pub statement : Parser Tree
  statement = peek >>= statement_by

-- a statement, with at most so many constructs one in another
unfoldable pub stmt : ℕ → Parser Tree
stmt zero = statement zero refuse
stmt (suc depth) = statement (suc depth) (stmt depth)

-- a statement one construct further in
abbrev pub below_stmt : ℕ → Parser Tree
below_stmt zero = refuse
below_stmt (suc depth) = stmt depth

-- one statement or more, with semicolons between them
unfoldable pub stmts : ℕ → Parser (Statements Id Id Id)
stmts depth = sequence_of <$> list_of (stmt depth) n.Semicolon
