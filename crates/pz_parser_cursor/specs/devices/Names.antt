-- Names, variables and formal parameters, as devices of the proofs.
use Rattle.std.specs.Prelude.{ℕ, zero, suc, Bool, ◌||◌, List, [], ◌∷◌, Option}
use Rattle.pz_syntax.specs.declared.names.Id.{Id}
use Rattle.pz_syntax.specs.declared.classes.VarGroup.{VarGroup}
use Rattle.pz_parser_cursor.specs.declared.ahead.Next.{Next}
use Rattle.pz_parser_cursor.specs.declared.ahead.Next.TheVariants as n
use Rattle.pz_parser_cursor.specs.devices.Input.{Tokens, sees}
use Rattle.pz_parser_cursor.specs.devices.Device.{Parser, ◌>>=◌, ◌>>◌, pure, refuse, peek, take_id, expect, expect_id, optional, section, or_none}
use Rattle.pz_parser_cursor.specs.devices.Lists.{turns, list_of}

abbrev pub word : Parser Id
word = expect_id n.Word

unfoldable pub names : Parser (List Id)
names = list_of word n.Comma

unfoldable pub optional_names : Parser (List Id)
optional_names = or_none (sees n.Word) names

-- ---- the names of a group: words with commas behind them, then a head

abbrev pub names_by : Next → Parser (List Id) → Parser (List Id)
names_by n.Word more = do
  x ← take_id
  expect n.Comma
  xs ← more
  pure (x ∷ xs)
names_by n.Head more = do
  x ← take_id
  pure (x ∷ [])
names_by _ more = refuse

unfoldable pub names_of_group : ℕ → Parser (List Id)
names_of_group zero = refuse
names_of_group (suc turn) = peek >>= (λ ahead. names_by ahead (names_of_group turn))

unfoldable pub group_names : Parser (List Id)
group_names = λ i. names_of_group (turns i) i

unfoldable pub group : Parser VarGroup
group = do
  xs ← group_names
  expect n.Colon
  x ← word
  pure (record { names = xs; kind = x })

unfoldable pub variables : Parser (List VarGroup)
variables = list_of group n.Comma

unfoldable pub begins_group : Tokens → Bool
begins_group i = sees n.Word i || sees n.Head i

unfoldable pub optional_variables : Parser (List VarGroup)
optional_variables = or_none begins_group variables

unfoldable pub formal : Parser (List VarGroup)
formal = do
  expect n.LeftParen
  groups ← optional_variables
  expect n.RightParen
  pure groups

unfoldable pub optional_formal : Parser (Option (List VarGroup))
optional_formal = optional (sees n.LeftParen) formal

unfoldable pub locals : Parser (List VarGroup)
locals = do
  expect n.Bar
  groups ← variables
  expect n.Bar
  pure groups

unfoldable pub optional_locals : Parser (Option (List VarGroup))
optional_locals = optional (sees n.Bar) locals

unfoldable pub ports : Parser (Option (List Id))
ports = section n.Ports optional_names
