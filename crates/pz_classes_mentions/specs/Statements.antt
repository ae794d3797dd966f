-- What a statement mentions, in the order of the text.
use Rattle.std.specs.Prelude.{List, [], ◌∷◌, ◌++◌, length, map, Option, Some, None}
use Rattle.pz_syntax.specs.declared.names.Id.{Id}
use Rattle.pz_syntax.specs.Expressions.{Expression}
use Rattle.pz_syntax.specs.Statements.{Statement, skip, delay, bracketed, block, guarded, parallel, select, conditional, repeated, abort, interrupt, send, receive, call, assignment, value, Statements, no_statements, then, StatementPart, not_written, otherwise, Branches, no_branches, branch}
use Rattle.pz_classes_mentions.specs.declared.mention.Mention.{Mention}
use Rattle.pz_classes_mentions.specs.declared.mention.Mention.TheVariants as m
use Rattle.pz_classes_mentions.specs.Expressions.{count, count_written, mentioned_all, mentioned_part}
use Rattle.pz_classes_mentions.specs.Expressions as expression

abbrev pub variables : List Id → List Mention
variables xs = map m.Variable xs

-- the variables of a reception, if its brackets are written
abbrev pub received : Option (List Id) → List Id
received None = []
received (Some xs) = xs

abbrev pub mentioned_condition : Option (Expression Id Id) → List Mention
mentioned_condition None = []
mentioned_condition (Some e) = expression.mentioned e

abbrev mutual
  pub mentioned : Statement Id Id Id → List Mention
  mentioned (skip pos) = []
  mentioned (delay pos e) = expression.mentioned e
  mentioned (bracketed pos ts) = mentioned_statements ts
  mentioned (block pos es) = mentioned_all es
  mentioned (guarded pos e t) = expression.mentioned e ++ mentioned t
  mentioned (parallel pos bs) = mentioned_branches bs
  mentioned (select pos bs) = mentioned_branches bs
  mentioned (conditional pos e body other) = expression.mentioned e ++ (mentioned_statements body ++ mentioned_otherwise other)
  mentioned (repeated pos e body) = expression.mentioned e ++ mentioned_statements body
  mentioned (abort pos ts t) = mentioned_statements ts ++ mentioned t
  mentioned (interrupt pos ts t) = mentioned_statements ts ++ mentioned t
  mentioned (send pos port message args after) = m.Port port ∷ m.Sent port message (count_written args) ∷ (mentioned_part args ++ mentioned_part after)
  mentioned (receive pos port message into condition after) = m.Port port ∷ m.Received port message (length (received into)) ∷ (variables (received into) ++ (mentioned_condition condition ++ mentioned_part after))
  mentioned (call pos method args results) = m.Called method (count args) (length results) ∷ (mentioned_all args ++ variables results)
  mentioned (assignment pos x e) = m.Variable x ∷ expression.mentioned e
  mentioned (value pos e) = expression.mentioned e

  pub mentioned_statements : Statements Id Id Id → List Mention
  mentioned_statements no_statements = []
  mentioned_statements (then t ts) = mentioned t ++ mentioned_statements ts

  pub mentioned_otherwise : StatementPart Id Id Id → List Mention
  mentioned_otherwise not_written = []
  mentioned_otherwise (otherwise ts) = mentioned_statements ts

  pub mentioned_branches : Branches Id Id Id → List Mention
  mentioned_branches no_branches = []
  mentioned_branches (branch b bs) = mentioned_statements b ++ mentioned_branches bs
