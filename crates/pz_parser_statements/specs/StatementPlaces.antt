-- Statements with the positions of the tokens of their texts.
use Rattle.std.specs.Prelude.{suc, List, Option}
use Rattle.pz_syntax.specs.declared.tokens.Symbol.TheVariants as s
use Rattle.pz_syntax.specs.declared.names.Id.{Id}
use Rattle.pz_syntax.specs.Marks.{names_text, optional}
use Rattle.pz_syntax.specs.Expressions.{Expression}
use Rattle.pz_syntax.specs.ExpressionText.{arguments_text}
use Rattle.pz_syntax.specs.ExpressionText as expression
use Rattle.pz_syntax.specs.Statements.{Statement, skip, delay, bracketed, block, guarded, parallel, select, conditional, repeated, abort, interrupt, send, receive, call, assignment, value, Statements, no_statements, then, StatementPart, not_written, otherwise, Branches, no_branches, branch}
use Rattle.pz_syntax.specs.StatementText.{text, texts, reception_text}
use Rattle.pz_parser_cursor.specs.Places.{Placing, token, over, here, ◌>>=◌, ◌>>◌, made, from, place_id, place_names, place_optional}
use Rattle.pz_parser_expressions.specs.ExpressionPlaces.{place_part}
use Rattle.pz_parser_expressions.specs.ExpressionPlaces as expression_places

-- behind the `(`
abbrev pub place_into : Placing (Option (List Id))
place_into = place_optional (λ at n xs. place_names at (suc n) xs)

-- behind the bar
abbrev pub place_condition : Placing (Option (Expression Id Id))
place_condition = place_optional (λ at n e. expression_places.place at (suc n) e)

-- A statement stands at its first token, and a name at its own. The number is that of the first token
-- of the part.
abbrev mutual
  pub place : Placing (Statement Id Id Id)
  place at n (skip pos) = skip (at n)
  place at n (delay pos e) = delay (at n) (expression_places.place at (suc n) e)
  place at n (bracketed pos ts) = bracketed (at n) (place_all at (suc n) ts)
  place at n (block pos es) = block (at n) (expression_places.place_all at (suc n) es)
  place at n (guarded pos e t) = from n do token; guard ← over (expression.text e); token; made (guarded (at n) (expression_places.place at guard e) (place at (← here) t))
  place at n (parallel pos bs) = parallel (at n) (place_branches at (suc n) bs)
  place at n (select pos bs) = select (at n) (place_branches at (suc n) bs)
  place at n (conditional pos e ts o) = from n do token; test ← over (expression.text e); token; made (conditional (at n) (expression_places.place at test e) (place_all at (← over (texts ts)) ts) (place_otherwise at (← here) o))
  place at n (repeated pos e ts) = from n do token; test ← over (expression.text e); token; made (repeated (at n) (expression_places.place at test e) (place_all at (← here) ts))
  place at n (abort pos ts t) = from n do token; body ← over (texts ts); token; made (abort (at n) (place_all at body ts) (place at (← here) t))
  place at n (interrupt pos ts t) = from n do token; body ← over (texts ts); token; made (interrupt (at n) (place_all at body ts) (place at (← here) t))
  place at n (send pos port message args after) = from n do port_at ← token; token; made (send (at n) (place_id at port_at port) (place_id at (← token) message) (place_part at (← over (arguments_text args)) args) (place_part at (← here) after))
  place at n (receive pos port message into condition after) = from n do port_at ← token; token; message_at ← token; reception ← over (reception_text into condition); after_at ← here; made (receive (at n) (place_id at port_at port) (place_id at message_at message) (place_into at reception into) (place_condition at (from reception do token; over (optional names_text into)) condition) (place_part at after_at after))
  place at n (call pos method args results) = from n do method_at ← token; token; args_at ← over (expression.texts s.Comma args); token; token; made (call (at n) (place_id at method_at method) (expression_places.place_all at args_at args) (place_names at (← here) results))
  place at n (assignment pos x e) = from n do name ← token; token; made (assignment (at n) (place_id at name x) (expression_places.place at (← here) e))
  place at n (value pos e) = value (at n) (expression_places.place at n e)

  -- with semicolons between them
  pub place_all : Placing (Statements Id Id Id)
  place_all at n no_statements = no_statements
  place_all at n (then t ts) = from n do made (then (place at (← over (text t)) t) (place_tail at (← here) ts))

  -- each behind a semicolon
  pub place_tail : Placing (Statements Id Id Id)
  place_tail at n no_statements = no_statements
  place_tail at n (then t ts) = from n do token; made (then (place at (← over (text t)) t) (place_tail at (← here) ts))

  -- behind `else`
  pub place_otherwise : Placing (StatementPart Id Id Id)
  place_otherwise at n not_written = not_written
  place_otherwise at n (otherwise ts) = otherwise (place_all at (suc n) ts)

  -- with a word between them
  pub place_branches : Placing (Branches Id Id Id)
  place_branches at n no_branches = no_branches
  place_branches at n (branch b bs) = from n do made (branch (place_all at (← over (texts b)) b) (place_tail_branches at (← here) bs))

  -- each behind a word
  pub place_tail_branches : Placing (Branches Id Id Id)
  place_tail_branches at n no_branches = no_branches
  place_tail_branches at n (branch b bs) = from n do token; made (branch (place_all at (← over (texts b)) b) (place_tail_branches at (← here) bs))
