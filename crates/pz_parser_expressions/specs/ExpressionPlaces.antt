-- Expressions with the positions of the tokens of their texts.
use Rattle.std.specs.Prelude.{suc}
use Rattle.pz_syntax.specs.declared.tokens.Symbol.TheVariants as s
use Rattle.pz_syntax.specs.declared.names.Id.{Id}
use Rattle.pz_syntax.specs.Expressions.{Expression, literal, variable, me, clock, creation, group, chain, sends, unary, assign, returned, choice, loop, Expressions, none, more, Part, left_out, written, Links, no_links, link, Sendings, no_sendings, sending}
use Rattle.pz_syntax.specs.ExpressionText.{text, texts, arguments_text}
use Rattle.pz_parser_cursor.specs.Places.{Placing, token, over, here, ◌>>=◌, ◌>>◌, made, from, place_id}

-- An expression stands at its first token, an operator and a name at theirs. The number is that of
-- the first token of the part.
abbrev mutual
  pub place : Placing (Expression Id Id)
  place at n (literal pos x) = literal (at n) x
  place at n (variable pos x) = variable (at n) (place_id at n x)
  place at n (me pos) = me (at n)
  place at n (clock pos) = clock (at n)
  place at n (creation pos x) = from n do token; token; made (creation (at n) (place_id at (← here) x))
  place at n (group pos ts) = group (at n) (place_all at (suc n) ts)
  place at n (chain pos t ls) = from n do made (chain (at n) (place at (← over (text t)) t) (place_links at (← here) ls))
  place at n (sends pos t ss) = from n do made (sends (at n) (place at (← over (text t)) t) (place_sendings at (← here) ss))
  place at n (unary pos op t) = unary (at n) op (place at (suc n) t)
  place at n (assign pos x t) = from n do name ← token; token; made (assign (at n) (place_id at name x) (place at (← here) t))
  place at n (returned pos t) = returned (at n) (place at (suc n) t)
  place at n (choice pos t ts o) = from n do token; test ← over (text t); token; made (choice (at n) (place at test t) (place_all at (← over (texts s.Semicolon ts)) ts) (place_part at (← here) o))
  place at n (loop pos t ts) = from n do token; test ← over (text t); token; made (loop (at n) (place at test t) (place_all at (← here) ts))

  -- with separators between them
  pub place_all : Placing (Expressions Id Id)
  place_all at n none = none
  place_all at n (more t ts) = from n do made (more (place at (← over (text t)) t) (place_tail at (← here) ts))

  -- each behind a separator
  pub place_tail : Placing (Expressions Id Id)
  place_tail at n none = none
  place_tail at n (more t ts) = from n do token; made (more (place at (← over (text t)) t) (place_tail at (← here) ts))

  -- behind `else`, `(` or `{`
  pub place_part : Placing (Part Id Id)
  place_part at n left_out = left_out
  place_part at n (written ts) = written (place_all at (suc n) ts)

  pub place_links : Placing (Links Id Id)
  place_links at n no_links = no_links
  place_links at n (link op pos t ls) = from n do token; made (link op (at n) (place at (← over (text t)) t) (place_links at (← here) ls))

  pub place_sendings : Placing (Sendings Id Id)
  place_sendings at n no_sendings = no_sendings
  place_sendings at n (sending x args ss) = from n do made (sending (place_id at (← token) x) (place_part at (← over (arguments_text args)) args) (place_sendings at (← here) ss))
