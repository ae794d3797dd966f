-- How deep the constructs of an expression that nest stand one in another.
use Rattle.std.specs.Prelude.{ℕ, suc, max}
use Rattle.pz_syntax.specs.declared.names.Id.{Id}
use Rattle.pz_syntax.specs.Expressions.{Expression, literal, variable, me, clock, creation, group, chain, sends, unary, assign, returned, choice, loop, Expressions, none, more, Part, left_out, written, Links, no_links, link, Sendings, no_sendings, sending}

-- Brackets, `if`, `while`, arguments in brackets, and a sign with its operand nest.
abbrev mutual
  pub nesting : Expression Id Id → ℕ
  nesting (literal pos x) = 0
  nesting (variable pos x) = 0
  nesting (me pos) = 0
  nesting (clock pos) = 0
  nesting (creation pos class) = 0
  nesting (group pos ts) = suc (nestings ts)
  nesting (chain pos t ls) = max (nesting t) (links_nesting ls)
  nesting (sends pos t ss) = max (nesting t) (sendings_nesting ss)
  nesting (unary pos op t) = suc (nesting t)
  nesting (assign pos x t) = nesting t
  nesting (returned pos t) = nesting t
  nesting (choice pos test body other) = suc (max (nesting test) (max (nestings body) (otherwise_nesting other)))
  nesting (loop pos test body) = suc (max (nesting test) (nestings body))

  pub nestings : Expressions Id Id → ℕ
  nestings none = 0
  nestings (more t ts) = max (nesting t) (nestings ts)

  pub otherwise_nesting : Part Id Id → ℕ
  otherwise_nesting left_out = 0
  otherwise_nesting (written ts) = nestings ts

  pub links_nesting : Links Id Id → ℕ
  links_nesting no_links = 0
  links_nesting (link op place t ls) = max (nesting t) (links_nesting ls)

  pub sendings_nesting : Sendings Id Id → ℕ
  sendings_nesting no_sendings = 0
  sendings_nesting (sending x args ss) = max (bracketed_nesting args) (sendings_nesting ss)

  -- a pair of brackets or braces with what stands in it, or nothing
  pub bracketed_nesting : Part Id Id → ℕ
  bracketed_nesting left_out = 0
  bracketed_nesting (written ts) = suc (nestings ts)
