-- The text of an expression has at least as many marks as constructs stand one in another.
use Rattle.std.proofs.Common.{◌≤◌, length, length-append, arith}
use Rattle.pz_syntax.specs.declared.tokens.Symbol.{Symbol}
use Rattle.pz_syntax.specs.declared.tokens.Symbol.TheVariants as s
use Rattle.pz_syntax.specs.declared.names.Id.{Id}
use Rattle.pz_syntax.specs.Expressions.{Expression, literal, variable, me, clock, creation, group, chain, sends, unary, assign, returned, choice, loop, Expressions, none, more, Part, left_out, written, Links, no_links, link, Sendings, no_sendings, sending}
use Rattle.pz_syntax.specs.ExpressionText.{text, texts, tail_texts, otherwise_text, links_text, sendings_text, arguments_text}
use Rattle.pz_syntax.specs.ExpressionNesting.{nesting, nestings, otherwise_nesting, links_nesting, sendings_nesting, bracketed_nesting}

mutual
  pub expression_bound : (t : Expression Id Id) → nesting t ≤ length (text t)
  expression_bound (literal pos x) = omega arith
  expression_bound (variable pos x) = omega arith
  expression_bound (me pos) = omega arith
  expression_bound (clock pos) = omega arith
  expression_bound (creation pos class) = omega arith
  expression_bound (group pos ts) = simp length-append (omega (arith, expressions_bound s.Semicolon ts))
  expression_bound (chain pos t ls) = simp length-append (omega (arith, expression_bound t, links_bound ls))
  expression_bound (sends pos t ss) = simp length-append (omega (arith, expression_bound t, sendings_bound ss))
  expression_bound (unary pos op t) = omega (arith, expression_bound t)
  expression_bound (assign pos x t) = omega (arith, expression_bound t)
  expression_bound (returned pos t) = omega (arith, expression_bound t)
  expression_bound (choice pos test body other) = simp length-append (omega (arith, expression_bound test, expressions_bound s.Semicolon body, otherwise_bound other))
  expression_bound (loop pos test body) = simp length-append (omega (arith, expression_bound test, expressions_bound s.Semicolon body))

  pub expressions_bound : (separator : Symbol) (ts : Expressions Id Id) → nestings ts ≤ length (texts separator ts)
  expressions_bound separator none = omega arith
  expressions_bound separator (more t ts) = simp length-append (omega (arith, expression_bound t, tail_bound separator ts))

  pub tail_bound : (separator : Symbol) (ts : Expressions Id Id) → nestings ts ≤ length (tail_texts separator ts)
  tail_bound separator none = omega arith
  tail_bound separator (more t ts) = simp length-append (omega (arith, expression_bound t, tail_bound separator ts))

  pub otherwise_bound : (other : Part Id Id) → otherwise_nesting other ≤ length (otherwise_text other)
  otherwise_bound left_out = omega arith
  otherwise_bound (written ts) = omega (arith, expressions_bound s.Semicolon ts)

  pub links_bound : (ls : Links Id Id) → links_nesting ls ≤ length (links_text ls)
  links_bound no_links = omega arith
  links_bound (link op place t ls) = simp length-append (omega (arith, expression_bound t, links_bound ls))

  pub sendings_bound : (ss : Sendings Id Id) → sendings_nesting ss ≤ length (sendings_text ss)
  sendings_bound no_sendings = omega arith
  sendings_bound (sending x args ss) = simp length-append (omega (arith, arguments_bound args, sendings_bound ss))

  pub arguments_bound : (args : Part Id Id) → bracketed_nesting args ≤ length (arguments_text args)
  arguments_bound left_out = omega arith
  arguments_bound (written ts) = simp length-append (omega (arith, expressions_bound s.Comma ts))
