-- What may stand of an expression before some place in it.
use Rattle.std.specs.Prelude.{[], ◌∷◌}
use Rattle.pz_syntax.specs.declared.tokens.Symbol.{Symbol}
use Rattle.pz_syntax.specs.declared.tokens.Symbol.TheVariants as s
use Rattle.pz_syntax.specs.declared.tokens.Keyword.TheVariants as k
use Rattle.pz_syntax.specs.declared.names.Id.{Id}
use Rattle.pz_syntax.specs.Marks.{symbol, keyword, word, selector}
use Rattle.pz_syntax.specs.Expressions.{Expression, literal, variable, me, clock, creation, group, chain, sends, unary, assign, returned, choice, loop, Expressions, none, more, Part, left_out, written, Links, no_links, link, Sendings, no_sendings, sending}
use Rattle.pz_syntax.specs.ExpressionText.{text, texts, otherwise_text, arguments_text}
use Rattle.pz_syntax.specs.ExpressionNesting.{nesting, nestings, otherwise_nesting, bracketed_nesting}
use Rattle.pz_parser.specs.CutParts.{Cuts, of_marks, part_then, marks_then, mark_then, construct, enclosed}

abbrev mutual
  pub cut : Expression Id Id → Cuts
  cut (literal pos x) = of_marks (text (literal pos x))
  cut (variable pos x) = of_marks (text (variable pos x))
  cut (me pos) = of_marks (text (me pos))
  cut (clock pos) = of_marks (text (clock pos))
  cut (creation pos class) = of_marks (text (creation pos class))
  cut (group pos ts) = enclosed s.LeftParen (texts s.Semicolon ts) (nestings ts) (cuts s.Semicolon ts) s.RightParen
  cut (chain pos t ls) = part_then (text t) (nesting t) (cut t) (links_cut ls)
  cut (sends pos t ss) = part_then (text t) (nesting t) (cut t) (sendings_cut ss)
  cut (unary pos op t) = construct (mark_then (symbol op) (cut t))
  cut (assign pos x t) = marks_then (word x ∷ symbol s.Assign ∷ []) (cut t)
  cut (returned pos t) = mark_then (keyword k.Return) (cut t)
  cut (choice pos test body other) = construct (mark_then (keyword k.If) (part_then (text test) (nesting test) (cut test) (mark_then (keyword k.Then) (part_then (texts s.Semicolon body) (nestings body) (cuts s.Semicolon body) (part_then (otherwise_text other) (otherwise_nesting other) (otherwise_cut other) (of_marks (keyword k.Fi ∷ [])))))))
  cut (loop pos test body) = construct (mark_then (keyword k.While) (part_then (text test) (nesting test) (cut test) (mark_then (keyword k.Do) (part_then (texts s.Semicolon body) (nestings body) (cuts s.Semicolon body) (of_marks (keyword k.Od ∷ []))))))

  -- with the separator between them
  pub cuts : Symbol → Expressions Id Id → Cuts
  cuts separator none = of_marks []
  cuts separator (more t ts) = part_then (text t) (nesting t) (cut t) (tail_cuts separator ts)

  -- with the separator before each
  pub tail_cuts : Symbol → Expressions Id Id → Cuts
  tail_cuts separator none = of_marks []
  tail_cuts separator (more t ts) = mark_then (symbol separator) (part_then (text t) (nesting t) (cut t) (tail_cuts separator ts))

  pub otherwise_cut : Part Id Id → Cuts
  otherwise_cut left_out = of_marks []
  otherwise_cut (written ts) = mark_then (keyword k.Else) (cuts s.Semicolon ts)

  pub links_cut : Links Id Id → Cuts
  links_cut no_links = of_marks []
  links_cut (link op place t ls) = mark_then (symbol op) (part_then (text t) (nesting t) (cut t) (links_cut ls))

  pub sendings_cut : Sendings Id Id → Cuts
  sendings_cut no_sendings = of_marks []
  sendings_cut (sending x args ss) = mark_then (selector x) (part_then (arguments_text args) (bracketed_nesting args) (arguments_cut args) (sendings_cut ss))

  pub arguments_cut : Part Id Id → Cuts
  arguments_cut left_out = of_marks []
  arguments_cut (written ts) = enclosed s.LeftParen (texts s.Comma ts) (nestings ts) (cuts s.Comma ts) s.RightParen
