-- The text of expressions: the grammar read from the tree to the marks.
use Rattle.std.specs.Prelude.{List, [], ◌∷◌, ◌++◌}
use Rattle.pz_syntax.specs.declared.tokens.Symbol.{Symbol}
use Rattle.pz_syntax.specs.declared.tokens.Symbol.TheVariants as s
use Rattle.pz_syntax.specs.declared.tokens.Keyword.TheVariants as k
use Rattle.pz_syntax.specs.declared.tokens.TokenKind.{TokenKind}
use Rattle.pz_syntax.specs.declared.tokens.TokenKind.TheVariants as kind
use Rattle.pz_syntax.specs.declared.tokens.Mark.{Mark}
use Rattle.pz_syntax.specs.declared.names.Id.{Id}
use Rattle.pz_syntax.specs.declared.exprs.Literal.{Literal}
use Rattle.pz_syntax.specs.declared.exprs.Literal.TheVariants as lit
use Rattle.pz_syntax.specs.Marks.{mark, symbol, keyword, word, selector}
use Rattle.pz_syntax.specs.Expressions.{Expression, literal, variable, me, clock, creation, group, chain, sends, unary, assign, returned, choice, loop, Expressions, none, more, Part, left_out, written, Links, no_links, link, Sendings, no_sendings, sending}

abbrev pub literal_kind : Literal → TokenKind
literal_kind (lit.Int n) = kind.Int n
literal_kind lit.Float = kind.Float
literal_kind (lit.Char c) = kind.Char c
literal_kind (lit.Str bytes) = kind.Str bytes
literal_kind lit.True = kind.Key k.True
literal_kind lit.False = kind.Key k.False
literal_kind lit.Nil = kind.Key k.Nil

abbrev mutual
  pub text : Expression Id Id → List Mark
  text (literal pos x) = mark (literal_kind x) ∷ []
  text (variable pos x) = word x ∷ []
  text (me pos) = keyword k.Me ∷ []
  text (clock pos) = keyword k.CurrentTime ∷ []
  text (creation pos class) = keyword k.New ∷ symbol s.LeftParen ∷ word class ∷ symbol s.RightParen ∷ []
  text (group pos ts) = symbol s.LeftParen ∷ (texts s.Semicolon ts ++ symbol s.RightParen ∷ [])
  text (chain pos t ls) = text t ++ links_text ls
  text (sends pos t ss) = text t ++ sendings_text ss
  text (unary pos op t) = symbol op ∷ text t
  text (assign pos x t) = word x ∷ symbol s.Assign ∷ text t
  text (returned pos t) = keyword k.Return ∷ text t
  text (choice pos test body other) = keyword k.If ∷ (text test ++ keyword k.Then ∷ (texts s.Semicolon body ++ (otherwise_text other ++ keyword k.Fi ∷ [])))
  text (loop pos test body) = keyword k.While ∷ (text test ++ keyword k.Do ∷ (texts s.Semicolon body ++ keyword k.Od ∷ []))

  -- with the separator between them
  pub texts : Symbol → Expressions Id Id → List Mark
  texts separator none = []
  texts separator (more t ts) = text t ++ tail_texts separator ts

  -- with the separator before each
  pub tail_texts : Symbol → Expressions Id Id → List Mark
  tail_texts separator none = []
  tail_texts separator (more t ts) = symbol separator ∷ (text t ++ tail_texts separator ts)

  pub otherwise_text : Part Id Id → List Mark
  otherwise_text left_out = []
  otherwise_text (written ts) = keyword k.Else ∷ texts s.Semicolon ts

  pub links_text : Links Id Id → List Mark
  links_text no_links = []
  links_text (link op place t ls) = symbol op ∷ (text t ++ links_text ls)

  pub sendings_text : Sendings Id Id → List Mark
  sendings_text no_sendings = []
  sendings_text (sending x args ss) = selector x ∷ (arguments_text args ++ sendings_text ss)

  -- arguments in brackets, or nothing
  pub arguments_text : Part Id Id → List Mark
  arguments_text left_out = []
  arguments_text (written ts) = symbol s.LeftParen ∷ (texts s.Comma ts ++ symbol s.RightParen ∷ [])
