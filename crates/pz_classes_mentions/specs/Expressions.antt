-- What an expression mentions, in the order of the text.
use Rattle.std.specs.Prelude.{ℕ, suc, List, [], ◌∷◌, ◌++◌}
use Rattle.pz_syntax.specs.declared.tokens.Pos.{Pos}
use Rattle.pz_syntax.specs.declared.names.Id.{Id}
use Rattle.pz_syntax.specs.declared.exprs.Literal.{Literal}
use Rattle.pz_syntax.specs.declared.exprs.Literal.TheVariants as lit
use Rattle.pz_syntax.specs.Expressions.{Expression, literal, variable, me, clock, creation, group, chain, sends, unary, assign, returned, choice, loop, Expressions, none, more, Part, left_out, written, Links, no_links, link, Sendings, no_sendings, sending}
use Rattle.pz_classes_mentions.specs.declared.mention.Mention.{Mention}
use Rattle.pz_classes_mentions.specs.declared.mention.Mention.TheVariants as m

-- how many expressions these are
abbrev pub count : Expressions Id Id → ℕ
count none = 0
count (more t ts) = suc (count ts)

-- none where nothing is written
abbrev pub count_written : Part Id Id → ℕ
count_written left_out = 0
count_written (written ts) = count ts

-- of the constants only a float
abbrev pub mentioned_literal : Pos → Literal → List Mention
mentioned_literal pos (lit.Int n) = []
mentioned_literal pos lit.Float = m.Float pos ∷ []
mentioned_literal pos (lit.Char c) = []
mentioned_literal pos (lit.Str bytes) = []
mentioned_literal pos lit.True = []
mentioned_literal pos lit.False = []
mentioned_literal pos lit.Nil = []

abbrev mutual
  -- operators are no selectors
  pub mentioned : Expression Id Id → List Mention
  mentioned (literal pos x) = mentioned_literal pos x
  mentioned (variable pos x) = m.Variable x ∷ []
  mentioned (me pos) = m.Me pos ∷ []
  mentioned (clock pos) = m.Clock pos ∷ []
  mentioned (creation pos class) = m.Created class ∷ []
  mentioned (group pos ts) = mentioned_all ts
  mentioned (chain pos t ls) = mentioned t ++ mentioned_links ls
  mentioned (sends pos t ss) = mentioned t ++ mentioned_sendings ss
  mentioned (unary pos op t) = mentioned t
  mentioned (assign pos x t) = m.Variable x ∷ mentioned t
  mentioned (returned pos t) = m.Return pos ∷ mentioned t
  mentioned (choice pos test body other) = mentioned test ++ (mentioned_all body ++ mentioned_part other)
  mentioned (loop pos test body) = mentioned test ++ mentioned_all body

  pub mentioned_all : Expressions Id Id → List Mention
  mentioned_all none = []
  mentioned_all (more t ts) = mentioned t ++ mentioned_all ts

  -- nothing where it is left out
  pub mentioned_part : Part Id Id → List Mention
  mentioned_part left_out = []
  mentioned_part (written ts) = mentioned_all ts

  pub mentioned_links : Links Id Id → List Mention
  mentioned_links no_links = []
  mentioned_links (link op place t ls) = mentioned t ++ mentioned_links ls

  -- each selector before its arguments
  pub mentioned_sendings : Sendings Id Id → List Mention
  mentioned_sendings no_sendings = []
  mentioned_sendings (sending selector args ss) = m.Selector selector (count_written args) ∷ (mentioned_part args ++ mentioned_sendings ss)
