-- Expressions without their positions. Two are equal up to positions where these are equal.
use Rattle.pz_syntax.specs.declared.tokens.Pos.{Pos}
use Rattle.pz_syntax.specs.declared.names.Id.{Id}
use Rattle.pz_syntax.specs.Expressions.{Expression, literal, variable, me, clock, creation, group, chain, sends, unary, assign, returned, choice, loop, Expressions, none, more, Part, left_out, written, Links, no_links, link, Sendings, no_sendings, sending}

-- the place that every part is put at
abbrev pub origin : Pos
origin = record { line = 1; column = 1 }

abbrev pub erase_id : Id → Id
erase_id x = record { name = x.name; pos = origin }

abbrev mutual
  pub erase : Expression Id Id → Expression Id Id
  erase (literal pos x) = literal origin x
  erase (variable pos x) = variable origin (erase_id x)
  erase (me pos) = me origin
  erase (clock pos) = clock origin
  erase (creation pos class) = creation origin (erase_id class)
  erase (group pos ts) = group origin (erase_all ts)
  erase (chain pos t ls) = chain origin (erase t) (erase_links ls)
  erase (sends pos t ss) = sends origin (erase t) (erase_sendings ss)
  erase (unary pos op t) = unary origin op (erase t)
  erase (assign pos x t) = assign origin (erase_id x) (erase t)
  erase (returned pos t) = returned origin (erase t)
  erase (choice pos test body other) = choice origin (erase test) (erase_all body) (erase_part other)
  erase (loop pos test body) = loop origin (erase test) (erase_all body)

  pub erase_all : Expressions Id Id → Expressions Id Id
  erase_all none = none
  erase_all (more t ts) = more (erase t) (erase_all ts)

  pub erase_part : Part Id Id → Part Id Id
  erase_part left_out = left_out
  erase_part (written ts) = written (erase_all ts)

  pub erase_links : Links Id Id → Links Id Id
  erase_links no_links = no_links
  erase_links (link op place t ls) = link op origin (erase t) (erase_links ls)

  pub erase_sendings : Sendings Id Id → Sendings Id Id
  erase_sendings no_sendings = no_sendings
  erase_sendings (sending x args ss) = sending (erase_id x) (erase_part args) (erase_sendings ss)
