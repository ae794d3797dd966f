-- The text of an expression of the grammar has its heads.
use Rattle.std.proofs.Common.{◌≡◌, ℕ, ◌≤◌, Bool, true, false, [], ◌∷◌, refl, arith, bytes_eq, codes, cond}
use Rattle.pz_syntax.specs.declared.tokens.Symbol.{Symbol}
use Rattle.pz_syntax.specs.declared.tokens.Symbol.TheVariants as s
use Rattle.pz_syntax.specs.declared.tokens.Keyword.TheVariants as k
use Rattle.pz_syntax.specs.declared.tokens.TokenKind.TheVariants as kind
use Rattle.pz_syntax.specs.declared.names.Id.{Id}
use Rattle.pz_syntax.specs.declared.exprs.Literal.{Literal}
use Rattle.pz_syntax.specs.declared.exprs.Literal.TheVariants as lit
use Rattle.pz_syntax.specs.Marks.{mark, symbol, keyword, word, selector, selector_kind}
use Rattle.pz_syntax.specs.Heads.{name, other, role}
use Rattle.pz_syntax.specs.Expressions.{Expression, literal, variable, me, clock, creation, group, chain, sends, unary, assign, returned, choice, loop, Expressions, none, more, Part, left_out, written, Links, no_links, link, Sendings, no_sendings, sending}
use Rattle.pz_syntax.specs.ExpressionText.{literal_kind, text, texts, tail_texts, otherwise_text, links_text, sendings_text, arguments_text}
use Rattle.pz_syntax.specs.ExpressionForm.{operator_level, IsSign, IsExpression, AreExpressions, IsBody, IsOtherwise, AreLinks, AreSendings, AreArguments}
use Rattle.pz_ast.proofs.Marked.{Marked, Quiet, Starts, no_marks, no_start, starts_quiet, plain, named, start, joined, joined_quiet, joined_start, bracketed, closed_marked, bracketed_quiet}

operator_role : (op : Symbol) → 1 ≤ operator_level op → role (kind.Sym op) ≡ other
operator_role s.LeftParen h = absurd (omega arith)
operator_role s.RightParen h = absurd (omega arith)
operator_role s.Colon h = absurd (omega arith)
operator_role _ h = refl

sign_role : (op : Symbol) → IsSign op → role (kind.Sym op) ≡ other
sign_role s.LeftParen h = absurd h
sign_role s.RightParen h = absurd h
sign_role s.Colon h = absurd h
sign_role _ h = refl

pub literal_role : (x : Literal) → role (literal_kind x) ≡ other
literal_role (lit.Int n) = refl
literal_role lit.Float = refl
literal_role (lit.Char c) = refl
literal_role (lit.Str bytes) = refl
literal_role lit.True = refl
literal_role lit.False = refl
literal_role lit.Nil = refl

choice_role : (is_init : Bool) (x : Id) → role (cond is_init (kind.Key k.Init) (kind.Ident x.name)) ≡ name
choice_role true x = refl
choice_role false x = refl

pub selector_role : (x : Id) → role (selector_kind x) ≡ name
selector_role x = choice_role (bytes_eq x.name (codes "init")) x

pub bare_start : (x : Id) → Starts (word x ∷ [])
bare_start x = start (word x) name refl (λ rest. refl)

pub bare_word : (x : Id) → Marked (word x ∷ [])
bare_word x = named (word x) refl refl (starts_quiet no_start) no_marks

links_start : (n : ℕ) (ls : Links Id Id) → 1 ≤ n → AreLinks n ls → Starts (links_text ls)
links_start n no_links above h = no_start
links_start n (link op place t ls) above h = start (symbol op) other (operator_role op (rw h.0 above)) (λ rest. refl)

sendings_start : (ss : Sendings Id Id) → Starts (sendings_text ss)
sendings_start no_sendings = no_start
sendings_start (sending x args ss) = start (selector x) name (selector_role x) (λ rest. refl)

tail_start : (separator : Symbol) → role (kind.Sym separator) ≡ other → (ts : Expressions Id Id) → Starts (tail_texts separator ts)
tail_start separator e none = no_start
tail_start separator e (more t ts) = start (symbol separator) other e (λ rest. refl)

otherwise_start : (other : Part Id Id) → Starts (otherwise_text other)
otherwise_start left_out = no_start
otherwise_start (written ts) = start (keyword k.Else) other refl (λ rest. refl)

mutual
  pub marked : (t : Expression Id Id) → IsExpression t → Marked (text t)
  marked (literal pos x) h = plain (mark (literal_kind x)) (literal_role x) refl no_marks
  marked (variable pos x) h = bare_word x
  marked (me pos) h = plain (keyword k.Me) refl refl no_marks
  marked (clock pos) h = plain (keyword k.CurrentTime) refl refl no_marks
  marked (creation pos class) h = plain (keyword k.New) refl refl (closed_marked (bracketed (bare_word class)))
  marked (group pos ts) h = closed_marked (bracketed (body_marked ts h))
  marked (chain pos t no_links) h = absurd h
  marked (chain pos t (link op place u ls)) h = joined (marked t h.1) (links_marked (operator_level op) (link op place u ls) h.0 h.3) (links_start (operator_level op) (link op place u ls) h.0 h.3)
  marked (sends pos t no_sendings) h = absurd h
  marked (sends pos t (sending x args ss)) h = joined (marked t h.0) (sendings_marked (sending x args ss) h.2) (sendings_start (sending x args ss))
  marked (unary pos op t) h = plain (symbol op) (sign_role op h.0) refl (marked t h.1)
  marked (assign pos x t) h = named (word x) refl refl (starts_quiet (start (symbol s.Assign) other refl (λ rest. refl))) (plain (symbol s.Assign) refl refl (marked t h.0))
  marked (returned pos t) h = plain (keyword k.Return) refl refl (marked t h.0)
  marked (choice pos test body part) h =
      plain (keyword k.If) refl refl (joined (marked test h.0)
      (plain (keyword k.Then) refl refl (joined (body_marked body h.2)
      (joined (otherwise_marked part h.3) (plain (keyword k.Fi) refl refl no_marks) (start (keyword k.Fi) other refl (λ rest. refl)))
      (joined_start (otherwise_start part) (start (keyword k.Fi) other refl (λ rest. refl)))))
      (start (keyword k.Then) other refl (λ rest. refl)))
  marked (loop pos test body) h =
      plain (keyword k.While) refl refl (joined (marked test h.0)
      (plain (keyword k.Do) refl refl (joined (body_marked body h.2) (plain (keyword k.Od) refl refl no_marks) (start (keyword k.Od) other refl (λ rest. refl))))
      (start (keyword k.Do) other refl (λ rest. refl)))

  pub list_marked : (separator : Symbol) → role (kind.Sym separator) ≡ other → (ts : Expressions Id Id) → AreExpressions ts → Marked (texts separator ts)
  list_marked separator e none h = no_marks
  list_marked separator e (more t ts) h = joined (marked t h.0) (tail_marked separator e ts h.1) (tail_start separator e ts)

  tail_marked : (separator : Symbol) → role (kind.Sym separator) ≡ other → (ts : Expressions Id Id) → AreExpressions ts → Marked (tail_texts separator ts)
  tail_marked separator e none h = no_marks
  tail_marked separator e (more t ts) h = plain (symbol separator) e refl (joined (marked t h.0) (tail_marked separator e ts h.1) (tail_start separator e ts))

  pub body_marked : (ts : Expressions Id Id) → IsBody ts → Marked (texts s.Semicolon ts)
  body_marked none h = absurd h
  body_marked (more t ts) h = joined (marked t h.0) (tail_marked s.Semicolon refl ts h.1) (tail_start s.Semicolon refl ts)

  otherwise_marked : (part : Part Id Id) → IsOtherwise part → Marked (otherwise_text part)
  otherwise_marked left_out h = no_marks
  otherwise_marked (written ts) h = plain (keyword k.Else) refl refl (body_marked ts h)

  links_marked : (n : ℕ) (ls : Links Id Id) → 1 ≤ n → AreLinks n ls → Marked (links_text ls)
  links_marked n no_links above h = no_marks
  links_marked n (link op place t ls) above h = plain (symbol op) (operator_role op (rw h.0 above)) refl (joined (marked t h.1) (links_marked n ls above h.3) (links_start n ls above h.3))

  sendings_marked : (ss : Sendings Id Id) → AreSendings ss → Marked (sendings_text ss)
  sendings_marked no_sendings h = no_marks
  sendings_marked (sending x args ss) h = named (selector x) (selector_role x) refl (joined_quiet (arguments_quiet args h.0) (sendings_start ss)) (joined (arguments_marked args h.0) (sendings_marked ss h.1) (sendings_start ss))

  pub arguments_marked : (args : Part Id Id) → AreArguments args → Marked (arguments_text args)
  arguments_marked left_out h = no_marks
  arguments_marked (written ts) h = closed_marked (bracketed (list_marked s.Comma refl ts h))

  pub arguments_quiet : (args : Part Id Id) → AreArguments args → Quiet (arguments_text args)
  arguments_quiet left_out h = starts_quiet no_start
  arguments_quiet (written ts) h = bracketed_quiet (list_marked s.Comma refl ts h)

pub quiet : (t : Expression Id Id) → IsExpression t → Quiet (text t)
quiet (literal pos x) h = starts_quiet (start (mark (literal_kind x)) other (literal_role x) (λ rest. refl))
quiet (variable pos x) h = starts_quiet (bare_start x)
quiet (me pos) h = starts_quiet (start (keyword k.Me) other refl (λ rest. refl))
quiet (clock pos) h = starts_quiet (start (keyword k.CurrentTime) other refl (λ rest. refl))
quiet (creation pos class) h = starts_quiet (start (keyword k.New) other refl (λ rest. refl))
quiet (group pos ts) h = bracketed_quiet (body_marked ts h)
quiet (chain pos t no_links) h = absurd h
quiet (chain pos t (link op place u ls)) h = joined_quiet (quiet t h.1) (links_start (operator_level op) (link op place u ls) h.0 h.3)
quiet (sends pos t no_sendings) h = absurd h
quiet (sends pos t (sending x args ss)) h = joined_quiet (quiet t h.0) (sendings_start (sending x args ss))
quiet (unary pos op t) h = starts_quiet (start (symbol op) other (sign_role op h.0) (λ rest. refl))
quiet (assign pos x t) h = starts_quiet (start (word x) name refl (λ rest. refl))
quiet (returned pos t) h = starts_quiet (start (keyword k.Return) other refl (λ rest. refl))
quiet (choice pos test body part) h = starts_quiet (start (keyword k.If) other refl (λ rest. refl))
quiet (loop pos test body) h = starts_quiet (start (keyword k.While) other refl (λ rest. refl))

pub body_quiet : (ts : Expressions Id Id) → IsBody ts → Quiet (texts s.Semicolon ts)
body_quiet none h = absurd h
body_quiet (more t ts) h = joined_quiet (quiet t h.0) (tail_start s.Semicolon refl ts)
