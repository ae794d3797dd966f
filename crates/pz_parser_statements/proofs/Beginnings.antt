-- The first tokens of statements.
use Rattle.std.proofs.Common.{◌≡◌, ◌≢◌, ℕ, ◌+◌, ◌≤◌, Bool, true, false, List, [], ◌∷◌, ◌++◌, length, refl, ap, sym, ◌∙◌, arith, append_assoc}
use Rattle.pz_syntax.specs.declared.tokens.Pos.{Pos}
use Rattle.pz_syntax.specs.declared.tokens.Symbol.{Symbol}
use Rattle.pz_syntax.specs.declared.tokens.Symbol.TheVariants as s
use Rattle.pz_syntax.specs.declared.tokens.Mark.{Mark}
use Rattle.pz_syntax.specs.declared.names.Id.{Id}
use Rattle.pz_syntax.specs.Marks.{symbol}
use Rattle.pz_syntax.specs.Expressions.{Expression, literal, variable, me, clock, creation, group, chain, sends, unary, assign, returned, choice, loop, no_links, link, no_sendings, sending}
use Rattle.pz_syntax.specs.ExpressionText.{links_text, sendings_text, literal_kind}
use Rattle.pz_syntax.specs.ExpressionText as expression
use Rattle.pz_syntax.specs.ExpressionForm.{IsExpression, IsSign, level}
use Rattle.pz_syntax.specs.Statements.{Statement, skip, delay, bracketed, block, guarded, parallel, select, conditional, repeated, abort, interrupt, send, receive, call, assignment, value, Statements, no_statements, then}
use Rattle.pz_syntax.specs.StatementForm.{MayBeginStatement, IsStatement, AreStatements}
use Rattle.pz_syntax.specs.StatementText.{text, texts, tail_texts}
use Rattle.pz_parser_cursor.specs.declared.ahead.Next.{Next}
use Rattle.pz_parser_cursor.specs.declared.ahead.Next.TheVariants as n
use Rattle.pz_parser_cursor.specs.devices.LookAhead.{next, next_by}
use Rattle.pz_parser_cursor.specs.devices.Input.{Tokens, marks}
use Rattle.pz_parser_cursor.specs.Places.{located}
use Rattle.pz_parser_cursor.proofs.Reading.{split_located}
use Rattle.pz_parser_expressions.proofs.Texts.{starts, begins}
use Rattle.pz_parser_expressions.proofs.Firsts.{literal_shows}

-- what a value that is a statement begins with
abbrev pub begins_value : Next → Bool
begins_value n.Word = true
begins_value n.Int = true
begins_value n.Literal = true
begins_value n.New = true
begins_value n.CurrentTime = true
begins_value _ = false

-- what the first of these marks shows
abbrev first : List Mark → Next
first [] = n.Other
first (m ∷ ms) = next_by m.head m.kind

first_is : (i : Tokens) → next i ≡ first (marks i)
unfolding next
first_is [] = refl
first_is (t ∷ ts) = refl

sign_begins : (op : Symbol) (r : List Mark) → IsSign op → begins_value (first (symbol op ∷ r)) ≡ false
sign_begins s.Minus r h = refl
sign_begins s.Bang r h = refl
sign_begins _ r h = absurd h

may_begin : (t : Expression Id Id) (r : List Mark) → IsExpression t → 1 ≤ level t → begins_value (first (expression.text t ++ r)) ≡ true → MayBeginStatement t
may_begin (literal pos x) r h le e = tt
may_begin (variable pos x) r h le e = tt
may_begin (me pos) r h le e = absurd cc
may_begin (clock pos) r h le e = tt
may_begin (creation pos class) r h le e = tt
may_begin (group pos ts) r h le e = absurd cc
may_begin (chain pos t no_links) r h le e = absurd h
may_begin (chain pos t (link op p u ls)) r h le e = may_begin t (links_text (link op p u ls) ++ r) h.1 (omega (arith, h.0, h.2)) (ap (λ x. begins_value (first x)) (sym (append_assoc (expression.text t) (links_text (link op p u ls)) r)) ∙ e)
may_begin (sends pos t no_sendings) r h le e = absurd h
may_begin (sends pos t (sending x a ss)) r h le e = may_begin t (sendings_text (sending x a ss) ++ r) h.0 (omega (arith, h.1)) (ap (λ x. begins_value (first x)) (sym (append_assoc (expression.text t) (sendings_text (sending x a ss)) r)) ∙ e)
may_begin (unary pos op t) r h le e = let f = sign_begins op (expression.text t ++ r) h.0 in absurd cc
may_begin (assign pos x t) r h le e = absurd (omega (arith, le))
may_begin (returned pos t) r h le e = absurd (omega (arith, le))
may_begin (choice pos test body other) r h le e = absurd cc
may_begin (loop pos test body) r h le e = absurd cc

-- a value that begins so is a statement
pub is_statement : (i : Tokens) (t : Expression Id Id) (r : List Mark) → begins_value (next i) ≡ true → marks i ≡ expression.text t ++ r → IsExpression t → 1 ≤ level t → MayBeginStatement t
is_statement i t r b e h le = may_begin t r h le (sym (ap begins_value (first_is i ∙ ap first e)) ∙ b)

-- and back
pub value_begins : (at : ℕ → Pos) (k : ℕ) (t : Expression Id Id) (j : Tokens) → IsExpression t → MayBeginStatement t → begins_value (next (located at k (expression.text t) ++ j)) ≡ true
unfolding next
value_begins at k (literal pos x) j h m = literal_shows x (at k) j (λ y. begins_value y ≡ true) refl refl
value_begins at k (variable pos x) j h m = refl
value_begins at k (me pos) j h m = absurd m
value_begins at k (clock pos) j h m = refl
value_begins at k (creation pos class) j h m = refl
value_begins at k (group pos ts) j h m = absurd m
value_begins at k (chain pos t no_links) j h m = absurd h
value_begins at k (chain pos t (link op p u ls)) j h m = ap (λ i. begins_value (next i)) (split_located at k (expression.text t) (links_text (link op p u ls)) j) ∙ value_begins at k t (located at (k + length (expression.text t)) (links_text (link op p u ls)) ++ j) h.1 m
value_begins at k (sends pos t no_sendings) j h m = absurd h
value_begins at k (sends pos t (sending x a ss)) j h m = ap (λ i. begins_value (next i)) (split_located at k (expression.text t) (sendings_text (sending x a ss)) j) ∙ value_begins at k t (located at (k + length (expression.text t)) (sendings_text (sending x a ss)) ++ j) h.0 m
value_begins at k (unary pos op t) j h m = absurd m
value_begins at k (assign pos x t) j h m = absurd m
value_begins at k (returned pos t) j h m = absurd m
value_begins at k (choice pos test body other) j h m = absurd m
value_begins at k (loop pos test body) j h m = absurd m

-- ---- no statement begins with a bar

statement_begins : (at : ℕ → Pos) (k : ℕ) (t : Statement Id Id Id) (j : Tokens) → IsStatement t → next (located at k (text t) ++ j) ≢ n.Bar
unfolding next
statement_begins at k (skip pos) j h e = absurd cc
statement_begins at k (delay pos x) j h e = absurd cc
statement_begins at k (bracketed pos ts) j h e = absurd cc
statement_begins at k (block pos es) j h e = absurd cc
statement_begins at k (guarded pos x t) j h e = absurd cc
statement_begins at k (parallel pos bs) j h e = absurd cc
statement_begins at k (select pos bs) j h e = absurd cc
statement_begins at k (conditional pos x body other) j h e = absurd cc
statement_begins at k (repeated pos x body) j h e = absurd cc
statement_begins at k (abort pos ts t) j h e = absurd cc
statement_begins at k (interrupt pos ts t) j h e = absurd cc
statement_begins at k (send pos port message args after) j h e = absurd cc
statement_begins at k (receive pos port message into condition after) j h e = absurd cc
statement_begins at k (call pos method args results) j h e = absurd cc
statement_begins at k (assignment pos x y) j h e = absurd cc
statement_begins at k (value pos x) j h e = let f = begins at k x j h.0.0 in let g = ap starts e in absurd cc

pub stmts_begin : (at : ℕ → Pos) (k : ℕ) (ts : Statements Id Id Id) (j : Tokens) → AreStatements ts → next (located at k (texts ts) ++ j) ≢ n.Bar
stmts_begin at k no_statements j h e = absurd h
stmts_begin at k (then t ts) j h e = statement_begins at k t (located at (k + length (text t)) (tail_texts ts) ++ j) h.0 (ap next (sym (split_located at k (text t) (tail_texts ts) j)) ∙ e)
