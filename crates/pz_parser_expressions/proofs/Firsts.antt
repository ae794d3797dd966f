-- The first two tokens of values and of operands.
use Rattle.std.proofs.Common.{◌≡◌, ◌≢◌, ℕ, suc, ◌+◌, ◌≤◌, Bool, true, false, ◌∷◌, ◌++◌, length, refl, ap, sym, ◌∙◌, subst, arith}
use Rattle.pz_syntax.specs.declared.tokens.Pos.{Pos}
use Rattle.pz_syntax.specs.declared.tokens.Symbol.{Symbol}
use Rattle.pz_syntax.specs.declared.tokens.Symbol.TheVariants as s
use Rattle.pz_syntax.specs.declared.tokens.TokenKind.TheVariants as kind
use Rattle.pz_syntax.specs.declared.names.Id.{Id}
use Rattle.pz_syntax.specs.declared.exprs.Literal.{Literal}
use Rattle.pz_syntax.specs.declared.exprs.Literal.TheVariants as lit
use Rattle.pz_syntax.specs.Expressions.{literal, variable, me, clock, creation, group, chain, sends, unary, assign, returned, choice, loop, no_links, link, no_sendings, sending}
use Rattle.pz_syntax.specs.ExpressionView.{Tree}
use Rattle.pz_syntax.specs.ExpressionText.{text, links_text, sendings_text, arguments_text, literal_kind}
use Rattle.pz_syntax.specs.ExpressionForm.{IsExpression, IsSign, level, operator_level}
use Rattle.pz_parser_cursor.specs.declared.ahead.Next.{Next}
use Rattle.pz_parser_cursor.specs.declared.ahead.Next.TheVariants as n
use Rattle.pz_parser_cursor.specs.devices.LookAhead.{next, next_symbol}
use Rattle.pz_parser_cursor.specs.devices.Input.{Tokens, after, selects, selects_by, spelled_init}
use Rattle.pz_parser_cursor.specs.Places.{located}
use Rattle.pz_parser_cursor.proofs.Reading.{split_located}
use Rattle.pz_parser_cursor.proofs.Joined.{token}
use Rattle.pz_parser_cursor.proofs.Words.{sent_token, selector_seen}
use Rattle.pz_parser_expressions.proofs.Operators.{binding}

pub level_le : (op : Symbol) → operator_level op ≤ 5
level_le s.Bar = omega arith
level_le s.Ampersand = omega arith
level_le s.Equal = omega arith
level_le s.Same = omega arith
level_le s.Unequal = omega arith
level_le s.Distinct = omega arith
level_le s.Less = omega arith
level_le s.LessEqual = omega arith
level_le s.Greater = omega arith
level_le s.GreaterEqual = omega arith
level_le s.Plus = omega arith
level_le s.Minus = omega arith
level_le s.Star = omega arith
level_le s.Slash = omega arith
level_le _ = omega arith

-- ---- selectors

pub selected : (i : Tokens) (x : Next) → selects i ≡ true → next i ≡ x → selects_by x (spelled_init i) ≡ true
unfolding selects
selected i x h e = ap (λ y. selects_by y (spelled_init i)) (sym e) ∙ h

pub not_selected : (i : Tokens) → next i ≢ n.Word → next i ≢ n.Init → selects i ≡ false
unfolding selects
not_selected i h g = by (next i) (spelled_init i) h g
  where
    by : (x : Next) (b : Bool) → x ≢ n.Word → x ≢ n.Init → selects_by x b ≡ false
    by n.Word b h g = absurd (h refl)
    by n.Init b h g = absurd (g refl)
    by _ b h g = refl

pub selector_no_bracket : (p : Pos) (x : Id) (i : Tokens) → next (sent_token p x ∷ i) ≢ n.LeftParen
selector_no_bracket p x i e = let f = selected (sent_token p x ∷ i) n.LeftParen (selector_seen p x i).0 e in absurd cc

-- an operator shows as what binds as tightly
operator_binding : (op : Symbol) → 1 ≤ operator_level op → binding (next_symbol op) ≡ operator_level op
operator_binding s.Bar le = refl
operator_binding s.Ampersand le = refl
operator_binding s.Equal le = refl
operator_binding s.Same le = refl
operator_binding s.Unequal le = refl
operator_binding s.Distinct le = refl
operator_binding s.Less le = refl
operator_binding s.LessEqual le = refl
operator_binding s.Greater le = refl
operator_binding s.GreaterEqual le = refl
operator_binding s.Plus le = refl
operator_binding s.Minus le = refl
operator_binding s.Star le = refl
operator_binding s.Slash le = refl
operator_binding _ le = absurd (omega (arith, le))

-- ---- values

pub literal_shows : (x : Literal) (p : Pos) (j : Tokens) (P : Next → Type 0) → P n.Int → P n.Literal → P (next (token (literal_kind x) p ∷ j))
unfolding next
literal_shows (lit.Int v) p j P a b = a
literal_shows lit.Float p j P a b = b
literal_shows (lit.Char c) p j P a b = b
literal_shows (lit.Str bytes) p j P a b = b
literal_shows lit.True p j P a b = b
literal_shows lit.False p j P a b = b
literal_shows lit.Nil p j P a b = b

pub sign_shows : (op : Symbol) (p : Pos) (j : Tokens) (P : Next → Type 0) → IsSign op → P n.Minus → P n.Bang → P (next (token (kind.Sym op) p ∷ j))
unfolding next
sign_shows s.Minus p j P h a b = a
sign_shows s.Bang p j P h a b = b
sign_shows _ p j P h a b = absurd h

pub no_return : (at : ℕ → Pos) (k : ℕ) (t : Tree) (j : Tokens) → IsExpression t → 1 ≤ level t → next (located at k (text t) ++ j) ≢ n.Return
unfolding next
no_return at k (literal pos x) j h le = literal_shows x (at k) j (λ y. y ≢ n.Return) (λ e. absurd cc) (λ e. absurd cc)
no_return at k (variable pos x) j h le = λ e. absurd cc
no_return at k (me pos) j h le = λ e. absurd cc
no_return at k (clock pos) j h le = λ e. absurd cc
no_return at k (creation pos class) j h le = λ e. absurd cc
no_return at k (group pos ts) j h le = λ e. absurd cc
no_return at k (chain pos t no_links) j h le = absurd h
no_return at k (chain pos t (link op p u ls)) j h le = λ e. no_return at k t (located at (k + length (text t)) (links_text (link op p u ls)) ++ j) h.1 (omega (arith, h.2)) (ap next (sym (split_located at k (text t) (links_text (link op p u ls)) j)) ∙ e)
no_return at k (sends pos t no_sendings) j h le = absurd h
no_return at k (sends pos t (sending x a ss)) j h le = λ e. no_return at k t (located at (k + length (text t)) (sendings_text (sending x a ss)) ++ j) h.0 (omega (arith, h.1)) (ap next (sym (split_located at k (text t) (sendings_text (sending x a ss)) j)) ∙ e)
no_return at k (unary pos op t) j h le = sign_shows op (at k) (located at (suc k) (text t) ++ j) (λ y. y ≢ n.Return) h.0 (λ e. absurd cc) (λ e. absurd cc)
no_return at k (assign pos x t) j h le = absurd (omega (arith, le))
no_return at k (returned pos t) j h le = absurd (omega (arith, le))
no_return at k (choice pos test body other) j h le = λ e. absurd cc
no_return at k (loop pos test body) j h le = λ e. absurd cc

-- behind the identifier that a value begins with stands an operator, a selector or what follows
module _ (y : Next) (unselected : (b : Bool) → selects_by y b ≡ false) (loose : (m : ℕ) → 1 ≤ m → m ≤ 5 → binding y ≢ m) where
  no_selector : (p : Pos) (x : Id) (i : Tokens) → next (sent_token p x ∷ i) ≢ y
  no_selector p x i e =
      let f = selected (sent_token p x ∷ i) y (selector_seen p x i).0 e in
      let g = unselected (spelled_init (sent_token p x ∷ i)) in
      absurd cc

  no_operator : (op : Symbol) (p : Pos) (i : Tokens) → 1 ≤ operator_level op → next (token (kind.Sym op) p ∷ i) ≢ y
  unfolding next
  no_operator op p i le e = loose (operator_level op) le (level_le op) (sym (ap binding e) ∙ operator_binding op le)

  pub no_second : (at : ℕ → Pos) (k : ℕ) (t : Tree) (j : Tokens) → IsExpression t → 1 ≤ level t → next j ≢ y → next (located at k (text t) ++ j) ≡ n.Word → next (after (located at k (text t) ++ j)) ≢ y
  unfolding next after
  no_second at k (literal pos x) j h le stop w = absurd (literal_shows x (at k) j (λ z. z ≢ n.Word) (λ e. absurd cc) (λ e. absurd cc) w)
  no_second at k (variable pos x) j h le stop w = stop
  no_second at k (me pos) j h le stop w = absurd cc
  no_second at k (clock pos) j h le stop w = absurd cc
  no_second at k (creation pos class) j h le stop w = absurd cc
  no_second at k (group pos ts) j h le stop w = absurd cc
  no_second at k (chain pos t no_links) j h le stop w = absurd h
  no_second at k (chain pos t (link op p u ls)) j h le stop w =
      let m = k + length (text t) in
      let r = located at m (links_text (link op p u ls)) ++ j in
      let same = split_located at k (text t) (links_text (link op p u ls)) j in
      λ e. no_second at k t r h.1 (omega (arith, h.2)) (no_operator op (at m) (located at (suc m) (text u ++ links_text ls) ++ j) h.0) (ap next (sym same) ∙ w) (ap (λ i. next (after i)) (sym same) ∙ e)
  no_second at k (sends pos t no_sendings) j h le stop w = absurd h
  no_second at k (sends pos t (sending x a ss)) j h le stop w =
      let m = k + length (text t) in
      let r = located at m (sendings_text (sending x a ss)) ++ j in
      let same = split_located at k (text t) (sendings_text (sending x a ss)) j in
      λ e. no_second at k t r h.0 (omega (arith, h.1)) (no_selector (at m) x (located at (suc m) (arguments_text a ++ sendings_text ss) ++ j)) (ap next (sym same) ∙ w) (ap (λ i. next (after i)) (sym same) ∙ e)
  no_second at k (unary pos op t) j h le stop w = absurd (sign_shows op (at k) (located at (suc k) (text t) ++ j) (λ z. z ≢ n.Word) h.0 (λ e. absurd cc) (λ e. absurd cc) w)
  no_second at k (assign pos x t) j h le stop w = absurd (omega (arith, le))
  no_second at k (returned pos t) j h le stop w = absurd (omega (arith, le))
  no_second at k (choice pos test body other) j h le stop w = absurd cc
  no_second at k (loop pos test body) j h le stop w = absurd cc

pub no_assign : (at : ℕ → Pos) (k : ℕ) (t : Tree) (j : Tokens) → IsExpression t → 1 ≤ level t → next j ≢ n.Assign → next (located at k (text t) ++ j) ≡ n.Word → next (after (located at k (text t) ++ j)) ≢ n.Assign
no_assign = no_second n.Assign (λ b. refl) (λ m a b e. absurd (omega (arith, e)))

-- ---- operands without a sign

abbrev pub Unsigned : Next → Type 0
Unsigned x = (x ≢ n.Minus) × (x ≢ n.Bang)

pub unsigned : (at : ℕ → Pos) (k : ℕ) (t : Tree) (j : Tokens) → IsExpression t → 7 ≤ level t → Unsigned (next (located at k (text t) ++ j))
unfolding next
unsigned at k (literal pos x) j h le = literal_shows x (at k) j Unsigned ((λ e. absurd cc), (λ e. absurd cc)) ((λ e. absurd cc), (λ e. absurd cc))
unsigned at k (variable pos x) j h le = ((λ e. absurd cc), (λ e. absurd cc))
unsigned at k (me pos) j h le = ((λ e. absurd cc), (λ e. absurd cc))
unsigned at k (clock pos) j h le = ((λ e. absurd cc), (λ e. absurd cc))
unsigned at k (creation pos class) j h le = ((λ e. absurd cc), (λ e. absurd cc))
unsigned at k (group pos ts) j h le = ((λ e. absurd cc), (λ e. absurd cc))
unsigned at k (chain pos t no_links) j h le = absurd h
unsigned at k (chain pos t (link op p u ls)) j h le = absurd (omega (arith, le, level_le op))
unsigned at k (sends pos t no_sendings) j h le = absurd h
unsigned at k (sends pos t (sending x a ss)) j h le = subst (λ i. Unsigned (next i)) (sym (split_located at k (text t) (sendings_text (sending x a ss)) j)) (unsigned at k t (located at (k + length (text t)) (sendings_text (sending x a ss)) ++ j) h.0 (omega (arith, h.1)))
unsigned at k (unary pos op t) j h le = absurd (omega (arith, le))
unsigned at k (assign pos x t) j h le = absurd (omega (arith, le))
unsigned at k (returned pos t) j h le = absurd (omega (arith, le))
unsigned at k (choice pos test body other) j h le = ((λ e. absurd cc), (λ e. absurd cc))
unsigned at k (loop pos test body) j h le = ((λ e. absurd cc), (λ e. absurd cc))
