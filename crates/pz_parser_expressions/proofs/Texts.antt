-- How the text of an expression begins, and lists of expressions as lists.
use Rattle.std.proofs.Common.{◌≡◌, ℕ, suc, ◌+◌, ◌≤◌, ◌<◌, Bool, true, false, List, [], ◌∷◌, ◌++◌, length, refl, ap, sym, ◌∙◌, arith}
use Rattle.pz_syntax.specs.declared.tokens.Pos.{Pos}
use Rattle.pz_syntax.specs.declared.tokens.Symbol.{Symbol}
use Rattle.pz_syntax.specs.declared.tokens.Symbol.TheVariants as s
use Rattle.pz_syntax.specs.declared.tokens.TokenKind.TheVariants as kind
use Rattle.pz_syntax.specs.declared.names.Id.{Id}
use Rattle.pz_syntax.specs.declared.exprs.Literal.{Literal}
use Rattle.pz_syntax.specs.declared.exprs.Literal.TheVariants as lit
use Rattle.pz_syntax.specs.Marks.{mark, symbol}
use Rattle.pz_syntax.specs.Expressions.{literal, variable, me, clock, creation, group, chain, sends, unary, assign, returned, choice, loop, Expressions, none, more, no_links, link, no_sendings, sending}
use Rattle.pz_syntax.specs.ExpressionView.{Tree, list_of}
use Rattle.pz_syntax.specs.ExpressionText.{text, texts, tail_texts, links_text, sendings_text, literal_kind}
use Rattle.pz_syntax.specs.ExpressionForm.{IsExpression, AreExpressions, IsBody, IsSign, level}
use Rattle.pz_syntax.specs.ExpressionNesting.{nesting, nestings}
use Rattle.pz_syntax.specs.ModelForm.{Each}
use Rattle.pz_parser_cursor.specs.declared.ahead.Next.{Next}
use Rattle.pz_parser_cursor.specs.declared.ahead.Next.TheVariants as n
use Rattle.pz_parser_cursor.specs.devices.LookAhead.{next}
use Rattle.pz_parser_cursor.specs.devices.Input.{Tokens, position}
use Rattle.pz_parser_cursor.specs.Places.{located, place_tail as place_behind, place_separated}
use Rattle.pz_parser_cursor.proofs.Reading.{split_located}
use Rattle.pz_parser_cursor.proofs.Joined.{joined, tails, Filled}
use Rattle.pz_parser_expressions.specs.ExpressionPlaces.{place, place_all, place_tail}

-- an expression of at least this level whose constructs nest less deep than the bound
abbrev pub Fits : ℕ → ℕ → Tree → Type 0
Fits bound least t = IsExpression t × (least ≤ level t) × (nesting t < bound)

-- ---- the first token

abbrev pub starts : Next → Bool
starts n.Word = true
starts n.Int = true
starts n.Literal = true
starts n.Me = true
starts n.CurrentTime = true
starts n.New = true
starts n.LeftParen = true
starts n.If = true
starts n.While = true
starts n.Minus = true
starts n.Bang = true
starts n.Return = true
starts _ = false

starts_literal : (x : Literal) (p : Pos) (j : Tokens) → starts (next (record { mark = mark (literal_kind x); pos = p } ∷ j)) ≡ true
unfolding next
starts_literal (lit.Int n) p j = refl
starts_literal lit.Float p j = refl
starts_literal (lit.Char c) p j = refl
starts_literal (lit.Str bytes) p j = refl
starts_literal lit.True p j = refl
starts_literal lit.False p j = refl
starts_literal lit.Nil p j = refl

starts_sign : (op : Symbol) (p : Pos) (j : Tokens) → IsSign op → starts (next (record { mark = symbol op; pos = p } ∷ j)) ≡ true
unfolding next
starts_sign s.Minus p j h = refl
starts_sign s.Bang p j h = refl
starts_sign _ p j h = absurd h

-- what an expression begins with
pub begins : (at : ℕ → Pos) (k : ℕ) (t : Tree) (j : Tokens) → IsExpression t → starts (next (located at k (text t) ++ j)) ≡ true
unfolding next
begins at k (literal pos x) j h = starts_literal x (at k) j
begins at k (variable pos x) j h = refl
begins at k (me pos) j h = refl
begins at k (clock pos) j h = refl
begins at k (creation pos class) j h = refl
begins at k (group pos ts) j h = refl
begins at k (chain pos t no_links) j h = absurd h
begins at k (chain pos t (link op p u ls)) j h = ap (λ i. starts (next i)) (split_located at k (text t) (links_text (link op p u ls)) j) ∙ begins at k t (located at (k + length (text t)) (links_text (link op p u ls)) ++ j) h.1
begins at k (sends pos t no_sendings) j h = absurd h
begins at k (sends pos t (sending x a ss)) j h = ap (λ i. starts (next i)) (split_located at k (text t) (sendings_text (sending x a ss)) j) ∙ begins at k t (located at (k + length (text t)) (sendings_text (sending x a ss)) ++ j) h.0
begins at k (unary pos op t) j h = starts_sign op (at k) (located at (suc k) (text t) ++ j) h.0
begins at k (assign pos x t) j h = refl
begins at k (returned pos t) j h = refl
begins at k (choice pos test body other) j h = refl
begins at k (loop pos test body) j h = refl

pub stands : (at : ℕ → Pos) (k : ℕ) (t : Tree) (j : Tokens) → position (located at k (text t) ++ j) ≡ at k
unfolding position
stands at k (literal pos x) j = refl
stands at k (variable pos x) j = refl
stands at k (me pos) j = refl
stands at k (clock pos) j = refl
stands at k (creation pos class) j = refl
stands at k (group pos ts) j = refl
stands at k (chain pos t ls) j = ap position (split_located at k (text t) (links_text ls) j) ∙ stands at k t (located at (k + length (text t)) (links_text ls) ++ j)
stands at k (sends pos t ss) j = ap position (split_located at k (text t) (sendings_text ss) j) ∙ stands at k t (located at (k + length (text t)) (sendings_text ss) ++ j)
stands at k (unary pos op t) j = refl
stands at k (assign pos x t) j = refl
stands at k (returned pos t) j = refl
stands at k (choice pos test body other) j = refl
stands at k (loop pos test body) j = refl

-- ---- lists

abbrev pub to_list : Expressions Id Id → List Tree
to_list none = []
to_list (more t ts) = t ∷ to_list ts

pub list_back : (ts : Expressions Id Id) → list_of (to_list ts) ≡ ts
list_back none = refl
list_back (more t ts) = ap (more t) (list_back ts)

tails_are : (x : Symbol) (xs : List Tree) → tails text (kind.Sym x) xs ≡ tail_texts x (list_of xs)
tails_are x [] = refl
tails_are x (t ∷ ts) = ap (λ r. symbol x ∷ (text t ++ r)) (tails_are x ts)

pub texts_are : (x : Symbol) (xs : List Tree) → joined text (kind.Sym x) xs ≡ texts x (list_of xs)
texts_are x [] = refl
texts_are x (t ∷ ts) = ap (λ r. text t ++ r) (tails_are x ts)

pub texts_of : (x : Symbol) (ts : Expressions Id Id) → texts x ts ≡ joined text (kind.Sym x) (to_list ts)
texts_of x ts = ap (texts x) (sym (list_back ts)) ∙ sym (texts_are x (to_list ts))

behind_are : (at : ℕ → Pos) (k : ℕ) (ts : Expressions Id Id) → place_behind text place at k (to_list ts) ≡ to_list (place_tail at k ts)
behind_are at k none = refl
behind_are at k (more t ts) = ap (λ r. place at (suc k) t ∷ r) (behind_are at (suc k + length (text t)) ts)

pub places_are : (at : ℕ → Pos) (k : ℕ) (ts : Expressions Id Id) → place_separated text place at k (to_list ts) ≡ to_list (place_all at k ts)
places_are at k none = refl
places_are at k (more t ts) = ap (λ r. place at k t ∷ r) (behind_are at (k + length (text t)) ts)

module _ (bound : ℕ) where
  pub are : (xs : List Tree) → Each (Fits bound 0) xs → AreExpressions (list_of xs)
  are [] h = tt
  are (t ∷ ts) h = (h.0.0, are ts h.1)

  pub nested : (xs : List Tree) → 0 < bound → Each (Fits bound 0) xs → nestings (list_of xs) < bound
  nested [] lt h = lt
  nested (t ∷ ts) lt h = omega (arith, h.0.2, nested ts lt h.1)

  pub body : (xs : List Tree) → Filled (Fits bound 0) xs → IsBody (list_of xs)
  body [] h = absurd h
  body (t ∷ ts) h = (h.0.0, are ts h.1)

  pub body_nested : (xs : List Tree) → Filled (Fits bound 0) xs → nestings (list_of xs) < bound
  body_nested [] h = absurd h
  body_nested (t ∷ ts) h = let lt : 0 < bound = omega (arith, h.0.2) in omega (arith, h.0.2, nested ts lt h.1)

  pub each_of_list : (ts : Expressions Id Id) → AreExpressions ts → nestings ts < bound → Each (Fits bound 0) (to_list ts)
  each_of_list none h lt = tt
  each_of_list (more t ts) h lt = ((h.0, omega arith, omega (arith, lt)), each_of_list ts h.1 (omega (arith, lt)))

  pub filled_of_body : (ts : Expressions Id Id) → IsBody ts → nestings ts < bound → Filled (Fits bound 0) (to_list ts)
  filled_of_body none h lt = absurd h
  filled_of_body (more t ts) h lt = ((h.0, omega arith, omega (arith, lt)), each_of_list ts h.1 (omega (arith, lt)))
