-- Tokens that stand as names, and literals: what shows as one is one.
use Rattle.std.proofs.Common.{◌≡◌, ℕ, ◌⊎◌, inl, inr, Bool, true, false, not, List, [], ◌∷◌, refl, ap, sym, ◌∙◌, subst}
use Rattle.std.specs.Prelude.{⊤, bytes_eq, codes, if◌then◌else◌}
use Rattle.pz_syntax.specs.declared.tokens.Symbol.{Symbol}
use Rattle.pz_syntax.specs.declared.tokens.Symbol.TheVariants as s
use Rattle.pz_syntax.specs.declared.tokens.Keyword.{Keyword}
use Rattle.pz_syntax.specs.declared.tokens.Keyword.TheVariants as k
use Rattle.pz_syntax.specs.declared.tokens.TokenKind.{TokenKind}
use Rattle.pz_syntax.specs.declared.tokens.TokenKind.TheVariants as kind
use Rattle.pz_syntax.specs.declared.tokens.Mark.{Mark}
use Rattle.pz_syntax.specs.declared.tokens.Pos.{Pos}
use Rattle.pz_syntax.specs.declared.tokens.Token.{Token}
use Rattle.pz_syntax.specs.declared.names.Id.{Id}
use Rattle.pz_syntax.specs.Marks.{mark, word, head, selector, selector_head}
use Rattle.pz_syntax.specs.ExpressionText.{literal_kind}
use Rattle.pz_parser_cursor.specs.declared.ahead.Next.{Next}
use Rattle.pz_parser_cursor.specs.declared.ahead.Next.TheVariants as n
use Rattle.pz_parser_cursor.specs.devices.LookAhead.{next, next_by, next_head_key, next_key, next_symbol}
use Rattle.pz_parser_cursor.specs.devices.Input.{Tokens, marks, after, position, identifier, name, name_by, number, number_by, literal, literal_by, literal_key, selects, selects_by, selects_head, selects_head_by, spelled_init}
use Rattle.std.proofs.lemmas.Slice.Eq.{bytes_eq-Decides}
use Rattle.pz_parser_cursor.proofs.Steps.{mark_is}

-- it shows neither a name nor a literal
abbrev Plain : Next → Type 0
Plain n.Word = ⊥
Plain n.Head = ⊥
Plain n.InitHead = ⊥
Plain n.Int = ⊥
Plain n.Literal = ⊥
Plain n.Init = ⊥
Plain _ = ⊤

plain_symbol : (x : Symbol) → Plain (next_symbol x)
plain_symbol s.LeftParen = tt
plain_symbol s.RightParen = tt
plain_symbol s.LeftBrace = tt
plain_symbol s.RightBrace = tt
plain_symbol s.LeftBracket = tt
plain_symbol s.RightBracket = tt
plain_symbol s.Comma = tt
plain_symbol s.Semicolon = tt
plain_symbol s.Colon = tt
plain_symbol s.Assign = tt
plain_symbol s.Bang = tt
plain_symbol s.Query = tt
plain_symbol s.Bar = tt
plain_symbol s.Dot = tt
plain_symbol s.Plus = tt
plain_symbol s.Minus = tt
plain_symbol s.Star = tt
plain_symbol s.Slash = tt
plain_symbol s.Equal = tt
plain_symbol s.Same = tt
plain_symbol s.Unequal = tt
plain_symbol s.Distinct = tt
plain_symbol s.Less = tt
plain_symbol s.LessEqual = tt
plain_symbol s.Greater = tt
plain_symbol s.GreaterEqual = tt
plain_symbol s.Ampersand = tt

-- what a keyword may show of a name or a literal
abbrev Keyed : Keyword → Next → Type 0
Keyed x n.Word = ⊥
Keyed x n.Head = ⊥
Keyed x n.InitHead = ⊥
Keyed x n.Int = ⊥
Keyed x n.Literal = kind.Key x ≡ literal_kind (literal_key x)
Keyed x n.Init = x ≡ k.Init
Keyed x _ = ⊤

keyed : (x : Keyword) → Keyed x (next_key x)
keyed k.Data = tt
keyed k.Process = tt
keyed k.Cluster = tt
keyed k.Class = tt
keyed k.System = tt
keyed k.Extends = tt
keyed k.Ports = tt
keyed k.Messages = tt
keyed k.Variables = tt
keyed k.Init = refl
keyed k.Methods = tt
keyed k.Instances = tt
keyed k.Channels = tt
keyed k.Skip = tt
keyed k.Delay = tt
keyed k.Par = tt
keyed k.And = tt
keyed k.Rap = tt
keyed k.Sel = tt
keyed k.Or = tt
keyed k.Les = tt
keyed k.If = tt
keyed k.Then = tt
keyed k.Else = tt
keyed k.Fi = tt
keyed k.While = tt
keyed k.Do = tt
keyed k.Od = tt
keyed k.Abort = tt
keyed k.Interrupt = tt
keyed k.With = tt
keyed k.New = tt
keyed k.Me = tt
keyed k.Nil = refl
keyed k.True = refl
keyed k.False = refl
keyed k.Return = tt
keyed k.CurrentTime = tt
keyed k.Super = tt
keyed k.Native = tt
keyed k.Import = tt
keyed k.ImportLib = tt

abbrev HeadKeyed : Keyword → Next → Type 0
HeadKeyed x n.InitHead = x ≡ k.Init
HeadKeyed x n.Other = ⊤
HeadKeyed x _ = ⊥

head_keyed : (x : Keyword) → HeadKeyed x (next_head_key x)
head_keyed k.Init = refl
head_keyed _ = tt

pub word_by : (h : Bool) (x : TokenKind) → next_by h x ≡ n.Word → (h ≡ false) × (x ≡ kind.Ident (name_by x))
word_by true (kind.Ident y) e = absurd cc
word_by true (kind.Key y) e = absurd (subst (HeadKeyed y) e (head_keyed y))
word_by true (kind.Int y) e = absurd cc
word_by true kind.Float e = absurd cc
word_by true (kind.Char y) e = absurd cc
word_by true (kind.Str y) e = absurd cc
word_by true (kind.Sym y) e = absurd cc
word_by false (kind.Ident y) e = (refl, refl)
word_by false (kind.Key y) e = absurd (subst (Keyed y) e (keyed y))
word_by false (kind.Int y) e = absurd cc
word_by false kind.Float e = absurd cc
word_by false (kind.Char y) e = absurd cc
word_by false (kind.Str y) e = absurd cc
word_by false (kind.Sym y) e = absurd (subst Plain e (plain_symbol y))

pub head_by : (h : Bool) (x : TokenKind) → next_by h x ≡ n.Head → (h ≡ true) × (x ≡ kind.Ident (name_by x))
head_by true (kind.Ident y) e = (refl, refl)
head_by true (kind.Key y) e = absurd (subst (HeadKeyed y) e (head_keyed y))
head_by true (kind.Int y) e = absurd cc
head_by true kind.Float e = absurd cc
head_by true (kind.Char y) e = absurd cc
head_by true (kind.Str y) e = absurd cc
head_by true (kind.Sym y) e = absurd cc
head_by false (kind.Ident y) e = absurd cc
head_by false (kind.Key y) e = absurd (subst (Keyed y) e (keyed y))
head_by false (kind.Int y) e = absurd cc
head_by false kind.Float e = absurd cc
head_by false (kind.Char y) e = absurd cc
head_by false (kind.Str y) e = absurd cc
head_by false (kind.Sym y) e = absurd (subst Plain e (plain_symbol y))

pub init_by : (h : Bool) (x : TokenKind) → next_by h x ≡ n.Init → (h ≡ false) × (x ≡ kind.Key k.Init)
init_by true (kind.Ident y) e = absurd cc
init_by true (kind.Key y) e = absurd (subst (HeadKeyed y) e (head_keyed y))
init_by true (kind.Int y) e = absurd cc
init_by true kind.Float e = absurd cc
init_by true (kind.Char y) e = absurd cc
init_by true (kind.Str y) e = absurd cc
init_by true (kind.Sym y) e = absurd cc
init_by false (kind.Ident y) e = absurd cc
init_by false (kind.Key y) e = (refl, ap (λ (z : Keyword). kind.Key z) (subst (Keyed y) e (keyed y)))
init_by false (kind.Int y) e = absurd cc
init_by false kind.Float e = absurd cc
init_by false (kind.Char y) e = absurd cc
init_by false (kind.Str y) e = absurd cc
init_by false (kind.Sym y) e = absurd (subst Plain e (plain_symbol y))

pub init_head_by : (h : Bool) (x : TokenKind) → next_by h x ≡ n.InitHead → (h ≡ true) × (x ≡ kind.Key k.Init)
init_head_by true (kind.Ident y) e = absurd cc
init_head_by true (kind.Key y) e = (refl, ap (λ (z : Keyword). kind.Key z) (subst (HeadKeyed y) e (head_keyed y)))
init_head_by true (kind.Int y) e = absurd cc
init_head_by true kind.Float e = absurd cc
init_head_by true (kind.Char y) e = absurd cc
init_head_by true (kind.Str y) e = absurd cc
init_head_by true (kind.Sym y) e = absurd cc
init_head_by false (kind.Ident y) e = absurd cc
init_head_by false (kind.Key y) e = absurd (subst (Keyed y) e (keyed y))
init_head_by false (kind.Int y) e = absurd cc
init_head_by false kind.Float e = absurd cc
init_head_by false (kind.Char y) e = absurd cc
init_head_by false (kind.Str y) e = absurd cc
init_head_by false (kind.Sym y) e = absurd (subst Plain e (plain_symbol y))

pub int_by : (h : Bool) (x : TokenKind) → next_by h x ≡ n.Int → (h ≡ false) × (x ≡ kind.Int (number_by x)) × (x ≡ literal_kind (literal_by x))
int_by true (kind.Ident y) e = absurd cc
int_by true (kind.Key y) e = absurd (subst (HeadKeyed y) e (head_keyed y))
int_by true (kind.Int y) e = absurd cc
int_by true kind.Float e = absurd cc
int_by true (kind.Char y) e = absurd cc
int_by true (kind.Str y) e = absurd cc
int_by true (kind.Sym y) e = absurd cc
int_by false (kind.Ident y) e = absurd cc
int_by false (kind.Key y) e = absurd (subst (Keyed y) e (keyed y))
int_by false (kind.Int y) e = (refl, refl, refl)
int_by false kind.Float e = absurd cc
int_by false (kind.Char y) e = absurd cc
int_by false (kind.Str y) e = absurd cc
int_by false (kind.Sym y) e = absurd (subst Plain e (plain_symbol y))

pub literal_by_kind : (h : Bool) (x : TokenKind) → next_by h x ≡ n.Literal → (h ≡ false) × (x ≡ literal_kind (literal_by x))
literal_by_kind true (kind.Ident y) e = absurd cc
literal_by_kind true (kind.Key y) e = absurd (subst (HeadKeyed y) e (head_keyed y))
literal_by_kind true (kind.Int y) e = absurd cc
literal_by_kind true kind.Float e = absurd cc
literal_by_kind true (kind.Char y) e = absurd cc
literal_by_kind true (kind.Str y) e = absurd cc
literal_by_kind true (kind.Sym y) e = absurd cc
literal_by_kind false (kind.Ident y) e = absurd cc
literal_by_kind false (kind.Key y) e = (refl, subst (Keyed y) e (keyed y))
literal_by_kind false (kind.Int y) e = absurd cc
literal_by_kind false kind.Float e = (refl, refl)
literal_by_kind false (kind.Char y) e = (refl, refl)
literal_by_kind false (kind.Str y) e = (refl, refl)
literal_by_kind false (kind.Sym y) e = absurd (subst Plain e (plain_symbol y))

-- ---- the first token

pub word_is : (i : Tokens) → next i ≡ n.Word → marks i ≡ word (identifier i) ∷ marks (after i)
unfolding next after identifier name
word_is [] e = absurd cc
word_is (t ∷ ts) e = let w = word_by t.mark.head t.mark.kind e in ap (λ (p : Mark). p ∷ marks ts) (mark_is t.mark false _ w.0 w.1)

pub head_is : (i : Tokens) → next i ≡ n.Head → marks i ≡ head (identifier i) ∷ marks (after i)
unfolding next after identifier name
head_is [] e = absurd cc
head_is (t ∷ ts) e = let w = head_by t.mark.head t.mark.kind e in ap (λ (p : Mark). p ∷ marks ts) (mark_is t.mark true _ w.0 w.1)

pub number_is : (i : Tokens) → next i ≡ n.Int → marks i ≡ mark (kind.Int (number i)) ∷ marks (after i)
unfolding next after number
number_is [] e = absurd cc
number_is (t ∷ ts) e = let w = int_by t.mark.head t.mark.kind e in ap (λ (p : Mark). p ∷ marks ts) (mark_is t.mark false _ w.0 w.1)

pub int_literal_is : (i : Tokens) → next i ≡ n.Int → marks i ≡ mark (literal_kind (literal i)) ∷ marks (after i)
unfolding next after literal
int_literal_is [] e = absurd cc
int_literal_is (t ∷ ts) e = let w = int_by t.mark.head t.mark.kind e in ap (λ (p : Mark). p ∷ marks ts) (mark_is t.mark false _ w.0 w.2)

pub literal_is : (i : Tokens) → next i ≡ n.Literal → marks i ≡ mark (literal_kind (literal i)) ∷ marks (after i)
unfolding next after literal
literal_is [] e = absurd cc
literal_is (t ∷ ts) e = let w = literal_by_kind t.mark.head t.mark.kind e in ap (λ (p : Mark). p ∷ marks ts) (mark_is t.mark false _ w.0 w.1)

-- ---- selectors

abbrev kind_if : Bool → List ℕ → TokenKind
kind_if b x = if b then kind.Key k.Init else kind.Ident x

select_cases : (x : Next) (b : Bool) → selects_by x b ≡ true → (x ≡ n.Init) ⊎ ((x ≡ n.Word) × (b ≡ false))
select_cases n.Init b e = inl refl
select_cases n.Word true e = absurd cc
select_cases n.Word false e = inr (refl, refl)
select_cases _ b e = absurd cc

head_cases : (x : Next) (b : Bool) → selects_head_by x b ≡ true → (x ≡ n.InitHead) ⊎ ((x ≡ n.Head) × (b ≡ false))
head_cases n.InitHead b e = inl refl
head_cases n.Head true e = absurd cc
head_cases n.Head false e = inr (refl, refl)
head_cases _ b e = absurd cc

init_kind : (x : TokenKind) → x ≡ kind.Key k.Init → x ≡ kind_if (bytes_eq (name_by x) (codes "init")) (name_by x)
init_kind x e = subst (λ (y : TokenKind). y ≡ kind_if (bytes_eq (name_by y) (codes "init")) (name_by y)) (sym e) refl

word_kind : (x : TokenKind) → x ≡ kind.Ident (name_by x) → bytes_eq (name_by x) (codes "init") ≡ false → x ≡ kind_if (bytes_eq (name_by x) (codes "init")) (name_by x)
word_kind x e f = e ∙ ap (λ b. kind_if b (name_by x)) (sym f)

pub selector_is : (i : Tokens) → selects i ≡ true → marks i ≡ selector (identifier i) ∷ marks (after i)
unfolding next after identifier name selects spelled_init
selector_is [] e = absurd cc
selector_is (t ∷ ts) e = elim (select_cases (next (t ∷ ts)) (spelled_init (t ∷ ts)) e) [
  | inl h ↦ let w = init_by t.mark.head t.mark.kind h in ap (λ (p : Mark). p ∷ marks ts) (mark_is t.mark false _ w.0 (init_kind t.mark.kind w.1))
  | inr h ↦ let w = word_by t.mark.head t.mark.kind h.0 in ap (λ (p : Mark). p ∷ marks ts) (mark_is t.mark false _ w.0 (word_kind t.mark.kind w.1 h.1))
]

pub selector_head_is : (i : Tokens) → selects_head i ≡ true → marks i ≡ selector_head (identifier i) ∷ marks (after i)
unfolding next after identifier name selects_head spelled_init
selector_head_is [] e = absurd cc
selector_head_is (t ∷ ts) e = elim (head_cases (next (t ∷ ts)) (spelled_init (t ∷ ts)) e) [
  | inl h ↦ let w = init_head_by t.mark.head t.mark.kind h in ap (λ (p : Mark). p ∷ marks ts) (mark_is t.mark true _ w.0 (init_kind t.mark.kind w.1))
  | inr h ↦ let w = head_by t.mark.head t.mark.kind h.0 in ap (λ (p : Mark). p ∷ marks ts) (mark_is t.mark true _ w.0 (word_kind t.mark.kind w.1 h.1))
]

-- ---- and back: what is one shows as one

selector_by : (b : Bool) (x : List ℕ) → bytes_eq x (codes "init") ≡ b → (selects_by (next_by false (kind_if b x)) (bytes_eq (name_by (kind_if b x)) (codes "init")) ≡ true) × (name_by (kind_if b x) ≡ x)
selector_by true x e = (refl, sym ((bytes_eq-Decides x (codes "init")).0 e))
selector_by false x e = (ap not e, refl)

selector_head_by : (b : Bool) (x : List ℕ) → bytes_eq x (codes "init") ≡ b → selects_head_by (next_by true (kind_if b x)) (bytes_eq (name_by (kind_if b x)) (codes "init")) ≡ true
selector_head_by true x e = refl
selector_head_by false x e = ap not e

abbrev pub sent_token : Pos → Id → Token
sent_token p x = record { mark = selector x; pos = p }

pub selector_seen : (p : Pos) (x : Id) (i : Tokens) → (selects (sent_token p x ∷ i) ≡ true) × (identifier (sent_token p x ∷ i) ≡ (record { name = x.name; pos = p }))
unfolding next identifier name position selects spelled_init
selector_seen p x i = let s = selector_by (bytes_eq x.name (codes "init")) x.name refl in (s.0, ap (λ y. record { name = y; pos = p }) s.1)

abbrev pub named_token : Pos → Id → Token
named_token p x = record { mark = selector_head x; pos = p }

pub selector_head_seen : (p : Pos) (x : Id) (i : Tokens) → (selects_head (named_token p x ∷ i) ≡ true) × (identifier (named_token p x ∷ i) ≡ (record { name = x.name; pos = p }))
unfolding next identifier name position selects_head spelled_init
selector_head_seen p x i = (selector_head_by (bytes_eq x.name (codes "init")) x.name refl, ap (λ y. record { name = y; pos = p }) (selector_by (bytes_eq x.name (codes "init")) x.name refl).1)
