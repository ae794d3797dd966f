-- Single marks, and lists of things in brackets or with a separator.
use Rattle.std.specs.Prelude.{true, false, List, [], ◌∷◌, ◌++◌, Option, Some, None, if◌then◌else◌, bytes_eq, codes}
use Rattle.pz_syntax.specs.declared.tokens.Symbol.{Symbol}
use Rattle.pz_syntax.specs.declared.tokens.Symbol.TheVariants as s
use Rattle.pz_syntax.specs.declared.tokens.Keyword.{Keyword}
use Rattle.pz_syntax.specs.declared.tokens.Keyword.TheVariants as k
use Rattle.pz_syntax.specs.declared.tokens.TokenKind.{TokenKind}
use Rattle.pz_syntax.specs.declared.tokens.TokenKind.TheVariants as kind
use Rattle.pz_syntax.specs.declared.tokens.Mark.{Mark}
use Rattle.pz_syntax.specs.declared.names.Id.{Id}

abbrev pub mark : TokenKind → Mark
mark x = record { kind = x; head = false }

abbrev pub symbol : Symbol → Mark
symbol x = mark (kind.Sym x)

abbrev pub keyword : Keyword → Mark
keyword x = mark (kind.Key x)

-- an identifier that is no head
abbrev pub word : Id → Mark
word x = mark (kind.Ident x.name)

-- an identifier that is a head
abbrev pub head : Id → Mark
head x = record { kind = kind.Ident x.name; head = true }

-- A selector is an identifier or the keyword `init`, and the name `init` stands for the keyword.
-- So no condition on names is needed for a text to have one tree: an identifier that is spelled
-- `init` is the text of no selector, and elsewhere a name is always an identifier.
abbrev pub selector_kind : Id → TokenKind
selector_kind x = if bytes_eq x.name (codes "init") then kind.Key k.Init else kind.Ident x.name

-- a selector that is sent
abbrev pub selector : Id → Mark
selector x = mark (selector_kind x)

-- a selector that names a method
abbrev pub selector_head : Id → Mark
selector_head x = record { kind = selector_kind x; head = true }

abbrev pub in_parentheses : List Mark → List Mark
in_parentheses inner = symbol s.LeftParen ∷ (inner ++ symbol s.RightParen ∷ [])

abbrev pub in_braces : List Mark → List Mark
in_braces inner = symbol s.LeftBrace ∷ (inner ++ symbol s.RightBrace ∷ [])

-- with the separator before each
abbrev pub tail_separated : {A : Type 0} → (A → List Mark) → Symbol → List A → List Mark
tail_separated text_of separator [] = []
tail_separated text_of separator (x ∷ xs) = symbol separator ∷ (text_of x ++ tail_separated text_of separator xs)

-- with the separator between them
abbrev pub separated : {A : Type 0} → (A → List Mark) → Symbol → List A → List Mark
separated text_of separator [] = []
separated text_of separator (x ∷ xs) = text_of x ++ tail_separated text_of separator xs

-- one after the other
abbrev pub each_text : {A : Type 0} → (A → List Mark) → List A → List Mark
each_text text_of [] = []
each_text text_of (x ∷ xs) = text_of x ++ each_text text_of xs

-- what may be left out
abbrev pub optional : {A : Type 0} → (A → List Mark) → Option A → List Mark
optional text_of None = []
optional text_of (Some x) = text_of x

-- what begins with a keyword and may be left out
abbrev pub section : {A : Type 0} → Keyword → (A → List Mark) → Option A → List Mark
section x text_of None = []
section x text_of (Some content) = keyword x ∷ text_of content

abbrev pub word_text : Id → List Mark
word_text x = word x ∷ []

abbrev pub names_text : List Id → List Mark
names_text = separated word_text s.Comma
