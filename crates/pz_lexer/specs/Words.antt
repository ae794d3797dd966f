-- Identifiers and reserved words.
use Rattle.std.specs.Prelude.{◌≡◌, ℕ, List, [], ◌∷◌, true, false, codes, unwrap_or, option_map}
use Rattle.std.specs.List.{list_all}
use Rattle.pz_syntax.specs.declared.tokens.Keyword.{Keyword}
use Rattle.pz_syntax.specs.declared.tokens.TokenKind.{TokenKind}
use Rattle.pz_lexer.specs.Bytes.{is_letter, is_word, begins}
use Rattle.pz_lexer.specs.Spellings.{spelled}

-- A letter, then letters and digits; no letter or digit follows.
pub record IsWord (text rest : List ℕ) : Type 0 where
  pub first : begins is_letter text ≡ true
  pub inside : list_all is_word text ≡ true
  pub whole : begins is_word rest ≡ false

-- the reserved words
abbrev pub keywords : List (List ℕ × Keyword)
keywords =
    (codes "data", Keyword.Data) ∷
    (codes "process", Keyword.Process) ∷
    (codes "cluster", Keyword.Cluster) ∷
    (codes "class", Keyword.Class) ∷
    (codes "system", Keyword.System) ∷
    (codes "extends", Keyword.Extends) ∷
    (codes "ports", Keyword.Ports) ∷
    (codes "messages", Keyword.Messages) ∷
    (codes "variables", Keyword.Variables) ∷
    (codes "init", Keyword.Init) ∷
    (codes "methods", Keyword.Methods) ∷
    (codes "instances", Keyword.Instances) ∷
    (codes "channels", Keyword.Channels) ∷
    (codes "skip", Keyword.Skip) ∷
    (codes "delay", Keyword.Delay) ∷
    (codes "par", Keyword.Par) ∷
    (codes "and", Keyword.And) ∷
    (codes "rap", Keyword.Rap) ∷
    (codes "sel", Keyword.Sel) ∷
    (codes "or", Keyword.Or) ∷
    (codes "les", Keyword.Les) ∷
    (codes "if", Keyword.If) ∷
    (codes "then", Keyword.Then) ∷
    (codes "else", Keyword.Else) ∷
    (codes "fi", Keyword.Fi) ∷
    (codes "while", Keyword.While) ∷
    (codes "do", Keyword.Do) ∷
    (codes "od", Keyword.Od) ∷
    (codes "abort", Keyword.Abort) ∷
    (codes "interrupt", Keyword.Interrupt) ∷
    (codes "with", Keyword.With) ∷
    (codes "new", Keyword.New) ∷
    (codes "self", Keyword.Me) ∷
    (codes "nil", Keyword.Nil) ∷
    (codes "true", Keyword.True) ∷
    (codes "false", Keyword.False) ∷
    (codes "return", Keyword.Return) ∷
    (codes "currentTime", Keyword.CurrentTime) ∷
    (codes "super", Keyword.Super) ∷
    (codes "native", Keyword.Native) ∷
    (codes "import", Keyword.Import) ∷
    (codes "importlib", Keyword.ImportLib) ∷
    []

-- a reserved word is a keyword, any other word is an identifier
abbrev pub word_kind : List ℕ → TokenKind
word_kind text = unwrap_or (option_map TokenKind.Key (spelled keywords text)) (TokenKind.Ident text)
