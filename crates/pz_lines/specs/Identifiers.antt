-- Identifiers of models.
use Rattle.std.specs.Prelude.{Bool, ◌&&◌, not, is_some, ℕ, List}
use Rattle.std.specs.List.{list_all}
use Rattle.pz_lexer.specs.Bytes.{is_letter, is_word, begins}
use Rattle.pz_lexer.specs.Spellings.{spelled}
use Rattle.pz_lexer.specs.Words.{keywords}

-- a word that is reserved in models
abbrev pub is_reserved : List ℕ → Bool
is_reserved text = is_some (spelled keywords text)

-- a letter, then letters and digits, and no reserved word
abbrev pub is_identifier : List ℕ → Bool
is_identifier text = begins is_letter text && (list_all is_word text && not (is_reserved text))
