-- Bits, and the marks of their tokens.
use Rattle.std.specs.Prelude.{List, [], ◌∷◌, ◌++◌, map}
use Rattle.pz_classes_rules.specs.pz_syntax.declared.tokens.TokenKind.{TokenKind}
use Rattle.pz_classes_rules.specs.pz_syntax.declared.tokens.Mark.{Mark}
use Rattle.pz_classes_rules.specs.pz_syntax.Heads.{Role, role, is_head}
use Rattle.pz_lexer.specs.declared.sorts.Sort.{Sort}
use Rattle.pz_gen_laws.specs.devices.Bits.{Bit, sort_of}

abbrev pub kind_of : Sort → List TokenKind
kind_of (Sort.Token kind) = kind ∷ []
kind_of Sort.Blank = []
kind_of Sort.LineComment = []
kind_of Sort.BlockComment = []

-- what the tokens among bits are
abbrev pub kinds : List Bit → List TokenKind
kinds [] = []
kinds (b ∷ bs) = kind_of (sort_of b) ++ kinds bs

abbrev pub roles : List TokenKind → List Role
roles ks = map role ks

-- each a head or not by what follows it
abbrev pub marked : List TokenKind → List Mark
marked [] = []
marked (k ∷ ks) = record { kind = k; head = is_head (role k) (roles ks) } ∷ marked ks

abbrev pub marks_of : List Bit → List Mark
marks_of bs = marked (kinds bs)
