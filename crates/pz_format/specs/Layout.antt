-- The layout of tokens and comments.
use Rattle.std.specs.Prelude.{ℕ, List, [], ◌∷◌, ◌++◌, if◌then◌else◌, codes}
use Rattle.pz_lexer.specs.declared.kept.Piece.{Piece}
use Rattle.pz_format.specs.declared.levels.Level.{Level}
use Rattle.pz_format.specs.Writing.{piece_text}
use Rattle.pz_format.specs.Lines.{begins_line}
use Rattle.pz_format.specs.Levels.{start, behind, depth, indent, blanks}
use Rattle.pz_format.specs.Blanks.{are_joined}

-- what stands between p and x: the end of a line and the blanks that the next one begins with, one
-- blank, or nothing
abbrev pub gap : Level → Piece → Piece → List ℕ
gap level p x =
    if begins_line p x then codes "\n" ++ blanks (indent (depth level x))
    else (if are_joined p x then [] else codes " ")

-- what stands behind p, where so much is opened and closed, and these follow
abbrev pub text_behind : Level → Piece → List Piece → List ℕ
text_behind level p [] = codes "\n"
text_behind level p (x ∷ xs) = gap level p x ++ (piece_text x ++ text_behind (behind level x) x xs)

-- each line ends with LF
abbrev pub layout : List Piece → List ℕ
layout [] = []
layout (x ∷ xs) = piece_text x ++ text_behind (behind start x) x xs
