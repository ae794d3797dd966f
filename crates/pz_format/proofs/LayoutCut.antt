-- A layout is cut into what was written and blanks.
use Rattle.std.proofs.Common.{◌≡◌, ℕ, zero, suc, List, [], ◌∷◌, ◌++◌, map, Bool, true, false, refl, sym, ◌∙◌, ap, ap₂, subst}
use Rattle.std.specs.Prelude.{if◌then◌else◌, codes}
use Rattle.std.specs.List.{list_all}
use Rattle.std.proofs.lemmas.Bool.{and_parts}
use Rattle.std.proofs.lemmas.List.{append-nil}
use Rattle.pz_syntax.specs.declared.tokens.Pos.{Pos}
use Rattle.pz_syntax.specs.declared.tokens.Token.{Token}
use Rattle.pz_syntax.specs.declared.tokens.TokenKind.TheVariants as kind
use Rattle.pz_syntax.specs.declared.tokens.Symbol.TheVariants as s
use Rattle.pz_lexer.specs.declared.sorts.Sort.{Sort}
use Rattle.pz_lexer.specs.declared.kept.Piece.{Piece as Kept}
use Rattle.pz_lexer.specs.Bytes.{is_blank, is_digit, begins}
use Rattle.pz_lexer.specs.Comments.{is_in_line, IsBlockComment}
use Rattle.pz_lexer.specs.Pieces.{IsPiece, a_blank, a_line_comment, a_block_comment, Piece, joined, ArePieces}
use Rattle.pz_lexer.specs.Places.{origin, place_after}
use Rattle.pz_lexer.specs.Kept.{trimmed}
use Rattle.pz_lexer.specs.devices.Cutting.{unmarked_piece, unmarked}
use Rattle.pz_format.specs.declared.levels.Level.{Level}
use Rattle.pz_format.specs.Writing.{kind_text, piece_text}
use Rattle.pz_format.specs.Lines.{begins_line}
use Rattle.pz_format.specs.Levels.{start, behind, depth, indent, blanks}
use Rattle.pz_format.specs.Blanks.{are_joined}
use Rattle.pz_format.specs.Layout.{gap, text_behind, layout}
use Rattle.pz_format.specs.ReadingBack.{merge, StandApartBehind, StandApart}
use Rattle.pz_format.proofs.WrittenTokens.{IsReadable, Stands, kind_piece}
use Rattle.pz_format.proofs.Joined.{stands_newline, stands_space, stands_joined, dot_front}

-- what is known of a piece that was read
abbrev pub IsReadablePiece : Kept → Type 0
IsReadablePiece (Kept.Token t) = IsReadable t.mark.kind
IsReadablePiece (Kept.Line text) = (body : List ℕ) × (text ≡ 47 ∷ 47 ∷ body) × (list_all is_in_line body ≡ true) × (trimmed text ≡ text)
IsReadablePiece (Kept.Block text) = IsBlockComment text

abbrev pub AreReadable : List Kept → Type 0
AreReadable [] = Unit {0}
AreReadable (x ∷ xs) = IsReadablePiece x × AreReadable xs

-- what stands between two pieces begins with an LF, is a blank, or is nothing
gap_cases : (P : List ℕ → Type 0) (level : Level) (p x : Kept) (more : List ℕ) → ((bs : List ℕ) → P (10 ∷ bs)) → P (32 ∷ more) → (are_joined p x ≡ true → P more) → P (gap level p x ++ more)
gap_cases P level p x more line space nothing = by (begins_line p x) (are_joined p x) refl
  where
    by : (a b : Bool) → are_joined p x ≡ b → P ((if a then codes "\n" ++ blanks (indent (depth level x)) else (if b then [] else codes " ")) ++ more)
    by true b e = line (blanks (indent (depth level x)) ++ more)
    by false true e = nothing e
    by false false e = space

-- no number stands behind a `.`
dot_behind : (level : Level) (t : Token) (xs : List Kept) → t.mark.kind ≡ kind.Sym s.Dot → AreReadable xs → StandApartBehind (Kept.Token t) xs → begins is_digit (text_behind level (Kept.Token t) xs) ≡ false
dot_behind level t [] e are apart = refl
dot_behind level t (Kept.Token u ∷ xs) e are apart =
    let more = kind_text u.mark.kind ++ text_behind (behind level (Kept.Token u)) (Kept.Token u) xs in
    gap_cases (λ l. begins is_digit l ≡ false) level (Kept.Token t) (Kept.Token u) more (λ bs. refl) refl
    (λ j. dot_front u.mark.kind (text_behind (behind level (Kept.Token u)) (Kept.Token u) xs) (subst (λ k. merge k u.mark.kind ≡ false) e apart.0) are.0)
dot_behind level t (Kept.Line text ∷ xs) e are apart = refl
dot_behind level t (Kept.Block text ∷ xs) e are apart = refl

-- a token ends where its text ends
stands_behind : (level : Level) (t : Token) (xs : List Kept) → AreReadable xs → StandApartBehind (Kept.Token t) xs → Stands t.mark.kind (text_behind level (Kept.Token t) xs)
stands_behind level t [] are apart = stands_newline t.mark.kind []
stands_behind level t (Kept.Token u ∷ xs) are apart =
    let rest = text_behind (behind level (Kept.Token u)) (Kept.Token u) xs in
    gap_cases (Stands t.mark.kind) level (Kept.Token t) (Kept.Token u) (kind_text u.mark.kind ++ rest) (stands_newline t.mark.kind) (stands_space t.mark.kind (kind_text u.mark.kind ++ rest))
    (λ j. stands_joined t.mark.kind u.mark.kind rest j apart.0 are.0 (λ e. dot_behind (behind level (Kept.Token u)) u xs e are.1 apart.1))
stands_behind level t (Kept.Line text ∷ xs) are apart = stands_newline t.mark.kind (blanks (indent (depth level (Kept.Line text))) ++ (text ++ text_behind (behind level (Kept.Line text)) (Kept.Line text) xs))
stands_behind level t (Kept.Block text ∷ xs) are apart = stands_newline t.mark.kind (blanks (indent (depth level (Kept.Block text))) ++ (text ++ text_behind (behind level (Kept.Block text)) (Kept.Block text) xs))

line_ends : (level : Level) (text : List ℕ) (xs : List Kept) → begins is_in_line (text_behind level (Kept.Line text) xs) ≡ false
line_ends level text [] = refl
line_ends level text (x ∷ xs) = refl

abbrev sort_of : Kept → Sort
sort_of (Kept.Token t) = Sort.Token t.mark.kind
sort_of (Kept.Line text) = Sort.LineComment
sort_of (Kept.Block text) = Sort.BlockComment

written_piece : (level : Level) (x : Kept) (xs : List Kept) → IsReadablePiece x → AreReadable xs → StandApartBehind x xs → IsPiece (piece_text x) (sort_of x) (text_behind level x xs)
written_piece level (Kept.Token t) xs is are apart = kind_piece t.mark.kind (text_behind level (Kept.Token t) xs) is (stands_behind level t xs are apart)
written_piece level (Kept.Line text) xs is are apart = a_line_comment (record { body = is.0; spelling = is.1; inside = is.2; whole = line_ends level text xs })
written_piece level (Kept.Block text) xs is are apart = a_block_comment is

-- The cut.

abbrev blank_of : ℕ → Piece
blank_of b = record { text = b ∷ []; sort = Sort.Blank }

abbrev written : Kept → Piece
written x = record { text = piece_text x; sort = sort_of x }

abbrev cut_behind : Level → Kept → List Kept → List Piece
cut_behind level p [] = blank_of 10 ∷ []
cut_behind level p (x ∷ xs) = map blank_of (gap level p x) ++ (written x ∷ cut_behind (behind level x) x xs)

abbrev pub cut_of_layout : List Kept → List Piece
cut_of_layout [] = []
cut_of_layout (x ∷ xs) = written x ∷ cut_behind (behind start x) x xs

joined_blanks : (bs : List ℕ) (ps : List Piece) → joined (map blank_of bs ++ ps) ≡ bs ++ joined ps
joined_blanks [] ps = refl
joined_blanks (b ∷ bs) ps = ap (λ l. b ∷ l) (joined_blanks bs ps)

joined_behind : (level : Level) (p : Kept) (xs : List Kept) → joined (cut_behind level p xs) ≡ text_behind level p xs
joined_behind level p [] = refl
joined_behind level p (x ∷ xs) =
    joined_blanks (gap level p x) (written x ∷ cut_behind (behind level x) x xs)
    ∙ ap (λ l. gap level p x ++ (piece_text x ++ l)) (joined_behind (behind level x) x xs)

pub joined_layout : (xs : List Kept) → joined (cut_of_layout xs) ≡ layout xs
joined_layout [] = refl
joined_layout (x ∷ xs) = ap (λ l. piece_text x ++ l) (joined_behind (behind start x) x xs)

all_blanks : (n : ℕ) → list_all is_blank (blanks n) ≡ true
all_blanks zero = refl
all_blanks (suc n) = all_blanks n

gap_blank : (level : Level) (p x : Kept) → list_all is_blank (gap level p x) ≡ true
gap_blank level p x = by (begins_line p x) (are_joined p x)
  where
    by : (a b : Bool) → list_all is_blank (if a then codes "\n" ++ blanks (indent (depth level x)) else (if b then [] else codes " ")) ≡ true
    by true b = all_blanks (indent (depth level x))
    by false true = refl
    by false false = refl

blanks_are : (bs : List ℕ) (ps : List Piece) → list_all is_blank bs ≡ true → ArePieces ps [] → ArePieces (map blank_of bs ++ ps) []
blanks_are [] ps e are = are
blanks_are (b ∷ bs) ps e are = let p = and_parts _ _ e in (a_blank p.0, blanks_are bs ps p.1 are)

one_is : (level : Level) (x : Kept) (xs : List Kept) → IsReadablePiece x → AreReadable xs → StandApartBehind x xs → IsPiece (piece_text x) (sort_of x) (joined (cut_behind level x xs) ++ [])
one_is level x xs is are apart =
    subst (IsPiece (piece_text x) (sort_of x)) (sym (append-nil (joined (cut_behind level x xs)) ∙ joined_behind level x xs)) (written_piece level x xs is are apart)

pieces_behind : (level : Level) (p : Kept) (xs : List Kept) → AreReadable xs → StandApartBehind p xs → ArePieces (cut_behind level p xs) []
pieces_behind level p [] are apart = (a_blank refl, tt)
pieces_behind level p (x ∷ xs) are apart =
    blanks_are (gap level p x) (written x ∷ cut_behind (behind level x) x xs) (gap_blank level p x)
    (one_is (behind level x) x xs are.0 are.1 apart.1, pieces_behind (behind level x) x xs are.1 apart.1)

pub pieces_layout : (xs : List Kept) → AreReadable xs → StandApart xs → ArePieces (cut_of_layout xs) []
pieces_layout [] are apart = tt
pieces_layout (x ∷ xs) are apart = (one_is (behind start x) x xs are.0 are.1 apart, pieces_behind (behind start x) x xs are.1 apart)

-- What is kept of it.

-- a piece without its place and mark
abbrev pub plain : Kept → Kept
plain (Kept.Token t) = Kept.Token (record { mark = record { kind = t.mark.kind; head = false }; pos = origin })
plain (Kept.Line text) = Kept.Line text
plain (Kept.Block text) = Kept.Block text

unmarked_blanks : (pos : Pos) (bs : List ℕ) (ps : List Piece) → (next : Pos) × (unmarked pos (map blank_of bs ++ ps) ≡ unmarked next ps)
unmarked_blanks pos [] ps = (pos, refl)
unmarked_blanks pos (b ∷ bs) ps = unmarked_blanks (place_after pos (b ∷ [])) bs ps

plain_one : (x : Kept) (pos : Pos) (rest others : List Kept) → IsReadablePiece x → map plain rest ≡ others → map plain (unmarked_piece (sort_of x) pos (piece_text x) ++ rest) ≡ plain x ∷ others
plain_one (Kept.Token t) pos rest others is e = ap (λ l. plain (Kept.Token t) ∷ l) e
plain_one (Kept.Line text) pos rest others is e = ap₂ (λ t l. Kept.Line t ∷ l) is.3 e
plain_one (Kept.Block text) pos rest others is e = ap (λ l. Kept.Block text ∷ l) e

plain_behind : (level : Level) (p : Kept) (xs : List Kept) (pos : Pos) → AreReadable xs → map plain (unmarked pos (cut_behind level p xs)) ≡ map plain xs
plain_behind level p [] pos are = refl
plain_behind level p (x ∷ xs) pos are =
    let skipped = unmarked_blanks pos (gap level p x) (written x ∷ cut_behind (behind level x) x xs) in
    let next = place_after skipped.0 (piece_text x) in
    ap (map plain) skipped.1
    ∙ plain_one x skipped.0 (unmarked next (cut_behind (behind level x) x xs)) (map plain xs) are.0 (plain_behind (behind level x) x xs next are.1)

pub plain_layout : (xs : List Kept) → AreReadable xs → map plain (unmarked origin (cut_of_layout xs)) ≡ map plain xs
plain_layout [] are = refl
plain_layout (x ∷ xs) are =
    let next = place_after origin (piece_text x) in
    plain_one x origin (unmarked next (cut_behind (behind start x) x xs)) (map plain xs) are.0 (plain_behind (behind start x) x xs next are.1)
