-- A text has no more tokens than bytes.
use Rattle.std.proofs.Common.{◌≡◌, sym, ap, ◌∙◌, ℕ, ◌+◌, ◌≤◌, Bool, List, [], ◌∷◌, ◌++◌, map, length, length-append, arith}
use Rattle.pz_syntax.specs.declared.tokens.Pos.{Pos}
use Rattle.pz_syntax.specs.declared.tokens.Token.{Token}
use Rattle.pz_syntax.specs.Heads.{heads}
use Rattle.pz_lexer.specs.declared.sorts.Sort.{Sort}
use Rattle.pz_lexer.specs.Pieces.{Piece, joined, ArePieces}
use Rattle.pz_lexer.specs.Places.{origin, place_after}
use Rattle.pz_lexer.specs.Tokens.{Placed, kept, placed, marked, AreTokens}
use Rattle.pz_lexer.proofs.Cuts.{piece_some}
use Rattle.pz_lexer.proofs.Steps.{some_length}

at_most_one : (sort : Sort) (pos : Pos) → length (kept sort pos) ≤ 1
at_most_one (Sort.Token kind) pos = omega arith
at_most_one Sort.Blank pos = omega arith
at_most_one Sort.LineComment pos = omega arith
at_most_one Sort.BlockComment pos = omega arith

placed_few : (pos : Pos) (ps : List Piece) → ArePieces ps [] → length (placed pos ps) ≤ length (joined ps)
placed_few pos [] are = omega arith
placed_few pos (p ∷ ps) are =
    let next = place_after pos p.text in
    let one = at_most_one p.sort pos in
    let some = some_length p.text (piece_some p.text p.sort (joined ps ++ []) are.0) in
    let rest = placed_few next ps are.1 in
    let tokens = length-append (kept p.sort pos) (placed next ps) in
    let bytes = length-append p.text (joined ps) in
    omega (arith, one, some, rest, tokens, bytes)

marked_few : (ts : List Placed) (hs : List Bool) → length (marked ts hs) ≤ length ts
marked_few [] hs = omega arith
marked_few (t ∷ ts) [] = omega arith
marked_few (t ∷ ts) (h ∷ hs) = omega (arith, marked_few ts hs)

pub no_more_tokens : (text : List ℕ) (tokens : List Token) → AreTokens text tokens → length tokens ≤ length text
no_more_tokens text tokens are =
    let ts = placed origin are.pieces in
    let few = marked_few ts (heads (map (λ t. t.kind) ts)) in
    let within = placed_few origin are.pieces are.cut in
    let same : length (marked ts (heads (map (λ t. t.kind) ts))) ≡ length tokens = ap (λ (xs : List Token). length xs) are.kept in
    let whole : length (joined are.pieces) ≡ length text = ap (λ (bs : List ℕ). length bs) are.spelling in
    omega (arith, few, within, same, whole)
