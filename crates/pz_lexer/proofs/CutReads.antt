-- A text cut from left to right.
use Rattle.std.proofs.Common.{◌≡◌, ◌⊎◌, inl, inr, ℕ, ◌+◌, ◌≤◌, List, [], ◌∷◌, ◌++◌, length, take, drop, map, Bool, refl, sym, ◌∙◌, ap, ap₂, subst, append_assoc, arith, length-append}
use Rattle.std.proofs.lemmas.List.{take-append-drop, append-nil}
use Rattle.pz_syntax.specs.declared.tokens.Pos.{Pos}
use Rattle.pz_syntax.specs.declared.tokens.Token.{Token}
use Rattle.pz_syntax.specs.Heads.{Role, role, is_head, role_heads, heads}
use Rattle.pz_lexer.specs.declared.sorts.Sort.{Sort}
use Rattle.pz_lexer.specs.declared.kept.Piece.{Piece as Kept}
use Rattle.pz_lexer.specs.declared.sorts.Found.{Found}
use Rattle.pz_lexer.specs.declared.sorts.Stop.{Stop}
use Rattle.pz_lexer.specs.declared.error.LexError.{LexError}
use Rattle.pz_lexer.specs.Pieces.{IsPiece, Piece, joined, ArePieces}
use Rattle.pz_lexer.specs.Places.{origin, place_after}
use Rattle.pz_lexer.specs.Tokens.{Placed, kept, placed, marked, AreTokens, error_at, IsRefused}
use Rattle.pz_lexer.specs.devices.Reading.{StopsAt, IsFound}
use Rattle.pz_lexer.specs.Kept.{trimmed, kept_before, with_comments, AreKept, tokens_among}
use Rattle.pz_lexer.specs.devices.Marking.{roles_of, with_heads}
use Rattle.pz_lexer.specs.devices.Cutting.{unmarked_piece, unmarked, AreCutInto, Refuses}
use Rattle.pz_lexer.proofs.PlaceReads.{place_after-append, place_bound}

joined-append : (ps qs : List Piece) → joined (ps ++ qs) ≡ joined ps ++ joined qs
joined-append [] qs = refl
joined-append (p ∷ ps) qs = ap (λ t. p.text ++ t) (joined-append ps qs) ∙ sym (append_assoc p.text (joined ps) (joined qs))

are_pieces-append : (ps qs : List Piece) (rest : List ℕ) → ArePieces ps (joined qs ++ rest) → ArePieces qs rest → ArePieces (ps ++ qs) rest
are_pieces-append [] qs rest are others = others
are_pieces-append (p ∷ ps) qs rest are others = (
  subst (IsPiece p.text p.sort) (sym (append_assoc (joined ps) (joined qs) rest) ∙ ap (λ t. t ++ rest) (sym (joined-append ps qs))) are.0,
  are_pieces-append ps qs rest are.1 others,
)

unmarked-append : (pos : Pos) (ps qs : List Piece) → unmarked pos (ps ++ qs) ≡ unmarked pos ps ++ unmarked (place_after pos (joined ps)) qs
unmarked-append pos [] qs = refl
unmarked-append pos (p ∷ ps) qs =
    ap (λ t. unmarked_piece p.sort pos p.text ++ t) (unmarked-append (place_after pos p.text) ps qs ∙ ap (λ x. unmarked (place_after pos p.text) ps ++ unmarked x qs) (sym (place_after-append pos p.text (joined ps))))
    ∙ sym (append_assoc (unmarked_piece p.sort pos p.text) (unmarked (place_after pos p.text) ps) (unmarked (place_after pos (p.text ++ joined ps)) qs))

-- the front of the text is cut, and these are its tokens and comments and the place of the rest
pub record CutTo (text rest : List ℕ) (pos : Pos) (kept : List Kept) : Type 0 where
  pub pieces : List Piece
  pub spelling : joined pieces ++ rest ≡ text
  pub cut : ArePieces pieces rest
  pub kept_are : kept ≡ unmarked origin pieces
  pub place : pos ≡ place_after origin (joined pieces)

pub cut_start : (text : List ℕ) (kept : List Kept) → kept ≡ [] → CutTo text text origin kept
cut_start text kept none = record { pieces = []; spelling = refl; cut = tt; kept_are = none; place = refl }

module _ (text rest : List ℕ) (pos : Pos) (kept : List Kept) (is : CutTo text rest pos kept) where
  pub cut_bounds : (pos.line + length rest ≤ length text + 1) × (pos.column + length rest ≤ length text + 1)
  cut_bounds =
      let bound = place_bound origin (joined is.pieces) (omega arith) in (
        omega (arith, bound.0, ap (λ (p : Pos). p.line) is.place, ap length is.spelling, length-append (joined is.pieces) rest),
        omega (arith, bound.1, ap (λ (p : Pos). p.column) is.place, ap length is.spelling, length-append (joined is.pieces) rest),
      )

  pub cut_more : (found : Found) (front after : List ℕ) (next : Pos) (more : List Kept) → IsFound rest found → front ≡ take found.len rest → after ≡ drop found.len rest → more ≡ kept ++ unmarked_piece found.sort pos front → next ≡ place_after pos front → CutTo text after next more
  cut_more found front after next more here front_is after_is more_is next_is = record {
    pieces = is.pieces ++ one ∷ [];
    spelling =
        ap (λ t. t ++ after) joined_is
        ∙ append_assoc (joined is.pieces) front after
        ∙ ap (λ t. joined is.pieces ++ t) whole ∙ is.spelling;
    cut = are_pieces-append is.pieces (one ∷ []) after
        (subst (ArePieces is.pieces) (sym (ap (λ t. t ++ after) (append-nil front) ∙ whole)) is.cut)
        (subst (λ t. IsPiece t found.sort after) (sym front_is) (subst (IsPiece (take found.len rest) found.sort) (sym after_is) here.piece), tt);
    kept_are =
        more_is
        ∙ ap₂ (λ x y. x ++ unmarked_piece found.sort y front) is.kept_are is.place
        ∙ ap (λ t. unmarked origin is.pieces ++ t) (sym (append-nil (unmarked_piece found.sort (place_after origin (joined is.pieces)) front)))
        ∙ sym (unmarked-append origin is.pieces (one ∷ []));
    place = next_is ∙ ap (λ p. place_after p front) is.place ∙ sym (ap (place_after origin) joined_is ∙ place_after-append origin (joined is.pieces) front);
  }
    where
      one : Piece
      one = record { text = front; sort = found.sort }

      joined_is : joined (is.pieces ++ one ∷ []) ≡ joined is.pieces ++ front
      joined_is = joined-append is.pieces (one ∷ []) ∙ ap (λ t. joined is.pieces ++ t) (append-nil front)

      whole : front ++ after ≡ rest
      whole = ap₂ (λ x y. x ++ y) front_is after_is ∙ take-append-drop found.len rest

  pub cut_stop : (stop : Stop) (error : LexError) → StopsAt rest stop → Refuses stop pos rest error → (error ≡ LexError.NoMemory) ⊎ IsRefused text error
  cut_stop Stop.NoMemory error stops refuses = inl refuses
  cut_stop (Stop.Refused reason at) error stops refuses =
      let whole = take-append-drop at rest in
      inr (record {
        pieces = is.pieces;
        before = take at rest;
        rest = drop at rest;
        reason = reason;
        spelling = ap (λ t. joined is.pieces ++ t) whole ∙ is.spelling;
        cut = subst (ArePieces is.pieces) (sym whole) is.cut;
        stops = stops.1;
        error = ap (error_at reason) (place_after-append origin (joined is.pieces) (take at rest) ∙ ap (λ p. place_after p (take at rest)) (sym is.place)) ∙ sym refuses;
      })

-- Marking the tokens gives those of the definition.

roles_unmarked : (pos : Pos) (ps : List Piece) → roles_of (unmarked pos ps) ≡ map role (map (λ t. t.kind) (placed pos ps))
roles_unmarked pos [] = refl
roles_unmarked pos (p ∷ ps) = by p.sort (roles_unmarked (place_after pos p.text) ps)
  where
    next : Pos
    next = place_after pos p.text

    by : (sort : Sort) → roles_of (unmarked next ps) ≡ map role (map (λ t. t.kind) (placed next ps)) → roles_of (unmarked_piece sort pos p.text ++ unmarked next ps) ≡ map role (map (λ t. t.kind) (kept sort pos ++ placed next ps))
    by Sort.Blank others = others
    by Sort.LineComment others = others
    by Sort.BlockComment others = others
    by (Sort.Token kind) others = ap (λ l. role kind ∷ l) others

-- the roles of the tokens of pieces, as the definition has them
abbrev roles_in : Pos → List Piece → List Role
roles_in pos ps = map role (map (λ t. t.kind) (placed pos ps))

pub heads_unmarked : (pos : Pos) (ps : List Piece) → with_heads (unmarked pos ps) ≡ with_comments ps (marked (placed pos ps) (role_heads (roles_in pos ps)))
heads_unmarked pos [] = refl
heads_unmarked pos (p ∷ ps) = by p.sort (heads_unmarked (place_after pos p.text) ps)
  where
    next : Pos
    next = place_after pos p.text

    by : (sort : Sort) → with_heads (unmarked next ps) ≡ with_comments ps (marked (placed next ps) (role_heads (roles_in next ps))) → with_heads (unmarked_piece sort pos p.text ++ unmarked next ps) ≡ kept_before sort p.text (marked (kept sort pos ++ placed next ps) (role_heads (map role (map (λ t. t.kind) (kept sort pos ++ placed next ps))))) (with_comments ps)
    by Sort.Blank others = others
    by Sort.LineComment others = ap (λ l. Kept.Line (trimmed p.text) ∷ l) others
    by Sort.BlockComment others = ap (λ l. Kept.Block p.text ∷ l) others
    by (Sort.Token kind) others =
        ap₂ (λ r l. Kept.Token (record { mark = record { kind = kind; head = is_head (role kind) r }; pos = pos }) ∷ l) (roles_unmarked next ps) others

pub kept_marked : (text : List ℕ) (old new : List Kept) → AreCutInto text old → new ≡ with_heads old → AreKept text new
kept_marked text old new is new_is = record {
  pieces = is.pieces;
  spelling = is.spelling;
  cut = is.cut;
  kept_are = sym (new_is ∙ ap with_heads is.kept_are ∙ heads_unmarked origin is.pieces);
}

-- The tokens among them.

marked-none : (ts : List Placed) → marked ts [] ≡ []
marked-none [] = refl
marked-none (t ∷ ts) = refl

none_among : (ps : List Piece) → tokens_among (with_comments ps []) ≡ []
none_among [] = refl
none_among (p ∷ ps) = by p.sort (none_among ps)
  where
    by : (sort : Sort) → tokens_among (with_comments ps []) ≡ [] → tokens_among (kept_before sort p.text [] (with_comments ps)) ≡ []
    by Sort.Blank others = others
    by Sort.LineComment others = others
    by Sort.BlockComment others = others
    by (Sort.Token kind) others = others

among : (pos : Pos) (ps : List Piece) (hs : List Bool) → tokens_among (with_comments ps (marked (placed pos ps) hs)) ≡ marked (placed pos ps) hs
among pos [] hs = refl
among pos (p ∷ ps) hs = by p.sort hs (among (place_after pos p.text) ps)
  where
    next : Pos
    next = place_after pos p.text

    by : (sort : Sort) (hs : List Bool) → ((hs : List Bool) → tokens_among (with_comments ps (marked (placed next ps) hs)) ≡ marked (placed next ps) hs) → tokens_among (kept_before sort p.text (marked (kept sort pos ++ placed next ps) hs) (with_comments ps)) ≡ marked (kept sort pos ++ placed next ps) hs
    by Sort.Blank hs others = others hs
    by Sort.LineComment hs others = others hs
    by Sort.BlockComment hs others = others hs
    by (Sort.Token kind) [] others = none_among ps
    by (Sort.Token kind) (h ∷ hs) others = ap (λ l. record { mark = record { kind = kind; head = h }; pos = pos } ∷ l) (others hs)

pub tokens_kept : (text : List ℕ) (kept : List Kept) → AreKept text kept → AreTokens text (tokens_among kept)
tokens_kept text kept are = record {
  pieces = are.pieces;
  spelling = are.spelling;
  cut = are.cut;
  kept = sym (ap tokens_among (sym are.kept_are) ∙ among origin are.pieces (heads (map (λ t. t.kind) (placed origin are.pieces))));
}
