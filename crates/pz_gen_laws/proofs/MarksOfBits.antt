-- The marks of the tokens of bits.
use Rattle.std.proofs.Common.{◌≡◌, refl, ◌∙◌, ap, List, [], ◌∷◌, map, pos}
use Rattle.pz_classes_rules.specs.pz_syntax.declared.tokens.Pos.{Pos}
use Rattle.pz_classes_rules.specs.pz_syntax.declared.tokens.TokenKind.{TokenKind}
use Rattle.pz_classes_rules.specs.pz_syntax.declared.tokens.Mark.{Mark}
use Rattle.pz_classes_rules.specs.pz_syntax.Heads.{role, is_head, heads}
use Rattle.pz_lexer.specs.Numbers.{value_of}
use Rattle.pz_lexer.specs.Places.{origin, place_after}
use Rattle.pz_lexer.specs.Tokens.{Placed, placed, tokens_of}
use Rattle.pz_lexer.specs.Tokens as lexed
use Rattle.pz_lexer.specs.Words.{word_kind}
use Rattle.pz_parser_cursor.specs.devices.Input.{marks}
use Rattle.pz_gen.specs.Ring as ring
use Rattle.pz_gen_laws.specs.devices.Bits.{Bit, blank, word, number, sign, station, piece_of, symbol_of}
use Rattle.pz_gen_laws.specs.devices.Marks.{kinds, roles, marked, marks_of}

module _ where
  kinds_placed : (bs : List Bit) (p : Pos) → map (λ (t : Placed). t.kind) (placed p (map piece_of bs)) ≡ kinds bs
  kinds_placed [] p = refl
  kinds_placed (blank b ∷ bs) p = kinds_placed bs (place_after p (b ∷ []))
  kinds_placed (word w ∷ bs) p = ap (λ (ks : List TokenKind). word_kind w ∷ ks) (kinds_placed bs (place_after p w))
  kinds_placed (number w ∷ bs) p = ap (λ (ks : List TokenKind). TokenKind.Int (pos (value_of w)) ∷ ks) (kinds_placed bs (place_after p w))
  kinds_placed (sign w ∷ bs) p = ap (λ (ks : List TokenKind). TokenKind.Sym (symbol_of w) ∷ ks) (kinds_placed bs (place_after p w))
  kinds_placed (station i ∷ bs) p = ap (λ (ks : List TokenKind). TokenKind.Ident (ring.name i) ∷ ks) (kinds_placed bs (place_after p (ring.name i)))

  marks_marked : (ts : List Placed) → marks (lexed.marked ts (heads (map (λ (t : Placed). t.kind) ts))) ≡ marked (map (λ (t : Placed). t.kind) ts)
  marks_marked [] = refl
  marks_marked (t ∷ ts) =
      ap (λ (ms : List Mark). record { kind = t.kind; head = is_head (role t.kind) (roles (map (λ (u : Placed). u.kind) ts)) } ∷ ms) (marks_marked ts)

  pub marks_are : (bs : List Bit) → marks (tokens_of (map piece_of bs)) ≡ marks_of bs
  marks_are bs = marks_marked (placed origin (map piece_of bs)) ∙ ap marked (kinds_placed bs origin)
