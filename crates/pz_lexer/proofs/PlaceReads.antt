-- Places, byte by byte and piece by piece.
use Rattle.std.proofs.Common.{◌≡◌, ℕ, ◌+◌, ◌≤◌, List, [], ◌∷◌, ◌++◌, length, Bool, true, false, refl, arith}
use Rattle.std.specs.Prelude.{◌==◌}
use Rattle.pz_syntax.specs.declared.tokens.Pos.{Pos}
use Rattle.pz_lexer.specs.Places.{after_byte, place_after}

pub place_after-append : (pos : Pos) (a b : List ℕ) → place_after pos (a ++ b) ≡ place_after (place_after pos a) b
place_after-append pos [] b = refl
place_after-append pos (x ∷ a) b = place_after-append (after_byte pos x) a b

-- no text goes further than its length
pub place_bound : (pos : Pos) (text : List ℕ) → 1 ≤ pos.column → ((place_after pos text).line ≤ pos.line + length text) × ((place_after pos text).column ≤ pos.column + length text)
place_bound pos [] some = (omega arith, omega arith)
place_bound pos (b ∷ bs) some = by (b == 10) refl (λ p. place_bound p bs)
  where
    by : (t : Bool) → (b == 10) ≡ t → ((p : Pos) → 1 ≤ p.column → ((place_after p bs).line ≤ p.line + length bs) × ((place_after p bs).column ≤ p.column + length bs)) → ((place_after (after_byte pos b) bs).line ≤ pos.line + length (b ∷ bs)) × ((place_after (after_byte pos b) bs).column ≤ pos.column + length (b ∷ bs))
    by true e others = rw e (let h = others (record { line = pos.line + 1; column = 1 }) (omega arith) in (omega (arith, h.0), omega (arith, h.1)))
    by false e others = rw e (let h = others (record { line = pos.line; column = pos.column + 1 }) (omega arith) in (omega (arith, h.0), omega (arith, h.1)))
