-- Lines and columns.
use Rattle.std.specs.Prelude.{ℕ, ◌+◌, List, [], ◌∷◌, ◌==◌, if◌then◌else◌}
use Rattle.pz_syntax.specs.pz_items.Characters.{byte}
use Rattle.pz_syntax.specs.declared.tokens.Pos.{Pos}

-- the place of the first byte
abbrev pub origin : Pos
origin = record { line = 1; column = 1 }

-- the place after a byte: an LF ends its line, and any other byte is one column wide
abbrev pub after_byte : Pos → ℕ → Pos
after_byte pos b = if b == byte "\n" then record { line = pos.line + 1; column = 1 } else record { line = pos.line; column = pos.column + 1 }

-- the place after a text
abbrev pub place_after : Pos → List ℕ → Pos
place_after pos [] = pos
place_after pos (b ∷ bs) = place_after (after_byte pos b) bs
