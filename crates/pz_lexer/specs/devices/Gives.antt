-- For private functions: what they give, against the computed step.
use Rattle.std.specs.Prelude.{◌≡◌, ℕ, length, Result, Ok, Err}
use Rattle.pz_syntax.specs.declared.tokens.TokenKind.{TokenKind}
use Rattle.pz_syntax.specs.declared.tokens.Symbol.{Symbol}
use Rattle.pz_lexer.specs.declared.sorts.Sort.{Sort}
use Rattle.pz_lexer.specs.declared.sorts.Found.{Found}
use Rattle.pz_lexer.specs.declared.sorts.Stop.{Stop}
use Rattle.pz_lexer.specs.declared.items.Inside.{Inside as Seen}
use Rattle.pz_lexer.specs.devices.Step.{Step, piece, stop}
use Rattle.pz_lexer.specs.devices.QuotedStep.{Inside, item, no_escape, closing, cut_off}

-- it finds the piece, or stops where the step does, unless memory runs out
abbrev pub Gives : Step → Result Found Stop → Type 0
Gives (piece text sort rest) (Ok found) = (found.len ≡ length text) × (found.sort ≡ sort)
Gives (piece text sort rest) (Err Stop.NoMemory) = Unit {0}
Gives (piece text sort rest) (Err (Stop.Refused reason at)) = ⊥
Gives (stop before rest reason) (Ok found) = ⊥
Gives (stop before rest reason) (Err Stop.NoMemory) = Unit {0}
Gives (stop before rest reason) (Err (Stop.Refused why at)) = (why ≡ reason) × (at ≡ length before)

-- a symbol of so many bytes
abbrev pub found_symbol : ℕ → Symbol → Found
found_symbol len symbol = record { sort = Sort.Token (TokenKind.Sym symbol); len = len }

-- it sees what stands there
abbrev pub Sees : Inside → Seen → Type 0
Sees (item text value rest) (Seen.Item seen len) = (seen ≡ value) × (len ≡ length text)
Sees no_escape Seen.NoEscape = Unit {0}
Sees closing Seen.Closing = Unit {0}
Sees cut_off Seen.CutOff = Unit {0}
Sees _ _ = ⊥
