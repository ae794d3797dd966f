-- Frames without outputs.
use Rattle.std.specs.Prelude.{Bool, true, false, []}
use Rattle.pz_rules.specs.Terms.{Term, frame}

abbrev pub is_bare : Term → Bool
is_bare (frame number inputs [] t) = true
is_bare _ = false
