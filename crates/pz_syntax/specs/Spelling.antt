-- How names are kept.
use Rattle.std.specs.Prelude.{ℕ, List, string_bytes}
use Rattle.pz_syntax.specs.declared.names.Spelling.{Spelling}
use Rattle.pz_syntax.specs.declared.names.Spelling.TheVariants.{Short, Long}

abbrev pub spelled : Spelling → List ℕ
spelled (Short text) = text.bytes
spelled (Long text) = string_bytes text
