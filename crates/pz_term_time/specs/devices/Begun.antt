-- What becomes of a statement of which so much is left, or nothing is known.
use Rattle.std.specs.Prelude.{ℕ, ◌-◌, Option, Some, None}
use Rattle.pz_classes_code.specs.pz_syntax.declared.tokens.Pos.{Pos}
use Rattle.pz_rules.specs.Terms.{Step, Term, leaf, wait}

abbrev pub begun_with : ℕ → Pos → Step → Option ℕ → Term
begun_with d at s None = leaf s
begun_with d at s (Some left) = wait (left - d) at
