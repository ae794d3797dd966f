-- Systems by where they stand.
use Rattle.std.specs.Prelude.{Bool, true}
use Rattle.pz_classes.specs.pz_syntax.declared.tokens.Pos.{Pos}
use Rattle.pz_classes.specs.pz_syntax.declared.clusters.SystemDecl.{SystemDecl}

abbrev pub system_place : SystemDecl → Pos
system_place s = s.pos

abbrev pub any_two_systems : SystemDecl → SystemDecl → Bool
any_two_systems s t = true
