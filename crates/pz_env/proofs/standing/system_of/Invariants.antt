use Rattle.std.proofs.Common.{◌≡◌, map, drop}
use Rattle.pz_syntax.specs.ClassView.{decl_view}
use Rattle.pz_env.specs.devices.Standing.{first_of}
use Rattle.pz_env.proofs.standing.system_of.Given as goal

abbrev pub invariant-loop-decl : goal.invariant-loop-decl
invariant-loop-decl l = first_of (map decl_view (drop l.decl-index l.model.decls)) ≡ first_of (map decl_view l.model.decls)
