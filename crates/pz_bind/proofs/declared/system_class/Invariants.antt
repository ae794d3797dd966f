use Rattle.std.proofs.Common.{◌≡◌, suc, map, drop}
use Rattle.pz_bind_rules.specs.pz_syntax.ClassView.{decl_view}
use Rattle.pz_bind_rules.specs.Nest.{first_system}
use Rattle.pz_bind.proofs.declared.system_class.Given as goal

abbrev pub invariant-loop-index : goal.invariant-loop-index
invariant-loop-index l = first_system (suc l.index) (map decl_view (drop l.index l.decls)) ≡ first_system 1 (map decl_view l.decls)
