use Rattle.std.proofs.Common.{◌≡◌, ◌++◌, map}
use Rattle.pz_syntax.specs.ClassView.{decl_view}
use Rattle.pz_env_tree.specs.pz_env_rules.Environment.{lines_of}
use Rattle.pz_env_tree.specs.ClosedTree.{closed_decl}
use Rattle.pz_env.proofs.closing.closed_decls.Given as goal

abbrev pub invariant-loop-decl : goal.invariant-loop-decl
invariant-loop-decl l =
    map decl_view l.closed ++ map (closed_decl (lines_of l.entries)) (map decl_view l.decl-iterator.rest.items) ≡ map (closed_decl (lines_of l.entries)) (map decl_view l.fn.decls)
