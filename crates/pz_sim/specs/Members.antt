-- Trees as the processes of a system.
use Rattle.std.specs.Prelude.{List, map}
use Rattle.pz_rules.specs.pz_syntax.Classes.{ModelTree}
use Rattle.pz_sim_laws.specs.Members.{Member}
use Rattle.pz_tree.specs.declared.tree.Tree.{Tree}
use Rattle.pz_tree.specs.Trees.{at_in, term_in}

-- the process of a tree, with how its statements see it
abbrev pub member_of : ModelTree → Tree → Member
member_of m t = record { seen = at_in m t; term = term_in t }

abbrev pub members_of : ModelTree → List Tree → List Member
members_of m ts = map (member_of m) ts
