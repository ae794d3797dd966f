-- The trees that a judge has borrowed, told by numbers: it leaves them as they are.
use Rattle.std.specs.Prelude.{ℕ, List, [], ◌∷◌}
use Rattle.std.specs.Coded.{coded_list}
use base.Stored.{Gv, gnil, gnum, gcons}
use Rattle.pz_tree.specs.declared.tree.Tree.{Tree}
use Rattle.pz_tree.specs.contracts.tree.Tree as tree_row

-- a code before a list of numbers
abbrev pub flat : Gv → List ℕ → List ℕ
flat gnil ns = 0 ∷ ns
flat (gnum n) ns = 1 ∷ (n ∷ ns)
flat (gcons a b) ns = 2 ∷ flat a (flat b ns)

abbrev pub told : List Tree → List ℕ
told ts = flat ((coded_list tree_row.the_row.coded).code ts) []
