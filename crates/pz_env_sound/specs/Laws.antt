-- The tree of a system that a script may close violates no rule, opens, and has few marks.
use Rattle.std.specs.Prelude.{List}
use Rattle.pz_env_tree.specs.pz_syntax.ModelText.{HasFewMarks}
use Rattle.pz_env_tree.specs.pz_syntax.Classes.{ModelTree}
use Rattle.pz_env_tree.specs.pz_classes_rules.Soundness.{IsSound}
use Rattle.pz_classes_openings.specs.OpeningRules.{Opens}
use Rattle.pz_env_tree.specs.pz_env_script.declared.entry.Entry.{Entry}
use Rattle.pz_env_tree.specs.ClosedTree.{closed_tree}
use Rattle.pz_env_sound.specs.MayClose.{MayClose}

abbrev pub ClosedTreesAreSound : Type 0
ClosedTreesAreSound = (m : ModelTree) (script : List Entry) → MayClose m script → IsSound (closed_tree m script)

abbrev pub ClosedTreesOpen : Type 0
ClosedTreesOpen = (m : ModelTree) (script : List Entry) → MayClose m script → Opens (closed_tree m script)

abbrev pub ClosedTreesHaveFewMarks : Type 0
ClosedTreesHaveFewMarks = (m : ModelTree) (script : List Entry) → MayClose m script → HasFewMarks (closed_tree m script)
