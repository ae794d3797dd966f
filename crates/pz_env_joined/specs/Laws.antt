-- Laws of closed models, of a sound model whose openings end and are not too large, and of a script that may
-- drive its system.
use Rattle.std.specs.Prelude.{◌<◌, ◌^◌, List, length}
use Rattle.pz_env_mimics.specs.pz_syntax.Classes.{ModelTree}
use Rattle.pz_env_mimics.specs.pz_classes_rules.Soundness.{IsSound}
use Rattle.pz_classes_openings.specs.OpeningRules.{Opens}
use Rattle.pz_env_mimics.specs.pz_rules.declared.limits.Limits.{Limits}
use Rattle.pz_env_mimics.specs.pz_env_script.declared.entry.Entry.{Entry}
use Rattle.pz_env_mimics.specs.pz_env_script.Scripts.{IsWritten}
use Rattle.pz_env_mimics.specs.pz_env_rules.Environment.{lines_of}
use Rattle.pz_env_mimics.specs.pz_env_rules.Joining.{joined, driving}
use Rattle.pz_env_mimics.specs.pz_env_tree.ClosedTree.{closed_tree}
use Rattle.pz_env_same.specs.SameRules.{SameRules}
use Rattle.pz_env_mimics.specs.Environments.{HasEnvironment}
use Rattle.pz_env_mimics.specs.Closing.{MayDrive, Closes}
use Rattle.pz_env_joined.specs.OneMore.{IsAccepted, HasOneMore}

-- The closed model has the rules of the model with the further channels, and one process more.
abbrev pub ClosedHasSameRules : Type 0
ClosedHasSameRules = (m : ModelTree) (script : List Entry) → IsSound m → Opens m → IsAccepted m script
    → SameRules (joined m (lines_of script)) (closed_tree m script)

-- Its classes, processes and wires are those that were there, and behind them those of the environment.
abbrev pub ClosedHasOneMore : Type 0
ClosedHasOneMore = (m : ModelTree) (script : List Entry) → IsSound m → IsAccepted m script
    → HasOneMore m (lines_of script)

-- That process is the environment of the driven system, where 64 bits number the lines of the script.
abbrev pub ClosedHasEnvironment : Type 0
ClosedHasEnvironment = (m : ModelTree) (script : List Entry) (limits : Limits) → IsSound m → Opens m → IsAccepted m script
    → length script < 2 ^ 64 → HasEnvironment (driving m script limits) (closed_tree m script)

-- So it closes the driven system: the runs of both are the same, by the laws of `pz_env_mimics`.
abbrev pub ClosedTreeCloses : Type 0
ClosedTreeCloses = (m : ModelTree) (script : List Entry) (limits : Limits) → IsSound m → Opens m → IsWritten script → IsAccepted m script
    → MayDrive limits → Closes (driving m script limits) (closed_tree m script)
