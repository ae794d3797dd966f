-- What is written of a run while it goes on: of each event what goes with it, which may depend on those
-- before it.
use Rattle.std.specs.Prelude.{ℕ, List, [], ◌∷◌, ◌++◌, length}
use Rattle.pz_rules.specs.pz_syntax.Classes.{ModelTree}
use Rattle.pz_rules.specs.Runs.{Event}
use Rattle.pz_watch_points.specs.pz_trace.TraceText.{event_line}
use Rattle.pz_watch.specs.Files.{NamedFormula}
use Rattle.pz_watch.specs.Breaking.{broken_at, broken_lines}
use Rattle.pz_watch_points.specs.EventPoints.{points_of}

-- what is written for an event behind these
abbrev pub Saying : Type 0
Saying = List Event → Event → List ℕ

abbrev pub silence : Saying
silence past e = []

-- its line
abbrev pub line_of : ModelTree → Saying
line_of m past e = event_line m e

-- its line, and a line for each watch that is broken at its point
abbrev pub judged_line : ModelTree → List NamedFormula → Saying
judged_line m ws past e = event_line m e ++ broken_lines (broken_at ws (points_of m (past ++ e ∷ [])) (length past))

-- what is written for these events, which come behind those
abbrev pub said_after : Saying → List Event → List Event → List ℕ
said_after say past [] = []
said_after say past (e ∷ events) = say past e ++ said_after say (past ++ e ∷ []) events
