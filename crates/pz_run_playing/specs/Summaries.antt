-- One line for a whole run.
use Rattle.std.specs.Prelude.{ℕ, ◌+◌, List, [], ◌∷◌, ◌++◌, codes}
use Rattle.std.specs.Fmt.{decimal}
use Rattle.pz_rules.specs.pz_syntax.Classes.{ModelTree}
use Rattle.pz_rules.specs.Runs.{Event, acted, passed, Ending}
use Rattle.pz_watch_points.specs.pz_trace.Lines.{newline}
use Rattle.pz_run_playing.specs.Endings.{ending_words}

-- how many actions there were, one that ended in a trouble included
abbrev pub actions_in : List Event → ℕ
actions_in [] = 0
actions_in (acted clock count number action ∷ events) = actions_in events + 1
actions_in (passed clock time ∷ events) = actions_in events

-- how often time passed
abbrev pub passings_in : List Event → ℕ
passings_in [] = 0
passings_in (acted clock count number action ∷ events) = passings_in events
passings_in (passed clock time ∷ events) = passings_in events + 1

-- `actions A passes P clock C words`
abbrev pub summary_of : ModelTree → ℕ → ℕ → ℕ → Ending → List ℕ
summary_of m actions passes clock ending =
    codes "actions " ++ (decimal actions ++ (codes " passes " ++ (decimal passes ++ (codes " clock " ++ (decimal clock ++ (codes " " ++ (ending_words m ending ++ newline)))))))

-- of these events, and then this ending at this clock
abbrev pub summary_line : ModelTree → List Event → ℕ → Ending → List ℕ
summary_line m events clock ending = summary_of m (actions_in events) (passings_in events) clock ending
