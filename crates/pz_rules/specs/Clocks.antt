-- How far the clock comes in a run.
use Rattle.std.specs.Prelude.{◌≡◌, ℕ, suc, ◌<◌, ◌≤◌, ◌^◌, List, [], ◌∷◌}
use Rattle.pz_bind_rules.specs.pz_syntax.ModelText.{HasFewMarks}
use Rattle.pz_bind_rules.specs.pz_classes_rules.Soundness.{IsSound}
use Rattle.pz_classes_openings.specs.OpeningRules.{Opens}
use Rattle.pz_rules.specs.declared.limits.Edition.TheVariants.{Two}
use Rattle.pz_rules.specs.Settings.{Setting}
use Rattle.pz_rules.specs.Configurations.{Config}
use Rattle.pz_rules.specs.Starting.{IsStart}
use Rattle.pz_rules.specs.Runs.{Event, acted, passed, Standing, Reaches}

-- how many of the events are actions
abbrev pub actions_in : List Event → ℕ
actions_in [] = 0
actions_in (acted clock count number action ∷ events) = suc (actions_in events)
actions_in (passed clock time ∷ events) = actions_in events

-- Each passing is shorter than 2^64 clock units. A passing is by what is left of a delay, which an Integer
-- says; that an Integer has 64 bits is no part of these definitions, so whoever runs a model shows it.
abbrev pub AreShort : List Event → Type 0
AreShort [] = Unit {0}
AreShort (acted clock count number action ∷ events) = AreShort events
AreShort (passed clock time ∷ events) = (time < 2 ^ 64) × AreShort events

-- the most actions of a run
abbrev pub most_actions : ℕ
most_actions = 1000000000

-- in a run of so many actions, of a model that is sound for its edition and whose text has few marks
abbrev pub ClocksStayLow : Type 0
ClocksStayLow = (setting : Setting) (start end : Config) (events : List Event) (standing : Standing) → IsSound setting.model → HasFewMarks setting.model
    → (setting.limits.edition ≡ Two → Opens setting.model)
    → IsStart setting start → Reaches setting start events end standing → AreShort events → actions_in events ≤ most_actions → end.clock < 2 ^ 127
