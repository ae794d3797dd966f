-- How many actions may follow where a simulator stands, so that the clock stays low.
use Rattle.std.specs.Prelude.{◌≡◌, ◌≤◌, ◌<◌, ◌+◌, ◌^◌, ℕ, suc}
use Rattle.pz_rules.specs.pz_syntax.ModelText.{HasFewMarks}
use Rattle.pz_rules.specs.pz_classes_rules.Soundness.{IsSound}
use Rattle.pz_classes_openings.specs.OpeningRules.{Opens}
use Rattle.pz_rules.specs.declared.limits.Edition.TheVariants.{Two}
use Rattle.pz_rules.specs.declared.moment.Moment.TheVariants.{Time}
use Rattle.pz_rules.specs.Settings.{Setting}
use Rattle.pz_rules.specs.Runs.{whole, stopped}
use Rattle.pz_rules.specs.Clocks.{most_actions}
use Rattle.pz_rules.specs.devices.Room.{HasRoom}
use Rattle.pz_term_simulator.specs.Simulations.{Simulation, stands, broken, Starts, Chooses, Passes, IsMomentOf, clock_in}

-- where an action ended in a trouble, or memory was wanting, no time passes any more
abbrev pub HasRoomFor : ℕ → Simulation → Type 0
HasRoomFor left (stands setting c whole) = HasRoom setting left c
HasRoomFor left (stands setting c (stopped trouble)) = Unit {0}
HasRoomFor left (broken setting) = Unit {0}

-- at the start, for as many actions as a run has at most; of a model that is sound for its edition, and
-- whose text has few marks
abbrev pub StartsWithRoom : Type 0
StartsWithRoom = (setting : Setting) (s : Simulation) → IsSound setting.model → HasFewMarks setting.model → (setting.limits.edition ≡ Two → Opens setting.model) → Starts setting s
    → HasRoomFor most_actions s

-- an action takes the room of one
abbrev pub ChoicesTakeRoom : Type 0
ChoicesTakeRoom = (k left : ℕ) (s t : Simulation) → HasRoomFor (suc left) s → Chooses k s t → HasRoomFor left t

-- a passing that is short takes none
abbrev pub PassingsTakeNoRoom : Type 0
PassingsTakeNoRoom = (left : ℕ) (s t : Simulation) → HasRoomFor left s → Passes s t → clock_in t < clock_in s + 2 ^ 64 → HasRoomFor left t

-- where there is room and time may pass, the clock is low; and room for more is room for fewer

abbrev pub RoomMeansLow : Type 0
RoomMeansLow = (left d : ℕ) (s : Simulation) → HasRoomFor left s → IsMomentOf s (Time d) → clock_in s < 2 ^ 127

abbrev pub LessRoomToo : Type 0
LessRoomToo = (more left : ℕ) (s : Simulation) → left ≤ more → HasRoomFor more s → HasRoomFor left s
