-- Laws of the points of runs.
use Rattle.std.specs.Prelude.{◌≡◌, ◌≤◌, ◌<◌, ◌^◌, ℕ, nat_eq, false, List, [], ◌∷◌, ◌++◌, length}
use Rattle.std.specs.List.{list_any}
use Rattle.pz_bind.specs.pz_syntax.Classes.{ModelTree}
use Rattle.pz_bind_levels.specs.Places.{Address}
use Rattle.pz_bind.specs.declared.net.Net.{Net}
use Rattle.pz_trace.specs.pz_bind_rules.Names.{name_at}
use Rattle.pz_bind.specs.devices.Nets.{IsNet}
use Rattle.pz_trace.specs.pz_rules.declared.action.Action.{Action}
use Rattle.pz_trace.specs.pz_rules.declared.action.Action.TheVariants.{Internal, Comm}
use Rattle.pz_trace.specs.pz_rules.Settings.{Setting}
use Rattle.pz_trace.specs.pz_rules.Configurations.{Config}
use Rattle.pz_trace.specs.pz_rules.Offers.{Offers}
use Rattle.pz_trace.specs.pz_rules.Runs.{Event, acted, passed, Standing, Reaches}
use Rattle.pz_trace.specs.Named.{IsNamed}
use Rattle.pz_trace.specs.TraceText.{event_line}
use Rattle.pz_watch.specs.Points.{Point, clock_at, AreInOrder}
use Rattle.pz_watch_points.specs.EventPoints.{event_point, points_of}
use Rattle.pz_watch_points.specs.Shown.{Shows}
use Rattle.pz_watch_points.specs.Present.{HasProcesses}

-- An action that its line names has its processes there, and so has each that is offered.
abbrev pub NamedHaveProcesses : Type 0
NamedHaveProcesses = (net : Net) (a : Action) → IsNamed net a → HasProcesses net a

abbrev pub OffersHaveProcesses : Type 0
OffersHaveProcesses = (setting : Setting) (c : Config) (net : Net) (a : Action) → ∥ IsNet setting.model net ∥₁ → Offers setting c a → HasProcesses net a

-- the clocks of the points of a run never fall
abbrev pub RunsAreInOrder : Type 0
RunsAreInOrder = (setting : Setting) (start end : Config) (events : List Event) (standing : Standing)
    → Reaches setting start events end standing → AreInOrder (points_of setting.model events)

-- all clocks lie within these two
pub record LieWithin (low high : ℕ) (points : List Point) : Type 0 where
  pub above : (i : ℕ) → i < length points → low ≤ clock_at points i
  pub below : (i : ℕ) → i < length points → clock_at points i ≤ high

-- they lie between the clock at which it starts and the one that it leads to
abbrev pub RunsLieWithin : Type 0
RunsLieWithin = (setting : Setting) (start end : Config) (events : List Event) (standing : Standing)
    → Reaches setting start events end standing → LieWithin start.clock end.clock (points_of setting.model events)

-- nor do they with one more point, at the clock that it leads to or at a later one
abbrev pub RunsGoOn : Type 0
RunsGoOn = (setting : Setting) (start end : Config) (events : List Event) (standing : Standing) (next : Point)
    → Reaches setting start events end standing → end.clock ≤ next.clock → AreInOrder (points_of setting.model events ++ next ∷ [])

-- the line of an event shows its point
abbrev pub LinesShowPoints : Type 0
LinesShowPoints = (m : ModelTree) (e : Event) → Shows (event_line m e) (event_point m e)

-- the byte does not stand in the text
abbrev pub Lacks : ℕ → List ℕ → Type 0
Lacks byte text = list_any (nat_eq byte) text ≡ false

-- no blank stands in the name of an instance
abbrev pub HasPlainNames : ModelTree → Type 0
HasPlainNames m = (up : Address) (i : ℕ) → Lacks 32 (name_at m up i)

-- no opening parenthesis, which stands behind the message, in that of a message
abbrev pub HasPlainMessage : Action → Type 0
HasPlainMessage (Internal at kind pos) = Unit {0}
HasPlainMessage (Comm wire sender receiver message parcel) = Lacks 40 message

abbrev pub HasPlainEvent : Event → Type 0
HasPlainEvent (acted clock n k a) = HasPlainMessage a
HasPlainEvent (passed clock d) = Unit {0}

-- then events with one line have one point, whatever is sent along: a line says all that a watch sees
abbrev pub OneLineOnePoint : Type 0
OneLineOnePoint = (m : ModelTree) (d e : Event) → HasPlainNames m → HasPlainEvent d → HasPlainEvent e
    → (event_point m d).clock < 2 ^ 128 → (event_point m e).clock < 2 ^ 128 → event_line m d ≡ event_line m e → event_point m d ≡ event_point m e
