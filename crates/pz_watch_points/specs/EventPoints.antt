-- The points of the events of a run: each action and each passing of time has one, in their order.
use Rattle.std.specs.Prelude.{ℕ, List, map}
use Rattle.pz_bind.specs.pz_syntax.Classes.{ModelTree}
use Rattle.pz_trace.specs.pz_rules.declared.action.Action.{Action}
use Rattle.pz_trace.specs.pz_rules.declared.action.Action.TheVariants.{Internal, Comm}
use Rattle.pz_trace.specs.pz_rules.Runs.{Event, acted, passed}
use Rattle.pz_trace.specs.Words.{kind_word}
use Rattle.pz_trace.specs.Labels.{path_of}
use Rattle.pz_watch.specs.Points.{Happening, passing, internal, communication, Point}

-- at the clock before time passes
abbrev pub passing_point : ℕ → Point
passing_point at = record { clock = at; event = passing }

module _ (m : ModelTree) where
  -- of an internal action the path of its process and the word of its kind; of a communication the message
  -- and both paths. Nothing is seen of places in the text, of wires and of what is sent along.
  abbrev pub happening_of : Action → Happening
  happening_of (Internal at kind pos) = internal (path_of m at.process) (kind_word kind)
  happening_of (Comm wire sender receiver message parcel) = communication message (path_of m sender.process) (path_of m receiver.process)

  abbrev pub action_point : ℕ → Action → Point
  action_point at a = record { clock = at; event = happening_of a }

  abbrev pub event_point : Event → Point
  event_point (acted at n k a) = action_point at a
  event_point (passed at d) = passing_point at

  abbrev pub points_of : List Event → List Point
  points_of events = map event_point events
