-- The point that a value of the code stands for.
use Rattle.pz_watch.specs.declared.spot.Event.{Event}
use Rattle.pz_watch.specs.declared.spot.Event.TheVariants.{Pass, Internal, Comm}
use Rattle.pz_watch.specs.declared.spot.Spot.{Spot}
use Rattle.pz_watch.specs.Points.{Happening, passing, internal, communication, Point}

abbrev pub happening : Event → Happening
happening Pass = passing
happening (Internal path kind) = internal path.now kind.now
happening (Comm message from to) = communication message.now from.now to.now

abbrev pub point_of : Spot → Point
point_of spot = record { clock = spot.clock; event = happening spot.event }
