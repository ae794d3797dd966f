-- The line of an event shows its point.
use Rattle.pz_bind.specs.pz_syntax.Classes.{ModelTree}
use Rattle.pz_trace.specs.pz_copy.ParcelText.{parcel_text}
use Rattle.pz_bind.specs.pz_classes_rules.ClassNames.{class_names}
use Rattle.pz_trace.specs.pz_rules.declared.action.Action.TheVariants.{Internal, Comm}
use Rattle.pz_trace.specs.pz_rules.Runs.{Event, acted, passed}
use Rattle.pz_trace.specs.Words.{kind_word}
use Rattle.pz_trace.specs.Labels.{path_of, wire_of}
use Rattle.pz_trace.specs.TraceText.{event_line}
use Rattle.pz_watch_points.specs.EventPoints.{event_point}
use Rattle.pz_watch_points.specs.Shown.{Shows, time, step, exchange}

pub line_shows : (m : ModelTree) (e : Event) → Shows (event_line m e) (event_point m e)
line_shows m (acted clock n k (Internal at kind pos)) = step n k (path_of m at.process) (kind_word kind) pos
line_shows m (acted clock n k (Comm wire sender receiver message parcel)) =
    exchange n k (wire_of m wire) (path_of m sender.process) message (parcel_text (class_names m) parcel) (path_of m receiver.process)
line_shows m (passed clock d) = time d
