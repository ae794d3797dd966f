-- Of an action that is named, the processes are there.
use Rattle.pz_bind.specs.declared.net.Net.{Net}
use Rattle.pz_trace.specs.pz_rules.declared.action.Action.{Action}
use Rattle.pz_trace.specs.pz_rules.declared.action.Action.TheVariants.{Internal, Comm}
use Rattle.pz_trace.specs.Named.{IsNamed}
use Rattle.pz_watch_points.specs.Present.{HasProcesses}

pub named_present : (net : Net) (a : Action) → IsNamed net a → HasProcesses net a
named_present net (Internal at kind pos) is = is
named_present net (Comm wire sender receiver message parcel) is = (is.1, is.2)
