-- The processes of an action are there.
use Rattle.pz_bind.specs.declared.net.Net.{Net}
use Rattle.pz_bind.specs.NetView.{HasProcess}
use Rattle.pz_trace.specs.pz_rules.declared.action.Action.{Action}
use Rattle.pz_trace.specs.pz_rules.declared.action.Action.TheVariants.{Internal, Comm}

-- they are those of the net
abbrev pub HasProcesses : Net → Action → Type 0
HasProcesses net (Internal at kind pos) = HasProcess net at.process
HasProcesses net (Comm wire sender receiver message parcel) = HasProcess net sender.process × HasProcess net receiver.process
