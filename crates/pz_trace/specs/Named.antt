-- What a line names is there: the processes and the wire are those of a net.
use Rattle.pz_bind.specs.declared.net.Net.{Net}
use Rattle.pz_bind.specs.NetView.{HasProcess, IsWireOf}
use Rattle.pz_rules.specs.pz_offer.declared.trouble.Trouble.{Trouble}
use Rattle.pz_rules.specs.pz_offer.declared.trouble.Trouble.TheVariants.{Fault, Spent, High}
use Rattle.pz_rules.specs.declared.action.Action.{Action}
use Rattle.pz_rules.specs.declared.action.Action.TheVariants.{Internal, Comm}
use Rattle.pz_trace.specs.declared.ending.Ending.{Ending}
use Rattle.pz_trace.specs.declared.ending.Ending.TheVariants as ending

-- the processes and the wire of the action
abbrev pub IsNamed : Net → Action → Type 0
IsNamed net (Internal at kind pos) = HasProcess net at.process
IsNamed net (Comm wire sender receiver message parcel) = IsWireOf net wire × HasProcess net sender.process × HasProcess net receiver.process

-- the process of the trouble
abbrev pub HasTroubled : Net → Trouble → Type 0
HasTroubled net (Fault kind process at) = HasProcess net process
HasTroubled net (Spent process at) = HasProcess net process
HasTroubled net (High process at) = HasProcess net process

-- the process of the trouble in which a trace ends, if it does
abbrev pub IsNamedAtEnd : Net → Ending → Type 0
IsNamedAtEnd net ending.End = Unit {0}
IsNamedAtEnd net ending.Deadlock = Unit {0}
IsNamedAtEnd net ending.Stop = Unit {0}
IsNamedAtEnd net (ending.Trouble trouble) = HasTroubled net trouble
