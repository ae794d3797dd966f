-- The command that a value of the code stands for.
use Rattle.pz_debug_commands.specs.declared.command.Command.{Command as Read}
use Rattle.pz_debug_commands.specs.declared.command.Command.TheVariants as read
use Rattle.pz_debug_commands.specs.Commands.{Command, menu, pick, pass, run, until, back, show, unknown}

abbrev pub command_of : Read → Command
command_of read.Menu = menu
command_of (read.Pick number) = pick number
command_of read.Pass = pass
command_of (read.Run most) = run most
command_of (read.Until message most) = until message.now most
command_of (read.Back steps) = back steps
command_of (read.Show path name) = show path.now name.now
command_of read.Unknown = unknown
