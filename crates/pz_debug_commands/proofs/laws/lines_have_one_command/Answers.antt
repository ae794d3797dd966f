use Rattle.pz_debug_commands.specs.devices.Reading.{read}
use Rattle.pz_debug_commands.proofs.Spelled.{is_command, one_command}
use Rattle.pz_debug_commands.proofs.laws.lines_have_one_command.Goals as goal

pub returns-clause-one : goal.returns-clause-one
returns-clause-one c = one_command

pub returns-clause-some : goal.returns-clause-some
returns-clause-some c = λ line. (read line, is_command line)
