use Rattle.pz_debug_commands.specs.devices.Reading.{commands_of}
use Rattle.pz_debug_commands.proofs.Lines.{one_list, every_list}
use Rattle.pz_debug_commands.proofs.laws.texts_have_one_list.Goals as goal

pub returns-clause-one : goal.returns-clause-one
returns-clause-one c = one_list

pub returns-clause-some : goal.returns-clause-some
returns-clause-some c = λ text. (commands_of text, every_list text)
