use Rattle.pz_debug_commands.specs.CommandView.{command_of}
use Rattle.pz_debug_commands.specs.Commands.{unknown}
use Rattle.std.proofs.Common.{refl}
use Rattle.pz_debug_commands.proofs.Spelled.{alone_read, one_read, two_read, more_read}
use Rattle.pz_debug_commands.proofs.reading.read_command.Goals as goal

pub returns-in-None : goal.returns-in-None
returns-in-None c = alone_read c.args.line.now (command_of c.alone.result) c.in-None.ensures c.alone.ensures

pub returns-in-None-cut : goal.returns-in-None-cut
returns-in-None-cut c =
    one_read c.args.line.now c.in-Some.first.now c.in-Some.behind.now c.in-Some.ensures.0 c.in-Some.ensures.1 (command_of c.with_one.result) c.in-None-cut.ensures c.with_one.ensures

pub returns-in-None-cut-2 : goal.returns-in-None-cut-2
returns-in-None-cut-2 c =
    two_read c.args.line.now c.in-Some.first.now c.in-Some.behind.now c.in-Some.ensures.0 c.in-Some.ensures.1
    c.in-Some-cut.second.now c.in-Some-cut.third.now c.in-Some-cut.ensures.0 c.in-Some-cut.ensures.1 (command_of c.with_two.result) c.in-None-cut-2.ensures c.with_two.ensures

pub returns-in-Some-cut-2 : goal.returns-in-Some-cut-2
returns-in-Some-cut-2 c =
    more_read c.args.line.now c.in-Some.first.now c.in-Some.behind.now c.in-Some.ensures.0 c.in-Some.ensures.1
    c.in-Some-cut.second.now c.in-Some-cut.third.now c.in-Some-cut.ensures.0 c.in-Some-cut.ensures.1
    unknown c.in-Some-cut-2.field-0.0.now c.in-Some-cut-2.field-0.1.now c.in-Some-cut-2.ensures.0 c.in-Some-cut-2.ensures.1 refl
