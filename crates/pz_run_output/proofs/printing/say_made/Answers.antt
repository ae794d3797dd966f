use Rattle.pz_run_output.proofs.Sayings.{said_nothing}
use Rattle.pz_run_output.proofs.printing.say_made.Goals as goal

pub returns-in-Err : goal.returns-in-Err
returns-in-Err g c text is = said_nothing _ text c.args.status
