use Rattle.std.proofs.Common.{sym, length}
use Rattle.pz_bind.specs.pz_classes.CheckedView.{checked_model}
use Rattle.pz_bind_rules.specs.Nest as nest
use Rattle.pz_bind_rules.specs.Wires as wiring
use Rattle.pz_run_reading.proofs.Merely.{number_merely}
use Rattle.pz_run_reading.proofs.flat_model.FlatModel.size.Goals as goal

pub returns : goal.returns
returns c =
    let flat = c.args.self.now in
    let m = checked_model flat.checked in
    record {
      all_processes = sym (number_merely c.processes.result (length (nest.processes m)) flat.of_model (λ is. c.processes.ensures.counted m is));
      all_wires = sym (number_merely c.wires.result (length (wiring.wires m)) flat.of_model (λ is. c.wires.ensures.counted m is));
    }
