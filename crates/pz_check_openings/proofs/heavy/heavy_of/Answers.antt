use Rattle.std.proofs.lemmas.Result.{IfOk-weaker}
use Rattle.pz_check_openings.specs.devices.Settling.{value_of}
use Rattle.pz_check_openings.proofs.heavy.heavy_of.Goals as goal

pub returns : goal.returns
returns c = IfOk-weaker c.heavy_by.result _ _ (λ those are. record {
  bound = value_of c.args.names.now c.args.bounds.now;
  mark = value_of c.args.names.now c.args.marks.now;
  sure = c.are_closed-sure.result;
  closed = c.are_closed-sure.ensures;
  are = are;
}) c.heavy_by.ensures
