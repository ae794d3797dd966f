use Rattle.pz_trace.proofs.Naming.{wire_is}
use Rattle.pz_trace.proofs.names.wire_name.Goals as goal

pub returns : goal.returns
returns c = λ m is. wire_is m c.args.net.now c.args.wire c.wire_name.result.now c.requires c.wire_name.ensures is
