use Rattle.pz_trace.proofs.Naming.{path_is}
use Rattle.pz_watch_points.proofs.names.path.Goals as goal

pub returns : goal.returns
returns c = λ m is. path_is m c.args.net.now c.args.process c.path.result.now c.requires c.path.ensures is
