use Rattle.pz_debug_replies.proofs.Searched.{path_is}
use Rattle.pz_debug_replies.proofs.names.path.Goals as goal

pub returns : goal.returns
returns c = λ m is. path_is m c.args.net.now c.args.process c.path.result.now c.requires c.path.ensures is
