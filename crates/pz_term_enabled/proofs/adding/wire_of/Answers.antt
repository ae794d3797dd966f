use Rattle.pz_term_enabled.proofs.Merely.{wire_is}
use Rattle.pz_term_enabled.proofs.adding.wire_of.Goals as goal

pub returns : goal.returns
returns c = λ m wired has. wire_is m c.args.net.now c.args.process c.args.port wired c.wire.result has c.wire.ensures
