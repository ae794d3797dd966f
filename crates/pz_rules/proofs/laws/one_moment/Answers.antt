use Rattle.pz_rules.proofs.OneMoment as moments
use Rattle.pz_rules.proofs.Moments.{moment_some}
use Rattle.pz_rules.proofs.Counted.{moments_count}
use Rattle.pz_rules.proofs.laws.one_moment.Goals as goal

pub returns : goal.returns
returns c = record { one = moments.one_moment; some = λ setting config wires. let m = moment_some setting config wires in (m.moment, m.is); counts = moments_count }
