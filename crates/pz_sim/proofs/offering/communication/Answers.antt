use Rattle.std.proofs.Common.{refl}
use Rattle.pz_sim.proofs.Numbered.{never_paired, pair_found}
use Rattle.pz_sim.proofs.offering.communication.Goals as goal

pub unreachable-requires : goal.unreachable-requires
unreachable-requires c = never_paired c.args.pairs.now.pairs c.args.number c.in_ok-sender.field-0 c.requires.within c.in_ok-sender.ensures c.in_default.not-Some

pub returns : goal.returns
returns c = pair_found c.args.pairs.now.pairs c.args.number c.in_ok-sender.field-0 c.in-Some.sender c.in-Some.receiver c.in-Some.is c.in_ok-sender.ensures _ refl
