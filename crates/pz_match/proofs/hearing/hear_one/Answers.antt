-- The receive is kept, with its group.
use Rattle.std.proofs.Common.{refl}
use Rattle.pz_match.specs.devices.Staying.{stay_part}
use Rattle.pz_match.proofs.Offered.{heard_one}
use Rattle.pz_match.proofs.hearing.hear_one.Goals as goal

pub returns : goal.returns
returns c = heard_one c.args.groups.now c.join.new.groups (stay_part c.args.stay) c.args.process c.args.offer c.in-Some.wire _ c.in-Some.is refl c.in_ok-group.ensures
