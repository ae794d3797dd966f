use Rattle.pz_check_instances.proofs.Instances.{got}
use Rattle.pz_check_instances.proofs.needs.instance_at.Goals as goal

pub returns : goal.returns
returns c = got c.args.instances.now c.args.place c.get.result c.get.ensures.lookup.3 c.get.ensures.lookup.1
