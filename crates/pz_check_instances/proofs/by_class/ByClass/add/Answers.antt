use Rattle.pz_check_instances.proofs.ClassLists.{set_row}
use Rattle.pz_check_instances.proofs.by_class.ByClass.add.Goals as goal

pub returns-clause-added : goal.returns-clause-added
returns-clause-added g c = set_row c.args.self.now.rows.items c.args.class c.index_mut.result.now c.push.new.self c.args.thing c.requires c.index_mut.ensures.value c.in_ok-push.ensures.items
