use Rattle.std.proofs.Common.{◌≡◌, ap, rules}
use Rattle.std.specs.Option.{option_map}
use Rattle.pz_classes_rules.specs.ClassNames.{class_id}
use Rattle.pz_classes.specs.devices.Rows.{Row}
use Rattle.pz_classes.proofs.Belongs.{parent_belongs}
use Rattle.pz_classes.proofs.classes.Classes.parent.Goals as goal

pub returns-clause-belongs : goal.returns-clause-belongs
returns-clause-belongs c = λ m are.
    let found : c.map.result ≡ option_map class_id c.entry.result.now.parent = search rules in
    parent_belongs m c.args.self.now are c.entry.result.now.parent c.map.result c.args.class.0 (ap (λ (r : Row). r.parent) (c.entry.ensures m are)) found
