use Rattle.std.proofs.Common.{◌≡◌, ◌∙◌, rules}
use Rattle.std.specs.Option.{option_map}
use Rattle.pz_classes_rules.specs.ClassNames.{class_id}
use Rattle.pz_classes.proofs.Belongs.{class_belongs}
use Rattle.pz_classes.proofs.classes.Classes.class.Goals as goal

pub returns-clause-belongs : goal.returns-clause-belongs
returns-clause-belongs c = λ m are.
    let found : c.map.result ≡ option_map class_id c.get.result = search rules in
    class_belongs m c.args.self.now are c.get.result c.map.result c.args.name.now (c.get.ensures ∙ are.numbers c.args.name.now) found
