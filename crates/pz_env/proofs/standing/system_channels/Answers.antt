use Rattle.std.proofs.Common.{sym, ap, ◌∙◌, [], Option}
use Rattle.std.specs.Option.{option_map_or}
use Rattle.pz_syntax.specs.Classes.{DeclTree}
use Rattle.pz_syntax.specs.ClassView.{model_view}
use Rattle.pz_classes.specs.pz_classes_rules.Instances.{channels}
use Rattle.pz_env.proofs.Sets.{first_is}
use Rattle.pz_env.proofs.standing.system_channels.Goals as goal

pub returns-in-Some : goal.returns-in-Some
returns-in-Some c = c.channels_of.ensures ∙ ap (λ (o : Option DeclTree). option_map_or channels o []) (c.in-Some.ensures ∙ sym (first_is (model_view c.args.model.now)))

pub returns-in-None : goal.returns-in-None
returns-in-None c = ap (λ (o : Option DeclTree). option_map_or channels o []) (c.in-None.ensures ∙ sym (first_is (model_view c.args.model.now)))
