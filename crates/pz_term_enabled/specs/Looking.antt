-- What is to be chosen from at a moment.
use Rattle.std.specs.Prelude.{◌≡◌, List, []}
use Rattle.pz_rules.specs.declared.action.Action.{Action}
use Rattle.pz_rules.specs.declared.moment.Moment.{Moment}
use Rattle.pz_rules.specs.declared.moment.Moment.TheVariants.{Actions}
use Rattle.pz_rules.specs.Settings.{Setting}
use Rattle.pz_rules.specs.Configurations.{Config}
use Rattle.pz_rules.specs.Offers.{IsOffers}

-- the offers of the configuration where the moment is that there are some, and nothing else
abbrev pub AreActionsAt : Setting → Config → Moment → List Action → Type 0
AreActionsAt setting c (Actions n) actions = IsOffers setting c actions
AreActionsAt setting c moment actions = actions ≡ []
