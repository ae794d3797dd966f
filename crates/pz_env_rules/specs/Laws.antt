-- Laws of driven systems.
use Rattle.std.specs.Prelude.{◌≡◌, ◌↔◌, List}
use Rattle.pz_trace.specs.pz_rules.declared.action.Action.{Action}
use Rattle.pz_trace.specs.pz_rules.declared.moment.Moment.{Moment}
use Rattle.pz_trace.specs.pz_rules.Offers.{IsOffers}
use Rattle.pz_trace.specs.pz_rules.Moments.{IsMoment}
use Rattle.pz_env_rules.specs.Environment.{over}
use Rattle.pz_env_rules.specs.Joining.{Driving}
use Rattle.pz_env_rules.specs.Driven.{Driven}
use Rattle.pz_env_rules.specs.Offers.{IsDrivenOffers}
use Rattle.pz_env_rules.specs.Moments.{IsDrivenMoment}

-- Once the environment has done its script, a driven system offers what the system offers,
abbrev pub OffersAreThoseOfTheSystem : Type 0
OffersAreThoseOfTheSystem = (g : Driving) (d : Driven) (actions : List Action) → d.environment.doing ≡ over → IsDrivenOffers g d actions ↔ IsOffers g.setting d.system actions

-- and its moment is that of the system.
abbrev pub MomentIsThatOfTheSystem : Type 0
MomentIsThatOfTheSystem = (g : Driving) (d : Driven) (m : Moment) → d.environment.doing ≡ over → IsDrivenMoment g d m ↔ IsMoment g.setting d.system m
