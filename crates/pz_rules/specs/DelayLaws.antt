-- Laws of delays of which less than 2^64 clock units are left.
use Rattle.std.specs.Prelude.{◌<◌, ◌^◌, ℕ, Ok}
use Rattle.pz_rules.specs.declared.action.Action.{Action}
use Rattle.pz_rules.specs.declared.moment.Moment.TheVariants.{Time}
use Rattle.pz_rules.specs.Settings.{Setting}
use Rattle.pz_rules.specs.Configurations.{Config, IsWhole}
use Rattle.pz_rules.specs.Starting.{IsStart}
use Rattle.pz_rules.specs.Steps.{Next, PassesTo}
use Rattle.pz_rules.specs.Moments.{IsMoment}
use Rattle.pz_rules.specs.Short.{DelaysAreShort, TimesAreShort}

abbrev pub StartsAreShort : Type 0
StartsAreShort = (setting : Setting) (c : Config) → IsStart setting c → DelaysAreShort c

abbrev pub ShortStays : Type 0
ShortStays = (setting : Setting) (c next : Config) (a : Action) → DelaysAreShort c → Next setting c a (Ok next) → DelaysAreShort next

abbrev pub ShortPasses : Type 0
ShortPasses = (setting : Setting) (c next : Config) (d : ℕ) → IsWhole setting c → DelaysAreShort c → TimesAreShort setting c → PassesTo setting c d next → DelaysAreShort next

abbrev pub MomentsAreShort : Type 0
MomentsAreShort = (setting : Setting) (c : Config) (d : ℕ) → DelaysAreShort c → TimesAreShort setting c → IsMoment setting c (Time d) → d < 2 ^ 64
