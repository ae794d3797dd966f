-- What decides the moment of a configuration.
use Rattle.std.specs.Prelude.{◌≡◌, ℕ, zero, suc, Bool, true, false, Option, Some, None}
use Rattle.pz_rules.specs.pz_offer.declared.trouble.Trouble.{Trouble}
use Rattle.pz_rules.specs.declared.moment.Moment.{Moment}
use Rattle.pz_rules.specs.declared.moment.Moment.TheVariants.{Actions, Time, Finished, Deadlock}
use Rattle.pz_rules.specs.Settings.{Setting}
use Rattle.pz_rules.specs.Configurations.{Config}
use Rattle.pz_rules.specs.Offers.{IsOffers}
use Rattle.pz_rules.specs.Moments.{Source, Troubles, IsLeastTrouble}
use Rattle.pz_term_enabled.specs.Surveyed.{IsLeastLeft, TellsDone}
use Rattle.pz_term_enabled.specs.declared.findings.Survey.{Survey}

-- where there is no trouble: of so many offers, the least that is left of a delay, and whether all is
-- done
abbrev pub calm_moment : ℕ → Option ℕ → Bool → Moment
calm_moment (suc n) least done = Actions (suc n)
calm_moment zero (Some d) done = Time d
calm_moment zero None true = Finished
calm_moment zero None false = Deadlock

module _ (setting : Setting) (c : Config) where
  abbrev pub NoTrouble : Type 0
  NoTrouble = (source : Source) (t : Trouble) → Troubles setting c source t → ⊥

  abbrev pub IsTrouble : Option Trouble → Type 0
  IsTrouble None = NoTrouble
  IsTrouble (Some trouble) = IsLeastTrouble setting c trouble

  pub record Decides (found : Survey) (trouble : Option Trouble) : Type 0 where
    pub trouble_is : IsTrouble trouble
    pub offers : trouble ≡ None → IsOffers setting c found.internal.items
    pub least : IsLeastLeft setting c found.least
    pub done : TellsDone setting c found.done
