-- What a simulator stands for, and how it goes on.
use Rattle.std.specs.Prelude.{◌≡◌, ℕ, List, [], Some, Ok, Err, slice_get}
use Rattle.pz_rules.specs.pz_syntax.Classes.{ModelTree}
use Rattle.pz_rules.specs.pz_offer.declared.trouble.Trouble.{Trouble}
use Rattle.pz_rules.specs.declared.action.Action.{Action}
use Rattle.pz_rules.specs.declared.moment.Moment.{Moment}
use Rattle.pz_rules.specs.declared.moment.Moment.TheVariants.{Actions, Time, Stopped, Broken}
use Rattle.pz_rules.specs.declared.limits.Limits.{Limits}
use Rattle.pz_rules.specs.Settings.{Setting}
use Rattle.pz_rules.specs.Configurations.{Config}
use Rattle.pz_rules.specs.Offers.{IsOffers}
use Rattle.pz_rules.specs.Moments.{IsMoment}
use Rattle.pz_rules.specs.Runs.{Standing, whole, stopped, IsChoice}
use Rattle.pz_rules.specs.Steps.{Next, PassesTo}
use Rattle.pz_rules.specs.Starting.{IsStart}

-- A configuration of a model, and whether the last action ended in a trouble. After want of memory a
-- simulator is broken, and nothing is known of it.
pub data Simulation : Type 0 where
  stands : Setting → Config → Standing → Simulation
  broken : Setting → Simulation

-- it stands at the start of a run
pub data Starts (setting : Setting) : Simulation → Type 0 where
  starts : (c : Config) → IsStart setting c → Starts setting (stands setting c whole)

-- its moment: that of the configuration, unless the last action ended in a trouble or memory was wanting
abbrev pub IsMomentOf : Simulation → Moment → Type 0
IsMomentOf (stands setting c whole) m = IsMoment setting c m
IsMomentOf (stands setting c (stopped trouble)) m = m ≡ Stopped trouble
IsMomentOf (broken setting) m = m ≡ Broken

-- its offers: those of the configuration where that is the moment, else none
pub data AreOffersOf : Simulation → List Action → Type 0 where
  some : (setting : Setting) (c : Config) (n : ℕ) (actions : List Action) → IsMoment setting c (Actions n) → IsOffers setting c actions → AreOffersOf (stands setting c whole) actions
  none : (s : Simulation) → ((n : ℕ) → IsMomentOf s (Actions n) → ⊥) → AreOffersOf s []

-- Offer k is chosen. The action leads to the next configuration, or it does not take place.
pub data Chooses (k : ℕ) : Simulation → Simulation → Type 0 where
  acts : (setting : Setting) (c next : Config) (n : ℕ) (a : Action)
      → IsMoment setting c (Actions n) → IsChoice setting c n k a → Next setting c a (Ok next) → Chooses k (stands setting c whole) (stands setting next whole)
  stops : (setting : Setting) (c : Config) (n : ℕ) (a : Action) (trouble : Trouble)
      → IsMoment setting c (Actions n) → IsChoice setting c n k a → Next setting c a (Err trouble) → Chooses k (stands setting c whole) (stands setting c (stopped trouble))

-- time passes
pub data Passes : Simulation → Simulation → Type 0 where
  passes : (setting : Setting) (c next : Config) (d : ℕ) → IsMoment setting c (Time d) → PassesTo setting c d next → Passes (stands setting c whole) (stands setting next whole)

-- the setting of a simulator never changes
abbrev pub setting_in : Simulation → Setting
setting_in (stands setting c standing) = setting
setting_in (broken setting) = setting

-- nor does its model
abbrev pub model_in : Simulation → ModelTree
model_in s = (setting_in s).model

-- nor what its evaluations and terms may take
abbrev pub limits_in : Simulation → Limits
limits_in s = (setting_in s).limits

-- memory was wanting
abbrev pub IsBroken : Simulation → Type 0
IsBroken (stands setting c standing) = ⊥
IsBroken (broken setting) = Unit {0}

-- the clock; of a broken one nothing is known
abbrev pub clock_in : Simulation → ℕ
clock_in (stands setting c standing) = c.clock
clock_in (broken setting) = 0

abbrev pub ClockIs : Simulation → ℕ → Type 0
ClockIs (stands setting c standing) clock = clock ≡ c.clock
ClockIs (broken setting) clock = Unit {0}

-- the offer of number k
pub record IsOfferIn (setting : Setting) (c : Config) (k : ℕ) (a : Action) : Type 0 where
  pub offers : List Action
  pub all : IsOffers setting c offers
  pub chosen : slice_get offers k ≡ Some a

abbrev pub IsOffer : Simulation → ℕ → Action → Type 0
IsOffer (stands setting c standing) k a = IsOfferIn setting c k a
IsOffer (broken setting) k a = ⊥
