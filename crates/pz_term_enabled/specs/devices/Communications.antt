-- The communications of a configuration, and the troubles of conditions.
use Rattle.std.specs.Prelude.{◌≡◌, ℕ, List, ◌++◌, Option, Some, None, All, AllPairs, Contains}
use Rattle.pz_rules.specs.pz_offer.declared.end.End.{End}
use Rattle.pz_rules.specs.pz_offer.declared.trouble.Trouble.{Trouble}
use Rattle.pz_rules.specs.declared.action.Action.{Action}
use Rattle.pz_rules.specs.declared.action.Action.TheVariants.{Internal, Comm}
use Rattle.pz_rules.specs.Settings.{Setting}
use Rattle.pz_rules.specs.Configurations.{Config}
use Rattle.pz_rules.specs.Offers.{Offers, Before, PairBefore}
use Rattle.pz_rules.specs.Moments.{Troubles, pair}

abbrev pub IsCommunication : Action → Type 0
IsCommunication (Internal at kind pos) = ⊥
IsCommunication (Comm wire sender receiver message parcel) = Unit {0}

module _ (setting : Setting) (c : Config) where
  -- the communications that are offered, strictly in their order
  pub record AreCommunications (actions : List Action) : Type 0 where
    pub ordered : AllPairs Before actions
    pub derivable : All (λ a. IsCommunication a × Offers setting c a) actions
    pub every : (a : Action) → IsCommunication a → Offers setting c a → Contains actions a

  -- they stand behind what was there, and no condition has a trouble
  pub record AddsCommunications (old new : List Action) : Type 0 where
    pub more : List Action
    pub added : new ≡ old ++ more
    pub are : AreCommunications more
    pub calm : (wire : ℕ) (sender receiver : End) (t : Trouble) → Troubles setting c (pair wire sender receiver) t → ⊥

  -- the trouble of the condition of a pair, before which none comes
  pub record IsFirstJudged (trouble : Trouble) : Type 0 where
    pub wire : ℕ
    pub sender : End
    pub receiver : End
    pub occurs : Troubles setting c (pair wire sender receiver) trouble
    pub first : (w : ℕ) (s r : End) (t : Trouble) → Troubles setting c (pair w s r) t → PairBefore w s r wire sender receiver → ⊥

  abbrev pub OfAll : List Action → List Action → Option Trouble → Type 0
  OfAll old new None = AddsCommunications old new
  OfAll old new (Some trouble) = IsFirstJudged trouble
