-- What may happen next in a driven system: the first of these that applies.
use Rattle.std.specs.Prelude.{◌≡◌, ◌≤◌, ◌<◌, ℕ, List, length, Err}
use Rattle.pz_trace.specs.pz_value.declared.value.Value.{Value}
use Rattle.pz_trace.specs.pz_copy.Parcels.{ParcelView}
use Rattle.pz_trace.specs.pz_offer.declared.end.End.{End}
use Rattle.pz_trace.specs.pz_offer.declared.trouble.Trouble.{Trouble}
use Rattle.pz_trace.specs.pz_offer.declared.trouble.Trouble.TheVariants.{Spent}
use Rattle.pz_trace.specs.pz_rules.declared.action.Action.{Action}
use Rattle.pz_trace.specs.pz_rules.declared.moment.Moment.{Moment}
use Rattle.pz_trace.specs.pz_rules.declared.moment.Moment.TheVariants.{Actions, Time, Finished, Deadlock, Faulty, Stopped}
use Rattle.pz_trace.specs.pz_rules.Moments.{IsFirstHigh, Source, part, pair, SourceBefore, Troubles, IsLeft, AllDone, rank}
use Rattle.pz_env_script.specs.declared.entry.Transfer.TheVariants.{Send}
use Rattle.pz_env_rules.specs.Environment.{Line, at_line, over, waits, offers}
use Rattle.pz_env_rules.specs.Joining.{Driving}
use Rattle.pz_env_rules.specs.Driven.{Driven, environment_number, environment_end}
use Rattle.pz_env_rules.specs.Offers.{IsDrivenPair, IsDrivenJudged, IsDrivenOffers}

module _ (g : Driving) (d : Driven) where
  pub data DrivenTroubles : Source → Trouble → Type 0 where
    asked : (at : End) (trouble : Trouble) → Troubles g.setting d.system (part at) trouble → DrivenTroubles (part at) trouble
    judged : (wire : ℕ) (sender receiver : End) (message : List ℕ) (parcel : ParcelView) (trouble : Trouble)
        → IsDrivenPair g d wire sender receiver message parcel → IsDrivenJudged g d receiver parcel (Err trouble) → DrivenTroubles (pair wire sender receiver) trouble
    -- the environment has more values to send than there are units, whether anyone receives them or not
    spent : (x : Line) (rest : List Line) (values : List Value)
        → d.environment.doing ≡ offers x rest → x.entry.transfer ≡ Send values → g.setting.limits.units < length values
        → DrivenTroubles (part (environment_end g)) (Spent (environment_number g) (at_line x))

  pub record IsLeastDrivenTrouble (trouble : Trouble) : Type 0 where
    pub source : Source
    pub occurs : DrivenTroubles source trouble
    pub least : (other : Source) (t : Trouble) → DrivenTroubles other t → SourceBefore other source → ⊥

  -- so much is left of an active delay of a process, or of the wait of the environment
  pub data IsDrivenLeft : ℕ → Type 0 where
    of_process : (left : ℕ) → IsLeft g.setting d.system left → IsDrivenLeft left
    of_environment : (left : ℕ) (x : Line) (rest : List Line) → d.environment.doing ≡ waits left x rest → IsDrivenLeft left

  pub record IsLeastDriven (time : ℕ) : Type 0 where
    pub is_left : IsDrivenLeft time
    pub least : (left : ℕ) → IsDrivenLeft left → time ≤ left

  -- all processes are done, and so is the script
  pub record AllOver : Type 0 where
    pub system : AllDone d.system
    pub environment : d.environment.doing ≡ over

  -- what may be said of it, in the order of `rank`
  pub data DrivenCandidate : Moment → Type 0 where
    high : (trouble : Trouble) → IsFirstHigh g.setting d.system trouble → DrivenCandidate (Stopped trouble)
    faulty : (trouble : Trouble) → IsLeastDrivenTrouble trouble → DrivenCandidate (Faulty trouble)
    acting : (actions : List Action) → IsDrivenOffers g d actions → 1 ≤ length actions → DrivenCandidate (Actions (length actions))
    passing : (time : ℕ) → IsLeastDriven time → DrivenCandidate (Time time)
    finished : AllOver → DrivenCandidate Finished
    deadlock : DrivenCandidate Deadlock

  -- the first that applies
  pub record IsDrivenMoment (m : Moment) : Type 0 where
    pub applies : DrivenCandidate m
    pub first : (n : Moment) → DrivenCandidate n → rank m ≤ rank n
