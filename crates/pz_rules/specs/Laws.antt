-- Laws of execution.
use Rattle.std.specs.Prelude.{◌≡◌, ◌≤◌, ℕ, ◌-◌, List, [], ◌∷◌, length, Some, Result, Ok, slice_get}
use Rattle.pz_bind_rules.specs.pz_syntax.declared.tokens.Pos.{Pos}
use Rattle.pz_bind_rules.specs.pz_syntax.Classes.{ModelTree}
use Rattle.pz_bind_rules.specs.pz_classes_rules.Soundness.{IsSound}
use Rattle.pz_offer.specs.declared.end.End.{End}
use Rattle.pz_offer.specs.PlaceOrder.{Place}
use Rattle.pz_offer.specs.declared.trouble.Trouble.{Trouble}
use Rattle.pz_rules.specs.declared.action.Action.{Action}
use Rattle.pz_rules.specs.declared.moment.Moment.{Moment}
use Rattle.pz_rules.specs.declared.moment.Moment.TheVariants.{Actions, Time, Stopped}
use Rattle.pz_offer.specs.pz_copy.Parcels.{ParcelView}
use Rattle.pz_offer.specs.pz_state.States.{Frames, IsLeastFree}
use Rattle.pz_rules.specs.declared.action.Kind.{Kind}
use Rattle.pz_rules.specs.Terms.{Term, wait, child}
use Rattle.pz_rules.specs.Settings.{Setting, Process, Context}
use Rattle.pz_rules.specs.FrameNumbers.{least_free}
use Rattle.pz_rules.specs.Acting.{IsActing, IsSend, IsReceive}
use Rattle.pz_rules.specs.InternalActions.{Can}
use Rattle.pz_rules.specs.Messages.{Sends, Receives}
use Rattle.pz_rules.specs.Delays.{Delays}
use Rattle.pz_bind_levels.specs.Places.{Address}
use Rattle.pz_bind_rules.specs.Nest.{processes, class_at}
use Rattle.pz_rules.specs.Openable.{IsProcessClass}
use Rattle.pz_rules.specs.Ports.{HasWires}
use Rattle.pz_rules.specs.Starting.{IsStart}
use Rattle.pz_rules.specs.Fitting.{IsFit}
use Rattle.pz_rules.specs.Heights.{IsLow}
use Rattle.pz_rules.specs.Configurations.{Config, IsWhole}
use Rattle.pz_rules.specs.Offers.{PartAt, Offers, IsOffers}
use Rattle.pz_rules.specs.Steps.{Next, PassesTo}
use Rattle.pz_rules.specs.Moments.{IsLeast, IsMoment}
use Rattle.pz_rules.specs.Runs.{Event, Standing, whole, Reaches, Ending, refused, Ends}
use Rattle.pz_rules.specs.ChosenRuns.{Policy, IsChosenRun}

-- a configuration has no more than one list of offers
abbrev pub OneListOfOffers : Type 0
OneListOfOffers = (setting : Setting) (c : Config) (xs ys : List Action) → IsOffers setting c xs → IsOffers setting c ys → xs ≡ ys

-- and has one, where the wires of the model are known
abbrev pub EveryListOfOffers : Type 0
EveryListOfOffers = (setting : Setting) (c : Config) → HasWires setting.model → (xs : List Action) × IsOffers setting c xs

-- the wires of a sound model are known
abbrev pub WiresAreKnown : Type 0
WiresAreKnown = (m : ModelTree) → IsSound m → HasWires m

-- a configuration has no more than one moment
abbrev pub OneMoment : Type 0
OneMoment = (setting : Setting) (c : Config) (m n : Moment) → IsMoment setting c m → IsMoment setting c n → m ≡ n

-- and has one
abbrev pub EveryMoment : Type 0
EveryMoment = (setting : Setting) (c : Config) → HasWires setting.model → (m : Moment) × IsMoment setting c m

-- the offers that a moment counts, of which there is one at least
pub record HasOffers (setting : Setting) (c : Config) (n : ℕ) : Type 0 where
  pub offers : List Action
  pub all : IsOffers setting c offers
  pub count : n ≡ length offers
  pub some : 1 ≤ n

abbrev pub MomentsCountOffers : Type 0
MomentsCountOffers = (setting : Setting) (c : Config) (n : ℕ) → IsMoment setting c (Actions n) → HasOffers setting c n

-- time never passes while an action is possible
abbrev pub TimeWaits : Type 0
TimeWaits = (setting : Setting) (c : Config) (d : ℕ) (a : Action) → HasWires setting.model → IsMoment setting c (Time d) → Offers setting c a → ⊥

-- a passing is by the least that is left of an active delay
abbrev pub LeastPasses : Type 0
LeastPasses = (setting : Setting) (c : Config) (d : ℕ) → IsMoment setting c (Time d) → IsLeast setting c d

-- and by one unit or more
abbrev pub TimeIsPositive : Type 0
TimeIsPositive = (setting : Setting) (c : Config) (d : ℕ) → HasWires setting.model → IsMoment setting c (Time d) → 1 ≤ d

-- where time passes, there is a configuration afterwards
abbrev pub EveryPassing : Type 0
EveryPassing = (setting : Setting) (c : Config) (d : ℕ) → HasWires setting.model → IsMoment setting c (Time d) → (next : Config) × PassesTo setting c d next

-- the part at a place
abbrev pub part_of : Term → Place → Term
part_of t [] = t
part_of t (i ∷ place) = part_of (child t i) place

-- at this end stands a delay that has begun, with so much left
pub record HasLeft (c : Config) (at : End) (left : ℕ) : Type 0 where
  pub process : Process
  pub stands : slice_get c.processes at.process ≡ Some process
  pub pos : Pos
  pub waits : part_of process.term at.place ≡ wait left pos

-- the passing of time takes so much from each active delay
abbrev pub PassingTakes : Type 0
PassingTakes = (setting : Setting) (c next : Config) (d : ℕ) (at : End) (a : Context) (frame : ℕ) (part : Term) (left : ℕ)
    → PassesTo setting c d next → PartAt setting c at a frame part → Delays a frame part left → HasLeft next at (left - d)

-- and leaves nothing of some active delay, of which the least was left
pub record Elapses (setting : Setting) (c next : Config) (d : ℕ) : Type 0 where
  pub at : End
  pub seen : Context
  pub frame : ℕ
  pub part : Term
  pub active : PartAt setting c at seen frame part
  pub delays : Delays seen frame part d
  pub elapsed : HasLeft next at 0

abbrev pub BringsToZero : Type 0
BringsToZero = (setting : Setting) (c next : Config) (d : ℕ) → IsMoment setting c (Time d) → PassesTo setting c d next → Elapses setting c next d

-- an action leads to one configuration, or to one trouble
abbrev pub OneNext : Type 0
OneNext = (setting : Setting) (c : Config) (a : Action) (x y : Result Config Trouble) → Next setting c a x → Next setting c a y → x ≡ y

-- the passing of time leads to one configuration
abbrev pub OnePassing : Type 0
OnePassing = (setting : Setting) (c : Config) (d : ℕ) (x y : Config) → IsWhole setting c → PassesTo setting c d x → PassesTo setting c d y → x ≡ y

-- neither makes or ends a process
abbrev pub StaysWhole : Type 0
StaysWhole = (setting : Setting) (c next : Config) (a : Action) (d : ℕ) → IsWhole setting c
    → (Next setting c a (Ok next) → IsWhole setting next) × (PassesTo setting c d next → IsWhole setting next)

-- a policy chooses one run
abbrev pub OneChosenRun : Type 0
OneChosenRun = (setting : Setting) (policy : Policy) (j : ℕ) (c : Config) (es fs : List Event) (x y : Config) (e f : Ending)
    → IsWhole setting c → IsChosenRun setting policy j c es x e → IsChosenRun setting policy j c fs y f → (es ≡ fs) × (x ≡ y) × (e ≡ f)

-- In a sound model, where the wires are known: what stands at the start fits, and what fits stays so;
-- each action that is offered leads somewhere; and a policy chooses some run.

abbrev pub StartFits : Type 0
StartFits = (setting : Setting) (c : Config) → IsSound setting.model → IsStart setting c → IsWhole setting c × IsFit setting c

abbrev pub StaysFit : Type 0
StaysFit = (setting : Setting) (c next : Config) (a : Action) (d : ℕ) → IsSound setting.model → IsWhole setting c → IsFit setting c
    → (Next setting c a (Ok next) → IsFit setting next) × (PassesTo setting c d next → IsFit setting next)

abbrev pub EveryNext : Type 0
EveryNext = (setting : Setting) (c : Config) (a : Action) → IsSound setting.model → IsFit setting c → Offers setting c a → (x : Result Config Trouble) × Next setting c a x

pub record HasChosenRun (setting : Setting) (policy : Policy) (j : ℕ) (c : Config) : Type 0 where
  pub events : List Event
  pub end : Config
  pub ending : Ending
  pub run : IsChosenRun setting policy j c events end ending

abbrev pub EveryChosenRun : Type 0
EveryChosenRun = (setting : Setting) (policy : Policy) (j : ℕ) (c : Config) → IsSound setting.model → HasWires setting.model → IsWhole setting c → IsFit setting c → HasChosenRun setting policy j c

-- the policy has no entry that is no offer, or left over
abbrev pub IsOwn : Ending → Type 0
IsOwn (refused entry count) = ⊥
IsOwn ending = Unit {0}

-- events of the rules, after which a run may end so
pub record IsRun (setting : Setting) (c : Config) (events : List Event) (end : Config) (ending : Ending) : Type 0 where
  pub standing : Standing
  pub reaches : Reaches setting c events end standing
  pub ends : Ends setting end standing ending

-- a chosen run is a run of the rules; also up to an entry that is refused
abbrev pub ChosenRunsAreRuns : Type 0
ChosenRunsAreRuns = (setting : Setting) (policy : Policy) (j : ℕ) (c : Config) (events : List Event) (end : Config) (ending : Ending)
    → IsChosenRun setting policy j c events end ending
    → (IsOwn ending → IsRun setting c events end ending) × ((entry count : ℕ) → ending ≡ refused entry count → Reaches setting c events end whole)

-- what can act by itself is an acting part; what sends is a send; what receives is a receive

abbrev pub WhatCanActs : Type 0
WhatCanActs = (a : Context) (f : ℕ) (t : Term) (kind : Kind) (pos : Pos) → Can a f t kind pos → IsActing t

abbrev pub WhatSendsIsASend : Type 0
WhatSendsIsASend = (a : Context) (f : ℕ) (t : Term) (pos : Pos) (port : ℕ) (message : List ℕ) (parcel : ParcelView) → Sends a f t pos port message parcel → IsSend t

abbrev pub WhatReceivesIsAReceive : Type 0
WhatReceivesIsAReceive = (t : Term) (pos : Pos) (port : ℕ) (message : List ℕ) (count : ℕ) → Receives t pos port message count → IsReceive t

-- the number of a new frame is the least that is free, and no other is
abbrev pub NumbersAreFree : Type 0
NumbersAreFree = (frames : Frames) → IsLeastFree frames (least_free frames)

abbrev pub OneNumberIsLeast : Type 0
OneNumberIsLeast = (frames : Frames) (n : ℕ) → IsLeastFree frames n → n ≡ least_free frames

-- where no term is too high, none is after an action or a passing of time
abbrev pub LowStays : Type 0
LowStays = (setting : Setting) (c next : Config) (a : Action) → IsLow setting c → Next setting c a (Ok next) → IsLow setting next

abbrev pub LowPasses : Type 0
LowPasses = (setting : Setting) (c next : Config) (d : ℕ) → IsWhole setting c → IsLow setting c → PassesTo setting c d next → IsLow setting next

-- there no process is told as too high
abbrev pub LowIsNotStopped : Type 0
LowIsNotStopped = (setting : Setting) (c : Config) (trouble : Trouble) → IsLow setting c → IsMoment setting c (Stopped trouble) → ⊥

-- a model has no more than one start, and a sound one has one
abbrev pub OneStart : Type 0
OneStart = (setting : Setting) (c d : Config) → IsStart setting c → IsStart setting d → c ≡ d

abbrev pub EveryStart : Type 0
EveryStart = (setting : Setting) → IsSound setting.model → (c : Config) × IsStart setting c

-- each process is of a process class
abbrev pub ProcessesHaveClasses : Type 0
ProcessesHaveClasses = (m : ModelTree) (i : ℕ) (place : Address) → slice_get (processes m) i ≡ Some place → IsProcessClass m (class_at m place)
