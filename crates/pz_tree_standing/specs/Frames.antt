-- How many frames of each number are open in a state, and how an action changes that.
use Rattle.std.specs.Prelude.{◌≡◌, ◌≤◌, ◌+◌, ℕ, List, map, Ok}
use Rattle.pz_rules.specs.pz_syntax.declared.tokens.Pos.{Pos}
use Rattle.pz_rules.specs.pz_copy.Parcels.{ParcelView}
use Rattle.pz_rules.specs.pz_offer.PlaceOrder.{Place}
use Rattle.pz_rules.specs.declared.limits.Edition.{Edition}
use Rattle.pz_rules.specs.declared.limits.Edition.TheVariants.{One, Two}
use Rattle.pz_rules.specs.Terms.{Term}
use Rattle.pz_rules.specs.Settings.{Setting, Context, Process, Home}
use Rattle.pz_rules.specs.InternalActions.{Performs}
use Rattle.pz_rules.specs.Messages.{Hands, Takes}
use Rattle.pz_rules.specs.Leaving.{residual}
use Rattle.pz_rules.specs.Starting.{StartsAs}
use Rattle.pz_rules.specs.Delays.{Passes}
use Rattle.pz_bind_levels.specs.Places.{Address}
use Rattle.pz_rules.specs.pz_state.States.{StateView}
use Rattle.pz_tree_standing.specs.FrameCounts.{count_in, times, gained_all}

-- the numbers of the open frames
abbrev pub numbers : StateView → List ℕ
numbers s = map (λ f. f.0) s.frames

-- how often this number is among them
abbrev pub open_as : ℕ → StateView → ℕ
open_as n s = count_in n (numbers s)

-- each open frame stands in the term, once, and no other stands there
abbrev pub FramesStand : Term → StateView → Type 0
FramesStand t s = (n : ℕ) → times n t ≡ open_as n s

-- As many as stand in addition have opened. In edition Two some may have opened that do not stand: a frame without
-- outputs that is all of such a frame stands in its place.
abbrev pub HaveOpened : Edition → ℕ → ℕ → ℕ → Type 0
HaveOpened One stand before after = stand + before ≡ after
HaveOpened Two stand before after = stand + before ≤ after

-- what a part becomes stands in frames that have opened
abbrev pub PartsOpen : Context → Process → Type 0
PartsOpen a x = (n : ℕ) → HaveOpened a.setting.limits.edition (times n x.term) (open_as n a.state) (open_as n x.state)

abbrev pub PerformedOpens : Type 0
PerformedOpens = (a : Context) (f : ℕ) (t : Term) (pos : Pos) (x : Process) → Performs a f t pos (Ok x) → PartsOpen a x

abbrev pub HandedOpens : Type 0
HandedOpens = (a : Context) (f : ℕ) (parcel : ParcelView) (t : Term) (pos : Pos) (x : Process) → Hands a f parcel t pos (Ok x) → PartsOpen a x

abbrev pub TakenOpens : Type 0
TakenOpens = (a : Context) (f : ℕ) (parcel : ParcelView) (t : Term) (pos : Pos) (x : Process) → Takes a f parcel t pos (Ok x) → PartsOpen a x

-- and what opens around it too
abbrev pub AroundOpens : Type 0
AroundOpens = (h : Home) (n f : ℕ) (t : Term) (place : Place) (x : Process)
    → HaveOpened h.edition (count_in n (gained_all h f t place x)) (open_as n x.state) (open_as n (residual h f t place x).state)

-- a process that begins has just the frames open that stand in it
abbrev pub FramesStandAtStart : Type 0
FramesStandAtStart = (setting : Setting) (place : Address) (p : Process) → StartsAs setting place p → FramesStand p.term p.state

-- and as time passes they stay
abbrev pub FramesStandAsTimePasses : Type 0
FramesStandAsTimePasses = (a : Context) (d f : ℕ) (t u : Term) (s : StateView) → Passes a d f t u → FramesStand t s → FramesStand u s
