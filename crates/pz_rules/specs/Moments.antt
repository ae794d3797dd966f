-- What may happen next in a configuration: the first of these that applies.
use Rattle.std.specs.Prelude.{◌≡◌, ◌≤◌, ◌<◌, ℕ, List, [], All, length, Some, Err, slice_get}
use Rattle.pz_bind_rules.specs.pz_syntax.declared.tokens.Pos.{Pos}
use Rattle.pz_bind_rules.specs.pz_syntax.declared.names.Id.{Id}
use Rattle.pz_bind_rules.specs.pz_syntax.Statements.{call}
use Rattle.pz_bind_rules.specs.pz_classes_rules.Starts.{init}
use Rattle.pz_offer.specs.pz_copy.Parcels.{ParcelView}
use Rattle.pz_offer.specs.declared.end.End.{End}
use Rattle.pz_offer.specs.declared.trouble.Trouble.{Trouble}
use Rattle.pz_offer.specs.declared.trouble.Trouble.TheVariants.{High}
use Rattle.pz_offer.specs.PlaceOrder.{EndBefore}
use Rattle.pz_rules.specs.declared.action.Action.{Action}
use Rattle.pz_rules.specs.declared.moment.Moment.{Moment}
use Rattle.pz_rules.specs.declared.moment.Moment.TheVariants.{Actions, Time, Finished, Deadlock, Faulty, Stopped, Broken}
use Rattle.pz_rules.specs.Terms.{Codes, Term, done, height}
use Rattle.pz_rules.specs.Settings.{Setting, Process, Context}
use Rattle.pz_rules.specs.Asking.{Asks}
use Rattle.pz_rules.specs.Delays.{Delays}
use Rattle.pz_rules.specs.Configurations.{Config, Stands}
use Rattle.pz_rules.specs.Offers.{PartAt, IsPair, IsJudged, PairBefore, IsOffers}

-- The first process whose term is higher than the limit, with the place of the `init` call of its class.
pub record IsFirstHigh (setting : Setting) (c : Config) (trouble : Trouble) : Type 0 where
  pub number : ℕ
  pub process : Process
  pub seen : Context
  pub stands : Stands setting c number process seen
  pub high : setting.limits.height < height process.term
  pub first : (i : ℕ) (p : Process) → slice_get c.processes i ≡ Some p → i < number → height p.term ≤ setting.limits.height
  pub pos : Pos
  pub method : Id
  pub args : Codes
  pub begins : init setting.model seen.class ≡ Some (call pos method args [])
  pub says : trouble ≡ High number pos

-- where a trouble comes from: what an active part is asked, or the condition of a pair
pub data Source : Type 0 where
  part : End → Source
  pair : ℕ → End → End → Source

-- parts by process and then place, before the conditions in the order of their pairs
abbrev pub SourceBefore : Source → Source → Type 0
SourceBefore (part a) (part b) = EndBefore a b
SourceBefore (part a) (pair w s r) = Unit {0}
SourceBefore (pair w s r) (part b) = ⊥
SourceBefore (pair w s r) (pair w' s' r') = PairBefore w s r w' s' r'

pub data Troubles (setting : Setting) (c : Config) : Source → Trouble → Type 0 where
  asked : (at : End) (a : Context) (frame : ℕ) (t : Term) (trouble : Trouble)
      → PartAt setting c at a frame t → Asks a frame t trouble → Troubles setting c (part at) trouble
  judged : (number : ℕ) (sender receiver : End) (message : List ℕ) (parcel : ParcelView) (trouble : Trouble)
      → IsPair setting c number sender receiver message parcel → IsJudged setting c receiver parcel (Err trouble) → Troubles setting c (pair number sender receiver) trouble

pub record IsLeastTrouble (setting : Setting) (c : Config) (trouble : Trouble) : Type 0 where
  pub source : Source
  pub occurs : Troubles setting c source trouble
  pub least : (other : Source) (t : Trouble) → Troubles setting c other t → SourceBefore other source → ⊥

-- some process has an active delay of which so much is left
pub record IsLeft (setting : Setting) (c : Config) (left : ℕ) : Type 0 where
  pub at : End
  pub seen : Context
  pub frame : ℕ
  pub part : Term
  pub active : PartAt setting c at seen frame part
  pub delays : Delays seen frame part left

-- the least that is left of an active delay
pub record IsLeast (setting : Setting) (c : Config) (d : ℕ) : Type 0 where
  pub is_left : IsLeft setting c d
  pub least : (left : ℕ) → IsLeft setting c left → d ≤ left

abbrev pub AllDone : Config → Type 0
AllDone c = All (λ p. p.term ≡ done) c.processes

-- What may be said of a configuration. One is at `Stopped` where a term is too high, which is so at the
-- start alone. Else `Stopped`, where the last action did not take place, is a moment of a simulator, and
-- so is `Broken`.
pub data Candidate (setting : Setting) (c : Config) : Moment → Type 0 where
  -- some term is too high
  high : (trouble : Trouble) → IsFirstHigh setting c trouble → Candidate setting c (Stopped trouble)
  -- what an active part is asked, or a condition, has no answer
  faulty : (trouble : Trouble) → IsLeastTrouble setting c trouble → Candidate setting c (Faulty trouble)
  -- there are offers
  acting : (actions : List Action) → IsOffers setting c actions → 1 ≤ length actions → Candidate setting c (Actions (length actions))
  -- a delay is active
  passing : (d : ℕ) → IsLeast setting c d → Candidate setting c (Time d)
  -- every process is done
  finished : AllDone c → Candidate setting c Finished
  -- there may be nothing of these
  deadlock : Candidate setting c Deadlock

-- which comes first
abbrev pub rank : Moment → ℕ
rank (Stopped trouble) = 0
rank (Faulty trouble) = 1
rank (Actions n) = 2
rank (Time d) = 3
rank Finished = 4
rank Deadlock = 5
rank Broken = 6

-- the first that applies
pub record IsMoment (setting : Setting) (c : Config) (m : Moment) : Type 0 where
  pub applies : Candidate setting c m
  pub first : (n : Moment) → Candidate setting c n → rank m ≤ rank n
