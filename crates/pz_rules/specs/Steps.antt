-- The next configuration by an action, or the trouble of it; and that after the passing of time.
use Rattle.std.specs.Prelude.{◌≡◌, ℕ, ◌+◌, List, length, Some, Result, Ok, slice_get, slice_set}
use Rattle.pz_bind_rules.specs.pz_syntax.declared.tokens.Pos.{Pos}
use Rattle.pz_offer.specs.pz_copy.Parcels.{ParcelView}
use Rattle.pz_offer.specs.declared.end.End.{End}
use Rattle.pz_offer.specs.declared.trouble.Trouble.{Trouble}
use Rattle.pz_rules.specs.declared.action.Kind.{Kind}
use Rattle.pz_rules.specs.declared.action.Action.{Action}
use Rattle.pz_rules.specs.declared.action.Action.TheVariants.{Internal, Comm}
use Rattle.pz_rules.specs.Terms.{Term}
use Rattle.pz_rules.specs.Settings.{Setting, Process, Context}
use Rattle.pz_rules.specs.Active.{IsActive}
use Rattle.pz_rules.specs.InternalActions.{Performs}
use Rattle.pz_rules.specs.Leaving.{settled}
use Rattle.pz_rules.specs.Messages.{Hands, Takes}
use Rattle.pz_rules.specs.Meanings.{and_then}
use Rattle.pz_rules.specs.Delays.{Passes}
use Rattle.pz_rules.specs.Configurations.{Config, Stands}

-- what parts of some kind leave of themselves, in a frame, with the place of their statement
abbrev pub Deed : Type 1
Deed = Context → ℕ → Term → Pos → Result Process Trouble → Type 0

-- what the part at this end leaves of its process by a deed
pub record Acts (setting : Setting) (c : Config) (does : Deed) (at : End) (result : Result Process Trouble) : Type 0 where
  pub process : Process
  pub seen : Context
  pub stands : Stands setting c at.process process seen
  pub frame : ℕ
  pub part : Term
  pub active : IsActive seen process.term at.place frame part
  pub pos : Pos
  pub left : Result Process Trouble
  pub acts : does seen frame part pos left
  pub leaves : result ≡ and_then left (settled seen pos process.term at.place)

-- process i has become this, the others and the clock stay
abbrev pub with_process : Config → ℕ → Process → Config
with_process c i p = record c { processes = slice_set c.processes i p }

abbrev pub with_both : Config → End → End → Process → Process → Config
with_both c sender receiver p q = with_process (with_process c sender.process p) receiver.process q

-- The next configuration; or a trouble, that of a sender before any of the receiver. It says what an
-- action does and not whether it is possible: it holds of some that are not offered, as of a receive
-- whose condition is false. A run takes offers alone (`Reaches` of `Runs`).
pub data Next (setting : Setting) (c : Config) : Action → Result Config Trouble → Type 0 where
  internal : (at : End) (kind : Kind) (pos : Pos) (result : Result Process Trouble)
      → Acts setting c Performs at result → Next setting c (Internal at kind pos) (and_then result (λ p. Ok (with_process c at.process p)))
  communication : (number : ℕ) (sender receiver : End) (message : List ℕ) (parcel : ParcelView) (sent taken : Result Process Trouble)
      → Acts setting c (λ a f. Hands a f parcel) sender sent → Acts setting c (λ a f. Takes a f parcel) receiver taken
      → Next setting c (Comm number sender receiver message parcel) (and_then sent (λ p. and_then taken (λ q. Ok (with_both c sender receiver p q))))

-- Time d has passed, for all processes alike; what is active is decided before. It holds of any d, and
-- also where there are offers. In a run time passes only where that is the moment, and by its d (`Reaches`
-- of `Runs`).
pub record PassesTo (setting : Setting) (c : Config) (d : ℕ) (next : Config) : Type 0 where
  pub clock : next.clock ≡ c.clock + d
  pub all : length next.processes ≡ length c.processes
  pub each : (i : ℕ) (p : Process) (a : Context) → Stands setting c i p a
      → (x : Term) × Passes a d 0 p.term x × (slice_get next.processes i ≡ Some (record { term = x; state = p.state }))
