-- Laws of configurations: n has the rules of the model of the setting, and one process more; and e is c with
-- one more process p. What the rules say of the processes of c is so in both.
use Rattle.std.specs.Prelude.{◌≡◌, ◌↔◌, ℕ, Bool, List, Some, Result, slice_get}
use Rattle.pz_rules.specs.pz_syntax.declared.tokens.Pos.{Pos}
use Rattle.pz_rules.specs.pz_syntax.Classes.{ModelTree}
use Rattle.pz_bind_levels.specs.Places.{Address}
use Rattle.pz_rules.specs.pz_bind_rules.Nest.{processes, class_at}
use Rattle.pz_rules.specs.pz_copy.Parcels.{ParcelView}
use Rattle.pz_rules.specs.pz_offer.declared.end.End.{End}
use Rattle.pz_rules.specs.pz_offer.declared.trouble.Trouble.{Trouble}
use Rattle.pz_rules.specs.declared.action.Kind.{Kind}
use Rattle.pz_rules.specs.declared.action.Action.{Action}
use Rattle.pz_rules.specs.declared.action.Action.TheVariants.{Internal, Comm}
use Rattle.pz_rules.specs.Terms.{Term, done}
use Rattle.pz_rules.specs.Settings.{Setting, Process, left_by, Context}
use Rattle.pz_rules.specs.InternalActions.{Performs}
use Rattle.pz_rules.specs.Messages.{Hands, Takes}
use Rattle.pz_rules.specs.Delays.{Passes}
use Rattle.pz_rules.specs.Configurations.{Config, IsWhole, Stands}
use Rattle.pz_rules.specs.Starting.{StartsAs, IsStart}
use Rattle.pz_rules.specs.Offers.{PartAt, IsPair, IsJudged, Offers}
use Rattle.pz_rules.specs.Steps.{Acts, Next, PassesTo, with_process}
use Rattle.pz_rules.specs.Moments.{IsFirstHigh, part, pair, Troubles, IsLeft, AllDone}
use Rattle.pz_env_same.specs.SameRules.{SameRules, in_model, seen_in, SeesTheSame}
use Rattle.pz_env_same.specs.OneMore.{OneMore, behind, result_behind, IsOf, number_of_more, IsActionOf}

-- of a model n, a setting g with its model, and configurations c and e
abbrev pub OfBoth : (ModelTree → Setting → Config → Config → Process → Type 0) → Type 0
OfBoth says = (n : ModelTree) (g : Setting) (c e : Config) (p : Process) → SameRules g.model n → OneMore g c e p → says n g c e p

-- What stands where

abbrev pub OneMoreIsBehind : Type 0
OneMoreIsBehind = (g : Setting) (c e : Config) (p : Process) → OneMore g c e p → e ≡ behind c p

abbrev pub BothAreWhole : Type 0
BothAreWhole = OfBoth (λ n g c e p. IsWhole (in_model n g) e)

-- a process of the model stands in both, and sees the same but for the model
abbrev pub ProcessesStandInBoth : Type 0
ProcessesStandInBoth = OfBoth (λ n g c e p. (i : ℕ) (q : Process) →
    ((a : Context) → Stands g c i q a → Stands (in_model n g) e i q (seen_in n a))
    × ((a : Context) → IsOf g.model i → Stands (in_model n g) e i q a → Stands g c i q (seen_in g.model a)))

abbrev pub ProcessesSeeTheSameInBoth : Type 0
ProcessesSeeTheSameInBoth = OfBoth (λ n g c e p. (i : ℕ) (q : Process) →
    ((a : Context) → Stands g c i q a → SeesTheSame n a)
    × ((a : Context) → IsOf g.model i → Stands (in_model n g) e i q a → SeesTheSame g.model a))

-- the one more stands behind them, and nothing else does
abbrev pub OneMoreStands : Type 0
OneMoreStands = OfBoth (λ n g c e p. (i : ℕ) (q : Process) (a : Context) → Stands (in_model n g) e i q a → (IsOf g.model i → ⊥) → (i ≡ number_of_more g.model) × (q ≡ p))

-- which is seen so
abbrev pub seen_more : (n : ModelTree) (g : Setting) (e : Config) (p : Process) → SameRules g.model n → Context
seen_more n g e p same = record { setting = in_model n g; process = number_of_more g.model; class = class_at n same.more; clock = e.clock; state = p.state }

abbrev pub OneMoreIsLast : Type 0
OneMoreIsLast = (n : ModelTree) (g : Setting) (c e : Config) (p : Process) (same : SameRules g.model n) → OneMore g c e p
    → Stands (in_model n g) e (number_of_more g.model) p (seen_more n g e p same)

abbrev pub PartsStandInBoth : Type 0
PartsStandInBoth = OfBoth (λ n g c e p. (at : End) (f : ℕ) (t : Term) →
    ((a : Context) → PartAt g c at a f t → PartAt (in_model n g) e at (seen_in n a) f t)
    × ((a : Context) → IsOf g.model at.process → PartAt (in_model n g) e at a f t → PartAt g c at (seen_in g.model a) f t))

-- a part of c is one of a process of the model
abbrev pub PartsAreOfTheModel : Type 0
PartsAreOfTheModel = (g : Setting) (c : Config) (at : End) (a : Context) (f : ℕ) (t : Term) → PartAt g c at a f t → IsOf g.model at.process

-- Offers

abbrev pub InternalOffersAreTheSame : Type 0
InternalOffersAreTheSame = OfBoth (λ n g c e p. (at : End) (kind : Kind) (pos : Pos) → IsOf g.model at.process
    → Offers g c (Internal at kind pos) ↔ Offers (in_model n g) e (Internal at kind pos))

abbrev pub PairsAreTheSame : Type 0
PairsAreTheSame = OfBoth (λ n g c e p. (wire : ℕ) (s r : End) (message : List ℕ) (parcel : ParcelView) → IsOf g.model s.process → IsOf g.model r.process
    → IsPair g c wire s r message parcel ↔ IsPair (in_model n g) e wire s r message parcel)

abbrev pub VerdictsAreTheSame : Type 0
VerdictsAreTheSame = OfBoth (λ n g c e p. (r : End) (parcel : ParcelView) (verdict : Result Bool Trouble) → IsOf g.model r.process
    → IsJudged g c r parcel verdict ↔ IsJudged (in_model n g) e r parcel verdict)

abbrev pub CommunicationsAreTheSame : Type 0
CommunicationsAreTheSame = OfBoth (λ n g c e p. (wire : ℕ) (s r : End) (message : List ℕ) (parcel : ParcelView) → IsOf g.model s.process → IsOf g.model r.process
    → Offers g c (Comm wire s r message parcel) ↔ Offers (in_model n g) e (Comm wire s r message parcel))

-- Troubles, delays, ends

abbrev pub TroublesOfPartsAreTheSame : Type 0
TroublesOfPartsAreTheSame = OfBoth (λ n g c e p. (at : End) (trouble : Trouble) → IsOf g.model at.process
    → Troubles g c (part at) trouble ↔ Troubles (in_model n g) e (part at) trouble)

abbrev pub TroublesOfPairsAreTheSame : Type 0
TroublesOfPairsAreTheSame = OfBoth (λ n g c e p. (wire : ℕ) (s r : End) (trouble : Trouble) → IsOf g.model s.process → IsOf g.model r.process
    → Troubles g c (pair wire s r) trouble ↔ Troubles (in_model n g) e (pair wire s r) trouble)

abbrev pub DelaysLeaveTheSame : Type 0
DelaysLeaveTheSame = OfBoth (λ n g c e p. (left : ℕ) →
    (IsLeft g c left → IsLeft (in_model n g) e left)
    × ((is : IsLeft (in_model n g) e left) → IsOf g.model is.at.process → IsLeft g c left))

abbrev pub HighIsTheSame : Type 0
HighIsTheSame = OfBoth (λ n g c e p. (trouble : Trouble) →
    (IsFirstHigh g c trouble → IsFirstHigh (in_model n g) e trouble)
    × ((is : IsFirstHigh (in_model n g) e trouble) → IsOf g.model is.number → IsFirstHigh g c trouble))

abbrev pub AllAreDoneInBoth : Type 0
AllAreDoneInBoth = (g : Setting) (c e : Config) (p : Process) → OneMore g c e p → (AllDone c × (p.term ≡ done)) ↔ AllDone e

-- Steps

abbrev pub PartsPerformTheSame : Type 0
PartsPerformTheSame = OfBoth (λ n g c e p. (at : End) (r : Result Process Trouble) → IsOf g.model at.process
    → Acts g c Performs at r ↔ Acts (in_model n g) e Performs at r)

abbrev pub PartsHandTheSame : Type 0
PartsHandTheSame = OfBoth (λ n g c e p. (parcel : ParcelView) (at : End) (r : Result Process Trouble) → IsOf g.model at.process
    → Acts g c (λ a f. Hands a f parcel) at r ↔ Acts (in_model n g) e (λ a f. Hands a f parcel) at r)

abbrev pub PartsTakeTheSame : Type 0
PartsTakeTheSame = OfBoth (λ n g c e p. (parcel : ParcelView) (at : End) (r : Result Process Trouble) → IsOf g.model at.process
    → Acts g c (λ a f. Takes a f parcel) at r ↔ Acts (in_model n g) e (λ a f. Takes a f parcel) at r)

-- a process of the model becomes the same in both
abbrev pub ProcessesBecomeTheSame : Type 0
ProcessesBecomeTheSame = (g : Setting) (c e : Config) (p : Process) (i : ℕ) (q : Process) → IsOf g.model i → OneMore g c e p → OneMore g (with_process c i q) (with_process e i q) p

-- and so does the one more
abbrev pub OneMoreBecomes : Type 0
OneMoreBecomes = (g : Setting) (c e : Config) (p q : Process) → OneMore g c e p → OneMore g c (with_process e (number_of_more g.model) q) q

-- An action of processes of the model leads to the same trouble, or to configurations of which again one
-- has p more.
abbrev pub LeadOnToBoth : Type 0
LeadOnToBoth = OfBoth (λ n g c e p. (a : Action) → IsActionOf g.model a →
    ((r : Result Config Trouble) → Next g c a r → Next (in_model n g) e a (result_behind r p))
    × ((x : Result Config Trouble) → Next (in_model n g) e a x → (r : Result Config Trouble) × Next g c a r × (x ≡ result_behind r p)))

-- time passes for the one more, which then is x
abbrev pub MorePasses : ModelTree → Setting → Config → Process → ℕ → Term → Type 0
MorePasses n g e p d x = (a : Context) → Stands (in_model n g) e (number_of_more g.model) p a → Passes a d 0 p.term x

-- what is left of both when time has passed
pub record HavePassed (n : ModelTree) (g : Setting) (c e : Config) (p : Process) (d : ℕ) (after : Config) : Type 0 where
  pub next : Config
  pub left : Term
  pub passes : PassesTo g c d next
  pub more : MorePasses n g e p d left
  pub is : after ≡ behind next (left_by p.state left)

abbrev pub TimePassesInBoth : Type 0
TimePassesInBoth = OfBoth (λ n g c e p. (d : ℕ) →
    ((next : Config) (x : Term) → PassesTo g c d next → MorePasses n g e p d x → PassesTo (in_model n g) e d (behind next (left_by p.state x)))
    × ((after : Config) → PassesTo (in_model n g) e d after → HavePassed n g c e p d after))

-- Starts

-- the one more is at its start
abbrev pub MoreStarts : ModelTree → Setting → Process → Type 0
MoreStarts n g p = (place : Address) → slice_get (processes n) (number_of_more g.model) ≡ Some place → StartsAs (in_model n g) place p

abbrev pub StartsHaveOneMore : Type 0
StartsHaveOneMore = OfBoth (λ n g c e p. IsStart g c → MoreStarts n g p → IsStart (in_model n g) e)

pub record HasStart (n : ModelTree) (g : Setting) (e : Config) : Type 0 where
  pub system : Config
  pub more : Process
  pub both : OneMore g system e more
  pub starts : IsStart g system
  pub more_starts : MoreStarts n g more

abbrev pub StartsAreOfBoth : Type 0
StartsAreOfBoth = (n : ModelTree) (g : Setting) (e : Config) → SameRules g.model n → IsStart (in_model n g) e → HasStart n g e
