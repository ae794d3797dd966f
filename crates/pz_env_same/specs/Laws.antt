-- Laws of one process: where it sees the same in another model, all that the rules say of it and of its parts
-- is so in both. The model is that of its setting; both directions are said, so either may be meant.
use Rattle.std.specs.Prelude.{◌≡◌, ◌≤◌, ◌↔◌, ℕ, Bool, List, Result}
use Rattle.pz_rules.specs.pz_syntax.declared.tokens.Pos.{Pos}
use Rattle.pz_rules.specs.pz_syntax.Expressions.{Part}
use Rattle.pz_rules.specs.pz_syntax.Classes.{ModelTree}
use Rattle.pz_rules.specs.pz_value.declared.value.ClassId.{ClassId}
use Rattle.pz_rules.specs.pz_value.declared.value.Value.{Value}
use Rattle.pz_rules.specs.pz_classes_code.declared.slot.Slot.{Slot}
use Rattle.pz_rules.specs.pz_classes_code.CodeView.{Tree}
use Rattle.pz_rules.specs.pz_classes_rules.MethodBodies.{process_method_body}
use Rattle.pz_rules.specs.pz_state.States.{StateView}
use Rattle.pz_rules.specs.pz_copy.Parcels.{ParcelView}
use Rattle.pz_rules.specs.pz_offer.PlaceOrder.{Place}
use Rattle.pz_rules.specs.pz_offer.declared.trouble.Trouble.{Trouble}
use Rattle.pz_rules.specs.pz_eval_rules.declared.allowance.Allowance.{Allowance}
use Rattle.pz_rules.specs.pz_eval_rules.declared.outcome.Outcome.{Outcome}
use Rattle.pz_rules.specs.pz_eval_rules.declared.outcome.Listed.{Listed}
use Rattle.pz_rules.specs.pz_eval_rules.Steps.{Codes}
use Rattle.pz_rules.specs.pz_eval_rules.Outcomes.{Finds, FindsAll}
use Rattle.pz_rules.specs.declared.action.Kind.{Kind}
use Rattle.pz_rules.specs.declared.limits.Edition.{Edition}
use Rattle.pz_rules.specs.Terms.{Code, Step, Steps, Term}
use Rattle.pz_rules.specs.Settings.{Setting, Process, Context}
use Rattle.pz_rules.specs.Evaluations.{GivesPart, Tests, Lasts}
use Rattle.pz_rules.specs.Active.{Active}
use Rattle.pz_rules.specs.InternalActions.{Can, Performs}
use Rattle.pz_rules.specs.Messages.{Sends, Judges, Hands, Takes}
use Rattle.pz_rules.specs.Asking.{Asks}
use Rattle.pz_rules.specs.Delays.{Delays, Passes}
use Rattle.pz_rules.specs.Opening.{opened, opened_all, depth_of}
use Rattle.pz_rules.specs.Leaving.{settled}
use Rattle.pz_rules.specs.Openable.{IsProcessClass}
use Rattle.pz_rules.specs.CallLaws.{NoRounds}
use Rattle.pz_rules.specs.Configurations.{Config, Stands}
use Rattle.pz_env_same.specs.SameRules.{SameData, home_in, SameClass, SameRules, seen_in, SeesTheSame}

-- Evaluation

abbrev pub EvaluationsAreTheSame : Type 0
EvaluationsAreTheSame = (m n : ModelTree) (now frame : ℕ) (s : StateView) (t : Tree) (allowed : Allowance) (o : Outcome) (left : StateView)
    → SameData m n → Finds m now frame s t allowed o left ↔ Finds n now frame s t allowed o left

abbrev pub ListEvaluationsAreTheSame : Type 0
ListEvaluationsAreTheSame = (m n : ModelTree) (now frame : ℕ) (s : StateView) (ts : Codes) (allowed : Allowance) (o : Listed) (left : StateView)
    → SameData m n → FindsAll m now frame s ts allowed o left ↔ FindsAll n now frame s ts allowed o left

-- What the statements of a process ask

abbrev pub TestsAreTheSame : Type 0
TestsAreTheSame = (n : ModelTree) (a : Context) (f : ℕ) (at : Pos) (e : Code) (r : Result Bool Trouble)
    → SeesTheSame n a → Tests a f at e r ↔ Tests (seen_in n a) f at e r

abbrev pub TimesAreTheSame : Type 0
TimesAreTheSame = (n : ModelTree) (a : Context) (f : ℕ) (at : Pos) (e : Code) (r : Result ℕ Trouble)
    → SeesTheSame n a → Lasts a f at e r ↔ Lasts (seen_in n a) f at e r

abbrev pub PartsAreTheSame : Type 0
PartsAreTheSame = (n : ModelTree) (a : Context) (f : ℕ) (at : Pos) (es : Part Slot ClassId) (r : Result (List Value) Trouble) (s : StateView)
    → SeesTheSame n a → GivesPart a f at es r s ↔ GivesPart (seen_in n a) f at es r s

abbrev pub AskedIsTheSame : Type 0
AskedIsTheSame = (n : ModelTree) (a : Context) (f : ℕ) (t : Term) (trouble : Trouble)
    → SeesTheSame n a → Asks a f t trouble ↔ Asks (seen_in n a) f t trouble

-- Its parts

abbrev pub ActivePartsAreTheSame : Type 0
ActivePartsAreTheSame = (n : ModelTree) (a : Context) (f : ℕ) (t : Term) (place : Place) (g : ℕ) (part : Term)
    → SeesTheSame n a → Active a f t place g part ↔ Active (seen_in n a) f t place g part

abbrev pub ActionsAreTheSame : Type 0
ActionsAreTheSame = (n : ModelTree) (a : Context) (f : ℕ) (t : Term) (kind : Kind) (at : Pos)
    → SeesTheSame n a → Can a f t kind at ↔ Can (seen_in n a) f t kind at

abbrev pub SendsAreTheSame : Type 0
SendsAreTheSame = (n : ModelTree) (a : Context) (f : ℕ) (t : Term) (at : Pos) (port : ℕ) (message : List ℕ) (parcel : ParcelView)
    → SeesTheSame n a → Sends a f t at port message parcel ↔ Sends (seen_in n a) f t at port message parcel

abbrev pub JudgementsAreTheSame : Type 0
JudgementsAreTheSame = (n : ModelTree) (a : Context) (f : ℕ) (parcel : ParcelView) (t : Term) (verdict : Result Bool Trouble)
    → SeesTheSame n a → Judges a f parcel t verdict ↔ Judges (seen_in n a) f parcel t verdict

abbrev pub DelaysAreTheSame : Type 0
DelaysAreTheSame = (n : ModelTree) (a : Context) (f : ℕ) (t : Term) (left : ℕ)
    → SeesTheSame n a → Delays a f t left ↔ Delays (seen_in n a) f t left

-- What they leave

abbrev pub PerformancesAreTheSame : Type 0
PerformancesAreTheSame = (n : ModelTree) (a : Context) (f : ℕ) (t : Term) (at : Pos) (r : Result Process Trouble)
    → SeesTheSame n a → Performs a f t at r ↔ Performs (seen_in n a) f t at r

abbrev pub HandingsAreTheSame : Type 0
HandingsAreTheSame = (n : ModelTree) (a : Context) (f : ℕ) (parcel : ParcelView) (t : Term) (at : Pos) (r : Result Process Trouble)
    → SeesTheSame n a → Hands a f parcel t at r ↔ Hands (seen_in n a) f parcel t at r

abbrev pub TakingsAreTheSame : Type 0
TakingsAreTheSame = (n : ModelTree) (a : Context) (f : ℕ) (parcel : ParcelView) (t : Term) (at : Pos) (r : Result Process Trouble)
    → SeesTheSame n a → Takes a f parcel t at r ↔ Takes (seen_in n a) f parcel t at r

abbrev pub LeavingsAreTheSame : Type 0
LeavingsAreTheSame = (n : ModelTree) (a : Context) (at : Pos) (whole : Term) (place : Place) (x : Process)
    → SeesTheSame n a → settled a at whole place x ≡ settled (seen_in n a) at whole place x

abbrev pub PassingsAreTheSame : Type 0
PassingsAreTheSame = (n : ModelTree) (a : Context) (d f : ℕ) (t x : Term)
    → SeesTheSame n a → Passes a d f t x ↔ Passes (seen_in n a) d f t x

-- As what statements open

abbrev pub OpeningsAreTheSame : Type 0
OpeningsAreTheSame = (m n : ModelTree) (edition : Edition) (class : ℕ) (t : Step) (s : StateView)
    → SameClass m n class → opened (home_in m edition class) t s ≡ opened (home_in n edition class) t s

abbrev pub SequencesOpenTheSame : Type 0
SequencesOpenTheSame = (m n : ModelTree) (edition : Edition) (class : ℕ) (ts : Steps) (s : StateView)
    → SameClass m n class → opened_all (home_in m edition class) ts s ≡ opened_all (home_in n edition class) ts s

-- Where no method of m begins with itself, how deep calls are followed plays no part: so the bodies of the
-- methods are enough, where n has no fewer methods.
abbrev pub SameBodiesMakeSameCalls : Type 0
SameBodiesMakeSameCalls = (m n : ModelTree) (class : ℕ) → NoRounds m → IsProcessClass m class → depth_of m ≤ depth_of n
    → ((name : List ℕ) (inputs outputs : ℕ) → process_method_body m class name inputs outputs ≡ process_method_body n class name inputs outputs)
    → SameClass m n class

-- Who sees the same

-- the other direction, so that each law here may be read from n to m
abbrev pub SeeingIsSymmetric : Type 0
SeeingIsSymmetric = (n : ModelTree) (a : Context) → SeesTheSame n a → SeesTheSame a.setting.model (seen_in n a)

-- each process of a model sees the same in one with the same rules
abbrev pub ProcessesSeeTheSame : Type 0
ProcessesSeeTheSame = (n : ModelTree) (setting : Setting) (c : Config) (i : ℕ) (p : Process) (a : Context)
    → SameRules setting.model n → Stands setting c i p a → SeesTheSame n a
