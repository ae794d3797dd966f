-- What the statements of a process ask, and its parts, are the same where it sees the same.
use Rattle.std.proofs.Common.{◌↔◌, ℕ, Bool, true, List, Result, Ok, Err, sym}
use Rattle.pz_rules.specs.pz_syntax.declared.tokens.Pos.{Pos}
use Rattle.pz_rules.specs.pz_syntax.Expressions.{Part, left_out, written}
use Rattle.pz_rules.specs.pz_syntax.Classes.{ModelTree}
use Rattle.pz_rules.specs.pz_value.declared.value.ClassId.{ClassId}
use Rattle.pz_rules.specs.pz_value.declared.value.Value.{Value}
use Rattle.pz_rules.specs.pz_classes_code.declared.slot.Slot.{Slot}
use Rattle.pz_rules.specs.pz_state.States.{StateView}
use Rattle.pz_rules.specs.pz_copy.Parcels.{ParcelView}
use Rattle.pz_rules.specs.pz_offer.PlaceOrder.{Place}
use Rattle.pz_rules.specs.pz_offer.declared.trouble.Trouble.{Trouble}
use Rattle.pz_rules.specs.declared.action.Kind.{Kind}
use Rattle.pz_rules.specs.Terms.{Code, Codes, Term, done, leaf, wait, sequence, parallel, select, guarded, frame, abort, idle, handling}
use Rattle.pz_rules.specs.Settings.{Context, in_state}
use Rattle.pz_rules.specs.Evaluations.{allowance, Gives, GivesAll, GivesPart, Tests, Lasts}
use Rattle.pz_rules.specs.Active as active
use Rattle.pz_rules.specs.Active.{Reached, Active}
use Rattle.pz_rules.specs.Asking as asking
use Rattle.pz_rules.specs.Asking.{Asks}
use Rattle.pz_rules.specs.InternalActions as internal
use Rattle.pz_rules.specs.InternalActions.{Can}
use Rattle.pz_rules.specs.Messages as messages
use Rattle.pz_rules.specs.Messages.{bound, Sends, Judges}
use Rattle.pz_rules.specs.Delays as delays
use Rattle.pz_rules.specs.Delays.{Delays}
use Rattle.pz_env_same.specs.SameRules.{SameClass, seen_in, SeesTheSame}
use Rattle.pz_env_same.proofs.Evaluations.{same_data_back, finds, finds_all}

pub same_class_back : (m n : ModelTree) (class : ℕ) → SameClass m n class → SameClass n m class
same_class_back m n class same = record {
  bodies = λ name inputs outputs. sym (same.bodies name inputs outputs);
  calls = λ edition pos method s. sym (same.calls edition pos method s);
}

pub sees_back : (n : ModelTree) (a : Context) → SeesTheSame n a → SeesTheSame a.setting.model (seen_in n a)
sees_back n a same = record { data_classes = same_data_back a.setting.model n same.data_classes; statements = same_class_back a.setting.model n a.class same.statements }

-- in each of its states
pub sees_in_state : (n : ModelTree) (a : Context) → SeesTheSame n a → (s : StateView) → SeesTheSame n (in_state a s)
sees_in_state n a same s = record { data_classes = same.data_classes; statements = same.statements }

-- what is so there where it is so here is so in both
pub in_both : (P : Context → Type 0) → ((n : ModelTree) (a : Context) → SeesTheSame n a → P a → P (seen_in n a)) → (n : ModelTree) (a : Context) → SeesTheSame n a → P a ↔ P (seen_in n a)
in_both P there n a same = (there n a same, there a.setting.model (seen_in n a) (sees_back n a same))

-- Evaluations

pub gives : (n : ModelTree) (a : Context) → SeesTheSame n a → (f : ℕ) (at : Pos) (e : Code) (r : Result Value Trouble) (s : StateView) → Gives a f at e r s → Gives (seen_in n a) f at e r s
gives n a same f at e r s g = record {
  outcome = g.outcome;
  finds = finds a.setting.model n same.data_classes a.clock f a.state (allowance a.setting.limits) e g.outcome s g.finds;
  means = g.means;
}

pub gives_all : (n : ModelTree) (a : Context) → SeesTheSame n a → (f : ℕ) (at : Pos) (es : Codes) (r : Result (List Value) Trouble) (s : StateView)
    → GivesAll a f at es r s → GivesAll (seen_in n a) f at es r s
gives_all n a same f at es r s g = record {
  outcome = g.outcome;
  finds = finds_all a.setting.model n same.data_classes a.clock f a.state (allowance a.setting.limits) es g.outcome s g.finds;
  means = g.means;
}

pub gives_part : (n : ModelTree) (a : Context) → SeesTheSame n a → (f : ℕ) (at : Pos) (es : Part Slot ClassId) (r : Result (List Value) Trouble) (s : StateView)
    → GivesPart a f at es r s → GivesPart (seen_in n a) f at es r s
gives_part n a same f at left_out r s g = g
gives_part n a same f at (written es) r s g = gives_all n a same f at es r s g

pub tests : (n : ModelTree) (a : Context) → SeesTheSame n a → (f : ℕ) (at : Pos) (e : Code) (r : Result Bool Trouble) → Tests a f at e r → Tests (seen_in n a) f at e r
tests n a same f at e r t = record { found = t.found; left = t.left; gives = gives n a same f at e t.found t.left t.gives; means = t.means }

pub lasts : (n : ModelTree) (a : Context) → SeesTheSame n a → (f : ℕ) (at : Pos) (e : Code) (r : Result ℕ Trouble) → Lasts a f at e r → Lasts (seen_in n a) f at e r
lasts n a same f at e r t = record { found = t.found; left = t.left; gives = gives n a same f at e t.found t.left t.gives; means = t.means }

pub asks : (n : ModelTree) (a : Context) → SeesTheSame n a → (f : ℕ) (t : Term) (trouble : Trouble) → Asks a f t trouble → Asks (seen_in n a) f t trouble
asks n a same f _ _ (asking.guard test at t trouble is) = asking.guard test at t trouble (tests n a same f at test (Err trouble) is)
asks n a same f _ _ (asking.time at e trouble is) = asking.time at e trouble (lasts n a same f at e (Err trouble) is)
asks n a same f _ _ (asking.arguments at port name args block trouble s is) = asking.arguments at port name args block trouble s (gives_part n a same f at args (Err trouble) s is)

-- Parts

reached : (n : ModelTree) (a : Context) → SeesTheSame n a → (f : ℕ) (t : Term) (i : ℕ) → Reached a f t i → Reached (seen_in n a) f t i
reached n a same f (sequence t rest) i is = is
reached n a same f (parallel ts) i is = is
reached n a same f (select ts) i is = is
reached n a same f (guarded test at t) i is = (is.0, tests n a same f at test (Ok true) is.1)
reached n a same f (frame number inputs results t) i is = is
reached n a same f (abort t u) i is = is
reached n a same f (idle t u again) i is = is
reached n a same f (handling t u again) i is = is
reached n a same f done i is = is
reached n a same f (leaf r) i is = is
reached n a same f (wait left at) i is = is

pub is_active : (n : ModelTree) (a : Context) → SeesTheSame n a → (f : ℕ) (t : Term) (place : Place) (g : ℕ) (part : Term) → Active a f t place g part → Active (seen_in n a) f t place g part
is_active n a same _ _ _ _ _ (active.here f t) = active.here f t
is_active n a same _ _ _ _ _ (active.inside f t i place g part is inner) =
    active.inside f t i place g part (reached n a same f t i is) (is_active n a same _ _ _ _ _ inner)

pub can : (n : ModelTree) (a : Context) → SeesTheSame n a → (f : ℕ) (t : Term) (kind : Kind) (at : Pos) → Can a f t kind at → Can (seen_in n a) f t kind at
can n a same f _ _ _ (internal.skips at) = internal.skips at
can n a same f _ _ _ (internal.evaluates at e) = internal.evaluates at e
can n a same f _ _ _ (internal.evaluates_block at es) = internal.evaluates_block at es
can n a same f _ _ _ (internal.tests at e ts other) = internal.tests at e ts other
can n a same f _ _ _ (internal.repeats at e ts) = internal.repeats at e ts
can n a same f _ _ _ (internal.elapses at e is) = internal.elapses at e (lasts n a same f at e (Ok 0) is)
can n a same f _ _ _ (internal.expires at) = internal.expires at
can n a same f _ _ _ (internal.calls at method args results) = internal.calls at method args results

pub sends : (n : ModelTree) (a : Context) → SeesTheSame n a → (f : ℕ) (t : Term) (at : Pos) (port : ℕ) (message : List ℕ) (parcel : ParcelView)
    → Sends a f t at port message parcel → Sends (seen_in n a) f t at port message parcel
sends n a same f _ _ _ _ _ (messages.sends at port name args block values s parcel is packed) =
    messages.sends at port name args block values s parcel (gives_part n a same f at args (Ok values) s is) packed

pub judges : (n : ModelTree) (a : Context) → SeesTheSame n a → (f : ℕ) (parcel : ParcelView) (t : Term) (verdict : Result Bool Trouble) → Judges a f parcel t verdict
    → Judges (seen_in n a) f parcel t verdict
judges n a same f parcel _ _ (messages.free at port name into block) = messages.free at port name into block
judges n a same f parcel _ _ (messages.asks at port name into condition block r fits is) =
    messages.asks at port name into condition block r fits (tests n (in_state a (bound a f into parcel)) (sees_in_state n a same (bound a f into parcel)) f at condition r is)
judges n a same f parcel _ _ (messages.unfit at port name into condition block full) = messages.unfit at port name into condition block full

pub has_left : (n : ModelTree) (a : Context) → SeesTheSame n a → (f : ℕ) (t : Term) (left : ℕ) → Delays a f t left → Delays (seen_in n a) f t left
has_left n a same f _ _ (delays.not_begun at e left is) = delays.not_begun at e left (lasts n a same f at e (Ok left) is)
has_left n a same f _ _ (delays.begun left at) = delays.begun left at
