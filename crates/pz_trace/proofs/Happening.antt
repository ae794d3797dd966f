-- What happens in a run names processes and wires that are there.
use Rattle.std.proofs.Common.{◌≡◌, refl, sym, ap, subst, ◌∙◌, ℕ, ◌<◌, Bool, true, false, if◌then◌else◌, List, [], length, Some, Result, Ok, Err, pos, negsuc}
use Rattle.std.proofs.Math.Logic.{∥∥₁_elim}
use Rattle.std.specs.Coded.{le_prop}
use Rattle.std.specs.Prelude.{slice_get}
use Rattle.std.proofs.lemmas.List.{length-map}
use Rattle.std.proofs.lemmas.Option.{slice_get_within}
use Rattle.pz_rules.specs.pz_syntax.declared.tokens.Pos.{Pos}
use Rattle.pz_rules.specs.pz_syntax.Expressions.{Part, left_out, written}
use Rattle.pz_rules.specs.pz_syntax.Classes.{ModelTree}
use Rattle.pz_rules.specs.pz_value.declared.value.ClassId.{ClassId}
use Rattle.pz_rules.specs.pz_value.declared.value.Value.{Value}
use Rattle.pz_rules.specs.pz_value.declared.value.Value.TheVariants as value
use Rattle.pz_rules.specs.pz_classes_code.declared.slot.Slot.{Slot}
use Rattle.pz_rules.specs.pz_state.States.{StateView}
use Rattle.pz_bind_levels.specs.Places.{Address}
use Rattle.pz_bind_levels.specs.Wires.{Channel}
use Rattle.pz_bind.specs.declared.net.Net.{Net}
use Rattle.pz_rules.specs.pz_bind_rules.Nest.{processes}
use Rattle.pz_rules.specs.pz_bind_rules.Names.{wire_name}
use Rattle.pz_rules.specs.pz_bind_rules.Wires.{wires}
use Rattle.pz_bind.specs.NetView.{HasProcess, IsWireOf}
use Rattle.pz_bind.specs.devices.Nets.{IsNet, node_at}
use Rattle.pz_rules.specs.pz_copy.Parcels.{ParcelView}
use Rattle.pz_rules.specs.pz_eval_rules.declared.outcome.Outcome.{Outcome}
use Rattle.pz_rules.specs.pz_eval_rules.declared.outcome.Outcome.TheVariants as outcome
use Rattle.pz_rules.specs.pz_eval_rules.declared.outcome.Listed.{Listed}
use Rattle.pz_rules.specs.pz_eval_rules.declared.outcome.Listed.TheVariants as listed
use Rattle.pz_rules.specs.pz_offer.declared.end.End.{End}
use Rattle.pz_rules.specs.pz_offer.declared.trouble.Trouble.{Trouble}
use Rattle.pz_rules.specs.pz_offer.declared.trouble.Trouble.TheVariants.{Fault, Spent, High}
use Rattle.pz_rules.specs.declared.action.Action.{Action}
use Rattle.pz_rules.specs.declared.moment.Moment.{Moment}
use Rattle.pz_rules.specs.declared.moment.Moment.TheVariants.{Faulty, Stopped}
use Rattle.pz_rules.specs.Terms.{Code, Codes, Term}
use Rattle.pz_rules.specs.Settings.{Setting, Process, Context}
use Rattle.pz_rules.specs.Meanings.{and_then, truth, duration}
use Rattle.pz_rules.specs.Evaluations.{value_or_trouble, values_or_trouble, Gives, GivesAll, GivesPart, Tests, Lasts}
use Rattle.pz_rules.specs.Asking as asking
use Rattle.pz_rules.specs.Asking.{Asks}
use Rattle.pz_rules.specs.InternalActions as internals
use Rattle.pz_rules.specs.InternalActions.{Performs}
use Rattle.pz_rules.specs.Messages as messages
use Rattle.pz_rules.specs.Messages.{Judges, Hands, Takes}
use Rattle.pz_rules.specs.Leaving.{settled}
use Rattle.pz_rules.specs.Configurations.{Config, Stands}
use Rattle.pz_rules.specs.Offers as offers
use Rattle.pz_rules.specs.Offers.{PartAt, Offers}
use Rattle.pz_rules.specs.Steps as steps
use Rattle.pz_rules.specs.Steps.{Deed, Acts, Next}
use Rattle.pz_rules.specs.Moments as moments
use Rattle.pz_rules.specs.Moments.{Source, Troubles, Candidate, IsMoment}
use Rattle.pz_trace.specs.Named.{IsNamed, HasTroubled}

-- the process that a trouble names
abbrev troubled : Trouble → ℕ
troubled (Fault kind i at) = i
troubled (Spent i at) = i
troubled (High i at) = i

-- each trouble that this may be names process i
abbrev Blames : {A : Type 0} → ℕ → Result A Trouble → Type 0
Blames i r = (t : Trouble) → r ≡ Err t → troubled t ≡ i

fault_blames : {A : Type 0} (i : ℕ) (u : Trouble) → troubled u ≡ i → Blames {A = A} i (Err u)
fault_blames i u is t same = let equal : u ≡ t = cc in ap troubled (sym equal) ∙ is

ok_blames : {A : Type 0} (i : ℕ) (x : A) → Blames i (Ok x)
ok_blames i x t same = cc

then_blames : {A B : Type 0} (i : ℕ) (r : Result A Trouble) (f : A → Result B Trouble) → Blames i r → ((x : A) → Blames i (f x)) → Blames i (and_then r f)
then_blames i (Ok x) f first later t same = later x t same
then_blames i (Err u) f first later t same = let equal : u ≡ t = cc in first t (ap Err equal)

value_blames : (i : ℕ) (at : Pos) (o : Outcome) → Blames i (value_or_trouble i at o)
value_blames i at (outcome.Value v) = ok_blames i v
value_blames i at (outcome.Fault kind place) = fault_blames i (Fault kind i place) refl
value_blames i at outcome.Spent = fault_blames i (Spent i at) refl

values_blame : (i : ℕ) (at : Pos) (o : Listed) → Blames i (values_or_trouble i at o)
values_blame i at (listed.Values vs) = ok_blames i vs
values_blame i at (listed.Fault kind place) = fault_blames i (Fault kind i place) refl
values_blame i at listed.Spent = fault_blames i (Spent i at) refl

truth_blames : (i : ℕ) (at : Pos) (v : Value) → Blames i (truth i at v)
truth_blames i at (value.Bool b) = ok_blames i b
truth_blames i at value.Nil = fault_blames i _ refl
truth_blames i at (value.Int n) = fault_blames i _ refl
truth_blames i at (value.Char c) = fault_blames i _ refl
truth_blames i at (value.Str s) = fault_blames i _ refl
truth_blames i at (value.Ref r) = fault_blames i _ refl

duration_blames : (i : ℕ) (at : Pos) (v : Value) → Blames i (duration i at v)
duration_blames i at (value.Int (pos n)) = ok_blames i n
duration_blames i at (value.Int (negsuc n)) = fault_blames i _ refl
duration_blames i at value.Nil = fault_blames i _ refl
duration_blames i at (value.Bool b) = fault_blames i _ refl
duration_blames i at (value.Char c) = fault_blames i _ refl
duration_blames i at (value.Str s) = fault_blames i _ refl
duration_blames i at (value.Ref r) = fault_blames i _ refl

-- evaluations

gives_blames : (a : Context) (f : ℕ) (at : Pos) (e : Code) (r : Result Value Trouble) (s : StateView) → Gives a f at e r s → Blames a.process r
gives_blames a f at e r s g t same = value_blames a.process at g.outcome t (sym g.means ∙ same)

all_blame : (a : Context) (f : ℕ) (at : Pos) (es : Codes) (r : Result (List Value) Trouble) (s : StateView) → GivesAll a f at es r s → Blames a.process r
all_blame a f at es r s g t same = values_blame a.process at g.outcome t (sym g.means ∙ same)

part_blames : (a : Context) (f : ℕ) (at : Pos) (part : Part Slot ClassId) (r : Result (List Value) Trouble) (s : StateView) → GivesPart a f at part r s → Blames a.process r
part_blames a f at left_out r s g t same = ok_blames a.process [] t (sym g.0 ∙ same)
part_blames a f at (written es) r s g t same = all_blame a f at es r s g t same

tests_blame : (a : Context) (f : ℕ) (at : Pos) (e : Code) (r : Result Bool Trouble) → Tests a f at e r → Blames a.process r
tests_blame a f at e r x t same =
    then_blames a.process x.found (truth a.process at) (gives_blames a f at e x.found x.left x.gives) (truth_blames a.process at) t (sym x.means ∙ same)

lasts_blames : (a : Context) (f : ℕ) (at : Pos) (e : Code) (r : Result ℕ Trouble) → Lasts a f at e r → Blames a.process r
lasts_blames a f at e r x t same =
    then_blames a.process x.found (duration a.process at) (gives_blames a f at e x.found x.left x.gives) (duration_blames a.process at) t (sym x.means ∙ same)

-- what active parts are asked

asks_blames : (a : Context) (f : ℕ) (part : Term) (t : Trouble) → Asks a f part t → troubled t ≡ a.process
asks_blames a f _ t (asking.guard test at body _ x) = tests_blame a f at test (Err t) x t refl
asks_blames a f _ t (asking.time at e _ x) = lasts_blames a f at e (Err t) x t refl
asks_blames a f _ t (asking.arguments at port name args block _ s x) = part_blames a f at args (Err t) s x t refl

judges_blame : (a : Context) (f : ℕ) (p : ParcelView) (part : Term) (r : Result Bool Trouble) → Judges a f p part r → Blames a.process r
judges_blame a f p _ _ (messages.free at port name into block) = ok_blames a.process true
judges_blame a f p _ r (messages.asks at port name into condition block _ fits x) = tests_blame _ f at condition r x
judges_blame a f p _ _ (messages.unfit at port name into condition block fits) = fault_blames a.process _ refl

-- what they do

performs_blames : (a : Context) (f : ℕ) (part : Term) (at : Pos) (r : Result Process Trouble) → Performs a f part at r → Blames a.process r
performs_blames a f _ _ _ (internals.skips at) = ok_blames a.process _
performs_blames a f _ _ _ (internals.evaluates at e r s x) = then_blames a.process r _ (gives_blames a f at e r s x) (λ v. ok_blames a.process _)
performs_blames a f _ _ _ (internals.evaluates_block at es r s x) = then_blames a.process r _ (all_blame a f at es r s x) (λ vs. ok_blames a.process _)
performs_blames a f _ _ _ (internals.tests at e ts other r s x) =
    then_blames a.process r _ (gives_blames a f at e r s x) (λ v. then_blames a.process (truth a.process at v) _ (truth_blames a.process at v) (λ b. ok_blames a.process _))
performs_blames a f _ _ _ (internals.repeats at e ts r s x) =
    then_blames a.process r _ (gives_blames a f at e r s x) (λ v. then_blames a.process (truth a.process at v) _ (truth_blames a.process at v) (λ b. ok_blames a.process _))
performs_blames a f _ _ _ (internals.elapses at e) = ok_blames a.process _
performs_blames a f _ _ _ (internals.expires left at) = ok_blames a.process _
performs_blames a f _ _ _ (internals.calls at method args results r s locals body x is) = then_blames a.process r _ (all_blame a f at args r s x) (λ vs. ok_blames a.process _)

hands_blame : (p : ParcelView) (a : Context) (f : ℕ) (part : Term) (at : Pos) (r : Result Process Trouble) → Hands a f p part at r → Blames a.process r
hands_blame p a f _ _ _ (messages.hands at port name args block values s r left x is y) = then_blames a.process r _ (part_blames _ f at block r left y) (λ vs. ok_blames a.process _)

takes_blame : (p : ParcelView) (a : Context) (f : ℕ) (part : Term) (at : Pos) (r : Result Process Trouble) → Takes a f p part at r → Blames a.process r
takes_blame p a f _ _ _ (messages.takes at port name into condition block r left fits x) = then_blames a.process r _ (part_blames _ f at block r left x) (λ vs. ok_blames a.process _)
takes_blame p a f _ _ _ (messages.full at port name into condition block fits) = fault_blames a.process _ refl

either_blames : {A : Type 0} (i : ℕ) (b : Bool) (x y : Result A Trouble) → Blames i x → Blames i y → Blames i (if b then x else y)
either_blames i true x y one other = one
either_blames i false x y one other = other

settled_blames : (a : Context) (at : Pos) (whole : Term) (place : List ℕ) (x : Process) → Blames a.process (settled a at whole place x)
settled_blames a at whole place x = either_blames a.process _ (Ok _) (Err (High a.process at)) (ok_blames a.process _) (fault_blames a.process (High a.process at) refl)

-- what stands

process_stands : (m : ModelTree) (net : Net) (i : ℕ) (place : Address) → ∥ IsNet m net ∥₁ → slice_get (processes m) i ≡ Some place → HasProcess net i
process_stands m net i place is there = ∥∥₁_elim is le_prop (λ known.
    let count : length net.nodes ≡ length (processes m) = ap (λ xs. length xs) known.nodes ∙ length-map (processes m) (node_at m) in
    subst (λ (n : ℕ). i < n) (sym count) (slice_get_within (processes m) i place there))

wire_stands : (m : ModelTree) (net : Net) (w : ℕ) (c : Channel) → ∥ IsNet m net ∥₁ → slice_get (wires m) w ≡ Some c → IsWireOf net w
wire_stands m net w c is there = ∥∥₁_elim is le_prop (λ known.
    let count : length net.wire_names ≡ length (wires m) = ap (λ xs. length xs) known.wire_names ∙ length-map (wires m) (wire_name m) in
    subst (λ (n : ℕ). w < n) (sym count) (slice_get_within (wires m) w c there))

module _ (setting : Setting) (c : Config) (net : Net) (is : ∥ IsNet setting.model net ∥₁) where
  stands_named : (i : ℕ) (p : Process) (a : Context) → Stands setting c i p a → HasProcess net i
  stands_named i p a x = process_stands setting.model net i x.place is x.is_process

  part_named : (end : End) (a : Context) (f : ℕ) (part : Term) → PartAt setting c end a f part → HasProcess net end.process
  part_named end a f part x = stands_named end.process x.process a x.stands

  offer_named : (a : Action) → Offers setting c a → IsNamed net a
  offer_named _ (offers.internal at a f part kind place x can) = part_named at a f part x
  offer_named _ (offers.communication number sender receiver message parcel pair judged) = (
    wire_stands setting.model net number pair.sender_wire.has_wire.last is pair.sender_wire.has_wire.there,
    part_named sender pair.sends_at pair.sends_frame pair.sends_part pair.sender_active,
    part_named receiver pair.receives_at pair.receives_frame pair.receives_part pair.receiver_active,
  )

  named_trouble : (t : Trouble) (i : ℕ) → troubled t ≡ i → HasProcess net i → HasTroubled net t
  named_trouble (Fault kind j at) i same there = subst (HasProcess net) (sym same) there
  named_trouble (Spent j at) i same there = subst (HasProcess net) (sym same) there
  named_trouble (High j at) i same there = subst (HasProcess net) (sym same) there

  -- a part of this process, as its statements see it
  seen_named : (i : ℕ) (p : Process) (a : Context) (t : Trouble) → Stands setting c i p a → troubled t ≡ a.process → HasTroubled net t
  seen_named i p a t x same = named_trouble t i (same ∙ ap (λ (s : Context). s.process) x.seen) (stands_named i p a x)

  source_named : (source : Source) (t : Trouble) → Troubles setting c source t → HasTroubled net t
  source_named _ t (moments.asked at a f part _ x asks) = seen_named at.process x.process a t x.stands (asks_blames a f part t asks)
  source_named _ t (moments.judged number sender receiver message parcel _ pair judged) =
      let active = judged.active in
      seen_named receiver.process active.process judged.seen t active.stands (judges_blame judged.seen judged.frame parcel judged.part (Err t) judged.judges t refl)

  says_named : (m : Moment) (t : Trouble) → Candidate setting c m → m ≡ Faulty t → HasTroubled net t
  says_named _ t (moments.high u first) same = cc
  says_named _ t (moments.faulty u least) same = let equal : u ≡ t = cc in subst (HasTroubled net) equal (source_named least.source u least.occurs)
  says_named _ t (moments.acting actions is_offers some) same = cc
  says_named _ t (moments.passing d least) same = cc
  says_named _ t (moments.finished done) same = cc
  says_named _ t moments.deadlock same = cc

  high_named : (m : Moment) (t : Trouble) → Candidate setting c m → m ≡ Stopped t → HasTroubled net t
  high_named _ t (moments.high u first) same =
      let equal : u ≡ t = cc in
      subst (HasTroubled net) equal (subst (HasTroubled net) (sym first.says) (stands_named first.number first.process first.seen first.stands))
  high_named _ t (moments.faulty u least) same = cc
  high_named _ t (moments.acting actions is_offers some) same = cc
  high_named _ t (moments.passing d least) same = cc
  high_named _ t (moments.finished done) same = cc
  high_named _ t moments.deadlock same = cc

  acts_named : (does : Deed) (at : End) (r : Result Process Trouble) → ((a : Context) (f : ℕ) (part : Term) (place : Pos) (q : Result Process Trouble) → does a f part place q → Blames a.process q)
      → Acts setting c does at r → (t : Trouble) → r ≡ Err t → HasTroubled net t
  acts_named does at r blames x t same =
      seen_named at.process x.process x.seen t x.stands
      (then_blames x.seen.process x.left (settled x.seen x.pos x.process.term at.place) (blames x.seen x.frame x.part x.pos x.left x.acts)
      (λ p. settled_blames x.seen x.pos x.process.term at.place p) t (sym x.leaves ∙ same))

  -- what is named at each trouble of one result or of another
  next_of : {A B : Type 0} (r : Result A Trouble) (f : A → Result B Trouble) (t : Trouble)
      → ((u : Trouble) → r ≡ Err u → HasTroubled net u) → ((x : A) (u : Trouble) → f x ≡ Err u → HasTroubled net u) → and_then r f ≡ Err t → HasTroubled net t
  next_of (Ok x) f t first later same = later x t same
  next_of (Err u) f t first later same = let equal : u ≡ t = cc in first t (ap Err equal)

  next_named : (a : Action) (r : Result Config Trouble) → Next setting c a r → (t : Trouble) → r ≡ Err t → HasTroubled net t
  next_named _ _ (steps.internal at kind place result x) t same =
      next_of result _ t (λ u h. acts_named Performs at result performs_blames x u h) (λ p u h. cc) same
  next_named _ _ (steps.communication number sender receiver message parcel sent taken x y) t same =
      next_of sent _ t (λ u h. acts_named (λ a f. Hands a f parcel) sender sent (hands_blame parcel) x u h)
      (λ p u h. next_of taken _ u (λ v k. acts_named (λ a f. Takes a f parcel) receiver taken (takes_blame parcel) y v k) (λ q v k. cc) h) same

pub offers_named : (setting : Setting) (c : Config) (net : Net) (a : Action) → ∥ IsNet setting.model net ∥₁ → Offers setting c a → IsNamed net a
offers_named setting c net a is x = offer_named setting c net is a x

pub faults_named : (setting : Setting) (c : Config) (net : Net) (t : Trouble) → ∥ IsNet setting.model net ∥₁ → IsMoment setting c (Faulty t) → HasTroubled net t
faults_named setting c net t is x = says_named setting c net is (Faulty t) t x.applies refl

pub highs_named : (setting : Setting) (c : Config) (net : Net) (t : Trouble) → ∥ IsNet setting.model net ∥₁ → IsMoment setting c (Stopped t) → HasTroubled net t
highs_named setting c net t is x = high_named setting c net is (Stopped t) t x.applies refl

pub stops_named : (setting : Setting) (c : Config) (net : Net) (a : Action) (t : Trouble) → ∥ IsNet setting.model net ∥₁ → Next setting c a (Err t) → HasTroubled net t
stops_named setting c net a t is x = next_named setting c net is a (Err t) x t refl
