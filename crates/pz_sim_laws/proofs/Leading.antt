-- What processes leave by a step is the next configuration.
use Rattle.std.proofs.Common.{◌≡◌, ◌≢◌, ◌<◌, ◌≤◌, ◌+◌, ◌⊎◌, inl, inr, ℕ, List, [], map, set, length, Some, Result, Ok, Err, refl, sym, subst, ap, ◌∙◌, arith}
use Rattle.std.specs.Prelude.{slice_get}
use Rattle.std.proofs.lemmas.Bool.{cases_lt}
use Rattle.std.proofs.lemmas.Option.{slice_get_within}
use Rattle.std.proofs.lemmas.List.{length-map, length-set, map-set}
use Rattle.pz_tree_standing.specs.pz_syntax.declared.tokens.Pos.{Pos}
use Rattle.pz_tree_standing.specs.pz_syntax.Expressions.{Part, left_out, written}
use Rattle.pz_tree_standing.specs.pz_syntax.Statements as statements
use Rattle.pz_tree_standing.specs.pz_value.declared.value.ClassId.{ClassId}
use Rattle.pz_tree_standing.specs.pz_value.declared.value.Value.{Value}
use Rattle.pz_tree_standing.specs.pz_classes_code.declared.slot.Slot.{Slot}
use Rattle.pz_tree_standing.specs.pz_copy.Parcels.{ParcelView}
use Rattle.pz_tree_standing.specs.pz_state.States.{StateView, object_limit}
use Rattle.pz_bind_levels.specs.Places.{Address}
use Rattle.pz_tree_standing.specs.pz_bind_rules.Nest.{processes, class_at}
use Rattle.pz_tree_standing.specs.pz_offer.declared.end.End.{End}
use Rattle.pz_tree_standing.specs.pz_offer.declared.trouble.Trouble.{Trouble}
use Rattle.pz_tree_standing.specs.pz_offer.PlaceOrder.{Place}
use Rattle.pz_tree_standing.specs.pz_eval_rules.Laws.{EachListHasAnOutcome}
use Rattle.pz_tree_standing.specs.pz_rules.declared.action.Kind.{Kind}
use Rattle.pz_tree_standing.specs.pz_rules.declared.action.Action.TheVariants.{Internal, Comm}
use Rattle.pz_tree_standing.specs.pz_rules.Terms as terms
use Rattle.pz_tree_standing.specs.pz_rules.Terms.{Term}
use Rattle.pz_tree_standing.specs.pz_rules.Settings.{Setting, Process, Context, in_state}
use Rattle.pz_tree_standing.specs.pz_rules.Active.{IsActive}
use Rattle.pz_tree_standing.specs.pz_rules.Evaluations.{allowance, values_or_trouble, GivesPart}
use Rattle.pz_tree_standing.specs.pz_rules.Leaving.{settled}
use Rattle.pz_tree_standing.specs.pz_rules.Meanings.{and_then}
use Rattle.pz_tree_standing.specs.pz_rules.Messages as messages
use Rattle.pz_tree_standing.specs.pz_rules.Messages.{Receives, Takes}
use Rattle.pz_tree_standing.specs.pz_rules.Delays.{Passes}
use Rattle.pz_tree_standing.specs.pz_rules.Configurations.{Config, Stands}
use Rattle.pz_tree_standing.specs.pz_rules.Offers.{IsPair}
use Rattle.pz_tree_standing.specs.pz_rules.Steps as steps
use Rattle.pz_tree_standing.specs.pz_rules.Steps.{Acts, Next, PassesTo}
use Rattle.pz_tree_standing.specs.Steady.{later}
use Rattle.pz_sim_laws.specs.Members.{Member, process_of, config_of, become, AreMembers}
use Rattle.pz_sim_laws.specs.Deeds.{Manner, alone, handing, taking, deed}
use Rattle.pz_sim_laws.specs.Elapsing.{Elapsed}
use Rattle.pz_sim_laws.proofs.Lists.{some_there, got_mapped, set_same, set_other}
use Rattle.pz_sim_laws.proofs.Standing.{stands_of, sits_of}
use Rattle.pz_sim_laws.proofs.Replacing.{same_or_apart}

-- What one process leaves

pub member_acts : (setting : Setting) (clock : ℕ) (ms : List Member) (manner : Manner) (i : ℕ) (m : Member) (place : Place) (frame : ℕ) (part : Term) (pos : Pos) (left result : Result Process Trouble)
    → AreMembers setting clock ms → slice_get ms i ≡ Some m → IsActive m.seen m.term place frame part → deed manner m.seen frame part pos left
    → result ≡ and_then left (settled m.seen pos m.term place)
    → Acts setting (config_of clock ms) (deed manner) (record { process = i; place = place }) result
member_acts setting clock ms manner i m place frame part pos left result are is active does leaves = record {
  process = process_of m;
  seen = m.seen;
  stands = stands_of setting clock ms are i m is;
  frame = frame;
  part = part;
  active = active;
  pos = pos;
  left = left;
  acts = does;
  leaves = leaves;
}

one_set : (clock : ℕ) (ms : List Member) (i : ℕ) (m : Member) (p : Process) → config_of clock (set ms i (become m p)) ≡ record { clock = clock; processes = set (map process_of ms) i p }
one_set clock ms i m p = ap (λ (ps : List Process). let c : Config = record { clock = clock; processes = ps } in c) (map-set process_of ms i (become m p))

pub action_leads : (setting : Setting) (clock : ℕ) (ms : List Member) (at : End) (kind : Kind) (pos : Pos) (m : Member) (result : Result Process Trouble)
    → slice_get ms at.process ≡ Some m → Acts setting (config_of clock ms) (deed alone) at result
    → Next setting (config_of clock ms) (Internal at kind pos) (and_then result (λ p. Ok (config_of clock (set ms at.process (become m p)))))
action_leads setting clock ms at kind pos m (Ok p) is acts =
    subst (λ (c : Config). Next setting (config_of clock ms) (Internal at kind pos) (Ok c)) (sym (one_set clock ms at.process m p)) (steps.internal at kind pos (Ok p) acts)
action_leads setting clock ms at kind pos m (Err t) is acts = steps.internal at kind pos (Err t) acts

both_set : (clock : ℕ) (ms : List Member) (i j : ℕ) (m n : Member) (p q : Process)
    → config_of clock (set (set ms i (become m p)) j (become n q)) ≡ record { clock = clock; processes = set (set (map process_of ms) i p) j q }
both_set clock ms i j m n p q =
    one_set clock (set ms i (become m p)) j n q
    ∙ ap (λ (ps : List Process). let c : Config = record { clock = clock; processes = set ps j q } in c) (map-set process_of ms i (become m p))

pub communication_leads : (setting : Setting) (clock : ℕ) (ms : List Member) (wire : ℕ) (sender receiver : End) (message : List ℕ) (parcel : ParcelView) (m n : Member) (sent taken : Result Process Trouble)
    → slice_get ms sender.process ≡ Some m → slice_get ms receiver.process ≡ Some n
    → Acts setting (config_of clock ms) (deed (handing parcel)) sender sent → Acts setting (config_of clock ms) (deed (taking parcel)) receiver taken
    → Next setting (config_of clock ms) (Comm wire sender receiver message parcel)
    (and_then sent (λ p. and_then taken (λ q. Ok (config_of clock (set (set ms sender.process (become m p)) receiver.process (become n q))))))
communication_leads setting clock ms wire sender receiver message parcel m n (Ok p) (Ok q) is_m is_n hands takes =
    subst (λ (c : Config). Next setting (config_of clock ms) (Comm wire sender receiver message parcel) (Ok c)) (sym (both_set clock ms sender.process receiver.process m n p q))
    (steps.communication wire sender receiver message parcel (Ok p) (Ok q) hands takes)
communication_leads setting clock ms wire sender receiver message parcel m n (Ok p) (Err t) is_m is_n hands takes = steps.communication wire sender receiver message parcel (Ok p) (Err t) hands takes
communication_leads setting clock ms wire sender receiver message parcel m n (Err t) taken is_m is_n hands takes = steps.communication wire sender receiver message parcel (Err t) taken hands takes

-- a receive takes each parcel somehow

pub part_some : EachListHasAnOutcome → (a : Context) (f : ℕ) (at : Pos) (es : Part Slot ClassId) → (r : Result (List Value) Trouble) × (s : StateView) × GivesPart a f at es r s
part_some law a f at left_out = (Ok [], a.state, (refl, refl))
part_some law a f at (written es) =
    let found = law a.setting.model a.clock f a.state es (allowance a.setting.limits) in
    (values_or_trouble a.process at found.0.listed, found.0.state, record { outcome = found.0.listed; finds = found.1; means = refl })

pub takes_some : EachListHasAnOutcome → (a : Context) (f : ℕ) (parcel : ParcelView) (part : Term) (pos : Pos) (port : ℕ) (message : List ℕ) (count : ℕ)
    → Receives part pos port message count → (r : Result Process Trouble) × Takes a f parcel part pos r
takes_some law a f parcel _ _ _ _ _ (messages.receives at port name into condition block) = by_room (cases_lt object_limit (length a.state.objects + length parcel.objects))
  where
    by_room : (object_limit < length a.state.objects + length parcel.objects) ⊎ (length a.state.objects + length parcel.objects ≤ object_limit)
        → (r : Result Process Trouble) × Takes a f parcel (terms.leaf (statements.receive at port name into condition block)) at r
    by_room (inl over) = (_, messages.full at port name into condition block (λ fits. absurd (omega (arith, over, fits))))
    by_room (inr fits) =
        let given = part_some law (in_state a (messages.bound a f into parcel)) f at block in
        (_, messages.takes at port name into condition block given.0 given.1 fits given.2)

pub sender_trouble : EachListHasAnOutcome → (setting : Setting) (c : Config) (wire : ℕ) (sender receiver : End) (message : List ℕ) (parcel : ParcelView) (trouble : Trouble)
    → IsPair setting c wire sender receiver message parcel → Acts setting c (deed (handing parcel)) sender (Err trouble)
    → Next setting c (Comm wire sender receiver message parcel) (Err trouble)
sender_trouble law setting c wire sender receiver message parcel trouble pair hands =
    let active = pair.receiver_active in
    let taken = takes_some law pair.receives_at pair.receives_frame parcel pair.receives_part pair.receives_pos pair.receives_port message (length parcel.values) pair.receives in
    steps.communication wire sender receiver message parcel (Err trouble) (and_then taken.0 (settled pair.receives_at pair.receives_pos active.process.term receiver.place)) hands (record {
      process = active.process;
      seen = pair.receives_at;
      stands = active.stands;
      frame = pair.receives_frame;
      part = pair.receives_part;
      active = active.active;
      pos = pair.receives_pos;
      left = taken.0;
      acts = taken.1;
      leaves = refl;
    })

-- they are processes of the model afterwards

abbrev Sees : Setting → ℕ → ℕ → Member → Address → Type 0
Sees setting clock j n place = n.seen ≡ record { setting = setting; process = j; class = class_at setting.model place; clock = clock; state = n.seen.state }

pub members_stay : (setting : Setting) (clock : ℕ) (ms : List Member) (i : ℕ) (m : Member) (p : Process) → AreMembers setting clock ms → slice_get ms i ≡ Some m → AreMembers setting clock (set ms i (become m p))
members_stay setting clock ms i m p are is = record { whole = length-set ms i (become m p) ∙ are.whole; each = λ j n place there is_place. by j n place there is_place (same_or_apart i j) }
  where
    by : (j : ℕ) (n : Member) (place : Address) → slice_get (set ms i (become m p)) j ≡ Some n → slice_get (processes setting.model) j ≡ Some place → (i ≡ j) ⊎ (i ≢ j) → Sees setting clock j n place
    by j n place there is_place (inl same) =
        let one : n ≡ become m p = set_same ms i (become m p) n (ap (slice_get (set ms i (become m p))) same ∙ there) in
        let old : Sees setting clock i m place = are.each i m place is (ap (slice_get (processes setting.model)) same ∙ is_place) in
        subst (λ (k : ℕ). Sees setting clock k n place) same (subst (λ (x : Member). Sees setting clock i x place) (sym one) (ap (λ (a : Context). in_state a p.state) old))
    by j n place there is_place (inr apart) = are.each j n place (sym (set_other ms i j (become m p) apart) ∙ there) is_place

-- time passes

module _ (setting : Setting) (clock d : ℕ) (ms ns : List Member) (are : AreMembers setting clock ms) (same : length ns ≡ length ms)
    (elapsed : (i : ℕ) (m n : Member) → slice_get ms i ≡ Some m → slice_get ns i ≡ Some n → Elapsed d m n) where
  pub passing_leads : PassesTo setting (config_of clock ms) d (config_of (clock + d) ns)
  passing_leads = record {
    clock = refl;
    all = length-map ns process_of ∙ same ∙ sym (length-map ms process_of);
    each = each;
  }
    where
      each : (i : ℕ) (p : Process) (a : Context) → Stands setting (config_of clock ms) i p a
          → (x : Term) × Passes a d 0 p.term x × (slice_get (map process_of ns) i ≡ Some (record { term = x; state = p.state }))
      each i p a stands =
          let sits = sits_of setting clock ms are i p a stands in
          let m = sits.member in
          let there = some_there ns i (subst (λ (k : ℕ). i < k) (sym same) (slice_get_within ms i m sits.is)) in
          let n = there.0 in
          let has = elapsed i m n sits.is there.1 in (
            n.term,
            subst (λ (b : Context). Passes b d 0 p.term n.term) (sym sits.seen) (subst (λ (q : Process). Passes m.seen d 0 q.term n.term) (sym sits.process) has.passes),
            got_mapped process_of ns i n there.1
                ∙ ap (λ (s : StateView). Some (let q : Process = record { term = n.term; state = s } in q)) (ap (λ (b : Context). b.state) has.seen ∙ ap (λ (q : Process). q.state) (sym sits.process)),
          )

  pub members_pass : AreMembers setting (clock + d) ns
  members_pass = record {
    whole = same ∙ are.whole;
    each = λ i n place there is_place.
        let from = some_there ms i (subst (λ (k : ℕ). i < k) same (slice_get_within ns i n there)) in
        let m = from.0 in
        let has = elapsed i m n from.1 there in
        let old = are.each i m place from.1 is_place in
        has.seen ∙ ap (λ (a : Context). later a d) old
        ∙ ap (λ (s : StateView). let b : Context = record { setting = setting; process = i; class = class_at setting.model place; clock = clock + d; state = s } in b) (ap (λ (a : Context). a.state) (sym has.seen));
  }
