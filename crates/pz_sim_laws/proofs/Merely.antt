-- Of a moment, an offer, a next configuration there is one at most and one can be found, so what is merely so is so.
use Rattle.std.proofs.Common.{◌≡◌, ◌<◌, ℕ, List, length, Option, Some, None, Result, Ok, Err, refl, sym, subst, ap, ◌∙◌}
use Rattle.std.specs.Prelude.{slice_get}
use Rattle.std.proofs.Math.Logic.{∥∥₁_elim}
use Rattle.std.proofs.Math.Nat.{ℕ_set}
use Rattle.std.specs.Coded.{Coded-set, le_prop, coded_option}
use Rattle.std.proofs.lemmas.Option.{same_Some, slice_get_within}
use Rattle.pz_tree_standing.specs.pz_syntax.declared.tokens.Pos.{Pos}
use Rattle.pz_tree_standing.specs.pz_syntax.declared.names.Id.{Id}
use Rattle.pz_tree_standing.specs.pz_syntax.Statements as statement
use Rattle.pz_tree_standing.specs.pz_value.declared.value.Value.{Value}
use Rattle.pz_tree_standing.specs.pz_classes_code.declared.slot.Slot.{Slot}
use Rattle.pz_tree_standing.specs.pz_classes_rules.declared.method_id.Counts.TheVariants.{Process as process_counts}
use Rattle.pz_tree_standing.specs.pz_classes_rules.Bodies.{BodyTree, data_body, process_body}
use Rattle.pz_tree_standing.specs.pz_classes_rules.MethodBodies.{process_method_body}
use Rattle.pz_tree_standing.specs.pz_classes_rules.FitBodies.{StatementFits, how_many}
use Rattle.pz_tree_standing.specs.pz_classes_rules.SoundBodies.{BodiesFit, SoundBodiesFit}
use Rattle.pz_tree_standing.specs.pz_classes_rules.Soundness.{IsSound}
use Rattle.pz_tree_standing.specs.pz_copy.Parcels.{ParcelView}
use Rattle.pz_tree_standing.specs.pz_state.States.{StateView}
use Rattle.pz_tree_standing.specs.pz_offer.declared.trouble.Trouble.{Trouble}
use Rattle.pz_tree_standing.specs.pz_offer.contracts.trouble.Trouble as trouble_row
use Rattle.pz_tree_standing.specs.pz_eval_rules.Laws.{EachHasAnOutcome, EachListHasAnOutcome}
use Rattle.pz_tree_standing.specs.pz_rules.declared.action.Kind.{Kind}
use Rattle.pz_tree_standing.specs.pz_rules.declared.action.Action.{Action}
use Rattle.pz_tree_standing.specs.pz_rules.contracts.action.Action as action_row
use Rattle.pz_tree_standing.specs.pz_rules.declared.moment.Moment.{Moment}
use Rattle.pz_tree_standing.specs.pz_rules.contracts.moment.Moment as moment_row
use Rattle.pz_tree_standing.specs.pz_rules.declared.moment.Moment.TheVariants.{Time}
use Rattle.pz_tree_standing.specs.pz_rules.Terms.{Code, Codes, Term, leaf}
use Rattle.pz_tree_standing.specs.pz_rules.Settings.{Setting, Process, Context, in_state}
use Rattle.pz_tree_standing.specs.pz_rules.Active.{IsActive}
use Rattle.pz_tree_standing.specs.pz_rules.Evaluations.{allowance, value_or_trouble, values_or_trouble, Gives, GivesAll}
use Rattle.pz_tree_standing.specs.pz_rules.InternalActions as actions
use Rattle.pz_tree_standing.specs.pz_rules.InternalActions.{Can, Performs, done_in}
use Rattle.pz_tree_standing.specs.pz_rules.Leaving.{settled}
use Rattle.pz_tree_standing.specs.pz_rules.Meanings.{and_then}
use Rattle.pz_tree_standing.specs.pz_rules.Messages as messages
use Rattle.pz_tree_standing.specs.pz_rules.Messages.{Sends, Hands}
use Rattle.pz_tree_standing.specs.pz_rules.Fitting.{IsFit, TermFits}
use Rattle.pz_tree_standing.specs.pz_rules.Configurations.{Config, IsWhole, Stands}
use Rattle.pz_tree_standing.specs.pz_rules.Offers as offers
use Rattle.pz_tree_standing.specs.pz_rules.Offers.{PartAt, Offers, IsOffers, IsPair}
use Rattle.pz_tree_standing.specs.pz_rules.Steps as steps
use Rattle.pz_tree_standing.specs.pz_rules.Steps.{Acts, Deed, Next, PassesTo}
use Rattle.pz_tree_standing.specs.pz_rules.Moments.{IsMoment}
use Rattle.pz_tree_standing.specs.pz_rules.Runs.{IsChoice}
use Rattle.pz_tree_standing.specs.pz_rules.Laws.{OneListOfOffers, EveryListOfOffers, WiresAreKnown, OneMoment, EveryMoment, EveryPassing, OneNext, OnePassing}
use Rattle.pz_tree_standing.specs.pz_rules.devices.Ends.{ActivePartsFit}
use Rattle.pz_tree_standing.specs.pz_rules.devices.Sets.{StatementsAreASet}
use Rattle.pz_sim_laws.specs.Leading.{LeadsTo}
use Rattle.pz_sim_laws.proofs.Lists.{some_there, all_got, contains_at}
use Rattle.pz_sim_laws.proofs.Leading.{part_some, takes_some}
use Rattle.pz_sim_laws.proofs.Sets.{config_set}

pub moment_is : WiresAreKnown → OneMoment → EveryMoment → (setting : Setting) (c : Config) (m : Moment) → IsSound setting.model → ∥ IsMoment setting c m ∥₁ → IsMoment setting c m
moment_is wires one every setting c m sound h =
    let x = every setting c (wires setting.model sound) in
    subst (IsMoment setting c) (∥∥₁_elim h (Coded-set moment_row.the_row.coded x.0 m) (λ k. one setting c x.0 m x.1 k)) x.1

-- The offers

module _ (wires : WiresAreKnown) (one : OneListOfOffers) (every : EveryListOfOffers) (setting : Setting) (c : Config) (sound : IsSound setting.model) where
  abbrev pub listed : (xs : List Action) × IsOffers setting c xs
  listed = every setting c (wires setting.model sound)

  -- the offer of this number
  record IsListed (n k : ℕ) (a : Action) : Type 0 where
    pub within : k < length listed.0
    pub count : n ≡ length listed.0
    pub chosen : slice_get listed.0 k ≡ Some a

  is_listed : (n k : ℕ) (a : Action) → IsChoice setting c n k a → IsListed n k a
  is_listed n k a x =
      let same : x.offers ≡ listed.0 = one setting c x.offers listed.0 x.all listed.1 in
      let chosen : slice_get listed.0 k ≡ Some a = ap (λ (l : List Action). slice_get l k) (sym same) ∙ x.chosen in
      record { within = slice_get_within listed.0 k a chosen; count = x.count ∙ ap length same; chosen = chosen }

  pub chosen_is : (n k : ℕ) (a : Action) → ∥ IsChoice setting c n k a ∥₁ → IsChoice setting c n k a
  chosen_is n k a h = record {
    offers = listed.0;
    all = listed.1;
    count = ∥∥₁_elim h (ℕ_set n (length listed.0)) (λ x. (is_listed n k a x).count);
    chosen = ∥∥₁_elim h (Coded-set (coded_option action_row.the_row.coded) (slice_get listed.0 k) (Some a)) (λ x. (is_listed n k a x).chosen);
  }

-- Each offer leads somewhere

record SomeDeed (does : Pos → Result Process Trouble → Type 0) : Type 0 where
  pub pos : Pos
  pub left : Result Process Trouble
  pub is : does pos left

module _ (outcomes : EachHasAnOutcome) (lists : EachListHasAnOutcome) where
  record Gave (a : Context) (f : ℕ) (at : Pos) (e : Code) : Type 0 where
    pub r : Result Value Trouble
    pub s : StateView
    pub gives : Gives a f at e r s

  gives_some : (a : Context) (f : ℕ) (at : Pos) (e : Code) → Gave a f at e
  gives_some a f at e =
      let found = outcomes a.setting.model a.clock f a.state e (allowance a.setting.limits) in
      record { r = value_or_trouble a.process at found.0.outcome; s = found.0.state; gives = record { outcome = found.0.outcome; finds = found.1; means = refl } }

  record GaveAll (a : Context) (f : ℕ) (at : Pos) (es : Codes) : Type 0 where
    pub r : Result (List Value) Trouble
    pub s : StateView
    pub gives : GivesAll a f at es r s

  gives_all_some : (a : Context) (f : ℕ) (at : Pos) (es : Codes) → GaveAll a f at es
  gives_all_some a f at es =
      let found = lists a.setting.model a.clock f a.state es (allowance a.setting.limits) in
      record { r = values_or_trouble a.process at found.0.listed; s = found.0.state; gives = record { outcome = found.0.listed; finds = found.1; means = refl } }

  -- a method that is called is there, if only that the call fits is so
  call_some : (a : Context) (f l : ℕ) (sound : BodiesFit a.setting.model) (at : Pos) (method : Id) (args : Codes) (results : List Slot) → ∥ ((l : ℕ) × StatementFits a.setting.model a.class l (statement.call at method args results)) ∥₁
      → (o : Option BodyTree) → process_method_body a.setting.model a.class method.name (how_many args) (length results) ≡ o → SomeDeed (Performs a f (leaf (statement.call at method args results)))
  call_some a f l sound at method args results fits (Some (process_body locals body)) is =
      let given = gives_all_some a f at args in
      record { pos = at; left = _; is = actions.calls at method args results given.r given.s locals body given.gives (record { is_body = is }) }
  call_some a f l sound at method args results fits (Some (data_body count code)) is =
      absurd (∥∥₁_elim fits (λ x y. absurd x) (λ h. sound.methods_fit a.class (record { name = method.name; counts = process_counts (how_many args) (length results) }) (data_body count code) is))
  call_some a f l sound at method args results fits None is = absurd (∥∥₁_elim fits (λ x y. absurd x) (λ h. differ h.1.0.body (sym is ∙ h.1.0.is)))
    where
      differ : (b : BodyTree) → (let o : Option BodyTree = None in o) ≡ Some b → ⊥
      differ b e = cc

  performs_some : (a : Context) (f : ℕ) (sound : BodiesFit a.setting.model) (t : Term) (kind : Kind) (pos : Pos) → Can a f t kind pos → ∥ ((l : ℕ) × TermFits a.setting.model a.class l t) ∥₁ → SomeDeed (Performs a f t)
  performs_some a f sound _ _ _ (actions.skips at) h = record { pos = at; left = Ok (done_in a.state); is = actions.skips at }
  performs_some a f sound _ _ _ (actions.evaluates at e) h = let x = gives_some a f at e in record { pos = at; left = _; is = actions.evaluates at e x.r x.s x.gives }
  performs_some a f sound _ _ _ (actions.evaluates_block at es) h = let x = gives_all_some a f at es in record { pos = at; left = _; is = actions.evaluates_block at es x.r x.s x.gives }
  performs_some a f sound _ _ _ (actions.tests at e ts other) h = let x = gives_some a f at e in record { pos = at; left = _; is = actions.tests at e ts other x.r x.s x.gives }
  performs_some a f sound _ _ _ (actions.repeats at e ts) h = let x = gives_some a f at e in record { pos = at; left = _; is = actions.repeats at e ts x.r x.s x.gives }
  performs_some a f sound _ _ _ (actions.elapses at e is) h = record { pos = at; left = Ok (done_in a.state); is = actions.elapses at e }
  performs_some a f sound _ _ _ (actions.expires at) h = record { pos = at; left = Ok (done_in a.state); is = actions.expires 0 at }
  performs_some a f sound _ _ _ (actions.calls at method args results) h = call_some a f 0 sound at method args results h (process_method_body a.setting.model a.class method.name (how_many args) (length results)) refl

  hands_some : (a : Context) (f : ℕ) (t : Term) (pos : Pos) (port : ℕ) (message : List ℕ) (parcel : ParcelView) → Sends a f t pos port message parcel → SomeDeed (Hands a f parcel t)
  hands_some a f _ _ _ _ _ (messages.sends at port name args after values s parcel gives packed) =
      let x = part_some lists (in_state a s) f at after in
      record { pos = at; left = _; is = messages.hands at port name args after values s x.0 x.1 gives packed x.2 }

  module _ (bodies : SoundBodiesFit) (parts : ActivePartsFit) (setting : Setting) (c : Config) (sound : IsSound setting.model) (fit : ∥ IsFit setting c ∥₁) where
    -- what stands at an end fits its class
    stands_fit : (i : ℕ) (p : Process) (a : Context) (x : Stands setting c i p a) (f : ℕ) (place : List ℕ) (t : Term) → IsActive a p.term place f t
        → ∥ ((l : ℕ) × TermFits a.setting.model a.class l t) ∥₁
    stands_fit i p a x f place t active =
        subst (λ (b : Context). ∥ ((l : ℕ) × TermFits b.setting.model b.class l t) ∥₁) (sym x.seen)
        (∥∥₁_elim fit squash₁ (λ k. ∣ parts setting.model _ 0 a 0 p.term place f t active (k i x.place p x.is_process x.is_here) ∣₁))

    model_is : (i : ℕ) (p : Process) (a : Context) → Stands setting c i p a → BodiesFit a.setting.model
    model_is i p a x = subst (λ (b : Context). BodiesFit b.setting.model) (sym x.seen) (bodies setting.model sound)

    next_some : (a : Action) → Offers setting c a → (r : Result Config Trouble) × Next setting c a r
    next_some _ (offers.internal at a f part kind pos active can) =
        let does = performs_some a f (model_is at.process active.process a active.stands) part kind pos can (stands_fit at.process active.process a active.stands f at.place part active.active) in (
          _,
          steps.internal at kind pos (and_then does.left (settled a does.pos active.process.term at.place)) (record {
            process = active.process;
            seen = a;
            stands = active.stands;
            frame = f;
            part = part;
            active = active.active;
            pos = does.pos;
            left = does.left;
            acts = does.is;
            leaves = refl;
          }),
        )
    next_some _ (offers.communication wire sender receiver message parcel pair judged) =
        let sent = hands_some pair.sends_at pair.sends_frame pair.sends_part pair.sends_pos pair.sends_port message parcel pair.sends in
        let taken = takes_some lists pair.receives_at pair.receives_frame parcel pair.receives_part pair.receives_pos pair.receives_port message (length parcel.values) pair.receives in
        let s = pair.sender_active in
        let t = pair.receiver_active in (
          _,
          steps.communication wire sender receiver message parcel (and_then sent.left (settled pair.sends_at sent.pos s.process.term sender.place)) (and_then taken.0 (settled pair.receives_at pair.receives_pos t.process.term receiver.place))
              (record { process = s.process; seen = pair.sends_at; stands = s.stands; frame = pair.sends_frame; part = pair.sends_part; active = s.active; pos = sent.pos; left = sent.left; acts = sent.is; leaves = refl })
              (record { process = t.process; seen = pair.receives_at; stands = t.stands; frame = pair.receives_frame; part = pair.receives_part; active = t.active; pos = pair.receives_pos; left = taken.0; acts = taken.1; leaves = refl }),
        )

    -- one result

    is_ok : StatementsAreASet → (d : Config) (x r : Result Config Trouble) → r ≡ Ok d → ∥ x ≡ r ∥₁ → x ≡ r
    is_ok sets d (Ok e) r is h = ap (λ (y : Config). Ok y) (∥∥₁_elim h (config_set sets e d) (λ k. inside e (k ∙ is))) ∙ sym is
      where
        inside : (e : Config) → (let y : Result Config Trouble = Ok e in y) ≡ Ok d → e ≡ d
        inside e k = cc
    is_ok sets d (Err t) r is h = absurd (∥∥₁_elim h (λ x y. absurd x) (λ k. differ (k ∙ is)))
      where
        differ : (let y : Result Config Trouble = Err t in y) ≡ Ok d → ⊥
        differ k = cc

    is_err : (t : Trouble) (x r : Result Config Trouble) → r ≡ Err t → ∥ x ≡ r ∥₁ → x ≡ r
    is_err t (Err u) r is h = ap (λ (y : Trouble). Err y) (∥∥₁_elim h (Coded-set trouble_row.the_row.coded u t) (λ k. inside (k ∙ is))) ∙ sym is
      where
        inside : (let y : Result Config Trouble = Err u in y) ≡ Err t → u ≡ t
        inside k = cc
    is_err t (Ok d) r is h = absurd (∥∥₁_elim h (λ x y. absurd x) (λ k. differ (k ∙ is)))
      where
        differ : (let y : Result Config Trouble = Ok d in y) ≡ Err t → ⊥
        differ k = cc

    same_result : StatementsAreASet → (x r : Result Config Trouble) → ∥ x ≡ r ∥₁ → x ≡ r
    same_result sets x (Ok d) h = is_ok sets d x (Ok d) refl h
    same_result sets x (Err t) h = is_err t x (Err t) refl h

    module _ (sets : StatementsAreASet) (wires : WiresAreKnown) (one : OneListOfOffers) (every : EveryListOfOffers) (once : OneNext) (n k : ℕ) (r : Result Config Trouble) (h : ∥ LeadsTo setting c n k r ∥₁) where
      abbrev all : (xs : List Action) × IsOffers setting c xs
      all = listed wires one every setting c sound

      listed_so : (x : LeadsTo setting c n k r) → IsListed wires one every setting c sound n k x.action
      listed_so x = is_listed wires one every setting c sound n k x.action x.chosen

      inside : k < length all.0
      inside = ∥∥₁_elim h le_prop (λ x. (listed_so x).within)

      counted : n ≡ length all.0
      counted = ∥∥₁_elim h (ℕ_set n (length all.0)) (λ x. (listed_so x).count)

      abbrev the_one : (a : Action) × (slice_get all.0 k ≡ Some a)
      the_one = some_there all.0 k inside

      leads_some : (x : Result Config Trouble) × Next setting c the_one.0 x
      leads_some = next_some the_one.0 (all_got (Offers setting c) all.0 the_one.0 all.1.derivable (contains_at all.0 k the_one.0 the_one.1))

      merely_same : ∥ leads_some.0 ≡ r ∥₁
      merely_same = ∥∥₁_elim h squash₁ (λ x. ∣ (
          let same : x.action ≡ the_one.0 = same_Some x.action the_one.0 (sym (listed_so x).chosen ∙ the_one.1) in
          once setting c the_one.0 leads_some.0 r leads_some.1 (subst (λ (a : Action). Next setting c a r) same x.next)) ∣₁)

      pub leads : LeadsTo setting c n k r
      leads = record {
        action = the_one.0;
        chosen = record { offers = all.0; all = all.1; count = counted; chosen = the_one.1 };
        next = subst (λ (y : Result Config Trouble). Next setting c the_one.0 y) (same_result sets leads_some.0 r merely_same) leads_some.1;
      }

-- Time

pub passes : StatementsAreASet → WiresAreKnown → EveryPassing → OnePassing → (setting : Setting) (c next : Config) (d : ℕ) → IsSound setting.model → IsWhole setting c → IsMoment setting c (Time d)
    → ∥ PassesTo setting c d next ∥₁ → PassesTo setting c d next
passes sets wires every one setting c next d sound whole now h =
    let x = every setting c d (wires setting.model sound) now in
    subst (PassesTo setting c d) (∥∥₁_elim h (config_set sets x.0 next) (λ k. one setting c d x.0 next whole x.1 k)) x.1
