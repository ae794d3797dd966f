-- A receive says to a parcel what is computed, and nothing else.
use Rattle.std.proofs.Common.{◌≡◌, ◌<◌, ◌≤◌, ◌+◌, ◌⊎◌, inl, inr, ℕ, Bool, true, false, nat_le, if◌then◌else◌, length, Some, None, Result, refl, sym, subst, arith}
use Rattle.std.proofs.lemmas.Bool.{cases_lt, true≢false}
use Rattle.pz_tree_standing.specs.pz_syntax.declared.tokens.Pos.{Pos}
use Rattle.pz_tree_standing.specs.pz_syntax.Statements as statement
use Rattle.pz_tree_standing.specs.pz_copy.Parcels.{ParcelView}
use Rattle.pz_tree_standing.specs.pz_state.States.{object_limit}
use Rattle.pz_tree_standing.specs.pz_state.declared.fault.FaultKind.TheVariants.{StoreFull}
use Rattle.pz_tree_standing.specs.pz_offer.declared.trouble.Trouble.{Trouble}
use Rattle.pz_tree_standing.specs.pz_offer.PlaceOrder.{Place}
use Rattle.pz_tree_standing.specs.pz_eval_rules.Laws.{EachHasAnOutcome}
use Rattle.pz_tree_standing.specs.pz_rules.Terms.{Code, Step, Term, done, leaf, wait, sequence, parallel, select, guarded, frame, abort, idle, handling}
use Rattle.pz_tree_standing.specs.pz_rules.Settings.{Context, in_state}
use Rattle.pz_tree_standing.specs.pz_rules.Evaluations.{allowance, value_or_trouble, Tests}
use Rattle.pz_tree_standing.specs.pz_rules.Active as active
use Rattle.pz_tree_standing.specs.pz_rules.Active.{Active, IsActive}
use Rattle.pz_tree_standing.specs.pz_rules.Acting.{IsReceive}
use Rattle.pz_tree_standing.specs.pz_rules.Laws.{part_of}
use Rattle.pz_tree_standing.specs.pz_rules.Meanings.{and_then, truth, fault}
use Rattle.pz_tree_standing.specs.pz_rules.Messages as messages
use Rattle.pz_tree_standing.specs.pz_rules.Messages.{Fits, Judges, bound}
use Rattle.pz_tree_standing.specs.pz_rules.devices.Computed.{TestsAreComputed}
use Rattle.pz_tree_standing.specs.pz_rules.devices.Found.{tested}
use Rattle.pz_part_queries.specs.Laws.{OneVerdict}
use Rattle.pz_sim_laws.specs.Couples.{SaysAt}
use Rattle.pz_sim_laws.specs.Elapsing.{HasReceive}
use Rattle.pz_sim_laws.specs.devices.Saying.{frame_of, statement_says, part_says, said_at}

record IsAt (f : ℕ) (t : Term) (place : Place) (g : ℕ) (part : Term) : Type 0 where
  pub frame_is : g ≡ frame_of f t place
  pub part_is : part ≡ part_of t place

at_place : {a : Context} {f : ℕ} {t : Term} {place : Place} {g : ℕ} {part : Term} → Active a f t place g part → IsAt f t place g part
at_place (active.here f t) = record { frame_is = refl; part_is = refl }
at_place (active.inside f t i place g part reached x) = let y = at_place x in record { frame_is = y.frame_is; part_is = y.part_is }

module _ (outcomes : EachHasAnOutcome) (computed : TestsAreComputed) where
  -- each test comes to what is computed
  test_comes : (a : Context) (f : ℕ) (at : Pos) (e : Code) → Tests a f at e (tested a f at e)
  test_comes a f at e =
      let found = outcomes a.setting.model a.clock f a.state e (allowance a.setting.limits) in
      let it : Tests a f at e (and_then (value_or_trouble a.process at found.0.outcome) (truth a.process at)) = record {
        found = value_or_trouble a.process at found.0.outcome;
        left = found.0.state;
        gives = record { outcome = found.0.outcome; finds = found.1; means = refl };
        means = refl;
      } in
      subst (λ (r : Result Bool Trouble). Tests a f at e r) (computed a f at e _ it) it

  room : (a : Context) (parcel : ParcelView) (b : Bool) → nat_le (length a.state.objects + length parcel.objects) object_limit ≡ b → (Fits a parcel × (b ≡ true)) ⊎ ((¬ Fits a parcel) × (b ≡ false))
  room a parcel b is = by (cases_lt object_limit (length a.state.objects + length parcel.objects)) b is
    where
      by : (object_limit < length a.state.objects + length parcel.objects) ⊎ (length a.state.objects + length parcel.objects ≤ object_limit)
          → (c : Bool) → nat_le (length a.state.objects + length parcel.objects) object_limit ≡ c → (Fits a parcel × (c ≡ true)) ⊎ ((¬ Fits a parcel) × (c ≡ false))
      by over c e = grind arith

  statement_judges : (a : Context) (f : ℕ) (parcel : ParcelView) (s : Step) → IsReceive (leaf s) → Judges a f parcel (leaf s) (statement_says a f s parcel)
  statement_judges a f parcel (statement.receive at port name into None block) h = messages.free at port name into block
  statement_judges a f parcel (statement.receive at port name into (Some e) block) h = by (nat_le (length a.state.objects + length parcel.objects) object_limit) (room a parcel (nat_le (length a.state.objects + length parcel.objects) object_limit) refl)
    where
      by : (b : Bool) → (Fits a parcel × (b ≡ true)) ⊎ ((¬ Fits a parcel) × (b ≡ false))
          → Judges a f parcel (leaf (statement.receive at port name into (Some e) block)) (if b then tested (in_state a (bound a f into parcel)) f at e else fault StoreFull a.process at)
      by true (inl x) = messages.asks at port name into e block _ x.0 (test_comes (in_state a (bound a f into parcel)) f at e)
      by true (inr x) = absurd (true≢false x.1)
      by false (inl x) = absurd (true≢false (sym x.1))
      by false (inr x) = messages.unfit at port name into e block x.0
  statement_judges a f parcel (statement.skip at) h = absurd h
  statement_judges a f parcel (statement.delay at e) h = absurd h
  statement_judges a f parcel (statement.bracketed at ts) h = absurd h
  statement_judges a f parcel (statement.block at es) h = absurd h
  statement_judges a f parcel (statement.guarded at e t) h = absurd h
  statement_judges a f parcel (statement.parallel at bs) h = absurd h
  statement_judges a f parcel (statement.select at bs) h = absurd h
  statement_judges a f parcel (statement.conditional at e ts other) h = absurd h
  statement_judges a f parcel (statement.repeated at e ts) h = absurd h
  statement_judges a f parcel (statement.abort at ts t) h = absurd h
  statement_judges a f parcel (statement.interrupt at ts t) h = absurd h
  statement_judges a f parcel (statement.send at port name args after) h = absurd h
  statement_judges a f parcel (statement.call at method args results) h = absurd h
  statement_judges a f parcel (statement.assignment at x e) h = absurd h
  statement_judges a f parcel (statement.value at e) h = absurd h

  part_judges : (a : Context) (f : ℕ) (parcel : ParcelView) (t : Term) → IsReceive t → Judges a f parcel t (part_says a f t parcel)
  part_judges a f parcel done h = absurd h
  part_judges a f parcel (leaf s) h = statement_judges a f parcel s h
  part_judges a f parcel (wait left at) h = absurd h
  part_judges a f parcel (sequence t rest) h = absurd h
  part_judges a f parcel (parallel ts) h = absurd h
  part_judges a f parcel (select ts) h = absurd h
  part_judges a f parcel (guarded test at t) h = absurd h
  part_judges a f parcel (frame number inputs results t) h = absurd h
  part_judges a f parcel (abort t u) h = absurd h
  part_judges a f parcel (idle t u again) h = absurd h
  part_judges a f parcel (handling t u again) h = absurd h

  pub says_computed : (a : Context) (t : Term) (place : Place) (parcel : ParcelView) → HasReceive a t place → SaysAt a t place parcel (said_at a t place parcel)
  says_computed a t place parcel has g part is_active =
      let one = at_place has.active in
      let it = at_place is_active in
      let receive : IsReceive (part_of t place) = subst IsReceive one.part_is has.receive in
      subst (λ (k : ℕ). Judges a k parcel part (said_at a t place parcel)) (sym it.frame_is)
      (subst (λ (u : Term). Judges a (frame_of 0 t place) parcel u (said_at a t place parcel)) (sym it.part_is) (part_judges a (frame_of 0 t place) parcel (part_of t place) receive))

  pub says_nothing_else : OneVerdict → (a : Context) (t : Term) (place : Place) (parcel : ParcelView) (r : Result Bool Trouble) → HasReceive a t place → SaysAt a t place parcel r → r ≡ said_at a t place parcel
  says_nothing_else one a t place parcel r has says = one a has.frame parcel has.part r (said_at a t place parcel) (says has.frame has.part has.active) (says_computed a t place parcel has has.frame has.part has.active)
