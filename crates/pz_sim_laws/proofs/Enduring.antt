-- As time passes, a receive that does not name the clock stays where it stands, and says the same.
use Rattle.std.proofs.Common.{◌≡◌, ◌<◌, ◌+◌, ℕ, zero, suc, Bool, true, false, List, [], ◌∷◌, map, Result, Ok, Err, refl, sym, subst, ap, ◌∙◌, arith}
use Rattle.std.specs.Prelude.{Contains}
use Rattle.std.specs.List.{AllZip}
use Rattle.pz_tree_standing.specs.pz_syntax.declared.tokens.Pos.{Pos}
use Rattle.pz_tree_standing.specs.pz_syntax.Statements as statement
use Rattle.pz_tree_standing.specs.pz_classes_rules.Soundness.{IsSound}
use Rattle.pz_tree_standing.specs.pz_copy.Parcels.{ParcelView}
use Rattle.pz_tree_standing.specs.pz_offer.declared.trouble.Trouble.{Trouble}
use Rattle.pz_tree_standing.specs.pz_offer.declared.ends.SendOffer.{SendOffer}
use Rattle.pz_tree_standing.specs.pz_offer.declared.ends.ReceiveOffer.{ReceiveOffer}
use Rattle.pz_tree_standing.specs.pz_offer.PlaceOrder.{Place}
use Rattle.pz_tree_standing.specs.pz_eval_rules.Clocks.{names_clock}
use Rattle.pz_tree_standing.specs.pz_eval_rules.Laws.{SoundDataIsTimeless, UnclockedIsTimeless}
use Rattle.pz_tree_standing.specs.pz_eval_rules.devices.Laws.{UnclockedListIsComputedTheSame}
use Rattle.pz_tree_standing.specs.pz_rules.Terms.{Code, Step, Term, done, leaf, wait, sequence, parallel, select, guarded, frame, abort, idle, handling, Terms, no_terms, and, term_at, child, count, frame_in}
use Rattle.pz_tree_standing.specs.pz_rules.Settings.{Context, in_state}
use Rattle.pz_tree_standing.specs.pz_state.States.{StateView}
use Rattle.pz_tree_standing.specs.pz_rules.Evaluations.{Tests, allowance}
use Rattle.pz_tree_standing.specs.pz_rules.Active as active
use Rattle.pz_tree_standing.specs.pz_rules.Active.{Active, IsActive, Reached}
use Rattle.pz_tree_standing.specs.pz_rules.Acting.{IsReceive}
use Rattle.pz_tree_standing.specs.pz_rules.Messages as messages
use Rattle.pz_tree_standing.specs.pz_rules.Messages.{Receives, Judges, bound}
use Rattle.pz_tree_standing.specs.pz_rules.Laws.{WhatReceivesIsAReceive}
use Rattle.pz_tree_standing.specs.pz_rules.devices.Computed.{TestsAreComputed, OnePassingIsComputed}
use Rattle.pz_tree_standing.specs.pz_rules.devices.Found.{tested}
use Rattle.pz_tree_standing.specs.pz_rules.devices.Passing.{passed, passed_all, if_open}
use Rattle.pz_tree_standing.specs.pz_rules.devices.Walk as walk
use Rattle.pz_tree_standing.specs.pz_rules.devices.Walk.{ActivePart, Noted, here, under, behind, active_parts, active_children, active_sends, active_receives}
use Rattle.pz_tree_standing.specs.pz_rules.devices.Walks.{IsThere, ReceivesAreListed}
use Rattle.pz_tree_standing.specs.Steady.{later}
use Rattle.pz_tree_standing.specs.Woken.{any_part, is_clocked, clocked}
use Rattle.pz_tree_standing.specs.devices.SummaryLaws.{TestIsSteady}
use Rattle.pz_sim_laws.specs.Members.{Member}
use Rattle.pz_sim_laws.specs.Offering.{IsSendOffer, IsReceiveOffer, AreSendOffers, AreReceiveOffers}
use Rattle.pz_sim_laws.specs.Couples.{SaysAt}
use Rattle.pz_sim_laws.specs.Elapsing.{Elapsed, HasReceive}
use Rattle.pz_sim_laws.proofs.Lists.{Contains-first, Contains-later, all_got}
use Rattle.pz_sim_laws.proofs.Verdicts.{active_once}
use Rattle.pz_sim_laws.proofs.Outlasting.{or_neither, neither_part, none_under, sends_kept, receives_kept}

module _ (a : Context) (d : ℕ) (sound : IsSound a.setting.model) (timeless : UnclockedIsTimeless) (computed : TestsAreComputed) where
  -- a test that does not name the clock
  test_endures : (s : StateView) (f : ℕ) (at : Pos) (e : Code) (r : Result Bool Trouble) → names_clock e ≡ false → Tests (in_state a s) f at e r → Tests (in_state (later a d) s) f at e r
  test_endures s f at e r calm x = record {
    found = x.found;
    left = x.left;
    gives = record {
      outcome = x.gives.outcome;
      finds = timeless a.setting.model a.clock (a.clock + d) f s e (allowance a.setting.limits) x.gives.outcome x.left sound calm x.gives.finds;
      means = x.gives.means;
    };
    means = x.means;
  }

  -- what a receive says
  judges_endure : (f : ℕ) (parcel : ParcelView) (t : Term) (r : Result Bool Trouble) → is_clocked t ≡ false → Judges a f parcel t r → Judges (later a d) f parcel t r
  judges_endure f parcel _ _ calm (messages.free at port name into block) = messages.free at port name into block
  judges_endure f parcel _ _ calm (messages.asks at port name into condition block r fits tests) =
      messages.asks at port name into condition block r fits (test_endures (bound a f into parcel) f at condition r calm tests)
  judges_endure f parcel _ _ calm (messages.unfit at port name into condition block unfit) = messages.unfit at port name into condition block unfit

  -- A child that goes on

  abbrev Calm : ℕ → Term → Type 0
  Calm f t = any_part is_clocked (active_parts a f t) ≡ false

  record GoesOn (f : ℕ) (t : Term) (i : ℕ) : Type 0 where
    pub reached : Reached (later a d) f (passed a d f t) i
    pub child_is : child (passed a d f t) i ≡ passed a d (frame_in t f) (child t i)
    pub frame_is : frame_in (passed a d f t) f ≡ frame_in t f
    pub calm : Calm (frame_in t f) (child t i)

  count_passed : (f : ℕ) (ts : Terms) → count (passed_all a d f ts) ≡ count ts
  count_passed f no_terms = refl
  count_passed f (and t ts) = ap suc (count_passed f ts)

  term_passed : (f : ℕ) (ts : Terms) (i : ℕ) → term_at (passed_all a d f ts) i ≡ passed a d f (term_at ts i)
  term_passed f no_terms i = refl
  term_passed f (and t ts) zero = refl
  term_passed f (and t ts) (suc i) = term_passed f ts i

  calm_at : (f n : ℕ) (ts : Terms) (i : ℕ) → any_part is_clocked (active_children a f n ts) ≡ false → i < count ts → Calm f (term_at ts i)
  calm_at f n no_terms i calm within = absurd (omega (arith, within))
  calm_at f n (and t ts) zero calm within = none_under is_clocked n (active_parts a f t) (neither_part is_clocked (map (under n) (active_parts a f t)) (active_children a f (suc n) ts) calm).0
  calm_at f n (and t ts) (suc i) calm within = calm_at f (suc n) ts i (neither_part is_clocked (map (under n) (active_parts a f t)) (active_children a f (suc n) ts) calm).1 (omega (arith, within))

  all_within : (f : ℕ) (ts : Terms) (i : ℕ) → i < count ts → i < count (passed_all a d f ts)
  all_within f ts i within = subst (λ (n : ℕ). i < n) (sym (count_passed f ts)) within

  -- behind a guard that is open
  gate_open : (f : ℕ) (test : Code) (at : Pos) (t : Term) (r : Result Bool Trouble) → r ≡ Ok true → any_part is_clocked (behind r (map (under 0) (active_parts a f t))) ≡ false
      → (if_open r (passed a d f t) t ≡ passed a d f t) × Calm f t
  gate_open f test at t (Ok true) e calm = (refl, none_under is_clocked 0 (active_parts a f t) calm)
  gate_open f test at t (Ok false) e calm = cc
  gate_open f test at t (Err u) e calm = cc

  goes_on : (f : ℕ) (t : Term) (i : ℕ) → Reached a f t i → Calm f t → GoesOn f t i
  goes_on f done i h calm = absurd h
  goes_on f (leaf s) i h calm = absurd h
  goes_on f (wait left at) i h calm = absurd h
  goes_on f (sequence t rest) zero h calm = record { reached = h; child_is = refl; frame_is = refl; calm = none_under is_clocked 0 (active_parts a f t) calm }
  goes_on f (sequence t rest) (suc i) h calm = absurd (omega (arith, h))
  goes_on f (parallel ts) i h calm = record { reached = all_within f ts i h; child_is = term_passed f ts i; frame_is = refl; calm = calm_at f 0 ts i calm h }
  goes_on f (select ts) i h calm = record { reached = all_within f ts i h; child_is = term_passed f ts i; frame_is = refl; calm = calm_at f 0 ts i calm h }
  goes_on f (guarded test at t) zero h calm =
      let e = or_neither (names_clock test) (any_part is_clocked (behind (tested a f at test) (map (under 0) (active_parts a f t)))) calm in
      let open_so = gate_open f test at t (tested a f at test) (sym (computed a f at test (Ok true) h.1)) e.1 in
      record { reached = (h.0, test_endures a.state f at test (Ok true) e.0 h.1); child_is = open_so.0; frame_is = refl; calm = open_so.1 }
  goes_on f (guarded test at t) (suc i) h calm = let e = h.0 in absurd (omega (arith, e))
  goes_on f (frame number inputs results t) zero h calm = record { reached = h; child_is = refl; frame_is = refl; calm = none_under is_clocked 0 (active_parts a number t) calm }
  goes_on f (frame number inputs results t) (suc i) h calm = absurd (omega (arith, h))
  goes_on f (abort t u) i h calm = two i (neither_part is_clocked (map (under 0) (active_parts a f t)) (map (under 1) (active_parts a f u)) calm) h
    where
      two : (i : ℕ) → (any_part is_clocked (map (under 0) (active_parts a f t)) ≡ false) × (any_part is_clocked (map (under 1) (active_parts a f u)) ≡ false) → i < 2 → GoesOn f (abort t u) i
      two zero e h = record { reached = h; child_is = refl; frame_is = refl; calm = none_under is_clocked 0 (active_parts a f t) e.0 }
      two (suc zero) e h = record { reached = h; child_is = refl; frame_is = refl; calm = none_under is_clocked 1 (active_parts a f u) e.1 }
      two (suc (suc i)) e h = absurd (omega (arith, h))
  goes_on f (idle t u again) i h calm = two i (neither_part is_clocked (map (under 0) (active_parts a f t)) (map (under 1) (active_parts a f u)) calm) h
    where
      two : (i : ℕ) → (any_part is_clocked (map (under 0) (active_parts a f t)) ≡ false) × (any_part is_clocked (map (under 1) (active_parts a f u)) ≡ false) → i < 2 → GoesOn f (idle t u again) i
      two zero e h = record { reached = h; child_is = refl; frame_is = refl; calm = none_under is_clocked 0 (active_parts a f t) e.0 }
      two (suc zero) e h = record { reached = h; child_is = refl; frame_is = refl; calm = none_under is_clocked 1 (active_parts a f u) e.1 }
      two (suc (suc i)) e h = absurd (omega (arith, h))
  goes_on f (handling t u again) zero h calm = absurd (omega (arith, h))
  goes_on f (handling t u again) (suc zero) h calm = record { reached = h; child_is = refl; frame_is = refl; calm = none_under is_clocked 1 (active_parts a f u) calm }
  goes_on f (handling t u again) (suc (suc i)) h calm = absurd (omega (arith, h))

  -- what is active stays so, and does not name the clock

  first_calm : (q : Term → Bool) (f : ℕ) (t : Term) → any_part q (active_parts a f t) ≡ false → q t ≡ false
  first_calm q f done h = (or_neither (q done) false h).0
  first_calm q f (leaf s) h = (or_neither (q (leaf s)) false h).0
  first_calm q f (wait left at) h = (or_neither (q (wait left at)) false h).0
  first_calm q f (sequence t rest) h = (or_neither (q (sequence t rest)) _ h).0
  first_calm q f (parallel ts) h = (or_neither (q (parallel ts)) _ h).0
  first_calm q f (select ts) h = (or_neither (q (select ts)) _ h).0
  first_calm q f (guarded test at t) h = (or_neither (q (guarded test at t)) _ h).0
  first_calm q f (frame number inputs results t) h = (or_neither (q (frame number inputs results t)) _ h).0
  first_calm q f (abort t u) h = (or_neither (q (abort t u)) _ h).0
  first_calm q f (idle t u again) h = (or_neither (q (idle t u again)) _ h).0
  first_calm q f (handling t u again) h = (or_neither (q (handling t u again)) _ h).0

  record Still (f : ℕ) (t : Term) (place : Place) (g : ℕ) (part : Term) : Type 0 where
    pub active : Active (later a d) f (passed a d f t) place g (passed a d g part)
    pub calm : is_clocked part ≡ false

  still : (f : ℕ) (t : Term) (place : Place) (g : ℕ) (part : Term) → Active a f t place g part → Calm f t → Still f t place g part
  still _ _ _ _ _ (active.here f t) calm = record { active = active.here f (passed a d f t); calm = first_calm is_clocked f t calm }
  still _ _ _ _ _ (active.inside f t i place g part r x) calm =
      let on = goes_on f t i r calm in
      let rest = still (frame_in t f) (child t i) place g part x on.calm in
      record {
        active = active.inside f (passed a d f t) i place g (passed a d g part) on.reached
            (subst (λ (k : ℕ). Active (later a d) k (child (passed a d f t) i) place g (passed a d g part)) (sym on.frame_is)
            (subst (λ (u : Term). Active (later a d) (frame_in t f) u place g (passed a d g part)) (sym on.child_is) rest.active));
        calm = rest.calm;
      }

  step_stays : (g : ℕ) (s : Step) → IsReceive (leaf s) → passed a d g (leaf s) ≡ leaf s
  step_stays g (statement.skip at) h = absurd h
  step_stays g (statement.delay at e) h = absurd h
  step_stays g (statement.bracketed at ts) h = absurd h
  step_stays g (statement.block at es) h = absurd h
  step_stays g (statement.guarded at e t) h = absurd h
  step_stays g (statement.parallel at bs) h = absurd h
  step_stays g (statement.select at bs) h = absurd h
  step_stays g (statement.conditional at e ts other) h = absurd h
  step_stays g (statement.repeated at e ts) h = absurd h
  step_stays g (statement.abort at ts t) h = absurd h
  step_stays g (statement.interrupt at ts t) h = absurd h
  step_stays g (statement.send at port name args after) h = absurd h
  step_stays g (statement.receive at port name into condition after) h = refl
  step_stays g (statement.call at method args results) h = absurd h
  step_stays g (statement.assignment at x e) h = absurd h
  step_stays g (statement.value at e) h = absurd h

  receive_stays : (g : ℕ) (part : Term) → IsReceive part → passed a d g part ≡ part
  receive_stays g done h = absurd h
  receive_stays g (leaf s) h = step_stays g s h
  receive_stays g (wait left at) h = absurd h
  receive_stays g (sequence t rest) h = absurd h
  receive_stays g (parallel ts) h = absurd h
  receive_stays g (select ts) h = absurd h
  receive_stays g (guarded test at t) h = absurd h
  receive_stays g (frame number inputs results t) h = absurd h
  receive_stays g (abort t u) h = absurd h
  receive_stays g (idle t u again) h = absurd h
  receive_stays g (handling t u again) h = absurd h

  -- what it says to a parcel, it says afterwards
  pub says_still : (t : Term) (place : Place) (parcel : ParcelView) (r : Result Bool Trouble) → clocked a 0 t ≡ false → HasReceive a t place → SaysAt a t place parcel r → SaysAt (later a d) (passed a d 0 t) place parcel r
  says_still t place parcel r calm has says g x is_active =
      let on = still 0 t place has.frame has.part has.active calm in
      let there : Active (later a d) 0 (passed a d 0 t) place has.frame has.part = subst (λ (u : Term). Active (later a d) 0 (passed a d 0 t) place has.frame u) (receive_stays has.frame has.part has.receive) on.active in
      let one = active_once there is_active in
      subst (λ (u : Term). Judges (later a d) g parcel u r) one.part
      (subst (λ (k : ℕ). Judges (later a d) k parcel has.part r) one.frame (judges_endure has.frame parcel has.part r on.calm (says has.frame has.part has.active)))

-- Of processes

module _ (sound_timeless : SoundDataIsTimeless) (timeless : UnclockedIsTimeless) (tests : TestIsSteady) (lists : UnclockedListIsComputedTheSame) (computed : TestsAreComputed) (only : OnePassingIsComputed)
    (received : ReceivesAreListed) (receives : WhatReceivesIsAReceive) (d : ℕ) (m n : Member) (sound : IsSound m.seen.setting.model) (elapsed : Elapsed d m n) (calm : clocked m.seen 0 m.term ≡ false) where
  term_is : n.term ≡ passed m.seen d 0 m.term
  term_is = only m.seen d 0 m.term n.term elapsed.passes

  member_is : n ≡ record { seen = later m.seen d; term = passed m.seen d 0 m.term }
  member_is = ap (λ (a : Context). let x : Member = record { seen = a; term = n.term } in x) elapsed.seen ∙ ap (λ (t : Term). let x : Member = record { seen = later m.seen d; term = t } in x) term_is

  pub sends_outlast : (xs : List SendOffer) → AreSendOffers m xs → AreSendOffers n xs
  sends_outlast xs are =
      subst (λ (x : Member). AreSendOffers x xs) (sym member_is)
      (subst (λ (ns : List (Noted walk.ActiveSend)). AllZip (IsSendOffer m.seen.setting.model m.seen.process) xs ns) (sym (sends_kept m.seen d tests (sound_timeless m.seen.setting.model sound) lists m.term calm)) are)

  pub says_outlast : (place : Place) (parcel : ParcelView) (r : Result Bool Trouble) → HasReceive m.seen m.term place → SaysAt m.seen m.term place parcel r → SaysAt n.seen n.term place parcel r
  says_outlast place parcel r has says = subst (λ (x : Member). SaysAt x.seen x.term place parcel r) (sym member_is) (says_still m.seen d sound timeless computed m.term place parcel r calm has says)

  has_receive : (k : Noted walk.ActiveReceive) → Contains (active_receives m.seen m.term) k → HasReceive m.seen m.term k.place
  has_receive k there =
      let it : IsThere m.seen m.term k.place (λ f part. Receives part k.what.pos k.what.port k.what.message k.what.count) =
      all_got (λ (x : Noted walk.ActiveReceive). IsThere m.seen m.term x.place (λ f part. Receives part x.what.pos x.what.port x.what.message x.what.count)) (active_receives m.seen m.term) k (received m.seen m.term).derivable there in
      record { frame = it.frame; part = it.part; active = it.active; receive = receives it.part k.what.pos k.what.port k.what.message k.what.count it.it_holds }

  abbrev after : Member
  after = record { seen = later m.seen d; term = passed m.seen d 0 m.term }

  one_outlasts : (x : ReceiveOffer) (k : Noted walk.ActiveReceive) → Contains (active_receives m.seen m.term) k → IsReceiveOffer m.seen m.term x k → IsReceiveOffer after.seen after.term x k
  one_outlasts x k there is = record {
    place = is.place;
    wire = is.wire;
    message = is.message;
    count = is.count;
    free = λ free frame part parcel active.
        says_still m.seen d sound timeless computed m.term k.place parcel (Ok true) calm (has_receive k there) (λ g u act. is.free free g u parcel act) frame part active;
  }

  all_outlast : (xs : List ReceiveOffer) (ns : List (Noted walk.ActiveReceive)) → ((k : Noted walk.ActiveReceive) → Contains ns k → Contains (active_receives m.seen m.term) k) → AllZip (IsReceiveOffer m.seen m.term) xs ns
      → AllZip (IsReceiveOffer after.seen after.term) xs ns
  all_outlast [] [] among zip = tt
  all_outlast [] (k ∷ ns) among zip = zip
  all_outlast (x ∷ xs) [] among zip = zip
  all_outlast (x ∷ xs) (k ∷ ns) among zip = (one_outlasts x k (among k (Contains-first k ns)) zip.0, all_outlast xs ns (λ z there. among z (Contains-later k ns z there)) zip.1)

  pub receives_outlast : (xs : List ReceiveOffer) → AreReceiveOffers m xs → AreReceiveOffers n xs
  receives_outlast xs are =
      subst (λ (x : Member). AreReceiveOffers x xs) (sym member_is)
      (subst (λ (ns : List (Noted walk.ActiveReceive)). AllZip (IsReceiveOffer after.seen after.term) xs ns) (sym (receives_kept m.seen d tests (sound_timeless m.seen.setting.model sound) m.term calm))
      (all_outlast xs (active_receives m.seen m.term) (λ k there. there) are))
