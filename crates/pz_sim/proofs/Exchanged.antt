-- Two processes act together: what their trees, and all, are afterwards.
use Rattle.std.proofs.Common.{◌≡◌, ◌≢◌, ◌≤◌, ◌<◌, ◌+◌, ◌*◌, ℕ, List, set, length, Some, Result, Ok, Err, sym, subst, ap, ◌∙◌}
use Rattle.std.specs.Prelude.{slice_get, ⊤, IfOk, OnOk, OnErr}
use Rattle.std.proofs.Math.Logic.{∥∥₁_elim, ∥∥₁_map, ∥∥₁_map₂}
use Rattle.std.proofs.lemmas.List.{set_comm}
use Rattle.std.proofs.lemmas.Option.{same_Some, slice_get_within}
use Rattle.std.specs.Coded.{le_prop}
use Rattle.std.specs.declared.alloc.AllocError.{AllocError}
use Rattle.pz_rules.specs.pz_bind_rules.Nest.{class_at}
use Rattle.pz_rules.specs.pz_classes_rules.Soundness.{IsSound}
use Rattle.pz_rules.specs.pz_copy.Parcels.{ParcelView}
use Rattle.pz_rules.specs.pz_offer.declared.end.End.{End}
use Rattle.pz_rules.specs.pz_offer.declared.trouble.Trouble.{Trouble}
use Rattle.pz_rules.specs.declared.action.Action.TheVariants.{Comm}
use Rattle.pz_rules.specs.Terms.{Term}
use Rattle.pz_rules.specs.Settings.{Setting, Process, Context}
use Rattle.pz_rules.specs.Active.{IsActive}
use Rattle.pz_rules.specs.Configurations.{Config}
use Rattle.pz_rules.specs.Laws.{StaysFit, LowStays, OneNext}
use Rattle.pz_rules.specs.Messages.{Sends, Hands, Takes}
use Rattle.pz_rules.specs.Offers.{PartAt, IsPair}
use Rattle.pz_rules.specs.Steps.{Acts, Next}
use Rattle.pz_sim_laws.specs.Members.{Member, become, process_of, config_of}
use Rattle.pz_sim_laws.specs.Deeds as deeds
use Rattle.pz_sim_laws.specs.Laws.{MembersAct, CommunicationLeadsOn, SenderTroubleEnds, MembersStay}
use Rattle.pz_tree.specs.Deeds.{CanSend, CanReceive, Leaves}
use Rattle.pz_tree.specs.pz_tree_regrowing.Costs.{on_way}
use Rattle.pz_tree.specs.declared.tree.Tree.{Tree}
use Rattle.pz_tree.specs.Trees.{IsFresh, at_in, term_in, process_in}
use Rattle.pz_sim.specs.Costs.{ActsSoon}
use Rattle.pz_sim.specs.Members.{member_of, members_of}
use Rattle.pz_sim.specs.devices.Acting.{MayAct, MayActAt, CanDoAt, IsAfter, HasActed, HasActedSoon, HasTried, reached}
use Rattle.pz_sim.specs.devices.Holding.{AreTrees}
use Rattle.pz_sim.proofs.Heard.{set_other}
use Rattle.pz_sim.proofs.Acted.{becomes, member_is, may_there, acts_so, trees_reached, after_clock}
use Rattle.pz_sim.proofs.Replaced.{from_mapped, got_set, all_at, members_replaced, AreAlike, are_alike, alike_replaced}
use Rattle.pz_sim.proofs.Soon.{both_soon}

-- The parts of a pair stand in trees

module _ (setting : Setting) (clock : ℕ) (ts : List Tree) (are : AreTrees setting clock ts) where
  abbrev pub c : Config
  c = config_of clock (members_of setting.model ts)

  pub record InTree (at : End) (a : Context) (f : ℕ) (part : Term) : Type 0 where
    pub tree : Tree
    pub is : slice_get ts at.process ≡ Some tree
    pub same : a ≡ at_in setting.model tree
    pub active : IsActive (at_in setting.model tree) (term_in tree) at.place f part

  pub in_tree : (at : End) (a : Context) (f : ℕ) (part : Term) → PartAt setting c at a f part → InTree at a f part
  in_tree at a f part x =
      let s = x.stands in
      let h = from_mapped process_of (members_of setting.model ts) at.process x.process s.is_here in
      let t = from_mapped (member_of setting.model) ts at.process h.0 h.1 in
      let process : process_in t.0 ≡ x.process = ap process_of t.2 ∙ h.2 in
      let seen : at_in setting.model t.0 ≡ a =
      are.members.each at.process (member_of setting.model t.0) s.place (member_is setting clock ts are at.process t.0 t.1) s.is_process
      ∙ ap (λ (p : Process). let b : Context = record { setting = setting; process = at.process; class = class_at setting.model s.place; clock = clock; state = p.state } in b) process
      ∙ sym s.seen in
      record {
        tree = t.0;
        is = t.1;
        same = sym seen;
        active = subst (λ (p : Process). IsActive (at_in setting.model t.0) p.term at.place f part) (sym process)
            (subst (λ (b : Context). IsActive b x.process.term at.place f part) (sym seen) x.active);
      }

  module _ (wire : ℕ) (sender receiver : End) (message : List ℕ) (parcel : ParcelView) (pair : IsPair setting c wire sender receiver message parcel) where
    pub can_send : CanDoAt setting.model (CanSend parcel) ts sender
    can_send =
        let x = in_tree sender pair.sends_at pair.sends_frame pair.sends_part pair.sender_active in
        record {
          tree = x.tree;
          is = x.is;
          it_can = record {
            frame = pair.sends_frame;
            part = pair.sends_part;
            active = x.active;
            it_holds = (pair.sends_pos, (pair.sends_port, message, subst (λ (b : Context). Sends b pair.sends_frame pair.sends_part pair.sends_pos pair.sends_port message parcel) x.same pair.sends));
          };
        }

    pub can_receive : CanDoAt setting.model CanReceive ts receiver
    can_receive =
        let x = in_tree receiver pair.receives_at pair.receives_frame pair.receives_part pair.receiver_active in
        record {
          tree = x.tree;
          is = x.is;
          it_can = record {
            frame = pair.receives_frame;
            part = pair.receives_part;
            active = x.active;
            it_holds = (pair.receives_pos, (pair.receives_port, message, length parcel.values, pair.receives));
          };
        }

-- the processes of a pair are two, and are there
module _ (setting : Setting) (clock : ℕ) (ts : List Tree) (wire : ℕ) (sender receiver : End) (message : List ℕ) (parcel : ParcelView) (are : ∥ AreTrees setting clock ts ∥₁)
    (pair : ∥ IsPair setting (config_of clock (members_of setting.model ts)) wire sender receiver message parcel ∥₁) where
  pub pair_apart : sender.process ≢ receiver.process
  pair_apart e = ∥∥₁_elim pair (λ x y. absurd x) (λ p. p.two e)

  pub sender_there : sender.process < length ts
  sender_there = ∥∥₁_elim are le_prop (λ k. ∥∥₁_elim pair le_prop (λ p.
      let x = can_send setting clock ts k wire sender receiver message parcel p in slice_get_within ts sender.process x.tree x.is))

  pub receiver_there : receiver.process < length ts
  receiver_there = ∥∥₁_elim are le_prop (λ k. ∥∥₁_elim pair le_prop (λ p.
      let x = can_receive setting clock ts k wire sender receiver message parcel p in slice_get_within ts receiver.process x.tree x.is))

-- What a communication leads to

module _ (acts : MembersAct) (leads : CommunicationLeadsOn) (ends : SenderTroubleEnds) (one : OneNext) (setting : Setting) (clock : ℕ) (ts : List Tree)
    (wire : ℕ) (sender receiver : End) (message : List ℕ) (parcel : ParcelView) where
  abbrev config : Config
  config = config_of clock (members_of setting.model ts)

  abbrev pub Leads : Result Config Trouble → Type 0
  Leads = Next setting config (Comm wire sender receiver message parcel)

  abbrev pub Pair : Type 0
  Pair = IsPair setting config wire sender receiver message parcel

  abbrev pub Sent : Tree → Result Process Trouble → Type 0
  Sent s = Leaves (at_in setting.model s) (λ a f. Hands a f parcel) (term_in s) sender.place

  abbrev pub Taken : Tree → Result Process Trouble → Type 0
  Taken r = Leaves (at_in setting.model r) (λ a f. Takes a f parcel) (term_in r) receiver.place

  module _ (s r : Tree) (s_is : slice_get ts sender.process ≡ Some s) (r_is : slice_get ts receiver.process ≡ Some r) (are : AreTrees setting clock ts) where
    sent_so : (left : Result Process Trouble) → Sent s left → Acts setting config (λ a f. Hands a f parcel) sender left
    sent_so left l = acts_so setting clock ts are sender.process s s_is acts (deeds.handing parcel) sender.place left l

    taken_so : (left : Result Process Trouble) → Taken r left → Acts setting config (λ a f. Takes a f parcel) receiver left
    taken_so left l = acts_so setting clock ts are receiver.process r r_is acts (deeds.taking parcel) receiver.place left l

    -- the receiver has a trouble
    receiver_fails : (p : Process) (trouble : Trouble) → Sent s (Ok p) → Taken r (Err trouble) → Leads (Err trouble)
    receiver_fails p trouble sent taken =
        leads setting clock (members_of setting.model ts) wire sender receiver message parcel (member_of setting.model s) (member_of setting.model r) (Ok p) (Err trouble)
        (member_is setting clock ts are sender.process s s_is) (member_is setting clock ts are receiver.process r r_is) (sent_so (Ok p) sent) (taken_so (Err trouble) taken)

    both_act : (p q : Process) → Sent s (Ok p) → Taken r (Ok q)
        → Leads (Ok (config_of clock (set (set (members_of setting.model ts) sender.process (become (member_of setting.model s) p)) receiver.process (become (member_of setting.model r) q))))
    both_act p q sent taken =
        leads setting clock (members_of setting.model ts) wire sender receiver message parcel (member_of setting.model s) (member_of setting.model r) (Ok p) (Ok q)
        (member_is setting clock ts are sender.process s s_is) (member_is setting clock ts are receiver.process r r_is) (sent_so (Ok p) sent) (taken_so (Ok q) taken)

    -- a sender that can act has no trouble
    never_fails : Pair → (p q : Process) (trouble : Trouble) → Sent s (Ok p) → Taken r (Ok q) → Sent s (Err trouble) → ⊥
    never_fails pair p q trouble sent taken fails =
        let e = one setting config (Comm wire sender receiver message parcel)
        (Ok (config_of clock (set (set (members_of setting.model ts) sender.process (become (member_of setting.model s) p)) receiver.process (become (member_of setting.model r) q)))) (Err trouble)
        (both_act p q sent taken) (ends setting config wire sender receiver message parcel trouble pair (sent_so (Err trouble) fails)) in
        cc

    module _ (u v : Tree) (us : List Tree) (now : us ≡ set (set ts receiver.process v) sender.process u) (apart : sender.process ≢ receiver.process) (s_after : IsAfter setting.model s u) (r_after : IsAfter setting.model r v) where
      -- both have acted
      leads_both : Sent s (Ok (process_in u)) → Taken r (Ok (process_in v)) → Leads (Ok (config_of clock (members_of setting.model us)))
      leads_both sent taken =
          let m = setting.model in
          let ms = members_of m ts in
          subst (λ (xs : List Member). Leads (Ok (config_of clock xs)))
          (ap (λ (x : Member). set (set ms sender.process x) receiver.process (become (member_of m r) (process_in v))) (sym (becomes m s u s_after.seen))
          ∙ ap (set (set ms sender.process (member_of m u)) receiver.process) (sym (becomes m r v r_after.seen))
          ∙ set_comm ms sender.process receiver.process (member_of m u) (member_of m v) apart
          ∙ ap (λ (xs : List Member). set xs sender.process (member_of m u)) (sym (members_replaced m ts receiver.process v))
          ∙ sym (members_replaced m (set ts receiver.process v) sender.process u)
          ∙ ap (members_of m) (sym now))
          (both_act (process_in u) (process_in v) sent taken)

      after_both : MembersStay → StaysFit → LowStays → IsSound setting.model → IsFresh setting.model u → IsFresh setting.model v → Sent s (Ok (process_in u)) → Taken r (Ok (process_in v)) → AreTrees setting clock us
      after_both stay fits lows sound s_fresh r_fresh sent taken =
          let m = setting.model in
          let first : AreAlike setting clock (set ts receiver.process v) =
          alike_replaced setting clock stay ts receiver.process r v (are_alike setting clock ts are) r_is (becomes m r v r_after.seen) r_fresh
          (sym (after_clock m clock r v r_after.seen (sym (all_at (λ (y : Tree). y.clock ≡ clock) ts receiver.process r are.clocks r_is)))) r_after.frames in
          trees_reached fits lows setting clock ts us (Comm wire sender receiver message parcel) sound are (leads_both sent taken)
          (subst (AreAlike setting clock) (sym now)
          (alike_replaced setting clock stay (set ts receiver.process v) sender.process s u first (set_other ts receiver.process sender.process v (λ e. apart (sym e)) ∙ s_is) (becomes m s u s_after.seen) s_fresh
          (sym (after_clock m clock s u s_after.seen (sym (all_at (λ (y : Tree). y.clock ≡ clock) ts sender.process s are.clocks s_is)))) s_after.frames))

  -- What trials and acts of trees say of it

  abbrev pub Tried : Result ⊤ Trouble → Type 0
  Tried = HasTried setting.model clock sender ts

  abbrev pub Received : List Tree → Result ⊤ Trouble → Type 0
  Received vs = HasActed setting.model clock (λ x. CanReceive) (λ x a f. Takes a f parcel) receiver ts vs

  abbrev pub Handed : List Tree → List Tree → Result ⊤ Trouble → Type 0
  Handed vs us = HasActed setting.model clock CanSend (λ x a f. Hands a f x) sender vs us

  module _ (are : ∥ AreTrees setting clock ts ∥₁) (pair : ∥ Pair ∥₁) where
    -- what they may do

    pub may_send : ∥ ((x : ParcelView) × MayActAt setting clock (CanSend x) ts sender) ∥₁
    may_send = ∥∥₁_elim are squash₁ (λ k. ∥∥₁_map pair (λ p. (parcel, may_there setting clock ts (CanSend parcel) sender k (can_send setting clock ts k wire sender receiver message parcel p))))

    pub may_receive : (ts1 : List Tree) → ts1 ≡ ts → ∥ ((x : ParcelView) × MayActAt setting clock CanReceive ts1 receiver) ∥₁
    may_receive ts1 same = ∥∥₁_elim are squash₁ (λ k. ∥∥₁_map pair (λ p. (
      parcel,
      subst (λ (vs : List Tree). MayActAt setting clock CanReceive vs receiver) (sym same)
          (may_there setting clock ts CanReceive receiver k (can_receive setting clock ts k wire sender receiver message parcel p)),
    )))

    apart : sender.process ≢ receiver.process
    apart e = ∥∥₁_elim pair (λ x y. absurd x) (λ p. p.two e)

    same_sender : (vs : List Tree) (v : Tree) → vs ≡ set ts receiver.process v → slice_get vs sender.process ≡ slice_get ts sender.process
    same_sender vs v now = ap (λ (xs : List Tree). slice_get xs sender.process) now ∙ set_other ts receiver.process sender.process v (λ e. apart (sym e))

    pub may_send_then : (vs : List Tree) (left : Result ⊤ Trouble) → Received vs left → ∥ ((x : ParcelView) × MayActAt setting clock (CanSend x) vs sender) ∥₁
    may_send_then vs left x = ∥∥₁_map may_send (λ y. (y.0, record { tree = y.1.tree; is = same_sender vs x.new x.now ∙ y.1.is; limits = y.1.limits; may = y.1.may }))

    -- of the trees that acted

    may_hand : AreTrees setting clock ts → Pair → (s : Tree) → slice_get ts sender.process ≡ Some s → MayAct setting.model clock (CanSend parcel) s sender.place
    may_hand k p s is =
        let y = may_there setting clock ts (CanSend parcel) sender k (can_send setting clock ts k wire sender receiver message parcel p) in
        subst (λ (t : Tree). MayAct setting.model clock (CanSend parcel) t sender.place) (same_Some y.tree s (sym y.is ∙ is)) y.may

    may_take : AreTrees setting clock ts → Pair → (r : Tree) → slice_get ts receiver.process ≡ Some r → MayAct setting.model clock CanReceive r receiver.place
    may_take k p r is =
        let y = may_there setting clock ts CanReceive receiver k (can_receive setting clock ts k wire sender receiver message parcel p) in
        subst (λ (t : Tree). MayAct setting.model clock CanReceive t receiver.place) (same_Some y.tree r (sym y.is ∙ is)) y.may

    -- the sender has a trouble
    pub first_fails : (trouble : Trouble) → Tried (Err trouble) → ∥ Leads (Err trouble) ∥₁
    first_fails trouble x = ∥∥₁_elim are squash₁ (λ k. ∥∥₁_map pair (λ p.
        ends setting config wire sender receiver message parcel trouble p
        (acts_so setting clock ts k sender.process x.tree x.is acts (deeds.handing parcel) sender.place (Err trouble) (x.answers parcel (may_hand k p x.tree x.is)))))

    -- the sender has none, and the receiver has one
    pub second_fails : (y : ⊤) (trouble : Trouble) (vs : List Tree) → Tried (Ok y) → Received vs (Err trouble) → ∥ Leads (Err trouble) ∥₁
    second_fails y trouble vs x z = ∥∥₁_elim are squash₁ (λ k. ∥∥₁_elim pair squash₁ (λ p. ∥∥₁_map (z.leaves parcel (may_take k p z.old z.is)) (λ taken.
        let sent = x.answers parcel (may_hand k p x.tree x.is) in
        receiver_fails x.tree z.old x.is z.is k sent.0 trouble sent.1 taken)))

    module _ (y w : ⊤) (vs us : List Tree) (x : Tried (Ok y)) (z : Received vs (Ok w)) where
      -- that of the sender is the tree that was tried
      old_sender : (left : Result ⊤ Trouble) (h : Handed vs us left) → slice_get ts sender.process ≡ Some h.old
      old_sender left h = sym (same_sender vs z.new z.now) ∙ h.is

      never_then : (trouble : Trouble) → Handed vs us (Err trouble) → ⊥
      never_then trouble h =
          ∥∥₁_elim are (λ a b. absurd a) (λ k. ∥∥₁_elim pair (λ a b. absurd a) (λ p. ∥∥₁_elim (z.leaves parcel (may_take k p z.old z.is)) (λ a b. absurd a) (λ taken.
          ∥∥₁_elim (h.leaves parcel (may_hand k p h.old (old_sender (Err trouble) h))) (λ a b. absurd a) (λ fails.
          let sent = x.answers parcel (may_hand k p x.tree x.is) in
          let same : x.tree ≡ h.old = same_Some x.tree h.old (sym x.is ∙ old_sender (Err trouble) h) in
          never_fails x.tree z.old x.is z.is k p sent.0 (process_in z.new) trouble sent.1 taken (subst (λ (t : Tree). Sent t (Err trouble)) (sym same) fails)))))

      module _ (o : ⊤) (h : Handed vs us (Ok o)) where
        both_now : us ≡ set (set ts receiver.process z.new) sender.process h.new
        both_now = h.now ∙ ap (λ (xs : List Tree). set xs sender.process h.new) z.now

        leads_then : ∥ Leads (Ok (config_of clock (members_of setting.model us))) ∥₁
        leads_then =
            ∥∥₁_elim are squash₁ (λ k. ∥∥₁_elim pair squash₁ (λ p. ∥∥₁_elim (z.leaves parcel (may_take k p z.old z.is)) squash₁ (λ taken.
            ∥∥₁_map (h.leaves parcel (may_hand k p h.old (old_sender (Ok o) h))) (λ sent.
            leads_both h.old z.old (old_sender (Ok o) h) z.is k h.new z.new us both_now apart h.after z.after sent taken))))

        after_then : MembersStay → StaysFit → LowStays → IsSound setting.model → ∥ AreTrees setting clock us ∥₁
        after_then stay fits lows sound =
            ∥∥₁_elim are squash₁ (λ k. ∥∥₁_elim pair squash₁ (λ p. ∥∥₁_elim (z.leaves parcel (may_take k p z.old z.is)) squash₁ (λ taken.
            ∥∥₁_elim (h.leaves parcel (may_hand k p h.old (old_sender (Ok o) h))) squash₁ (λ sent.
            ∥∥₁_elim h.after.fresh squash₁ (λ s_fresh. ∥∥₁_map z.after.fresh (λ r_fresh.
            after_both h.old z.old (old_sender (Ok o) h) z.is k h.new z.new us both_now apart h.after z.after stay fits lows sound s_fresh r_fresh sent taken))))))

        others_then : (u v : Tree) × (us ≡ set (set ts receiver.process v) sender.process u)
        others_then = (h.new, z.new, both_now)

        -- in few steps
        soon_then : (begun tried taken ended : ℕ)
            → ((t : Tree) → slice_get ts sender.process ≡ Some t → (x : ParcelView) → MayAct setting.model clock (CanSend x) t sender.place → tried ≤ begun + 5 * on_way (term_in t) sender.place)
            → ((t u : Tree) → slice_get ts receiver.process ≡ Some t → slice_get vs receiver.process ≡ Some u → (x : ParcelView) → MayAct setting.model clock CanReceive t receiver.place
            → ∥ HasActedSoon setting.model (λ a f. Takes a f parcel) t u receiver.place tried taken ∥₁)
            → ((t u : Tree) → slice_get vs sender.process ≡ Some t → slice_get us sender.process ≡ Some u → (x : ParcelView) → MayAct setting.model clock (CanSend x) t sender.place
            → ∥ HasActedSoon setting.model (λ a f. Hands a f x) t u sender.place taken ended ∥₁)
            → ∥ ActsSoon setting.model ts us (Comm wire sender receiver message parcel) 0 begun ended ∥₁
        soon_then begun tried taken ended first second third =
            ∥∥₁_elim are squash₁ (λ k. ∥∥₁_elim pair squash₁ (λ p.
            let s_is = old_sender (Ok o) h in
            let hands = may_hand k p h.old s_is in
            let v_is : slice_get vs receiver.process ≡ Some z.new = ap (λ (xs : List Tree). slice_get xs receiver.process) z.now ∙ got_set ts receiver.process z.new (slice_get_within ts receiver.process z.old z.is) in
            let u_is : slice_get us sender.process ≡ Some h.new = ap (λ (xs : List Tree). slice_get xs sender.process) h.now ∙ got_set vs sender.process h.new (slice_get_within vs sender.process h.old h.is) in
            let still : slice_get us receiver.process ≡ Some z.new = ap (λ (xs : List Tree). slice_get xs receiver.process) h.now ∙ set_other vs sender.process receiver.process h.new apart ∙ v_is in
            ∥∥₁_map₂ (second z.old z.new z.is v_is parcel (may_take k p z.old z.is)) (third h.old h.new h.is u_is parcel hands) (λ x y.
            both_soon setting.model ts us wire sender receiver message parcel h.old h.new z.old z.new begun tried taken ended s_is u_is z.is still (first h.old s_is parcel hands) x y)))

      -- So it is with whatever act of the sender: where memory does not run out, it has no trouble.

      pub leads_all : (r : Result (Result ⊤ Trouble) AllocError) → IfOk r (Handed vs us) → IfOk r (λ left. ∥ Leads (reached setting.model clock us left) ∥₁)
      leads_all (Err e) h = tt
      leads_all (Ok (Err trouble)) h = absurd (never_then trouble h)
      leads_all (Ok (Ok o)) h = leads_then o h

      pub after_all : MembersStay → StaysFit → LowStays → IsSound setting.model → (r : Result (Result ⊤ Trouble) AllocError) → IfOk r (Handed vs us) → IfOk r (λ left. OnOk left (∥ AreTrees setting clock us ∥₁))
      after_all stay fits lows sound (Err e) h = tt
      after_all stay fits lows sound (Ok (Err trouble)) h = tt
      after_all stay fits lows sound (Ok (Ok o)) h = after_then o h stay fits lows sound

      pub others_all : (r : Result (Result ⊤ Trouble) AllocError) → IfOk r (Handed vs us) → IfOk r (λ left. OnOk left ((u v : Tree) × (us ≡ set (set ts receiver.process v) sender.process u)))
      others_all (Err e) h = tt
      others_all (Ok (Err trouble)) h = tt
      others_all (Ok (Ok o)) h = others_then o h

      pub stays_all : (r : Result (Result ⊤ Trouble) AllocError) → IfOk r (Handed vs us) → IfOk r (λ left. OnErr left (us ≡ ts))
      stays_all (Err e) h = tt
      stays_all (Ok (Err trouble)) h = absurd (never_then trouble h)
      stays_all (Ok (Ok o)) h = tt

      pub soon_all : (begun tried taken ended : ℕ)
          → ((t : Tree) → slice_get ts sender.process ≡ Some t → (x : ParcelView) → MayAct setting.model clock (CanSend x) t sender.place → tried ≤ begun + 5 * on_way (term_in t) sender.place)
          → ((t u : Tree) → slice_get ts receiver.process ≡ Some t → slice_get vs receiver.process ≡ Some u → (x : ParcelView) → MayAct setting.model clock CanReceive t receiver.place
          → ∥ HasActedSoon setting.model (λ a f. Takes a f parcel) t u receiver.place tried taken ∥₁)
          → (r : Result (Result ⊤ Trouble) AllocError) → IfOk r (Handed vs us)
          → ((t u : Tree) → slice_get vs sender.process ≡ Some t → slice_get us sender.process ≡ Some u → (x : ParcelView) → MayAct setting.model clock (CanSend x) t sender.place
          → IfOk r (λ left. OnOk left (∥ HasActedSoon setting.model (λ a f. Hands a f x) t u sender.place taken ended ∥₁)))
          → IfOk r (λ left. OnOk left (∥ ActsSoon setting.model ts us (Comm wire sender receiver message parcel) 0 begun ended ∥₁))
      soon_all begun tried taken ended first second (Err e) h third = tt
      soon_all begun tried taken ended first second (Ok (Err trouble)) h third = tt
      soon_all begun tried taken ended first second (Ok (Ok o)) h third = soon_then o h begun tried taken ended first second third
