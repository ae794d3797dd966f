-- A table outlasts a passing of time where no process that speaks names the clock.
use Rattle.std.proofs.Common.{◌≡◌, ◌≤◌, ◌<◌, ◌+◌, ◌⊎◌, inl, inr, ℕ, zero, suc, Bool, true, false, List, [], ◌∷◌, length, Some, refl, sym, subst, ap, ◌∙◌, arith}
use Rattle.std.specs.Prelude.{slice_get, Contains}
use Rattle.std.proofs.lemmas.Option.{same_Some, slice_get_within}
use Rattle.pz_rules.specs.pz_syntax.Classes.{ModelTree}
use Rattle.pz_rules.specs.pz_classes_rules.Soundness.{IsSound}
use Rattle.pz_match.specs.declared.offers.Sender.{Sender}
use Rattle.pz_match.specs.declared.offers.Receiver.{Receiver}
use Rattle.pz_match.specs.Pairs.{Judged}
use Rattle.pz_match.specs.Table.{Table, all_receivers}
use Rattle.pz_rules.specs.Delays as delays
use Rattle.pz_rules.specs.Settings.{Setting}
use Rattle.pz_rules.specs.Terms.{done}
use Rattle.pz_sim_laws.specs.Members.{Member}
use Rattle.pz_sim_laws.specs.Offering.{SendersOf, ReceiversOf}
use Rattle.pz_sim_laws.specs.Couples.{answer, IsTruthful}
use Rattle.pz_sim_laws.specs.Elapsing.{Elapsed}
use Rattle.pz_sim_laws.specs.Laws.{ReceiversStand, SendsOutlast, ReceivesOutlast, VerdictsOutlast}
use Rattle.pz_tree.specs.pz_tree_standing.Woken.{clocked}
use Rattle.pz_tree.specs.declared.tree.Tree.{Tree}
use Rattle.pz_sim.specs.Costs.{names}
use Rattle.pz_sim.specs.Members.{member_of}
use Rattle.pz_sim.specs.devices.Holding.{AreTrees}
use Rattle.pz_sim.specs.devices.Passing.{quiet_if, quieted, quiet_after, AreSilenced, HavePassed, IsYetToSpeak, AreRetold}
use Rattle.pz_sim.specs.devices.Tables.{IsTable}
use Rattle.pz_sim.proofs.Passed.{some_at, all_from, elapsed_at}
use Rattle.pz_sim.proofs.Quieted.{length-quieted}
use Rattle.pz_sim.proofs.Replaced.{all_at}

-- a process before and after, of which no active part names the clock
pub record Lasts (d : ℕ) (h k : Member) : Type 0 where
  pub sound : IsSound h.seen.setting.model
  pub elapsed : Elapsed d h k
  pub unclocked : clocked h.seen 0 h.term ≡ false

module _ (sends : SendsOutlast) (receives : ReceivesOutlast) (verdicts : VerdictsOutlast) (stand : ReceiversStand) (d : ℕ) (hs ks : List Member) (t : Table) (same : length ks ≡ length hs)
    (each : (i : ℕ) (h k : Member) → slice_get hs i ≡ Some h → slice_get ks i ≡ Some k → Lasts d h k) (is : IsTable hs t) where
  senders_last : (i : ℕ) (k : Member) → slice_get ks i ≡ Some k → (row : List Sender) → slice_get t.senders i ≡ Some row → SendersOf i k row
  senders_last i k k_is row row_is =
      let h = some_at hs ks i k (sym same) k_is in
      let of = is.senders.each i h.0 row h.1 row_is in
      let x = each i h.0 k h.1 k_is in
      record { offers = of.offers; are = sends d h.0 k of.offers x.sound x.elapsed x.unclocked of.are; over_wires = of.over_wires }

  receivers_last : (i : ℕ) (k : Member) → slice_get ks i ≡ Some k → (row : List Receiver) → slice_get t.receivers i ≡ Some row → ReceiversOf i k row
  receivers_last i k k_is row row_is =
      let h = some_at hs ks i k (sym same) k_is in
      let of = is.receivers.each i h.0 row h.1 row_is in
      let x = each i h.0 k h.1 k_is in
      record { offers = of.offers; are = receives d h.0 k of.offers x.sound x.elapsed x.unclocked of.are; over_wires = of.over_wires }

  truthful_lasts : (j : ℕ) (p : Judged) → slice_get t.pairs j ≡ Some p → IsTruthful ks p
  truthful_lasts j p p_is =
      let so : IsTruthful hs p = all_at (IsTruthful hs) t.pairs j p is.truthful p_is in
      let there : Contains (all_receivers t) p.receiver = all_at (λ (q : Judged). Contains (all_receivers t) q.receiver) t.pairs j p is.pairs.receives p_is in
      let x = stand hs t.receivers p.receiver is.receivers there in
      record {
        free = so.free;
        asked = λ cond k k_is.
            let y = each p.receiver.end.process x.0 k x.1 k_is in
            verdicts d x.0 k p.receiver.end.place p.sender.parcel (answer p.verdict) y.sound y.elapsed y.unclocked x.2 (so.asked cond x.0 x.1);
      }

  pub table_lasts : IsTable ks t
  table_lasts = record {
    there = is.there;
    senders = record { all = is.senders.all ∙ sym same; each = λ i k row k_is row_is. senders_last i k k_is row row_is };
    receivers = record { all = is.receivers.all ∙ sym same; each = λ i k row k_is row_is. receivers_last i k k_is row row_is };
    pairs = is.pairs;
    truthful = all_from (IsTruthful ks) t.pairs truthful_lasts;
  }

-- The processes that are silent, or do not name the clock

module _ (m : ModelTree) where
  -- one before and after
  record IsCouple (ts us : List Tree) (i : ℕ) (h k : Member) : Type 0 where
    pub before : Tree
    pub is_before : slice_get ts i ≡ Some before
    pub after : Tree
    pub is_after : slice_get us i ≡ Some after
    pub one : h ≡ quiet_if (names m before) (member_of m before)
    pub other : k ≡ quiet_if (names m before) (member_of m after)

  couple_at : (ts us : List Tree) (n : ℕ) → length ts ≤ n → (i : ℕ) (h k : Member) → slice_get (quieted m n ts) i ≡ Some h → slice_get (quiet_after m ts us) i ≡ Some k → IsCouple ts us i h k
  couple_at [] us n long i h k h_is k_is = cc
  couple_at (t ∷ ts) [] n long i h k h_is k_is = cc
  couple_at (t ∷ ts) (u ∷ us) zero long i h k h_is k_is = absurd (omega (arith, long))
  couple_at (t ∷ ts) (u ∷ us) (suc n) long zero h k h_is k_is = record {
    before = t;
    is_before = refl;
    after = u;
    is_after = refl;
    one = sym (same_Some (quiet_if (names m t) (member_of m t)) h h_is);
    other = sym (same_Some (quiet_if (names m t) (member_of m u)) k k_is);
  }
  couple_at (t ∷ ts) (u ∷ us) (suc n) long (suc i) h k h_is k_is =
      let x = couple_at ts us n (omega (arith, long)) i h k h_is k_is in
      record { before = x.before; is_before = x.is_before; after = x.after; is_after = x.is_after; one = x.one; other = x.other }

  pub length-quiet_after : (ts us : List Tree) → length us ≡ length ts → length (quiet_after m ts us) ≡ length ts
  length-quiet_after [] us same = refl
  length-quiet_after (t ∷ ts) [] same = same
  length-quiet_after (t ∷ ts) (u ∷ us) same = ap suc (length-quiet_after ts us (omega (arith, same)))

  -- one afterwards
  record IsLater (ts : List Tree) (i : ℕ) (u : Tree) (h : Member) : Type 0 where
    pub before : Tree
    pub is_before : slice_get ts i ≡ Some before
    pub same : h ≡ quiet_if (names m before) (member_of m u)

  later_at : (ts us : List Tree) (i : ℕ) (u : Tree) (h : Member) → slice_get us i ≡ Some u → slice_get (quiet_after m ts us) i ≡ Some h → IsLater ts i u h
  later_at [] us i u h u_is h_is = cc
  later_at (t ∷ ts) [] i u h u_is h_is = cc
  later_at (t ∷ ts) (v ∷ us) zero u h u_is h_is = record {
    before = t;
    is_before = refl;
    same = sym (same_Some (quiet_if (names m t) (member_of m v)) h h_is) ∙ ap (λ (x : Tree). quiet_if (names m t) (member_of m x)) (same_Some v u u_is);
  }
  later_at (t ∷ ts) (v ∷ us) (suc i) u h u_is h_is = let x = later_at ts us i u h u_is h_is in record { before = x.before; is_before = x.is_before; same = x.same }

  quiet_lasts : (d : ℕ) (t u : Tree) (b : Bool) → IsSound m → Elapsed d (member_of m t) (member_of m u) → names m t ≡ b → Lasts d (quiet_if b (member_of m t)) (quiet_if b (member_of m u))
  quiet_lasts d t u true sound elapsed e = record { sound = sound; elapsed = record { passes = delays.is_done 0; seen = elapsed.seen }; unclocked = refl }
  quiet_lasts d t u false sound elapsed e = record { sound = sound; elapsed = elapsed; unclocked = e }

module _ (setting : Setting) (clock d : ℕ) (ts us : List Tree) (are : AreTrees setting clock ts) (have : HavePassed setting.model (clock + d) (length ts) ts us) (sound : IsSound setting.model) where
  abbrev m : ModelTree
  m = setting.model

  each_lasts : (i : ℕ) (h k : Member) → slice_get (quieted m (length ts) ts) i ≡ Some h → slice_get (quiet_after m ts us) i ≡ Some k → Lasts d h k
  each_lasts i h k h_is k_is =
      let x = couple_at m ts us (length ts) (let it : length ts ≤ length ts = omega arith in it) i h k h_is k_is in
      let elapsed = elapsed_at setting clock d ts us are have i x.before x.after x.is_before x.is_after in
      subst (λ (y : Member). Lasts d y k) (sym x.one)
      (subst (λ (y : Member). Lasts d (quiet_if (names m x.before) (member_of m x.before)) y) (sym x.other)
      (quiet_lasts m d x.before x.after (names m x.before) sound elapsed refl))

  -- those that named the clock are yet to speak
  pub retold_first : SendsOutlast → ReceivesOutlast → VerdictsOutlast → ReceiversStand → (table : Table) (named : List ℕ) → AreSilenced m clock (length ts) ts table named → AreRetold m us table named 0
  retold_first sends receives verdicts stand table named silenced = record {
    members = quiet_after m ts us;
    is_table =
        table_lasts sends receives verdicts stand d (quieted m (length ts) ts) (quiet_after m ts us) table
        (length-quiet_after m ts us have.all ∙ sym (length-quieted m (length ts) ts)) each_lasts silenced.is_table;
    all = length-quiet_after m ts us have.all ∙ sym have.all;
    each = each_told;
    within = λ k i is. subst (λ (n : ℕ). i < n) (sym have.all) (silenced.are_named.within k i is);
    silent = silent_first;
    once = silenced.are_named.once;
  }
    where
      silent_first : (k i : ℕ) (h : Member) → 0 ≤ k → slice_get named k ≡ Some i → slice_get (quiet_after m ts us) i ≡ Some h → h.term ≡ done
      silent_first k i h behind is h_is =
          let u = some_at us (quiet_after m ts us) i h (have.all ∙ sym (length-quiet_after m ts us have.all)) h_is in
          let x = later_at m ts us i u.0 h u.1 h_is in
          ap (λ (y : Member). y.term) (x.same ∙ ap (λ (b : Bool). quiet_if b (member_of m u.0)) (silenced.are_named.only k i x.before is x.is_before))

      each_told : (i : ℕ) (u : Tree) (h : Member) → slice_get us i ≡ Some u → slice_get (quiet_after m ts us) i ≡ Some h → (h ≡ member_of m u) ⊎ IsYetToSpeak m u h named 0 i
      each_told i u h u_is h_is = by (names m x.before) refl
        where
          x : IsLater m ts i u h
          x = later_at m ts us i u h u_is h_is

          by : (b : Bool) → names m x.before ≡ b → (h ≡ member_of m u) ⊎ IsYetToSpeak m u h named 0 i
          by true e =
              let among = silenced.are_named.every i x.before (slice_get_within ts i x.before x.is_before) x.is_before e in
              inr (record { silent = x.same ∙ ap (λ (b : Bool). quiet_if b (member_of m u)) e; number = among.0; behind = omega arith; is = among.1 })
          by false e = inl (x.same ∙ ap (λ (b : Bool). quiet_if b (member_of m u)) e)
