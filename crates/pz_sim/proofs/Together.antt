-- Two processes have acted, of which the sender was silent in the table, and are told of anew, one after the other.
use Rattle.std.proofs.Common.{◌≡◌, ◌≢◌, ◌≤◌, ◌<◌, ◌+◌, ℕ, Bool, true, not, List, map, set, length, Some, refl, sym, subst, ap, ◌∙◌, arith}
use Rattle.std.specs.Prelude.{slice_get, filter}
use Rattle.std.proofs.Math.Nat.{ℕ_set}
use Rattle.std.proofs.Math.Logic.{∥∥₁_elim, ∥∥₁_map}
use Rattle.std.specs.Coded.{le_prop}
use Rattle.std.proofs.lemmas.Option.{slice_get_within}
use Rattle.std.proofs.lemmas.List.{length-map, length-set, set_comm}
use Rattle.pz_match.specs.Pairs.{questions, touches}
use Rattle.pz_match.specs.Table.{Table}
use Rattle.pz_rules.specs.Settings.{Setting}
use Rattle.pz_sim_totals.specs.declared.total.Total.{Total}
use Rattle.pz_sim_laws.specs.Members.{Member}
use Rattle.pz_sim_laws.specs.Deciding.{total_of}
use Rattle.pz_tree.specs.declared.tree.Tree.{Tree}
use Rattle.pz_tree.specs.Trees.{IsFresh}
use Rattle.pz_sim.specs.Costs.{with_end_in}
use Rattle.pz_sim.specs.Members.{member_of, members_of}
use Rattle.pz_sim.specs.devices.Acting.{setting_at, AreTold}
use Rattle.pz_sim.specs.declared.scene.Scene.{Scene}
use Rattle.pz_sim.specs.devices.Holding.{AreTrees}
use Rattle.pz_sim.specs.devices.Tables.{hushed, IsTable, AreHeard, AreHeardBut, CanBeSilent, CanTell}
use Rattle.pz_sim.proofs.Heard.{heard_silent, heard_but, heard_more, set_other}
use Rattle.pz_sim.proofs.Acted.{some_there, tree_fits}
use Rattle.pz_sim.proofs.Renewed.{heard_told, can_be_silent, totals_within, Hushes, Speaks, Counts}
use Rattle.pz_sim.proofs.Untouched.{untouched, asks_nothing, asks_few, asks_more}
use Rattle.pz_sim.proofs.Replaced.{got_mapped, got_set, all_at, totals_replaced, both_spoken, heard_behind}

pub trees_are : (scene : Scene) (ts : List Tree) (totals : List Total) (table : Table) → ∥ AreTold (setting_at scene) scene.clock ts totals table ∥₁ → ∥ AreTrees (setting_at scene) scene.clock ts ∥₁
trees_are scene ts totals table told = ∥∥₁_map told (λ k. k.are_trees)

-- process i sends and process j receives
module _ (setting : Setting) (clock : ℕ) (ts : List Tree) (totals : List Total) (table : Table) (told : AreTold setting clock ts totals table)
    (i j : ℕ) (apart : i ≢ j) (s r : Tree) (s_is : slice_get ts i ≡ Some s) (r_is : slice_get ts j ≡ Some r) where
  abbrev ms : List Member
  ms = members_of setting.model ts

  -- the sender is silent; as if both were

  abbrev pub one_silent : List Member
  one_silent = set ms i (hushed (member_of setting.model s))

  abbrev pub both_silent : List Member
  both_silent = set one_silent j (hushed (member_of setting.model r))

  many : length ms ≡ length ts
  many = length-map ts (member_of setting.model)

  pub sender_quiet : slice_get one_silent i ≡ Some (hushed (member_of setting.model s))
  sender_quiet = let within = slice_get_within ts i s s_is in let all = many in got_set ms i (hushed (member_of setting.model s)) (omega (arith, within, all))

  pub heard_one : AreHeard setting.model clock ts one_silent
  heard_one = heard_silent setting.model clock ts ms i (member_of setting.model s) (heard_told setting clock ts totals table told)

  pub second_there : slice_get one_silent j ≡ Some (member_of setting.model r)
  second_there = set_other ms i j (hushed (member_of setting.model s)) apart ∙ got_mapped (member_of setting.model) ts j r r_is

  heard_both : AreHeard setting.model clock ts both_silent
  heard_both = heard_silent setting.model clock ts one_silent j (member_of setting.model r) heard_one

  module _ (u v : Tree) (us : List Tree) (now : us ≡ set (set ts j v) i u) (after : AreTrees setting clock us) where
    swapped : set (set ms j (hushed (member_of setting.model r))) i (hushed (member_of setting.model s)) ≡ both_silent
    swapped = sym (set_comm ms i j (hushed (member_of setting.model s)) (hushed (member_of setting.model r)) apart)

    pub heard_now : AreHeard setting.model clock us both_silent
    heard_now =
        let m = setting.model in
        let first : AreHeard m clock (set ts j v) both_silent = heard_behind m clock ts one_silent j (member_of m r) v heard_both in
        subst (λ (vs : List Tree). AreHeard m clock vs both_silent) (sym now)
        (subst (AreHeard m clock (set (set ts j v) i u)) swapped
        (heard_behind m clock (set ts j v) (set ms j (hushed (member_of m r))) i (member_of m s) u (subst (AreHeard m clock (set ts j v)) (sym swapped) first)))

    -- each but the receiver, of which the table has what it offered before
    pub heard_others : AreHeardBut setting.model clock us j one_silent
    heard_others k h other there = heard_now k h (set_other one_silent j k (hushed (member_of setting.model r)) other ∙ there)

    pub receiver_now : slice_get us j ≡ Some v
    receiver_now =
        subst (λ (vs : List Tree). slice_get vs j ≡ Some v) (sym now)
        (set_other (set ts j v) i j u apart ∙ got_set ts j v (slice_get_within ts j r r_is))

    pub sender_now : slice_get us i ≡ Some u
    sender_now =
        let within = slice_get_within ts i s s_is in
        let same = length-set ts j v in
        subst (λ (vs : List Tree). slice_get vs i ≡ Some u) (sym now) (got_set (set ts j v) i u (omega (arith, within, same)))

    pub receiver_fresh : IsFresh setting.model v
    receiver_fresh = all_at (IsFresh setting.model) us j v after.fresh receiver_now

    pub receiver_clock : v.clock ≡ clock
    receiver_clock = all_at (λ (x : Tree). x.clock ≡ clock) us j v after.clocks receiver_now

    pub sender_fresh : IsFresh setting.model u
    sender_fresh = all_at (IsFresh setting.model) us i u after.fresh sender_now

    pub sender_clock : u.clock ≡ clock
    sender_clock = all_at (λ (x : Tree). x.clock ≡ clock) us i u after.clocks sender_now

    -- the receiver speaks, while the sender is silent
    pub receiver_tells : (silent : Table) → IsTable one_silent silent → CanTell setting.model clock us silent j
    receiver_tells silent is = record {
      members = one_silent;
      table = is;
      heard = heard_others;
      before = member_of setting.model r;
      is_before = second_there;
      tree = v;
      is = receiver_now;
      fresh = receiver_fresh;
      same_clock = receiver_clock;
      fits = tree_fits setting clock us after j v receiver_now;
    }

    abbrev pub one_speaks : List Member
    one_speaks = set one_silent j (member_of setting.model v)

    pub heard_again : AreHeard setting.model clock us one_speaks
    heard_again = heard_more setting.model clock us one_silent j v receiver_now receiver_fresh receiver_clock heard_others

    pub still_quiet : slice_get one_speaks i ≡ Some (hushed (member_of setting.model s))
    still_quiet =
        let other : j ≢ i = λ e. apart (sym e) in
        set_other one_silent j i (member_of setting.model v) other ∙ sender_quiet

    -- then the sender does
    pub sender_tells : (spoken : Table) → IsTable one_speaks spoken → CanTell setting.model clock us spoken i
    sender_tells spoken is = record {
      members = one_speaks;
      table = is;
      heard = heard_but setting.model clock us one_speaks i heard_again;
      before = hushed (member_of setting.model s);
      is_before = still_quiet;
      tree = u;
      is = sender_now;
      fresh = sender_fresh;
      same_clock = sender_clock;
      fits = tree_fits setting clock us after i u sender_now;
    }

    -- what is kept is that of the trees as they are then
    pub told_both : (totals1 totals2 : List Total) (table2 : Table) → IsTable (set one_speaks i (member_of setting.model u)) table2
        → totals1 ≡ set totals j (total_of clock (member_of setting.model v)) → totals2 ≡ set totals1 i (total_of clock (member_of setting.model u)) → AreTold setting clock us totals2 table2
    told_both totals1 totals2 table2 is first second =
        let m = setting.model in
        record {
          are_trees = after;
          are_totals = second
              ∙ ap (λ (xs : List Total). set xs i (total_of clock (member_of m u)))
              (first ∙ ap (λ (xs : List Total). set xs j (total_of clock (member_of m v))) told.are_totals ∙ sym (totals_replaced m clock ts j v))
              ∙ sym (totals_replaced m clock (set ts j v) i u) ∙ ap (λ (vs : List Tree). map (total_of clock) (members_of m vs)) (sym now);
          is_table = subst (λ (hs : List Member). IsTable hs table2)
              (both_spoken m ts i j (hushed (member_of m s)) u v apart ∙ ap (members_of m) (sym now)) is;
        }

-- What the calls in turn say: the sender is silent, both act, the receiver speaks, and then the sender.

module _ (setting : Setting) (clock : ℕ) (ts : List Tree) (totals : List Total) (table : Table) (told : ∥ AreTold setting clock ts totals table ∥₁) (i j : ℕ) (apart : i ≢ j)
    (i_within : i < length ts) (j_within : j < length ts) where
  one_there : (k : ℕ) → k < length ts → (t : Tree) × (slice_get ts k ≡ Some t)
  one_there k within = some_there ts k within

  abbrev s : Tree
  s = (one_there i i_within).0

  abbrev r : Tree
  r = (one_there j j_within).0

  pub first_silent : ∥ CanBeSilent i table ∥₁
  first_silent = ∥∥₁_map told (λ k. can_be_silent setting clock ts totals table i k i_within)

  module _ (table1 : Table) (hushes : Hushes setting.model clock ts i table table1) where
    table_one : (k : AreTold setting clock ts totals table) → IsTable (one_silent setting clock ts totals table k i j apart s r (one_there i i_within).1 (one_there j j_within).1) table1
    table_one k = hushes (members_of setting.model ts) (member_of setting.model s) (got_mapped (member_of setting.model) ts i s (one_there i i_within).1) (heard_told setting clock ts totals table k) k.is_table

    -- as long as it is silent nothing is asked
    pub first_free : length (questions i table1.pairs) ≡ 0
    first_free = ∥∥₁_elim told (ℕ_set (length (questions i table1.pairs)) 0) (λ k.
        let s_is = (one_there i i_within).1 in
        let r_is = (one_there j j_within).1 in
        asks_nothing (one_silent setting clock ts totals table k i j apart s r s_is r_is) table1 (table_one k) i (hushed (member_of setting.model s)) (sender_quiet setting clock ts totals table k i j apart s r s_is r_is) refl)

    module _ (ts2 us : List Tree) (same2 : ts2 ≡ ts) (others : (u v : Tree) × (us ≡ set (set ts2 j v) i u)) (after : ∥ AreTrees setting clock us ∥₁) where
      now : us ≡ set (set ts j others.1) i others.0
      now = others.2 ∙ ap (λ (vs : List Tree). set (set vs j others.1) i others.0) same2

      pub receiver_speaks : ∥ CanTell setting.model clock us table1 j ∥₁
      receiver_speaks = ∥∥₁_elim told squash₁ (λ k. ∥∥₁_map after (λ w.
          receiver_tells setting clock ts totals table k i j apart s r (one_there i i_within).1 (one_there j j_within).1 others.0 others.1 us now w table1 (table_one k)))

      pub receiver_within : j < length totals
      receiver_within = ∥∥₁_elim told le_prop (λ k. totals_within setting clock ts totals table k j j_within)

      module _ (totals1 : List Total) (table2 : Table) (speaks : ∥ Speaks setting.model clock us j table1 table2 ∥₁) (counts : Counts setting.model clock us j totals totals1) where
        table_two : (k : AreTold setting clock ts totals table) (w : AreTrees setting clock us) → Speaks setting.model clock us j table1 table2
            → IsTable (one_speaks setting clock ts totals table k i j apart s r (one_there i i_within).1 (one_there j j_within).1 others.0 others.1 us now w) table2
        table_two k w says =
            let s_is = (one_there i i_within).1 in
            let r_is = (one_there j j_within).1 in
            says (one_silent setting clock ts totals table k i j apart s r s_is r_is) others.1 (receiver_now setting clock ts totals table k i j apart s r s_is r_is others.0 others.1 us now w)
            (heard_others setting clock ts totals table k i j apart s r s_is r_is others.0 others.1 us now w) (table_one k)
            (receiver_tells setting clock ts totals table k i j apart s r s_is r_is others.0 others.1 us now w table1 (table_one k))

        totals_one : (k : AreTold setting clock ts totals table) (w : AreTrees setting clock us) → totals1 ≡ set totals j (total_of clock (member_of setting.model others.1))
        totals_one k w =
            let s_is = (one_there i i_within).1 in
            let r_is = (one_there j j_within).1 in
            counts others.1 (receiver_now setting clock ts totals table k i j apart s r s_is r_is others.0 others.1 us now w)
            (receiver_fresh setting clock ts totals table k i j apart s r s_is r_is others.0 others.1 us now w) (receiver_clock setting clock ts totals table k i j apart s r s_is r_is others.0 others.1 us now w)

        -- then each is asked about at most once
        pub asks_both : (among : ℕ → Bool) → among i ≡ true → among j ≡ true → (table3 : Table) → filter (λ p. not (touches i p)) table3.pairs ≡ filter (λ p. not (touches i p)) table2.pairs
            → length (questions j table2.pairs) + length (questions i table3.pairs) ≤ length (with_end_in among table3.pairs)
        asks_both among i_is j_is table3 same =
            ∥∥₁_elim told le_prop (λ k. ∥∥₁_elim after le_prop (λ w. ∥∥₁_elim speaks le_prop (λ says.
            let s_is = (one_there i i_within).1 in
            let r_is = (one_there j j_within).1 in
            let apart_is = untouched (one_speaks setting clock ts totals table k i j apart s r s_is r_is others.0 others.1 us now w) table2 (table_two k w says) i (hushed (member_of setting.model s))
            (still_quiet setting clock ts totals table k i j apart s r s_is r_is others.0 others.1 us now w) refl in
            let first = asks_few among j j_is table2.pairs in
            let second = asks_more among i i_is table2.pairs table3.pairs apart_is same in
            omega (arith, first, second))))

        module _ (us1 : List Tree) (stay1 : us1 ≡ us) where
          pub sender_speaks : ∥ CanTell setting.model clock us1 table2 i ∥₁
          sender_speaks =
              subst (λ (vs : List Tree). ∥ CanTell setting.model clock vs table2 i ∥₁) (sym stay1)
              (∥∥₁_elim told squash₁ (λ k. ∥∥₁_elim speaks squash₁ (λ says. ∥∥₁_map after (λ w.
              sender_tells setting clock ts totals table k i j apart s r (one_there i i_within).1 (one_there j j_within).1 others.0 others.1 us now w table2 (table_two k w says)))))

          pub sender_within : i < length totals1
          sender_within = ∥∥₁_elim told le_prop (λ k. ∥∥₁_elim after le_prop (λ w.
              let within = totals_within setting clock ts totals table k i i_within in
              let same = ap (λ (xs : List Total). length xs) (totals_one k w) in
              let kept = length-set totals j (total_of clock (member_of setting.model others.1)) in
              omega (arith, within, same, kept)))

          pub both_told : (us2 : List Tree) (totals2 : List Total) (table3 : Table) → us2 ≡ us1 → ∥ Speaks setting.model clock us1 i table2 table3 ∥₁ → Counts setting.model clock us1 i totals1 totals2
              → ∥ AreTold setting clock us2 totals2 table3 ∥₁
          both_told us2 totals2 table3 stay2 speaks2 counts2 =
              ∥∥₁_elim told squash₁ (λ k. ∥∥₁_elim after squash₁ (λ w. ∥∥₁_elim speaks squash₁ (λ says. ∥∥₁_map speaks2 (λ says2.
              let s_is = (one_there i i_within).1 in
              let r_is = (one_there j j_within).1 in
              let u = others.0 in
              let there : slice_get us1 i ≡ Some u = ap (λ (vs : List Tree). slice_get vs i) stay1 ∙ sender_now setting clock ts totals table k i j apart s r s_is r_is u others.1 us now w in
              let back = λ (Z : List Tree → Type 0) (z : Z us). subst Z (sym stay1) z in
              let hs = one_speaks setting clock ts totals table k i j apart s r s_is r_is u others.1 us now w in
              subst (λ (vs : List Tree). AreTold setting clock vs totals2 table3) (sym (stay2 ∙ stay1))
              (told_both setting clock ts totals table k i j apart s r s_is r_is u others.1 us now w totals1 totals2 table3
              (says2 hs u there (back (λ vs. AreHeardBut setting.model clock vs i hs) (heard_but setting.model clock us hs i (heard_again setting clock ts totals table k i j apart s r s_is r_is u others.1 us now w))) (table_two k w says)
              (back (λ vs. CanTell setting.model clock vs table2 i) (sender_tells setting clock ts totals table k i j apart s r s_is r_is u others.1 us now w table2 (table_two k w says))))
              (totals_one k w)
              (counts2 u there (sender_fresh setting clock ts totals table k i j apart s r s_is r_is u others.1 us now w) (sender_clock setting clock ts totals table k i j apart s r s_is r_is u others.1 us now w)))))))
