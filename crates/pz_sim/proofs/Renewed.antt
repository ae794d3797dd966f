-- One process has acted, and is told of anew.
use Rattle.std.proofs.Common.{◌≡◌, ◌<◌, ◌⊎◌, inl, inr, ℕ, List, map, set, get_or, length, Some, Result, sym, subst, ap, ◌∙◌, arith}
use Rattle.std.specs.Prelude.{slice_get, Bool, ⊤}
use Rattle.std.proofs.Math.Logic.{∥∥₁_elim, ∥∥₁_map}
use Rattle.std.proofs.lemmas.Option.{slice_get_within, get_or_from_slice_get}
use Rattle.std.proofs.lemmas.List.{length-map}
use Rattle.std.specs.Coded.{le_prop}
use Rattle.pz_rules.specs.pz_syntax.Classes.{ModelTree}
use Rattle.pz_match.specs.Table.{Table}
use Rattle.pz_rules.specs.pz_offer.declared.end.End.{End}
use Rattle.pz_rules.specs.pz_offer.declared.trouble.Trouble.{Trouble}
use Rattle.pz_rules.specs.declared.action.Action.{Action}
use Rattle.pz_rules.specs.Settings.{Setting}
use Rattle.pz_rules.specs.Terms.{done}
use Rattle.pz_rules.specs.Steps.{Next}
use Rattle.pz_sim_totals.specs.declared.total.Total.{Total}
use Rattle.pz_sim_laws.specs.Members.{Member, config_of}
use Rattle.pz_rules.specs.pz_offer.declared.summary.Summary.{Summary}
use Rattle.pz_rules.specs.Leaving.{is_done}
use Rattle.pz_tree.specs.pz_tree_standing.Summaries.{summary_of}
use Rattle.pz_sim_laws.specs.Deciding.{total_of, unfinished}
use Rattle.pz_tree.specs.Deeds.{Ability}
use Rattle.pz_tree.specs.declared.tree.Tree.{Tree}
use Rattle.pz_tree.specs.Trees.{IsFresh, at_in, term_in}
use Rattle.pz_sim.specs.Members.{member_of, members_of}
use Rattle.pz_sim.specs.devices.Acting.{AreTold, CanDoAt, reached}
use Rattle.pz_sim.specs.devices.Holding.{AreTrees}
use Rattle.pz_sim.specs.devices.Tables.{hushed, IsTable, IsHeard, AreHeard, AreHeardBut, CanBeSilent, CanTell}
use Rattle.pz_sim.proofs.Heard.{set_other}
use Rattle.pz_sim.proofs.Acted.{tree_fits}
use Rattle.pz_sim.proofs.Replaced.{got_mapped, got_set, all_at, members_replaced, totals_replaced, all_heard}

module _ (setting : Setting) (clock : ℕ) (ts : List Tree) (totals : List Total) (table : Table) where
  pub can_be_silent : (i : ℕ) → AreTold setting clock ts totals table → i < length ts → CanBeSilent i table
  can_be_silent i k within =
      let many = length-map ts (member_of setting.model) in
      let rows = k.is_table.senders.all in
      record { there = k.is_table.there; within = omega (arith, within, many, rows) }

  pub heard_told : AreTold setting clock ts totals table → AreHeard setting.model clock ts (members_of setting.model ts)
  heard_told k = all_heard setting.model clock ts k.are_trees.fresh k.are_trees.clocks

  pub totals_within : AreTold setting clock ts totals table → (i : ℕ) → i < length ts → i < length totals
  totals_within k i within =
      let many = length-map ts (member_of setting.model) in
      let all = length-map (members_of setting.model ts) (total_of clock) in
      let same = ap (λ (xs : List Total). length xs) k.are_totals in
      omega (arith, within, many, all, same)

  module _ (i : ℕ) (t u : Tree) (is : slice_get ts i ≡ Some t) (us : List Tree) (now : us ≡ set ts i u) where
    pub is_now : slice_get us i ≡ Some u
    is_now = subst (λ (vs : List Tree). slice_get vs i ≡ Some u) (sym now) (got_set ts i u (slice_get_within ts i t is))

    -- the others are as they were
    pub heard_others : AreTold setting clock ts totals table → AreHeardBut setting.model clock us i (members_of setting.model ts)
    heard_others k j h apart there = by (heard_told k j h there)
      where
        by : (h.term ≡ done) ⊎ IsHeard setting.model clock ts j h → (h.term ≡ done) ⊎ IsHeard setting.model clock us j h
        by (inl silent) = inl silent
        by (inr one) = inr (record {
          tree = one.tree;
          is = ap (λ (vs : List Tree). slice_get vs j) now ∙ set_other ts i j u apart ∙ one.is;
          fresh = one.fresh;
          same_clock = one.same_clock;
          same = one.same;
        })

    pub can_tell : AreTold setting clock ts totals table → AreTrees setting clock us → CanTell setting.model clock us table i
    can_tell k after = record {
      members = members_of setting.model ts;
      table = k.is_table;
      heard = heard_others k;
      before = member_of setting.model t;
      is_before = got_mapped (member_of setting.model) ts i t is;
      tree = u;
      is = is_now;
      fresh = all_at (IsFresh setting.model) us i u after.fresh is_now;
      same_clock = all_at (λ (x : Tree). x.clock ≡ clock) us i u after.clocks is_now;
      fits = tree_fits setting clock us after i u is_now;
    }

    -- what is kept is that of the trees as they are then
    pub told_anew : (totals1 : List Total) (table1 : Table) → AreTold setting clock ts totals table → AreTrees setting clock us → IsTable (set (members_of setting.model ts) i (member_of setting.model u)) table1
        → totals1 ≡ set totals i (total_of clock (member_of setting.model u)) → AreTold setting clock us totals1 table1
    told_anew totals1 table1 k after table_is totals_are = record {
      are_trees = after;
      are_totals = totals_are ∙ ap (λ (xs : List Total). set xs i (total_of clock (member_of setting.model u))) k.are_totals
          ∙ sym (totals_replaced setting.model clock ts i u) ∙ ap (λ (vs : List Tree). map (total_of clock) (members_of setting.model vs)) (sym now);
      is_table = subst (λ (hs : List Member). IsTable hs table1) (sym (members_replaced setting.model ts i u) ∙ ap (members_of setting.model) (sym now)) table_is;
    }

-- the total of the tree that is read
pub counted_anew : (m : ModelTree) (clock : ℕ) (ts : List Tree) (i : ℕ) (d tree : Tree) (total : Total) (old new : List Total) → slice_get ts i ≡ Some tree → IsFresh m tree → tree.clock ≡ clock
    → ((n : ModelTree) → IsFresh n (get_or ts i d) → total ≡ total_of (get_or ts i d).clock (member_of n (get_or ts i d))) → new ≡ set old i total → new ≡ set old i (total_of clock (member_of m tree))
counted_anew m clock ts i d tree total old new is fresh same_clock says now =
    let same : get_or ts i d ≡ tree = get_or_from_slice_get ts i tree d is in
    now ∙ ap (set old i)
    (says m (subst (IsFresh m) (sym same) fresh) ∙ ap (λ (t : Tree). total_of t.clock (member_of m t)) same ∙ ap (λ (k : ℕ). total_of k (member_of m tree)) same_clock)

-- What the calls say: a process is silent, or it speaks.

-- the process at this place of a table that is told is silent from then on
abbrev pub Hushes : ModelTree → ℕ → List Tree → ℕ → Table → Table → Type 0
Hushes m clock ts i old new = (hs : List Member) (h : Member) → slice_get hs i ≡ Some h → AreHeard m clock ts hs → IsTable hs old → IsTable (set hs i (hushed h)) new

-- or speaks
abbrev pub Speaks : ModelTree → ℕ → List Tree → ℕ → Table → Table → Type 0
Speaks m clock ts i old new = (hs : List Member) (tree : Tree) → slice_get ts i ≡ Some tree → AreHeardBut m clock ts i hs → IsTable hs old → CanTell m clock ts old i → IsTable (set hs i (member_of m tree)) new

abbrev pub Counts : ModelTree → ℕ → List Tree → ℕ → List Total → List Total → Type 0
Counts m clock ts i old new = (tree : Tree) → slice_get ts i ≡ Some tree → IsFresh m tree → tree.clock ≡ clock → new ≡ set old i (total_of clock (member_of m tree))

-- One process has acted, and is told of anew

module _ (setting : Setting) (clock : ℕ) (ts : List Tree) (totals : List Total) (table : Table) (can : Ability) (at : End) (told : ∥ AreTold setting clock ts totals table ∥₁) (can_do : ∥ CanDoAt setting.model can ts at ∥₁) where
  pub trees_told : ∥ AreTrees setting clock ts ∥₁
  trees_told = ∥∥₁_map told (λ k. k.are_trees)

  module _ (us : List Tree) (other : (tree : Tree) × (us ≡ set ts at.process tree)) (after : ∥ AreTrees setting clock us ∥₁) where
    pub alone_tells : ∥ CanTell setting.model clock us table at.process ∥₁
    alone_tells = ∥∥₁_elim told squash₁ (λ k. ∥∥₁_elim can_do squash₁ (λ x. ∥∥₁_map after (λ w. can_tell setting clock ts totals table at.process x.tree other.0 x.is us other.1 k w)))

    pub alone_within : at.process < length totals
    alone_within = ∥∥₁_elim told le_prop (λ k. ∥∥₁_elim can_do le_prop (λ x. totals_within setting clock ts totals table k at.process (slice_get_within ts at.process x.tree x.is)))

    pub alone_told : (us1 : List Tree) (totals1 : List Total) (table1 : Table) → us1 ≡ us → ∥ Speaks setting.model clock us at.process table table1 ∥₁ → Counts setting.model clock us at.process totals totals1
        → ∥ AreTold setting clock us1 totals1 table1 ∥₁
    alone_told us1 totals1 table1 stay speaks counts =
        ∥∥₁_elim told squash₁ (λ k. ∥∥₁_elim can_do squash₁ (λ x. ∥∥₁_elim after squash₁ (λ w. ∥∥₁_map speaks (λ says.
        let u = other.0 in
        let there = is_now setting clock ts totals table at.process x.tree u x.is us other.1 in
        subst (λ (vs : List Tree). AreTold setting clock vs totals1 table1) (sym stay)
        (told_anew setting clock ts totals table at.process x.tree u x.is us other.1 totals1 table1 k w
        (says (members_of setting.model ts) u there (heard_others setting clock ts totals table at.process x.tree u x.is us other.1 k) k.is_table (can_tell setting clock ts totals table at.process x.tree u x.is us other.1 k w))
        (counts u there (all_at (IsFresh setting.model) us at.process u w.fresh there) (all_at (λ (y : Tree). y.clock ≡ clock) us at.process u w.clocks there)))))))

-- the same action, of equal trees
pub next_moved : (setting : Setting) (clock : ℕ) (ts ts1 us us1 : List Tree) (a : Action) (left left1 : Result ⊤ Trouble) → ts1 ≡ ts → us1 ≡ us → left ≡ left1
    → ∥ Next setting (config_of clock (members_of setting.model ts1)) a (reached setting.model clock us left) ∥₁ → ∥ Next setting (config_of clock (members_of setting.model ts)) a (reached setting.model clock us1 left1) ∥₁
next_moved setting clock ts ts1 us us1 a left left1 same stay is next =
    subst (λ (vs : List Tree). ∥ Next setting (config_of clock (members_of setting.model vs)) a (reached setting.model clock us1 left1) ∥₁) same
    (subst (λ (vs : List Tree). ∥ Next setting (config_of clock (members_of setting.model ts1)) a (reached setting.model clock vs left1) ∥₁) (sym stay)
    (subst (λ (r : Result ⊤ Trouble). ∥ Next setting (config_of clock (members_of setting.model ts1)) a (reached setting.model clock us r) ∥₁) is next))

-- the total of a tree, put together
pub total_is : (m : ModelTree) (t : Tree) (b : Bool) (s : Summary) → b ≡ is_done (term_in t) → s ≡ summary_of (at_in m t) t.clock 0 (term_in t) → (let x : Total = record { summary = s; unfinished = unfinished b } in x) ≡ total_of t.clock (member_of m t)
total_is m t b s over is =
    ap (λ (y : Summary). let x : Total = record { summary = y; unfinished = unfinished b } in x) is
    ∙ ap (λ (c : Bool). let x : Total = record { summary = summary_of (at_in m t) t.clock 0 (term_in t); unfinished = unfinished c } in x) over
