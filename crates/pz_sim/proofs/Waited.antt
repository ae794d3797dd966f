-- What is kept when time has passed over all, and the simulator with it.
use Rattle.std.proofs.Common.{◌≡◌, ◌≤◌, ◌<◌, ◌+◌, ◌*◌, ◌^◌, ℕ, true, List, [], map, get_or, length, Option, Some, sym, subst, ap, ◌∙◌, arith}
use Rattle.std.specs.Prelude.{slice_get, false, All}
use Rattle.std.specs.Coded.{Coded-set, coded_list, le_prop}
use Rattle.std.proofs.Math.Logic.{∥∥₁_elim, ∥∥₁_map, ∥∥₁_map₂}
use Rattle.std.proofs.Math.Nat.{ℕ_set}
use Rattle.std.proofs.Math.Bool.{Bool-set}
use Rattle.std.proofs.lemmas.Option.{slice_get-get_or}
use Rattle.std.specs.Option.{option_map_or}
use Rattle.std.proofs.lemmas.List.{length-map}
use Rattle.pz_rules.specs.pz_syntax.Classes.{ModelTree}
use Rattle.pz_rules.specs.pz_classes_rules.Soundness.{IsSound}
use Rattle.pz_rules.specs.pz_bind_rules.Nest.{processes}
use Rattle.pz_bind.specs.declared.net.Net.{Net}
use Rattle.pz_bind.specs.devices.Nets.{IsNet}
use Rattle.pz_match.specs.Table.{Table}
use Rattle.pz_rules.specs.declared.moment.Moment.{Moment}
use Rattle.pz_rules.specs.declared.moment.Moment.TheVariants.{Time}
use Rattle.pz_rules.specs.Settings.{Setting}
use Rattle.pz_rules.specs.Steps.{PassesTo}
use Rattle.pz_rules.specs.Laws.{StaysFit, LowPasses, WiresAreKnown}
use Rattle.pz_sim_totals.specs.declared.total.Total.{Total}
use Rattle.pz_sim_totals.specs.contracts.total.Total as total_row
use Rattle.pz_sim_totals.specs.Sums as sums
use Rattle.pz_sim_laws.specs.Members.{config_of}
use Rattle.pz_sim_laws.specs.Deciding.{total_of, decided}
use Rattle.pz_sim_laws.specs.Laws.{PassingLeadsOn, MembersPass, SendsOutlast, ReceivesOutlast, VerdictsOutlast, ReceiversStand, PairsAreCouples}
use Rattle.pz_tree.specs.pz_tree_standing.Soon.{HasRoom}
use Rattle.pz_tree.specs.declared.tree.Tree.{Tree}
use Rattle.pz_tree.specs.Trees.{IsFresh}
use Rattle.pz_sim.specs.Costs.{visited_all, names, names_at, with_end_in, PassesSoon}
use Rattle.pz_sim.specs.Members.{member_of, members_of}
use Rattle.pz_sim.specs.devices.Holding.{AreTrees, AreKept}
use Rattle.pz_sim.specs.devices.Passing.{AreSilenced, MayPass, HavePassed, own_total, AreRetold}
use Rattle.pz_sim.specs.devices.Speaking.{CanBeAsked}
use Rattle.pz_sim.specs.devices.Tables.{IsTable}
use Rattle.pz_tree.specs.pz_tree_standing.Frames.{FramesStandAsTimePasses}
use Rattle.pz_sim.proofs.Passed.{all_from, passes_on, trees_after, totals_at}
use Rattle.pz_sim.proofs.Outlasting.{retold_first}
use Rattle.pz_sim.proofs.Quieted.{none_quiet}
use Rattle.pz_sim.proofs.Replaced.{all_at}
use Rattle.pz_sim.proofs.Acted.{some_there, tree_fits}
use Rattle.pz_sim.proofs.Chosen.{couples_there}
use Rattle.pz_sim.proofs.Waits.{may_pass_at, time_is_short}

module _ (setting : Setting) (clock d : ℕ) (ts : List Tree) (totals : List Total) (table : Table) (kept : ∥ AreKept setting clock ts totals table (Time d) ∥₁) where
  abbrev m : ModelTree
  m = setting.model

  pub short_so : d < 2 ^ 64
  short_so = ∥∥₁_elim kept le_prop (λ k. time_is_short setting clock d ts totals table k)

  pub room_so : clock < 2 ^ 127 → HasRoom (clock + d)
  room_so low = let short = short_so in omega (arith, low, short)

  pub count_so : (net : Net) (count : ℕ) → ∥ IsNet m net ∥₁ → ((model : ModelTree) → IsNet model net → count ≡ length (processes model)) → count ≡ length ts
  count_so net count is counted =
      ∥∥₁_elim kept (ℕ_set count (length ts)) (λ k. ∥∥₁_elim is (ℕ_set count (length ts)) (λ n. counted m n ∙ sym k.are_trees.members.whole ∙ length-map ts (member_of m)))

  pub silent_first : ∥ AreSilenced m clock 0 ts table [] ∥₁
  silent_first = ∥∥₁_map kept (λ k. record {
    fresh = k.are_trees.fresh;
    clocks = k.are_trees.clocks;
    is_table = subst (λ hs. IsTable hs table) (sym (none_quiet m ts)) k.is_table;
    are_named = record {
      every = λ i t below there so. absurd (omega (arith, below));
      within = λ j i there. absurd (none_there j i there);
      only = λ j i t there t_is. absurd (none_there j i there);
      once = λ j l i there other. absurd (none_there j i there);
    };
  })
    where
      none_there : (j i : ℕ) → slice_get [] j ≡ Some i → ⊥
      none_there j i there = cc

  pub may_so : ∥ All (MayPass m (clock + d)) ts ∥₁
  may_so = ∥∥₁_map kept (λ k. all_from (MayPass m (clock + d)) ts (may_pass_at setting clock d ts totals table k))

  pub totals_so : totals ≡ map (own_total m) ts
  totals_so = ∥∥₁_elim kept (Coded-set (coded_list total_row.the_row.coded) totals (map (own_total m) ts)) (λ k.
      k.are_totals ∙ sym (totals_at m clock ts (λ i t is. all_at (λ (x : Tree). x.clock ≡ clock) ts i t k.are_trees.clocks is)))

  module _ (us : List Tree) (have : ∥ HavePassed m (clock + d) (length ts) ts us ∥₁) where
    pub passes_so : PassingLeadsOn → ∥ PassesTo setting (config_of clock (members_of m ts)) d (config_of (clock + d) (members_of m us)) ∥₁
    passes_so leads = ∥∥₁_map₂ kept have (λ k x. passes_on setting clock d ts us k.are_trees x leads)

    module _ (leads : PassingLeadsOn) (pass : MembersPass) (fit : StaysFit) (low : LowPasses) (frames : FramesStandAsTimePasses) (sound : IsSound m) where
      pub trees_so : ∥ AreTrees setting (clock + d) us ∥₁
      trees_so = ∥∥₁_map₂ kept have (λ k x. trees_after setting clock d ts us k.are_trees x leads pass fit low frames sound)

      pub asked_so : ∥ All (CanBeAsked m (clock + d)) us ∥₁
      asked_so = ∥∥₁_map trees_so (λ are. all_from (CanBeAsked m (clock + d)) us (λ i u is. record {
        fresh = all_at (IsFresh m) us i u are.fresh is;
        same_clock = all_at (λ (x : Tree). x.clock ≡ clock + d) us i u are.clocks is;
        fits = tree_fits setting (clock + d) us are i u is;
      }))

      -- once all are told, and the moment is decided
      pub kept_so : (totals1 : List Total) (table1 : Table) (moment : Moment) → totals1 ≡ map (own_total m) us → ∥ IsTable (members_of m us) table1 ∥₁ → moment ≡ decided (clock + d) (sums.all totals1) table1.pairs
          → ∥ AreKept setting (clock + d) us totals1 table1 moment ∥₁
      kept_so totals1 table1 moment totals_are is decides = ∥∥₁_map₂ trees_so is (λ are table_is.
          let at : totals1 ≡ map (total_of (clock + d)) (members_of m us) =
          totals_are ∙ totals_at m (clock + d) us (λ i u u_is. all_at (λ (x : Tree). x.clock ≡ clock + d) us i u are.clocks u_is) in
          record {
            are_trees = are;
            are_totals = at;
            is_table = table_is;
            is_moment = decides ∙ ap (λ xs. decided (clock + d) (sums.all xs) table1.pairs) at;
          })

    pub retold_so : SendsOutlast → ReceivesOutlast → VerdictsOutlast → ReceiversStand → IsSound m → (table1 : Table) (named : List ℕ) (count : ℕ) → count ≡ length ts → ∥ AreSilenced m clock count ts table1 named ∥₁
        → ∥ AreRetold m us table1 named 0 ∥₁
    retold_so sends receives verdicts stand sound table1 named count counted silenced =
        ∥∥₁_elim kept squash₁ (λ k. ∥∥₁_map₂ have silenced (λ x s. retold_first setting clock d ts us k.are_trees x sound sends receives verdicts stand table1 named
        (subst (λ n. AreSilenced m clock n ts table1 named) counted s)))

  -- all whose numbers were noted name the clock
  pub named_so : (table1 : Table) (named : List ℕ) (count : ℕ) → ∥ AreSilenced m clock count ts table1 named ∥₁ → count ≡ length ts → All (λ i. names_at m ts i ≡ true) named
  named_so table1 named count silenced counted j d within = ∥∥₁_elim silenced (Bool-set (names_at m ts (get_or named j d)) true) (λ s.
      let i_is = slice_get-get_or named j d within in
      let below = s.are_named.within j (get_or named j d) i_is in
      let t = some_there ts (get_or named j d) (omega (arith, below, counted)) in
      ap (λ (o : Option Tree). option_map_or (names m) o false) t.1 ∙ s.are_named.only j (get_or named j d) t.0 i_is t.1)

-- the pairs that it has come to are those of the rules
pub passes_soon : PairsAreCouples → WiresAreKnown → (setting : Setting) (clock : ℕ) (ts us : List Tree) (totals : List Total) (table : Table) (moment : Moment) (begun ended : ℕ) → IsSound setting.model
    → ∥ AreKept setting clock us totals table moment ∥₁ → ended ≤ begun + (64 * visited_all ts us + length (with_end_in (names_at setting.model ts) table.pairs)) → ∥ PassesSoon setting clock ts us begun ended ∥₁
passes_soon couples wires setting clock ts us totals table moment begun ended sound kept few = ∥∥₁_map kept (λ k. record {
  pairs = table.pairs;
  couples = couples_there setting clock us totals table (record { are_trees = k.are_trees; are_totals = k.are_totals; is_table = k.is_table }) couples wires sound;
  few = few;
})

-- a table that is one was not lost
pub table_there : (m : ModelTree) (us : List Tree) (table : Table) → ∥ IsTable (members_of m us) table ∥₁ → table.lost ≡ false
table_there m us table is = ∥∥₁_elim is (Bool-set table.lost false) (λ k. k.there)
