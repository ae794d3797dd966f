-- What a simulator over execution trees keeps.
use Rattle.std.specs.Prelude.{◌≡◌, ℕ, List, All, map}
use Rattle.pz_rules.specs.declared.moment.Moment.{Moment}
use Rattle.pz_rules.specs.Settings.{Setting}
use Rattle.pz_rules.specs.Heights.{IsLow}
use Rattle.pz_rules.specs.Fitting.{IsFit}
use Rattle.pz_rules.specs.Moments.{IsFirstHigh}
use Rattle.pz_rules.specs.devices.Start.{start_of}
use Rattle.pz_sim_totals.specs.declared.total.Total.{Total}
use Rattle.pz_match.specs.Table.{Table}
use Rattle.pz_sim_laws.specs.Members.{config_of, AreMembers}
use Rattle.pz_sim_laws.specs.Deciding.{total_of, total_of_all, decided}
use Rattle.pz_tree.specs.declared.tree.Tree.{Tree}
use Rattle.pz_tree.specs.Trees.{IsFresh, term_in, process_in}
use Rattle.pz_tree.specs.pz_tree_standing.Frames.{FramesStand}
use Rattle.pz_sim.specs.Members.{members_of}
use Rattle.pz_sim.specs.declared.standing.Standing.{Standing}
use Rattle.pz_sim.specs.declared.standing.Standing.TheVariants as standing
use Rattle.pz_sim.specs.devices.Tables.{IsTable}

-- The trees are those of the processes of the model, at this clock, each fresh; each term fits and is not too high, and just
-- the open frames of its state stand in it.
pub record AreTrees (setting : Setting) (clock : ℕ) (ts : List Tree) : Type 0 where
  pub members : AreMembers setting clock (members_of setting.model ts)
  pub fresh : All (IsFresh setting.model) ts
  pub clocks : All (λ t. t.clock ≡ clock) ts
  pub fit : IsFit setting (config_of clock (members_of setting.model ts))
  pub low : IsLow setting (config_of clock (members_of setting.model ts))
  pub frames : All (λ t. FramesStand (term_in t) (process_in t).state) ts

-- and totals, pairs and moment are theirs
pub record AreKept (setting : Setting) (clock : ℕ) (ts : List Tree) (totals : List Total) (table : Table) (moment : Moment) : Type 0 where
  pub are_trees : AreTrees setting clock ts
  pub are_totals : totals ≡ map (total_of clock) (members_of setting.model ts)
  pub is_table : IsTable (members_of setting.model ts) table
  pub is_moment : moment ≡ decided clock (total_of_all clock (members_of setting.model ts)) table.pairs

-- where an action or memory failed, nothing goes on from there; nor from a start that is too high
abbrev pub Holds : Setting → ℕ → List Tree → List Total → Table → Standing → Type 0
Holds setting clock ts totals table (standing.Whole moment) = AreKept setting clock ts totals table moment
Holds setting clock ts totals table (standing.High trouble) = (clock ≡ 0) × IsFirstHigh setting (start_of setting) trouble
Holds setting clock ts totals table (standing.Stopped trouble) = AreTrees setting clock ts
Holds setting clock ts totals table standing.Broken = Unit {0}
