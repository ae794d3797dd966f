-- A process before and after a passing of time.
use Rattle.std.specs.Prelude.{◌≡◌, ℕ}
use Rattle.pz_tree_standing.specs.pz_offer.PlaceOrder.{Place}
use Rattle.pz_tree_standing.specs.pz_rules.Terms.{Term}
use Rattle.pz_tree_standing.specs.pz_rules.Settings.{Context}
use Rattle.pz_tree_standing.specs.pz_rules.Active.{IsActive}
use Rattle.pz_tree_standing.specs.pz_rules.Acting.{IsReceive}
use Rattle.pz_tree_standing.specs.pz_rules.Delays.{Passes}
use Rattle.pz_tree_standing.specs.Steady.{later}
use Rattle.pz_sim_laws.specs.Members.{Member}

pub record Elapsed (d : ℕ) (m n : Member) : Type 0 where
  pub passes : Passes m.seen d 0 m.term n.term
  pub seen : n.seen ≡ later m.seen d

-- at this place of a term stands an active receive
pub record HasReceive (a : Context) (t : Term) (place : Place) : Type 0 where
  pub frame : ℕ
  pub part : Term
  pub active : IsActive a t place frame part
  pub receive : IsReceive part
