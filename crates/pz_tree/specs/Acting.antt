-- What a tree answers to a part of its process that acts.
use Rattle.std.specs.Prelude.{◌≤◌, ◌+◌, ℕ, Result, Ok, Err, IfOk}
use Rattle.pz_rules.specs.pz_offer.PlaceOrder.{Place}
use Rattle.pz_rules.specs.pz_offer.declared.trouble.Trouble.{Trouble}
use Rattle.pz_rules.specs.Settings.{Context, Process}
use Rattle.pz_rules.specs.Steps.{Deed}
use Rattle.pz_rules.specs.Terms.{Term}
use Rattle.pz_tree_acting.specs.Acting.{acting_steps}
use Rattle.pz_tree_acting.specs.Deeds.{Leaves}

-- the process that is left where there is no trouble
abbrev pub answered : Result (Unit {0}) Trouble → Process → Result Process Trouble
answered (Ok x) p = Ok p
answered (Err trouble) p = Err trouble

-- The deed of the part at the place leaves this process, in few steps: at most sixteen for each part on the way to the place,
-- with those beside it in a `par`, each that is made and each that is dropped where the part becomes what the deed leaves.
pub record LeavesSoon (a : Context) (does : Deed) (t : Term) (place : Place) (p : Process) (begun ended : ℕ) : Type 0 where
  pub leaves : Leaves a does t place (Ok p)
  pub ticks : IfOk leaves.left (λ x. ended ≤ begun + acting_steps a t place x)
