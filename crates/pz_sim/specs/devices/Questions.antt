-- What the trees of processes say to questions about pairs.
use Rattle.std.specs.Prelude.{◌≡◌, ℕ, List, Option, Some, None, slice_get}
use Rattle.pz_rules.specs.pz_syntax.Classes.{ModelTree}
use Rattle.pz_rules.specs.pz_copy.Parcels.{ParcelView}
use Rattle.pz_rules.specs.pz_offer.declared.end.End.{End}
use Rattle.pz_rules.specs.pz_offer.declared.ends.Verdict.{Verdict}
use Rattle.pz_rules.specs.pz_offer.declared.ends.Verdict.TheVariants.{No}
use Rattle.pz_rules.specs.pz_offer.PlaceOrder.{Place}
use Rattle.pz_sim_laws.specs.Elapsing.{HasReceive}
use Rattle.pz_sim_laws.specs.devices.Saying.{said_at, verdict_of}
use Rattle.pz_tree.specs.declared.tree.Tree.{Tree}
use Rattle.pz_tree.specs.Trees.{at_in, term_in, IsFresh}

-- a receive stands at this place of a tree that is fresh, at this clock
pub record Stands (m : ModelTree) (clock : ℕ) (ts : List Tree) (r : End) : Type 0 where
  pub tree : Tree
  pub is : slice_get ts r.process ≡ Some tree
  pub fresh : IsFresh m tree
  pub same_clock : tree.clock ≡ clock
  pub receives : HasReceive (at_in m tree) (term_in tree) r.place

abbrev pub Takes : ModelTree → ℕ → List Tree → End → Type 0
Takes m clock ts r = ∥ Stands m clock ts r ∥₁

-- what is said to a parcel there
abbrev pub said_in : ModelTree → Option Tree → Place → ParcelView → Verdict
said_in m None place parcel = No
said_in m (Some t) place parcel = verdict_of (said_at (at_in m t) (term_in t) place parcel)

abbrev pub verdict_in : ModelTree → List Tree → End → ParcelView → Verdict
verdict_in m ts r parcel = said_in m (slice_get ts r.process) r.place parcel
