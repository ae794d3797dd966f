use Rattle.std.proofs.Common.{refl}
use Rattle.std.proofs.Math.Logic.{∥∥₁_map}
use Rattle.pz_sim.proofs.Numbered.{never_none, action_found}
use Rattle.pz_sim.proofs.offering.internal_action.Goals as goal

pub kth_internal-requires : goal.kth_internal-requires
kth_internal-requires c = record { fresh = ∥∥₁_map c.requires.there (λ x. (x.0, x.1)) }

pub unreachable-requires : goal.unreachable-requires
unreachable-requires c = never_none c.args.tree.now c.args.found.number c.in_ok-action.field-0 c.requires.there (λ m fresh. c.in_ok-action.ensures.found m fresh) c.in_default.not-Some

pub returns : goal.returns
returns c = record {
  is = λ m fresh. action_found m c.args.tree.now c.args.found.process c.args.found.number c.in_ok-action.field-0 c.in-Some.action c.in-Some.is (c.in_ok-action.ensures.found m fresh) _ refl;
}
