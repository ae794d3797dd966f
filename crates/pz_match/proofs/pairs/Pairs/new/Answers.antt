-- Nothing is offered.
use Rattle.std.proofs.Common.{◌/◌, ◌∙◌, sym, ap, subst, List, []}
use Rattle.pz_match_lists.specs.declared.shares.Part.{Part}
use Rattle.std.specs.Prelude.{map}
use Rattle.pz_match.specs.declared.users.Users.{Users}
use Rattle.pz_match.specs.devices.Lists.{upto}
use Rattle.pz_match.specs.devices.Kept.{kept}
use Rattle.pz_match.specs.devices.Tallies.{GroupsView}
use Rattle.pz_match.specs.devices.Tables.{Stands}
use Rattle.pz_match.specs.devices.Users.{HaveUsers, HaveAskers, HaveBlocks}
use Rattle.pz_match.specs.devices.Sharing.{Shared}
use Rattle.pz_match.proofs.Shared.{none_shared}
use Rattle.pz_match.proofs.Askers.{none_asks}
use Rattle.pz_match.proofs.Noting.{none_used, none_by}
use Rattle.pz_match.proofs.Ends.{silent_holds, silent_ordered, silent_senders, silent_receivers, senders_in, receivers_in}
use Rattle.pz_match.proofs.pairs.Pairs.new.Goals as goal

pub invariant_of-result : goal.invariant_of-result
invariant_of-result c there =
    record {
      stands =
          subst (λ (g : GroupsView). Stands g (map kept c.in_ok-offers.offers.items)) (sym c.new.ensures)
          (subst (Stands (record { groups = []; wires = 0 })) (sym c.in_ok-offers.ensures)
          (record { holds = silent_holds c.args.processes; ordered = silent_ordered (upto c.args.processes) }));
      used =
          subst (λ (us : Users). HaveUsers us (map kept c.in_ok-offers.offers.items)) (sym c.new-2.ensures)
          (subst (HaveUsers (record { senders = []; receivers = []; askers = []; blocks = [] })) (sym c.in_ok-offers.ensures) (none_used (upto c.args.processes)));
      asks =
          subst (λ (us : Users). HaveAskers us.askers (map kept c.in_ok-offers.offers.items)) (sym c.new-2.ensures)
          (subst (HaveAskers []) (sym c.in_ok-offers.ensures) (none_asks (upto c.args.processes)));
      in_blocks =
          subst (λ (us : Users). HaveBlocks us.blocks (map kept c.in_ok-offers.offers.items)) (sym c.new-2.ensures)
          (subst (HaveBlocks []) (sym c.in_ok-offers.ensures) (none_by (λ k. k / 64) (upto c.args.processes)));
      shared =
          subst (λ (xs : List (List Part)). Shared xs (map kept c.in_ok-offers.offers.items)) (sym c.new-3.ensures)
          (subst (Shared []) (sym c.in_ok-offers.ensures) (none_shared (upto c.args.processes)));
    }

pub returns-clause-senders : goal.returns-clause-senders
returns-clause-senders c = ap (map senders_in) c.in_ok-offers.ensures ∙ silent_senders c.args.processes

pub returns-clause-receivers : goal.returns-clause-receivers
returns-clause-receivers c = ap (map receivers_in) c.in_ok-offers.ensures ∙ silent_receivers c.args.processes
