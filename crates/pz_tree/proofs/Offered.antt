-- What a tree offers.
use Rattle.std.proofs.Common.{◌≡◌, ◌≤◌, ℕ, List, Option, refl, sym, subst}
use Rattle.pz_rules.specs.pz_syntax.Classes.{ModelTree}
use Rattle.pz_rules.specs.pz_bind_rules.Nest.{class_at}
use Rattle.pz_bind.specs.devices.Nets.{IsNet}
use Rattle.pz_bind.specs.declared.net.Net.{Net}
use Rattle.pz_nodes.specs.Arena.{find}
use Rattle.pz_rules.specs.pz_offer.declared.ends.SendOffer.{SendOffer}
use Rattle.pz_rules.specs.pz_offer.declared.ends.ReceiveOffer.{ReceiveOffer}
use Rattle.pz_rules.specs.Fitting.{TermFits}
use Rattle.pz_rules.specs.Terms.{height}
use Rattle.pz_rules.specs.devices.Ends.{ActivePartsFit}
use Rattle.pz_rules.specs.devices.Walk.{active_parts, noted, sent_by, received_by}
use Rattle.pz_rules.specs.devices.Walks.{SendsAreListed, ReceivesAreListed}
use Rattle.pz_tree_offering.specs.declared.offers.ActiveSend.{ActiveSend}
use Rattle.pz_tree_offering.specs.declared.offers.ActiveReceive.{ActiveReceive}
use Rattle.pz_tree_offering.specs.Offers.{AreSends, SendsRule, AreReceives, ReceivesRule}
use Rattle.pz_tree.specs.declared.tree.Tree.{Tree}
use Rattle.pz_tree.specs.Asking.{AreSendOffers, AreReceiveOffers}
use Rattle.pz_tree.specs.Trees.{term_in, at_in, IsFresh}
use Rattle.pz_tree.specs.devices.Wires.{AreSentOver, AreReceivedOver}
use Rattle.pz_tree.proofs.Asked.{right_there}
use Rattle.pz_tree.proofs.Wired.{sent_offers, received_offers}

module _ (m : ModelTree) (t : Tree) (fresh : IsFresh m t) (net : Net) (known : IsNet m net) (fits : TermFits m t.class.0 0 (term_in t)) (law : ActivePartsFit)
    (key : Option ℕ) (frame clock levels : ℕ) (at_root : key ≡ t.root) (in_none : frame ≡ 0) (by_clock : clock ≡ t.clock) (limit : levels ≡ t.limits.height) where
  fits_there : TermFits m (class_at m fresh.there.of_model.place) 0 (term_in t)
  fits_there = subst (λ (c : ℕ). TermFits m c 0 (term_in t)) fresh.there.of_model.class fits

  low : height (term_in t) ≤ levels
  low = subst (λ (n : ℕ). height (term_in t) ≤ n) (sym limit) fresh.there.low

  pub its_sends : SendsAreListed → (xs : List SendOffer) (ys : List ActiveSend) → AreSentOver net t.process xs ys → SendsRule (at_in m t) (find t.nodes) key frame clock levels ys → AreSendOffers (at_in m t) (term_in t) xs
  its_sends listed xs ys over rule =
      let are = rule (term_in t) (right_there m t fresh key frame clock at_root in_none by_clock) low in
      sent_offers m net t.process known fresh.there.of_model.place fresh.there.of_model.is_process (at_in m t) refl refl (term_in t) fits_there law listed xs ys over
      (subst (λ (f : ℕ). AreSends ys (noted (sent_by (at_in m t)) (active_parts (at_in m t) f (term_in t)))) in_none are)

  pub its_receives : ReceivesAreListed → (xs : List ReceiveOffer) (ys : List ActiveReceive) → AreReceivedOver net t.process xs ys → ReceivesRule (find t.nodes) key frame clock levels ys → AreReceiveOffers (at_in m t) (term_in t) xs
  its_receives listed xs ys over rule =
      let are = rule (at_in m t) (term_in t) (right_there m t fresh key frame clock at_root in_none by_clock) low in
      received_offers m net t.process known fresh.there.of_model.place fresh.there.of_model.is_process (at_in m t) refl refl (term_in t) fits_there law listed xs ys over
      (subst (λ (f : ℕ). AreReceives (term_in t) ys (noted (λ g. received_by) (active_parts (at_in m t) f (term_in t)))) in_none are)
