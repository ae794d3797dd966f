-- A process that is asked what it offers, and the table that is told.
use Rattle.std.proofs.Common.{◌≡◌, ◌<◌, ℕ, List, length, set, get_or, Some, refl, sym, subst, ap, ◌∙◌}
use Rattle.std.proofs.Math.Logic.{∥∥₁_elim, ∥∥₁_map}
use Rattle.std.specs.Coded.{le_prop}
use Rattle.std.proofs.lemmas.Option.{same_Some, slice_get_within, slice_get-get_or}
use Rattle.std.proofs.lemmas.List.{set-get_or}
use Rattle.pz_rules.specs.pz_syntax.Classes.{ModelTree}
use Rattle.pz_rules.specs.pz_offer.declared.ends.SendOffer.{SendOffer}
use Rattle.pz_rules.specs.pz_offer.declared.ends.ReceiveOffer.{ReceiveOffer}
use Rattle.pz_match.specs.Table.{Table}
use Rattle.pz_rules.specs.Fitting.{TermFits}
use Rattle.pz_rules.specs.devices.Walks.{ReceivesAreListed}
use Rattle.pz_tree.specs.declared.tree.Tree.{Tree}
use Rattle.pz_tree.specs.Trees.{at_in, term_in, IsFresh}
use Rattle.pz_tree.specs.Asking.{AreSendOffers, AreReceiveOffers}
use Rattle.pz_sim.specs.devices.Tables.{CanSpeak, CanTell}
use Rattle.pz_sim.proofs.Offered.{sends_are, receives_are}

-- what is as it was, put back
pub put_back : (ts us : List Tree) (i : ℕ) (t d : Tree) → us ≡ set ts i t → t ≡ get_or ts i d → us ≡ ts
put_back ts us i t d is same = is ∙ ap (set ts i) same ∙ set-get_or ts i d

module _ (m : ModelTree) (clock : ℕ) (ts : List Tree) (t : Table) (i : ℕ) where
  pub tells_within : ∥ CanTell m clock ts t i ∥₁ → i < length ts
  tells_within h = ∥∥₁_elim h le_prop (λ x. slice_get_within ts i x.tree x.is)

  module _ (d : Tree) where
    abbrev pub read : Tree
    read = get_or ts i d

    pub is_read : (x : CanTell m clock ts t i) → x.tree ≡ read
    is_read x = same_Some x.tree read (sym x.is ∙ slice_get-get_or ts i d (slice_get_within ts i x.tree x.is))

    pub tells_fresh : ∥ CanTell m clock ts t i ∥₁ → ∥ IsFresh m read ∥₁
    tells_fresh h = ∥∥₁_map h (λ x. subst (IsFresh m) (is_read x) x.fresh)

    pub speaks : ReceivesAreListed → (sends : List SendOffer) (receives : List ReceiveOffer) → CanTell m clock ts t i
        → (IsFresh m read → TermFits m read.class.0 0 (term_in read) → AreSendOffers (at_in m read) (term_in read) sends)
        → (IsFresh m read → TermFits m read.class.0 0 (term_in read) → AreReceiveOffers (at_in m read) (term_in read) receives)
        → CanSpeak m clock ts t i sends receives
    speaks law sends receives x are_sends are_receives =
        let fresh : IsFresh m read = subst (IsFresh m) (is_read x) x.fresh in
        let fits : TermFits m read.class.0 0 (term_in read) = subst (λ (u : Tree). TermFits m u.class.0 0 (term_in u)) (is_read x) x.fits in
        record {
          members = x.members;
          table = x.table;
          heard = x.heard;
          before = x.before;
          is_before = x.is_before;
          tree = read;
          is = x.is ∙ ap (λ (u : Tree). Some u) (is_read x);
          fresh = fresh;
          same_clock = ap (λ (u : Tree). u.clock) (sym (is_read x)) ∙ x.same_clock;
          are_sends = sends_are (at_in m read) (term_in read) sends (are_sends fresh fits);
          are_receives = receives_are law (at_in m read) (term_in read) receives (are_receives fresh fits);
        }

  -- once it was asked, and is as it was
  module _ (d t1 : Tree) (same : t1 ≡ get_or ts i d) where
    pub as_it_was : set ts i t1 ≡ ts
    as_it_was = put_back ts (set ts i t1) i t1 d refl same

    pub still_fresh : ∥ CanTell m clock ts t i ∥₁ → ∥ IsFresh m t1 ∥₁
    still_fresh h = subst (λ (u : Tree). ∥ IsFresh m u ∥₁) (sym same) (tells_fresh d h)

    pub speaks_then : ReceivesAreListed → (sends : List SendOffer) (receives : List ReceiveOffer) → CanTell m clock ts t i
        → (IsFresh m (get_or ts i d) → TermFits m (get_or ts i d).class.0 0 (term_in (get_or ts i d)) → AreSendOffers (at_in m (get_or ts i d)) (term_in (get_or ts i d)) sends)
        → (IsFresh m t1 → TermFits m t1.class.0 0 (term_in t1) → AreReceiveOffers (at_in m t1) (term_in t1) receives)
        → CanSpeak m clock (set ts i t1) t i sends receives
    speaks_then law sends receives x are_sends are_receives =
        subst (λ (us : List Tree). CanSpeak m clock us t i sends receives) (sym as_it_was)
        (speaks d law sends receives x are_sends
        (subst (λ (u : Tree). IsFresh m u → TermFits m u.class.0 0 (term_in u) → AreReceiveOffers (at_in m u) (term_in u) receives) same are_receives))
