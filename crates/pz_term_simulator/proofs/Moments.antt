-- The moment and the offers of a simulator.
use Rattle.std.proofs.Common.{◌≡◌, ℕ, List, length, sym, ap, subst, ◌∙◌}
use Rattle.std.proofs.lemmas.Option.{get_or_from_slice_get, slice_get_within, same_Some}
use Rattle.std.specs.Prelude.{slice_get}
use Rattle.pz_rules.specs.pz_offer.declared.trouble.Trouble.{Trouble}
use Rattle.pz_rules.specs.declared.action.Action.{Action}
use Rattle.pz_rules.specs.declared.moment.Moment.TheVariants.{Actions, Stopped, Broken}
use Rattle.pz_rules.specs.Offers.{Offers}
use Rattle.pz_rules.specs.Runs.{whole, stopped}
use Rattle.pz_rules.specs.Laws.{OneMoment, MomentsCountOffers, OneListOfOffers}
use Rattle.pz_term_simulator.specs.Simulations as simulations
use Rattle.pz_term_simulator.specs.Simulations.{stands, broken}
use Rattle.pz_term_simulator.specs.Laws.{OneMomentOf, OffersAreThere, OffersAreCounted, OffersAreNumbered, OffersAreDerived, OneOfferOf}

pub one_moment_of : OneMoment → OneMomentOf
one_moment_of one (stands setting c whole) m n x y = one setting c m n x y
one_moment_of one (stands setting c (stopped trouble)) m n x y = x ∙ sym y
one_moment_of one (broken setting) m n x y = x ∙ sym y

pub offers_counted : MomentsCountOffers → OneListOfOffers → OffersAreCounted
offers_counted counts one_list _ n _ now (simulations.some setting c m offers is are) =
    let x = counts setting c n now in
    x.count ∙ ap (λ (l : List Action). length l) (one_list setting c x.offers offers x.all are)
offers_counted counts one_list _ n _ now (simulations.none s never) = absurd (never n now)

pub offers_numbered : OneListOfOffers → OffersAreNumbered
offers_numbered one_list _ n k _ a now (simulations.some setting c m offers is are) offer = ap (λ (l : List Action). slice_get l k) (one_list setting c offers offer.offers are offer.all) ∙ offer.chosen
offers_numbered one_list _ n k _ a now (simulations.none s never) offer = absurd (never n now)

pub offers_derived : OffersAreDerived
offers_derived (stands setting c standing) k a offer =
    subst (Offers setting c) (get_or_from_slice_get offer.offers k a a offer.chosen) (offer.all.derivable k a (slice_get_within offer.offers k a offer.chosen))
offers_derived (broken setting) k a offer = absurd offer

pub one_offer_of : OneListOfOffers → OneOfferOf
one_offer_of one_list (stands setting c standing) k a b x y =
    same_Some a b (sym x.chosen ∙ ap (λ (l : List Action). slice_get l k) (one_list setting c x.offers y.offers x.all y.all) ∙ y.chosen)
one_offer_of one_list (broken setting) k a b x y = absurd x

actions_stopped : {n : ℕ} {t : Trouble} → Actions n ≡ Stopped t → ⊥
actions_stopped h = cc

actions_broken : {n : ℕ} → Actions n ≡ Broken → ⊥
actions_broken h = cc

pub offers_there : MomentsCountOffers → OffersAreThere
offers_there counts (stands setting c whole) n now =
    let x = counts setting c n now in
    (x.offers, simulations.some setting c n x.offers now x.all)
offers_there counts (stands setting c (stopped trouble)) n now = absurd (actions_stopped now)
offers_there counts (broken setting) n now = absurd (actions_broken now)
