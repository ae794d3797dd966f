-- Laws of simulators.
use Rattle.std.specs.Prelude.{◌≡◌, ℕ, List, length, Some, slice_get}
use Rattle.pz_rules.specs.declared.action.Action.{Action}
use Rattle.pz_rules.specs.declared.moment.Moment.{Moment}
use Rattle.pz_rules.specs.declared.moment.Moment.TheVariants.{Actions}
use Rattle.pz_rules.specs.Offers.{Offers}
use Rattle.pz_term_simulator.specs.Simulations.{Simulation, stands, broken, IsMomentOf, AreOffersOf, IsOffer}

-- a simulator has no more than one moment
abbrev pub OneMomentOf : Type 0
OneMomentOf = (s : Simulation) (m n : Moment) → IsMomentOf s m → IsMomentOf s n → m ≡ n

-- it has as many offers as its moment counts, each by its number

abbrev pub OffersAreCounted : Type 0
OffersAreCounted = (s : Simulation) (n : ℕ) (offers : List Action) → IsMomentOf s (Actions n) → AreOffersOf s offers → n ≡ length offers

abbrev pub OffersAreNumbered : Type 0
OffersAreNumbered = (s : Simulation) (n k : ℕ) (offers : List Action) (a : Action) → IsMomentOf s (Actions n) → AreOffersOf s offers → IsOffer s k a → slice_get offers k ≡ Some a

-- the rules derive the action in the configuration at which it stands
abbrev pub IsDerivedIn : Simulation → Action → Type 0
IsDerivedIn (stands setting c standing) a = Offers setting c a
IsDerivedIn (broken setting) a = ⊥

-- each of its offers is one by the rules
abbrev pub OffersAreDerived : Type 0
OffersAreDerived = (s : Simulation) (k : ℕ) (a : Action) → IsOffer s k a → IsDerivedIn s a

-- and its number tells which
abbrev pub OneOfferOf : Type 0
OneOfferOf = (s : Simulation) (k : ℕ) (a b : Action) → IsOffer s k a → IsOffer s k b → a ≡ b

-- where its moment counts offers, they are there
abbrev pub OffersAreThere : Type 0
OffersAreThere = (s : Simulation) (n : ℕ) → IsMomentOf s (Actions n) → (offers : List Action) × AreOffersOf s offers
