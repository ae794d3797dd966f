-- What is known of runs, of sessions, of names and of writing, by the laws of the crates below.
use Rattle.pz_rules.specs.Laws.{OneListOfOffers, WiresAreKnown, EveryMoment, MomentsCountOffers, EveryPassing, StaysWhole, StartFits, StaysFit, EveryNext, EveryStart}
use Rattle.pz_rules.specs.devices.Walks.{SendsHaveParcels}
use Rattle.pz_term_simulator.specs.Laws.{OneMomentOf, OffersAreThere, OffersAreCounted, OffersAreNumbered, OffersAreDerived, OneOfferOf}
use Rattle.pz_trace.specs.Laws.{OffersAreNamed, FaultsAreNamed, HighsAreNamed, StopsAreNamed}
use Rattle.pz_io.specs.Laws.{NothingIsWritten, PiecesJoin, HaltsBeforeMore, MemoryMayBeWanting}
use Rattle.pz_debug_commands.specs.Laws.{EveryList}
use Rattle.pz_debug_session.specs.Laws.{OnePlace, BeginsAtStart, GoesOnByChoice, GoesOnByPassing, StaysLowByChoice, StaysLowByPassing, FrontsLead}

pub record Known : Type 0 where
  pub wires : WiresAreKnown
  pub some_moment : EveryMoment
  pub counts : MomentsCountOffers
  pub some_passing : EveryPassing
  pub stays_whole : StaysWhole
  pub start_fits : StartFits
  pub stays_fit : StaysFit
  pub some_next : EveryNext
  pub some_start : EveryStart
  pub some_parcel : SendsHaveParcels
  pub one_list : OneListOfOffers
  pub one_moment_of : OneMomentOf
  pub offers_there : OffersAreThere
  pub offers_counted : OffersAreCounted
  pub offers_numbered : OffersAreNumbered
  pub offers_derived : OffersAreDerived
  pub one_offer : OneOfferOf
  pub offers_named : OffersAreNamed
  pub faults_named : FaultsAreNamed
  pub highs_named : HighsAreNamed
  pub stops_named : StopsAreNamed
  pub nothing : NothingIsWritten
  pub joins : PiecesJoin
  pub halts : HaltsBeforeMore
  pub wants : MemoryMayBeWanting
  pub some_commands : EveryList
  pub one_place : OnePlace
  pub begins : BeginsAtStart
  pub chosen : GoesOnByChoice
  pub passed : GoesOnByPassing
  pub low_chosen : StaysLowByChoice
  pub low_passed : StaysLowByPassing
  pub fronts : FrontsLead
