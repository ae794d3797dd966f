-- What is known of runs, of names and of writing, by the laws of the crates below.
use Rattle.pz_rules.specs.Laws.{WiresAreKnown, OneMoment, EveryMoment, MomentsCountOffers, TimeIsPositive, EveryPassing, StaysWhole, StartFits, StaysFit, EveryNext, EveryChosenRun, ChosenRunsAreRuns}
use Rattle.pz_rules.specs.devices.Ends.{PassingsEnd}
use Rattle.pz_watch_points.specs.pz_trace.Laws.{OffersAreNamed, FaultsAreNamed, HighsAreNamed, StopsAreNamed}
use Rattle.pz_term_simulator.specs.Laws.{OneMomentOf, OffersAreThere, OffersAreCounted, OffersAreNumbered, OffersAreDerived, OneOfferOf}
use Rattle.pz_term_simulator.specs.devices.Room.{StartsWithRoom, ChoicesTakeRoom, PassingsTakeNoRoom, RoomMeansLow, LessRoomToo}
use Rattle.pz_io.specs.Laws.{NothingIsWritten, PiecesJoin, HaltsBeforeMore, MemoryMayBeWanting}
use Rattle.pz_watch_points.specs.Laws.{NamedHaveProcesses}

pub record Known : Type 0 where
  pub wires : WiresAreKnown
  pub one_moment : OneMoment
  pub some_moment : EveryMoment
  pub counts : MomentsCountOffers
  pub positive : TimeIsPositive
  pub some_passing : EveryPassing
  pub stays_whole : StaysWhole
  pub start_fits : StartFits
  pub stays_fit : StaysFit
  pub some_next : EveryNext
  pub some_run : EveryChosenRun
  pub are_runs : ChosenRunsAreRuns
  pub passings_end : PassingsEnd
  pub one_moment_of : OneMomentOf
  pub offers_there : OffersAreThere
  pub offers_counted : OffersAreCounted
  pub offers_numbered : OffersAreNumbered
  pub offers_derived : OffersAreDerived
  pub one_offer : OneOfferOf
  pub room_at_start : StartsWithRoom
  pub choices_take : ChoicesTakeRoom
  pub passings_take : PassingsTakeNoRoom
  pub room_is_low : RoomMeansLow
  pub less_room : LessRoomToo
  pub offers_named : OffersAreNamed
  pub faults_named : FaultsAreNamed
  pub highs_named : HighsAreNamed
  pub stops_named : StopsAreNamed
  pub nothing : NothingIsWritten
  pub joins : PiecesJoin
  pub halts : HaltsBeforeMore
  pub wants : MemoryMayBeWanting
  pub processes_there : NamedHaveProcesses
